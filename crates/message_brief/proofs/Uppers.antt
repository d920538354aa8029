-- What the headers that extend IPv6 lead to is one value: that which is computed.
use Rattle.std.proofs.Common.{◌≡◌, ◌≤◌, ◌<◌, ◌∙◌, List, Option, arith, drop, false, inl, inr, length}
use Rattle.std.proofs.Common.{refl, suc, sym, true, zero, ℕ}
use Rattle.std.proofs.lemmas.Bool.{and_from, and_left, and_parts, and_right, eq-eqb, false_from_ne_true, le-leb}
use Rattle.std.proofs.lemmas.Bool.{leb-true, lt-leb, ne_eqb}
use Rattle.std.proofs.lemmas.List.{length-drop}
use Rattle.std.specs.Prelude.{slice_index}
use Rattle.wirebase.specs.Ip.{protocol_of}
use Rattle.wirebase.specs.declared.ip.IpProtocol.{IpProtocol}
use Rattle.frame_wire.specs.DatagramHeaders.{HasExtension, IsExtension, extension_end}
use Rattle.quote_wire.specs.Upper.{EndsAt, EndsIn, IsPassed, LeadsTo, UpperValue, cut, cut_fragment, extension}
use Rattle.quote_wire.specs.Upper.{fragment, here, later_fragment, none, past}
use Rattle.message_brief.specs.Upper.{end_in, has_extension, is_passed, leads_on, upper_in, upper_within}

not_passed : (p : IpProtocol) → (IsPassed p → ⊥) → is_passed p ≡ false
not_passed IpProtocol.HopByHop other = absurd (other (inl (inl refl)))
not_passed IpProtocol.Ipv6Route other = absurd (other (inl (inr (inl refl))))
not_passed IpProtocol.Ipv6Opts other = absurd (other (inl (inr (inr refl))))
not_passed IpProtocol.Ipv6Frag other = absurd (other (inr refl))
not_passed _ other = refl

-- a header of these is passed by its length
record IsExtended (p : IpProtocol) (bytes : List ℕ) : Type 0 where
  passed : is_passed p ≡ true
  leads : leads_on p bytes ≡ has_extension bytes
  ends : end_in p bytes ≡ extension_end bytes

extended : (p : IpProtocol) (bytes : List ℕ) → IsExtension p → IsExtended p bytes
extended p bytes (inl is) = rw is (record { passed = refl; leads = refl; ends = refl })
extended p bytes (inr (inl is)) = rw is (record { passed = refl; leads = refl; ends = refl })
extended p bytes (inr (inr is)) = rw is (record { passed = refl; leads = refl; ends = refl })

-- whether it is there
not_there : (bytes : List ℕ) → (HasExtension bytes → ⊥) → has_extension bytes ≡ false
not_there bytes lacks = false_from_ne_true _ (λ is.
    let both = and_parts _ _ is in
    lacks (record { least = leb-true _ _ both.0; whole = leb-true _ _ both.1 }))

there : (bytes : List ℕ) → HasExtension bytes → has_extension bytes ≡ true
there bytes has = and_from _ _ (le-leb _ _ has.least) (le-leb _ _ has.whole)

-- a header that leads no further, and one that leads on and has octets
record Stops (p : IpProtocol) (bytes : List ℕ) : Type 0 where
  passed : is_passed p ≡ true
  leads : leads_on p bytes ≡ false

record Leads (p : IpProtocol) (bytes : List ℕ) (end : ℕ) : Type 0 where
  passed : is_passed p ≡ true
  leads : leads_on p bytes ≡ true
  ends : end ≡ end_in p bytes
  some : 1 ≤ end
  within : end ≤ length bytes

stops : (p : IpProtocol) (bytes : List ℕ) → EndsIn p bytes → Stops p bytes
stops p bytes (cut is lacks) =
    let e = extended p bytes is in record { passed = e.passed; leads = e.leads ∙ not_there bytes lacks }
stops p bytes (cut_fragment is short) = rw is (record { passed = refl; leads = and_left _ _ (lt-leb _ _ short) })
stops p bytes (later_fragment is long other) = rw is (record {
  passed = refl;
  leads = and_right _ _ (ne_eqb _ _ other);
})

leads : (p : IpProtocol) (bytes : List ℕ) (end : ℕ) → EndsAt p bytes end → Leads p bytes end
leads p bytes end (extension is has end_is) =
    let e = extended p bytes is in
    let whole = has.whole in
    record {
      passed = e.passed;
      leads = e.leads ∙ there bytes has;
      ends = end_is ∙ sym e.ends;
      some = omega (arith, end_is);
      within = omega (arith, end_is, whole);
    }
leads p bytes end (fragment is long first end_is) = rw is (record {
  passed = refl;
  leads = and_from _ _ (le-leb _ _ long) (eq-eqb _ _ first);
  ends = end_is;
  some = omega (arith, end_is);
  within = omega (arith, end_is, long);
})

within : (count : ℕ) (p : IpProtocol) (bytes : List ℕ) (u : Option UpperValue) → LeadsTo p bytes u
    → length bytes < count → u ≡ upper_within count p bytes
within zero p bytes u leads_to less = absurd (omega (arith, less))
within (suc count) p bytes u (here other u_is) less = rw (not_passed p other) u_is
within (suc count) p bytes u (none ends u_is) less =
    let s = stops p bytes ends in rw (s.passed, s.leads) u_is
within (suc count) p bytes u (past end ends leads_to) less =
    let l = leads p bytes end ends in
    let some = l.some in
    let room = l.within in
    let behind = within count (protocol_of (slice_index bytes 0)) (drop end bytes) u leads_to
    (omega (arith, less, some, room, length-drop end bytes)) in
    rw (l.passed, l.leads, sym l.ends) behind

pub upper_is : (p : IpProtocol) (bytes : List ℕ) (u : Option UpperValue) → LeadsTo p bytes u → u ≡ upper_in p bytes
upper_is p bytes u leads_to = within (suc (length bytes)) p bytes u leads_to (omega arith)
