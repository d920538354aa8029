-- The format of DHCP packets: their bytes have one value, which is canonical, and what was written is read back.
use Rattle.dhcp_wire.proofs.Words.{[], ◌++◌, ◌↔◌, ◌∙◌, ◌∷◌, ◌≡◌, ◌≢◌, ◌≤◌, AllShort, Emits, Err, Error, IsCanonical}
use Rattle.dhcp_wire.proofs.Words.{IsFormat, IsOk, IsPacket, List, Ok, OnOk, OptionValue, Result, Value, ℕ, ap}
use Rattle.dhcp_wire.proofs.Words.{append_assoc, arith, drop, format, header_text, is_ok, length, length-append, norm}
use Rattle.dhcp_wire.proofs.Words.{of_slots, option_text, options_of, options_text, over, over-exact, over-fits, refl}
use Rattle.dhcp_wire.proofs.Words.{round_trips, same_text, slots_of, subst, sym, text, true}
use Rattle.std.proofs.lemmas.Result.{on_ok_weaker}
use Rattle.wirebase.specs.Format.{SameText}
use Rattle.dhcp_wire.specs.Dhcpv4Format.{CanEmit}
use Rattle.dhcp_wire.proofs.Dhcpv4Canonical.{canonical-read}
use Rattle.dhcp_wire.proofs.Dhcpv4Packet.{Emitted}
use Rattle.dhcp_wire.proofs.Dhcpv4Lengths.{text_len-options, text_len-whole}
use Rattle.dhcp_wire.proofs.Dhcpv4Kept.{packet-unique, no-additional}
use Rattle.dhcp_wire.proofs.Dhcpv4Reading.{packet-read}

-- ---- the normal form

none-left : (os : List OptionValue) → (os ≢ [] → ⊥) → os ≡ []
none-left [] h = refl
none-left (o ∷ os) h = absurd (h (λ e. cc))

norm-same : (v : Value) → v.additional_options ≡ [] → norm v ≡ v
norm-same v e = ap (λ (os : List OptionValue). record v { additional_options = os }) (sym e)

short-front : (xs ys : List OptionValue) → AllShort (xs ++ ys) → AllShort (xs ++ [])
short-front [] ys h = tt
short-front (o ∷ xs) ys h = (h.0, short-front xs ys h.1)

text-front : (xs ys : List OptionValue) → length (options_text (xs ++ [])) ≤ length (options_text (xs ++ ys))
unfolding options_text
text-front [] ys = omega arith
text-front (o ∷ xs) ys =
    let fewer = text-front xs ys in
    omega (
      arith,
      fewer,
      length-append (option_text o) (options_text (xs ++ [])),
      length-append (option_text o) (options_text (xs ++ ys)),
    )

norm-canonical : (v : Value) → IsCanonical v → IsCanonical (norm v)
norm-canonical v c =
    let whole : length (text v) ≤ 65535 = subst (λ (n : ℕ). n ≤ 65535) (sym (text_len-whole v)) c.whole in
    let fewer = text-front (of_slots (slots_of v)) v.additional_options in
    let less : length (text (norm v)) ≤ 65535 =
    omega (arith, whole, fewer, text_len-options v, text_len-options (norm v)) in
    record {
      whole = subst (λ (n : ℕ). n ≤ 65535) (text_len-whole (norm v)) less;
      short = short-front (of_slots (slots_of v)) v.additional_options c.short;
      additional = tt;
      message_type = c.message_type;
      transaction_id = c.transaction_id;
      secs = c.secs;
      dns_servers = c.dns_servers;
      max_size = c.max_size;
      lease_duration = c.lease_duration;
      renew_duration = c.renew_duration;
      rebind_duration = c.rebind_duration;
    }

-- ---- all of it

pub dhcp_format : IsFormat format
dhcp_format = record {
  one_value = packet-unique;
  reads_back = λ v fills c. packet-read v [] c;
  norm_canonical = norm-canonical;
  norm_norm = λ v. refl;
  norm_text = λ v c regular. ap text (norm-same v (none-left v.additional_options regular));
  accepted = λ bytes v are small p. canonical-read bytes v are p;
  regular = λ bytes v p exception. exception (no-additional bytes v p);
  kept = λ bytes v are c p whole. norm-same v (no-additional bytes v p);
}

pub dhcp_same_text : (a b : Value) → SameText format a b
dhcp_same_text a b = same_text format dhcp_format tt a b

-- ---- the result of writing a value

read-on : (v : Value) (old new : List ℕ) → length (text v) ≤ length old → IsCanonical v → new ≡ over old (text v)
    → IsPacket new (norm v)
read-on v old new room c is =
    let os : List ℕ = options_text (options_of v) in
    let rest : List ℕ = drop (length (text v)) old in
    let apart : text v ++ rest ≡ header_text v ++ (os ++ 255 ∷ rest) =
    append_assoc (header_text v) (os ++ 255 ∷ []) rest
    ∙ ap (λ (l : List ℕ). header_text v ++ l) (append_assoc os (255 ∷ []) rest) in
    subst (λ (l : List ℕ). IsPacket l (norm v)) (sym (is ∙ over-fits old (text v) room ∙ apart)) (packet-read v rest c)

on_ok-read : (v : Value) (old new : List ℕ) (result : Result (Unit {0}) Error)
    → OnOk result (length (text v) ≤ length old) → IsCanonical v → OnOk result (new ≡ over old (text v))
    → OnOk result (IsPacket new (norm v))
on_ok-read v old new (Ok x) room c is = read-on v old new room c is
on_ok-read v old new (Err e) room c is = tt

on_ok-room : (P Q : Type 0) (result : Result (Unit {0}) Error) → (is_ok result ≡ true → P × Q) → OnOk result Q
on_ok-room P Q (Ok x) h = (h refl).1
on_ok-room P Q (Err e) h = tt

counted : (v : Value) (room : ℕ) (result : Result (Unit {0}) Error)
    → (IsOk result ↔ (AllShort (options_of v) × (length (text v) ≤ room))) → IsOk result ↔ CanEmit room v
counted v room result h =
    subst (λ (n : ℕ). IsOk result ↔ (AllShort (options_of v) × (n ≤ room))) (text_len-whole v) h

pub emits : (v : Value) (old new : List ℕ) (result : Result (Unit {0}) Error)
    → Emitted (header_text v) (options_text (options_of v) ++ 255 ∷ []) 240 (options_of v) old result new
    → Emits v old result new
emits v old new result all =
    let enough = on_ok-room (AllShort (options_of v)) (length (text v) ≤ length old) result all.accepts.0 in
    record {
      accepts = counted v (length old) result all.accepts;
      written = all.ok;
      exact = λ whole.
          on_ok_weaker result (λ same. same ∙ over-exact old (text v) (whole ∙ sym (text_len-whole v))) all.ok;
      refused = all.refused;
      reads_back = λ c. on_ok-read v old new result enough c all.ok;
      round_trips = round_trips format dhcp_format v;
    }
