-- The octets of the parts of a kind, joined.
use Rattle.dhcp_options.proofs.Words.{[], ◌++◌, ◌+◌, ◌∙◌, ◌∷◌, ◌≡◌, ◌≤◌, Area, Bool, Err, List, None, Ok, Option}
use Rattle.dhcp_options.proofs.Words.{OptionValue, Options, PlacedAnswer, Some, answers_in, answers_left, ap, arith}
use Rattle.dhcp_options.proofs.Words.{cond, cut_of, drop, eqb, false, length, length-append, map, octets_among, option_text, over}
use Rattle.dhcp_options.proofs.Words.{placed, refl, refusal_in, take, take_all, take_at, true, ℕ}
use Rattle.std.proofs.lemmas.Grind.{flat_map-append}
use Rattle.wirebase.specs.ByteWriter.{fields}
use Rattle.dhcp_wire.specs.Dhcpv4Options.{ended, goes_on, lone, none, padded, torn}
use Rattle.dhcp_wire.proofs.Dhcpv4Lists.{list-options}
use Rattle.dhcp_options.specs.Joined.{together}
use Rattle.dhcp_options.specs.declared.areas.Areas.{Areas}

-- how many the octets of a kind are
abbrev total : ℕ → List PlacedAnswer → ℕ
total kind answers = length (together (octets_among kind answers))

one_more : (b : Bool) (octets : List ℕ) (more : List (List ℕ))
    → length (together (cond b (octets ∷ more) more)) ≤ length octets + length (together more)
one_more true octets more = omega (arith, length-append octets (together more))
one_more false octets more = omega arith

beside : (b : Bool) (octets : List ℕ) (more others : List (List ℕ))
    → cond b (octets ∷ (more ++ others)) (more ++ others) ≡ cond b (octets ∷ more) more ++ others
beside true octets more others = refl
beside false octets more others = refl

under : (b : Bool) (octets : List ℕ) (x y : List (List ℕ)) → x ≡ y → cond b (octets ∷ x) x ≡ cond b (octets ∷ y) y
under b octets x y e = ap (λ (l : List (List ℕ)). cond b (octets ∷ l) l) e

among-append : (kind : ℕ) (front rest : List PlacedAnswer)
    → octets_among kind (front ++ rest) ≡ octets_among kind front ++ octets_among kind rest
among-append kind [] rest = refl
among-append kind (Ok p ∷ front) rest =
    under (eqb p.option.kind kind) p.option.body _ _ (among-append kind front rest)
    ∙ beside (eqb p.option.kind kind) p.option.body (octets_among kind front) (octets_among kind rest)
among-append kind (Err refusal ∷ front) rest = among-append kind front rest

total-append : (kind : ℕ) (front rest : List PlacedAnswer)
    → total kind (front ++ rest) ≡ total kind front + total kind rest
total-append kind front rest =
    ap (λ (l : List (List ℕ)). length (together l)) (among-append kind front rest)
    ∙ ap length (flat_map-append (λ (octets : List ℕ). octets) (octets_among kind front) (octets_among kind rest))
    ∙ length-append (together (octets_among kind front)) (together (octets_among kind rest))

-- the parts of an area are in its bytes
one_step : (kind : ℕ) (area : Area) (o : OptionValue) (bytes rest : List ℕ) (more : List PlacedAnswer)
    → bytes ≡ option_text o ++ rest → total kind more ≤ length rest
    → total kind (Ok (placed area o) ∷ more) ≤ length bytes
one_step kind area o bytes rest more e fits =
    omega (
      arith,
      fits,
      ap length e,
      length-append o.body rest,
      one_more (eqb o.kind kind) o.body (octets_among kind more),
    )

none-fits : (kind : ℕ) (area : Area) (cut : Option ℕ) → total kind (refusal_in area cut) ≤ 0
none-fits kind area None = omega arith
none-fits kind area (Some cut) = omega arith

options-fit : (kind : ℕ) (area : Area) (cut : Option ℕ) {bytes : List ℕ} {options : List OptionValue}
    → Options bytes options
    → total kind (map (λ o. Ok (placed area o)) options ++ refusal_in area cut) ≤ length bytes
options-fit kind area cut none = omega (arith, none-fits kind area cut)
options-fit kind area cut (ended rest e) = omega (arith, none-fits kind area cut)
options-fit kind area cut (padded rest tail e) = omega (arith, ap length e, options-fit kind area cut tail)
options-fit kind area cut (lone k is e) = omega (arith, none-fits kind area cut)
options-fit kind area cut (torn k n rest is short e) = omega (arith, none-fits kind area cut)
options-fit kind area cut (goes_on {bytes = bytes} {options = os} o rest is tail e) =
    one_step kind area o bytes rest (map (λ o. Ok (placed area o)) os ++ refusal_in area cut) e
    (options-fit kind area cut tail)

area-fits : (kind : ℕ) (area : Area) (bytes : List ℕ) → total kind (answers_in area bytes) ≤ length bytes
unfolding answers_in
area-fits kind area bytes = options-fit kind area (cut_of bytes) (list-options bytes)

pub left-fits : (kind : ℕ) (a : Areas)
    → total kind (answers_left a) ≤ length a.options.now + length a.file.now + length a.sname.now
left-fits kind a =
    let options = answers_in Area.Options a.options.now in
    let file = answers_in Area.File a.file.now in
    let sname = answers_in Area.Sname a.sname.now in
    omega (
      arith,
      total-append kind options (file ++ sname),
      total-append kind file sname,
      area-fits kind Area.Options a.options.now,
      area-fits kind Area.File a.file.now,
      area-fits kind Area.Sname a.sname.now,
    )

-- as a writer writes them
pub fields-together : (parts : List (List ℕ)) → fields parts ≡ together parts
unfolding fields
fields-together [] = refl
fields-together (octets ∷ parts) = ap (λ (l : List ℕ). octets ++ l) (fields-together parts)

-- the front of what they are written over
pub take-over : (old text : List ℕ) → length text ≤ length old → take (length text) (over old text) ≡ text
unfolding over
take-over old text fits =
    let whole : take (length old) text ≡ text = take_all (length old) text fits in
    ap (λ (l : List ℕ). take (length text) (l ++ drop (length text) old)) whole
    ∙ take_at text (drop (length text) old) (length text) refl
