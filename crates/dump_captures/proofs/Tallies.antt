-- The numbers of a tally, changed at a place.
use Rattle.std.proofs.Common.{◌≡◌, ℕ, zero, suc, ◌<◌, List, [], ◌∷◌, length, get_or, slice_set}
use Rattle.std.proofs.Common.{refl, ap, arith}
use Rattle.dump_captures.specs.Kinds.{kind_place, reason_place}
use Rattle.dump_captures.specs.Numbers.{changed_at, more_by, one_more}
use Rattle.dump_captures.specs.Tally.{TallyValue, counted, with_listed, with_refused}
use Rattle.dump_captures.specs.declared.kind.Kind.{Kind}
use Rattle.dump_captures.specs.declared.kind.Reason.{Reason}
use Rattle.dump_captures.specs.declared.tally.Counted.{Counted}
use Rattle.dump_captures.specs.declared.tally.Outcome.TheVariants.{Listed, Refused}
use Rattle.dump_captures.specs.declared.tally.Row.{Row}

-- a list with a changed item is the list with that item set
pub changed_at-set : {A : Type 0} → (xs : List A) (place : ℕ) (change : A → A) (d : A) → place < length xs
    → slice_set xs place (change (get_or xs place d)) ≡ changed_at place change xs
changed_at-set [] place change d within = absurd (omega (arith, within))
changed_at-set (x ∷ xs) zero change d within = refl
changed_at-set (x ∷ xs) (suc place) change d within =
    ap (λ rest. x ∷ rest) (changed_at-set xs place change d (omega (arith, within)))

pub changed_at-length : {A : Type 0} → (place : ℕ) (change : A → A) (xs : List A)
    → length (changed_at place change xs) ≡ length xs
changed_at-length place change [] = refl
changed_at-length zero change (x ∷ xs) = refl
changed_at-length (suc place) change (x ∷ xs) = ap (λ n. suc n) (changed_at-length place change xs)

-- ---- the packets of one kind

pub with_refused-set : (r : Row) (reason : Reason) (octets place count sum : ℕ) → place ≡ reason_place reason
    → place < length r.refused → count ≡ one_more (get_or r.refused place 0) → sum ≡ more_by octets r.octets
    → record r { refused = slice_set r.refused place count; octets = sum } ≡ with_refused reason octets r
with_refused-set r reason octets place count sum is within one more =
    rw (one, more, changed_at-set r.refused place one_more 0 within, is) refl

-- ---- a packet

pub counted-listed : (t : TallyValue) (c : Counted) (kind : Kind) (link octets packets joined place : ℕ) (row d : Row)
    → c.outcome ≡ Listed kind → packets ≡ one_more t.packets → joined ≡ more_by c.joined t.joined
    → place ≡ kind_place kind → place < length t.rows → row ≡ with_listed octets (get_or t.rows place d)
    → record t { packets = packets; joined = joined; rows = slice_set t.rows place row } ≡ counted c link octets t
counted-listed t c kind link octets packets joined place row d is more sum at within changed =
    rw (changed, changed_at-set t.rows place (with_listed octets) d within, at, more, sum, is) refl

pub counted-refused : (t : TallyValue) (c : Counted) (kind : Kind) (reason : Reason)
    (link octets packets joined place : ℕ) (row d : Row) → c.outcome ≡ Refused kind reason
    → packets ≡ one_more t.packets → joined ≡ more_by c.joined t.joined
    → place ≡ kind_place kind → place < length t.rows → row ≡ with_refused reason octets (get_or t.rows place d)
    → record t { packets = packets; joined = joined; rows = slice_set t.rows place row } ≡ counted c link octets t
counted-refused t c kind reason link octets packets joined place row d is more sum at within changed =
    rw (changed, changed_at-set t.rows place (with_refused reason octets) d within, at, more, sum, is) refl
