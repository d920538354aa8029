-- Records and blocks by their heads, and what is read of them.
use Rattle.std.specs.Prelude.{◌≡◌, ℕ, ◌<◌, ◌≤◌, List, [], length, take, drop, Option, Some}
use Rattle.capture.specs.Pcapng.{IsHead, HeadEnds, IsRead}
use Rattle.capture.specs.Types.{Ending, Order, Taken}
use Rattle.capture.specs.Unit.{Form}

-- what ends a capture that goes on with these bytes, and so with no record or block whose head has this many
pub data UnitEnds {H : Type 0} (n : ℕ) (form : Form H) (order : Order) (all : List ℕ) (ending : Ending) : Type 0 where
  none : all ≡ [] → ending ≡ Ending.Whole → UnitEnds n form order all ending
  no_head : form.HeadEnds order (take n all) ending → UnitEnds n form order all ending
  cut : (h : H) → form.IsHead order (take n all) h → length all < form.unit_len h → ending ≡ Ending.Cut
      → UnitEnds n form order all ending

-- a record or block was read into `octets`, or passed over
abbrev pub UnitReads : {H : Type 0} → ℕ → Form H → Order → List ℕ → Taken H → List ℕ → Option (List ℕ) → Type 0
UnitReads n form order all (Taken.Passed h) octets left =
    form.IsHead order (take n all) h × (form.IsRead h → ⊥) × (form.unit_len h ≤ length all)
    × (left ≡ Some (drop (form.unit_len h) all))
UnitReads n form order all (Taken.Read h) octets left =
    form.IsHead order (take n all) h × form.IsRead h × (form.unit_len h ≤ length all)
    × (octets ≡ take (form.unit_len h) all) × (left ≡ Some (drop (form.unit_len h) all))
UnitReads n form order all (Taken.Ended ending) octets left = UnitEnds n form order all ending

-- of a record or block that was read
abbrev pub IfRead : {H : Type 0} → Taken H → (H → Type 0) → Type 0
IfRead (Taken.Passed h) P = Unit {0}
IfRead (Taken.Read h) P = P h
IfRead (Taken.Ended ending) P = Unit {0}
