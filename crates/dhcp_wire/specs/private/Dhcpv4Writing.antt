-- The result of writing a value, option by option: the bytes that are settled, the bytes that are free, and whether
-- nothing was refused.
use Rattle.std.specs.Prelude.{ℕ, ◌+◌, Bool, true, false, List, [], ◌∷◌, ◌++◌, length, drop, Option, None, Some, Result}
use Rattle.std.specs.Prelude.{is_ok, ◌≡◌, ◌≤◌, ◌↔◌, IsOk, OnOk, OnErr}
use Rattle.dhcp_wire.specs.Words.{Error, over}
use Rattle.dhcp_wire.specs.declared.dhcpv4.options.DhcpOptionWriter.{DhcpOptionWriter}
use Rattle.dhcp_wire.specs.Dhcpv4.{Slot, options_text}
use Rattle.dhcp_wire.specs.Dhcpv4Format.{fits, texts_before, AllShort}
use Rattle.dhcp_wire.specs.Dhcpv4Options.{OptionValue, option, option_text}
use Rattle.dhcp_wire.specs.Dhcpv4Writer.{settled, free}

-- What writing options and the end mark over `old` leaves.
pub record WritesOptions (os : List OptionValue) (old : List ℕ) (result : Result (Unit {0}) Error)
    (new : List ℕ) : Type 0
  where
    pub accepts : IsOk result ↔ (AllShort os × (length (options_text os ++ 255 ∷ []) ≤ length old))
    pub ok : OnOk result (new ≡ over old (options_text os ++ 255 ∷ []))
    pub refused : OnErr result (new ≡ over old (texts_before (length old) os))

-- ---- the result of writing, option by option

-- the bytes that are settled, the bytes that are free, and whether nothing was refused so far
pub record Progress : Type 0 where
  pub settled : List ℕ
  pub free : List ℕ
  pub going : Bool

abbrev pub at : List ℕ → List ℕ → Bool → Progress
at s f going = record { settled = s; free = f; going = going }

unfoldable pub progress : DhcpOptionWriter → Result (Unit {0}) Error → Progress
progress w result = at (settled w) (free w) (is_ok result)

-- one more option, where none was refused
abbrev pub fitted : Bool → Progress → OptionValue → Progress
fitted true p o = at (p.settled ++ option_text o) (drop (2 + length o.body) p.free) true
fitted false p o = at p.settled p.free false

abbrev pub going_on : Bool → Progress → OptionValue → Progress
going_on true p o = fitted (fits (length p.free) o) p o
going_on false p o = p

unfoldable pub step : Progress → OptionValue → Progress
step p o = going_on p.going p o

abbrev pub slot_step : Progress → ℕ → Option (List ℕ) → Progress
slot_step p kind None = p
slot_step p kind (Some body) = step p (option kind body)

unfoldable pub step_slot : Progress → Slot → Progress
step_slot p s = slot_step p s.kind s.body

abbrev pub steps : Progress → List Slot → Progress
steps p [] = p
steps p (s ∷ rest) = steps (step_slot p s) rest

unfoldable pub step_all : Progress → List OptionValue → Progress
step_all p [] = p
step_all p (o ∷ os) = step_all (step p o) os
