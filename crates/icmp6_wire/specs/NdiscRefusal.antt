-- Why bytes are not a message of neighbor discovery: the first check that fails.
use Rattle.std.specs.Prelude.{◌≡◌, ℕ, ◌+◌, ◌*◌, ◌≤◌, ◌⊎◌, List, [], ◌∷◌, ◌++◌, length}
use Rattle.icmp6_wire.specs.Words.{Check, Fails, Passes, check, byte_of, units_in}
use Rattle.opt_wire.specs.NdiscOption as option
use Rattle.icmp6_wire.specs.Icmpv6Packet.{header_len_in, payload_in}
use Rattle.icmp6_wire.specs.Ndisc.{NdiscValue, checks, IsMessage}
use Rattle.icmp6_wire.specs.NdiscBlocks.{IsBlock}
use Rattle.icmp6_wire.specs.declared.ndisc.refusal.Refusal.{Refusal}

-- the bytes are some message
abbrev pub IsRead : List ℕ → Type 0
IsRead bytes = (value : NdiscValue) × IsMessage bytes value

-- whole options one after another, whatever is read in them
pub data AreWhole : List ℕ → Type 0 where
  nothing : AreWhole []
  one_more : {bytes : List ℕ} (block rest : List ℕ) → IsBlock block → AreWhole rest → bytes ≡ block ++ rest
      → AreWhole bytes

-- Whole options stand after the header up to this place, counted from the front of the message, and then these bytes.
pub record AreWholeUpTo (bytes : List ℕ) (place : ℕ) (rest : List ℕ) : Type 0 where
  pub options : List ℕ
  pub whole : AreWhole options
  pub payload : payload_in bytes ≡ options ++ rest
  pub place_is : place ≡ header_len_in bytes + length options

-- The checks of the option at the front of some bytes, which stand at this place, in their order: there are 8 bytes;
-- there are the units of 8 bytes that it counts; it counts some; and a prefix counts 4 or more, a redirected packet 6.
abbrev pub option_checks : ℕ → List ℕ → List (Check Refusal)
option_checks place rest =
    let kind : ℕ = byte_of option.type_field rest in
    let units : ℕ = units_in rest in
    check (8 ≤ length rest) (Refusal.OptionCut kind place)
    ∷ check (8 * units ≤ length rest) (Refusal.OptionCut kind place)
    ∷ check (1 ≤ units) (Refusal.OptionEmpty kind place)
    ∷ check ((kind ≡ 3 → 4 ≤ units) × (kind ≡ 4 → 6 ≤ units)) (Refusal.OptionLength kind units place)
    ∷ []

-- the first option that is not whole, and the first check of it that fails
pub record RefusesOption (bytes : List ℕ) (why : Refusal) : Type 0 where
  pub place : ℕ
  pub rest : List ℕ
  pub before : AreWholeUpTo bytes place rest
  pub some : 1 ≤ length rest
  pub fails : Fails (option_checks place rest) why

-- a check of the header fails, or one of an option after it
abbrev pub Refuses : List ℕ → Refusal → Type 0
Refuses bytes why = Fails (checks bytes) why ⊎ (Passes (checks bytes) × RefusesOption bytes why)
