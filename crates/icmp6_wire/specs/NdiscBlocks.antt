-- The options of a message of neighbor discovery: its payload is blocks one after another (RFC 4861 section 4.6), and a
-- field is given by the last option of its kind.
use Rattle.std.specs.Prelude.{◌≡◌, ℕ, ◌*◌, List, [], ◌∷◌, ◌++◌, length, Option, None, Some}
use Rattle.icmp6_wire.specs.Words.{units_in, BeginsWithBlock, OptionValue, source, target, prefix_information}
use Rattle.icmp6_wire.specs.Words.{redirected, mtu}
use Rattle.icmp6_wire.specs.Words.{BeginsWith, Ipv6Repr, PrefixInformation}

-- a block: all the bytes that it counts, and no more
pub record IsBlock (bytes : List ℕ) : Type 0 where
  pub begins : BeginsWithBlock bytes
  pub exact : length bytes ≡ 8 * units_in bytes

-- The bytes are blocks one after another, and these are the options that are read in them: a block in which none is
-- read is skipped.
pub data AreBlocks : List ℕ → List OptionValue → Type 0 where
  ends : AreBlocks [] []
  goes_on : {bytes : List ℕ} {options : List OptionValue} (block rest : List ℕ) (v : OptionValue)
      → IsBlock block → BeginsWith block v → AreBlocks rest options → bytes ≡ block ++ rest
      → AreBlocks bytes (v ∷ options)
  skips : {bytes : List ℕ} {options : List OptionValue} (block rest : List ℕ)
      → IsBlock block → ((v : OptionValue) → BeginsWith block v → ⊥) → AreBlocks rest options → bytes ≡ block ++ rest
      → AreBlocks bytes options

-- what an option gives for each kind
abbrev pub source_in : OptionValue → Option (List ℕ)
source_in (source address) = Some address
source_in _ = None

abbrev pub target_in : OptionValue → Option (List ℕ)
target_in (target address) = Some address
target_in _ = None

abbrev pub mtu_in : OptionValue → Option ℕ
mtu_in (mtu n) = Some n
mtu_in _ = None

abbrev pub prefix_in : OptionValue → Option PrefixInformation
prefix_in (prefix_information p) = Some p
prefix_in _ = None

-- a redirected packet by its header and its payload
abbrev pub redirected_in : OptionValue → Option (Ipv6Repr × List ℕ)
redirected_in (redirected h d) = Some (h, d)
redirected_in _ = None
