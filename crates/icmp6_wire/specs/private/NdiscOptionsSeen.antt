-- A pass over the options of a message keeps the last option of each kind.
use Rattle.std.specs.Prelude.{◌≡◌, ℕ, List, Option, None}
use Rattle.std.specs.Option.{option_map, option_or}
use Rattle.icmp6_wire.specs.Words.{keep_all, OptionValue, BeginsWith, Ipv6Repr, PrefixInformation, OptionsSeen}
use Rattle.icmp6_wire.specs.NdiscBlocks.{AreBlocks, source_in, target_in, mtu_in, prefix_in, redirected_in}
use Rattle.icmp6_wire.specs.NdiscOptionsSeen.{packet_of, link_of}

pub record Kept : Type 0 where
  pub source : Option (List ℕ)
  pub target : Option (List ℕ)
  pub mtu : Option ℕ
  pub prefix_info : Option PrefixInformation
  pub redirected_hdr : Option (Ipv6Repr × List ℕ)

abbrev pub kept_of : OptionsSeen → Kept
kept_of found = record {
  source = link_of found.source;
  target = link_of found.target;
  mtu = found.mtu;
  prefix_info = found.prefix_info;
  redirected_hdr = option_map packet_of found.redirected_hdr;
}

abbrev pub nothing : Kept
nothing = record { source = None; target = None; mtu = None; prefix_info = None; redirected_hdr = None }

-- one more option
abbrev pub keep : Kept → OptionValue → Kept
keep k o = record {
  source = option_or (source_in o) k.source;
  target = option_or (target_in o) k.target;
  mtu = option_or (mtu_in o) k.mtu;
  prefix_info = option_or (prefix_in o) k.prefix_info;
  redirected_hdr = option_or (redirected_in o) k.redirected_hdr;
}

-- the bytes are blocks, of whose options this is kept
pub record Says (bytes : List ℕ) (k : Kept) : Type 0 where
  pub options : List OptionValue
  pub tiling : AreBlocks bytes options
  pub kept : keep_all keep nothing options ≡ k

-- the bytes are blocks
pub record HasBlocks (bytes : List ℕ) : Type 0 where
  pub options : List OptionValue
  pub tiling : AreBlocks bytes options

-- one more block: its option is kept, or none is read in it
pub data Notes (block : List ℕ) (old new : Kept) : Type 0 where
  noted : (v : OptionValue) → BeginsWith block v → new ≡ keep old v → Notes block old new
  passed : ((v : OptionValue) → BeginsWith block v → ⊥) → new ≡ old → Notes block old new
