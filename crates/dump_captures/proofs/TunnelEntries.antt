-- Tunnels as objects have no numbers that would not fit.
use Rattle.std.proofs.Common.{[], ◌∷◌, List, map}
use Rattle.frame_wire.specs.declared.datagram.Addresses.{Addresses}
use Rattle.frame_wire.specs.declared.datagram.Addresses.TheVariants.{V4, V6}
use Rattle.packet_fields.specs.Fields.{EntriesFit, Fits}
use Rattle.dump_captures.specs.Heading.{destination_leaf, source_leaf, tunnel_entry}
use Rattle.dump_captures.specs.declared.path.Passage.{Passage}

source_fits : (addresses : Addresses) → Fits (source_leaf addresses)
source_fits (V4 source destination) = tt
source_fits (V6 source destination) = tt

destination_fits : (addresses : Addresses) → Fits (destination_leaf addresses)
destination_fits (V4 source destination) = tt
destination_fits (V6 source destination) = tt

pub all_fit : (tunnels : List Passage) → EntriesFit (map tunnel_entry tunnels)
all_fit [] = tt
all_fit (p ∷ tunnels) = (source_fits p.addresses, (destination_fits p.addresses, tt), all_fit tunnels)
