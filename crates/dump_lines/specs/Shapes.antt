-- The shape of a line as the program holds it.
use Rattle.dump_lines.specs.Listing as listing
use Rattle.dump_lines.specs.declared.shape.Shape.{Shape}
use Rattle.dump_lines.specs.declared.shape.Shape.TheVariants.{Blank, Packet, Bad}

abbrev pub seen : Shape → listing.Shape
seen Blank = listing.blank
seen (Packet command octets) = listing.packet command octets.now
seen Bad = listing.bad
