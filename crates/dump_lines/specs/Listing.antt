-- What the program prints. This is its manual, with the listing of each value in a file of its own.
use Rattle.std.specs.Prelude.{◌≡◌, ℕ, ◌==◌, ◌&&◌, nat_le, Bool, true, false, if◌then◌else◌, List, [], ◌∷◌, ◌++◌, map}
use Rattle.std.specs.Prelude.{bytes_eq, length, Option, None, Some, codes}
use Rattle.std.specs.Option.{option_map}
use Rattle.std.specs.Io.BufRead.{strip_last}
use Rattle.listing.specs.Layout.{line}
use Rattle.dump_lines.specs.Lines.{are_short, before_first, words_in}
use Rattle.listing.specs.ListingDhcp.{DhcpPrints}
use Rattle.listing.specs.ListingDns.{NamePrints, QuestionPrints}
use Rattle.listing.specs.ListingHbh.{HbhPrints}
use Rattle.listing.specs.ListingIcmp4.{Icmp4Prints}
use Rattle.listing.specs.ListingIcmp6.{Icmp6Prints}
use Rattle.listing.specs.ListingIgmp.{IgmpPrints}
use Rattle.listing.specs.ListingMld.{MldPrints}
use Rattle.listing.specs.ListingNdopt.{NdoptPrints}
use Rattle.dump_lines.specs.Words.{address_of, offset_of, word_of}
use Rattle.dump_lines.specs.declared.command.Command.{Command}
use Rattle.dump_lines.specs.declared.command.Command.TheVariants.{Hbh, Icmp4, Igmp, Icmp6, Mld, Ndopt, Dhcp, Question}
use Rattle.dump_lines.specs.declared.command.Command.TheVariants.{Name}

-- ---- what a packet prints, by the command before it

abbrev pub PacketPrints : Command → List ℕ → List ℕ → Type 0
PacketPrints Hbh octets = HbhPrints octets
PacketPrints Icmp4 octets = Icmp4Prints octets
PacketPrints Igmp octets = IgmpPrints octets
PacketPrints (Icmp6 source destination) octets = Icmp6Prints source destination octets
PacketPrints Mld octets = MldPrints octets
PacketPrints Ndopt octets = NdoptPrints octets
PacketPrints Dhcp octets = DhcpPrints octets
PacketPrints Question octets = QuestionPrints octets
PacketPrints (Name offset) octets = NamePrints offset octets

-- ---- what a line prints

-- the commands of a word alone
abbrev pub command_alone : List ℕ → Option Command
command_alone word =
    if bytes_eq word (codes "hbh") then Some Hbh
    else if bytes_eq word (codes "icmp4") then Some Icmp4
    else if bytes_eq word (codes "igmp") then Some Igmp
    else if bytes_eq word (codes "mld") then Some Mld
    else if bytes_eq word (codes "ndopt") then Some Ndopt
    else if bytes_eq word (codes "dhcp") then Some Dhcp
    else if bytes_eq word (codes "question") then Some Question
    else None

-- those of a word and an offset
abbrev pub command_at : List ℕ → Option ℕ → Option Command
command_at word offset = if bytes_eq word (codes "name") then option_map Name offset else None

-- those of a word and two addresses
abbrev pub icmp6_between : Option (List ℕ) → Option (List ℕ) → Option Command
icmp6_between (Some source) (Some destination) = Some (Icmp6 source destination)
icmp6_between _ _ = None

abbrev pub command_between : List ℕ → Option (List ℕ) → Option (List ℕ) → Option Command
command_between word source destination =
    if bytes_eq word (codes "icmp6") then icmp6_between source destination else None

-- the commands, by their word and the words between it and the packet
abbrev pub command_of : List ℕ → List (List ℕ) → Option Command
command_of word [] = command_alone word
command_of word (offset ∷ []) = command_at word (offset_of offset)
command_of word (source ∷ destination ∷ []) = command_between word (address_of source) (address_of destination)
command_of word (a ∷ b ∷ c ∷ rest) = None

-- a command reads any octets, but that of a name asks that its offset is not past their end
abbrev pub reads : Command → List ℕ → Bool
reads (Name offset) octets = nat_le offset (length octets)
reads _ octets = true

-- the shape of a line: none of its own, a command and octets, or no known one
pub data Shape : Type 0 where
  blank : Shape
  packet : Command → List ℕ → Shape
  bad : Shape

abbrev pub shape_with : Option Command → Option (List ℕ) → Shape
shape_with (Some command) (Some octets) = if reads command octets then packet command octets else bad
shape_with _ _ = bad

-- by its words: a command, none to two words for that, and a packet
abbrev pub shape_of_words : List (List ℕ) → Shape
shape_of_words [] = blank
shape_of_words (word ∷ digits ∷ []) = shape_with (command_of word []) (word_of digits)
shape_of_words (word ∷ a ∷ digits ∷ []) = shape_with (command_of word (a ∷ [])) (word_of digits)
shape_of_words (word ∷ a ∷ b ∷ digits ∷ []) = shape_with (command_of word (a ∷ b ∷ [])) (word_of digits)
shape_of_words _ = bad

-- a line with a word of more than 131,070 octets is bad
abbrev pub shape_of : List (List ℕ) → Shape
shape_of words = if are_short words then shape_of_words words else bad

-- whether a shape is known, and what a line of it prints
abbrev pub is_known : Shape → Bool
is_known bad = false
is_known _ = true

abbrev pub LinePrints : Shape → List ℕ → Type 0
LinePrints blank text = text ≡ []
LinePrints (packet command octets) text = PacketPrints command octets text
LinePrints bad text = text ≡ line (codes "bad line")

-- ---- what an input prints

-- the lines of an input, each without the LF at its end
abbrev pub lines_of : List ℕ → List (List ℕ)
lines_of [] = []
lines_of (octet ∷ rest) = if octet == 10 then [] ∷ lines_of rest else before_first octet (lines_of rest)

-- their shapes: a CR at the end of a line is no part of it, and a line may have any length and any number of spaces
abbrev pub line_shape : List ℕ → Shape
line_shape line = shape_of (words_in (strip_last 13 line))

abbrev pub shapes_of : List ℕ → List Shape
shapes_of input = map line_shape (lines_of input)

abbrev pub are_known : List Shape → Bool
are_known [] = true
are_known (shape ∷ rest) = is_known shape && are_known rest

-- what lines of these shapes print, one after another
abbrev pub LinesPrint : List Shape → List ℕ → Type 0
LinesPrint [] text = text ≡ []
LinesPrint (shape ∷ rest) text =
    (first : List ℕ) × (more : List ℕ) × LinePrints shape first × LinesPrint rest more × (text ≡ first ++ more)
