-- The printed texts of options.
use Rattle.std.specs.Prelude.{ℕ, ◌==◌, ◌||◌, ◌&&◌, nat_le, if◌then◌else◌, List, [], ◌∷◌, ◌++◌, flat_map, Option, None}
use Rattle.std.specs.Prelude.{Some, codes, decimal}
use Rattle.dhcp_wire.specs.Words.{address_text, encode_lower, hex_colons, pieces}
use Rattle.dhcp_wire.specs.Dhcpv4Display.{commas, message_display}
use Rattle.dhcp_wire.specs.Dhcpv4Options.{OptionValue}
use Rattle.dhcp_wire.specs.Dhcpv4OptionTable.{name_of, format_of}
use Rattle.dhcp_wire.specs.Dhcpv4OptionValue.{Content, address, addresses, seconds, number, byte, message, text, kinds}
use Rattle.dhcp_wire.specs.Dhcpv4OptionValue.{octets, content_in, addresses_in}

-- A byte of a text: quotation marks and backslashes are printed after a backslash, other visible characters of ASCII
-- and spaces as they are, and every other byte as a backslash, an x and two hexadecimal digits.
abbrev pub character : ℕ → List ℕ
character n =
    if (n == 34) || (n == 92) then 92 ∷ n ∷ []
    else if nat_le 32 n && nat_le n 126 then n ∷ []
    else codes "\\x" ++ encode_lower (n ∷ [])

abbrev pub quoted : List ℕ → List ℕ
quoted bytes = pieces (codes "\"" ∷ flat_map character bytes ∷ codes "\"" ∷ [])

-- the printed text of data: addresses, numbers and kinds in decimal, texts in quotation marks, and other data as two
-- hexadecimal digits a byte, with colons between them
abbrev pub content_display : Content → List ℕ
content_display (address a) = address_text a
content_display (addresses bytes) = commas address_text (addresses_in bytes)
content_display (seconds n) = decimal n
content_display (number n) = decimal n
content_display (byte n) = decimal n
content_display (message m) = message_display m
content_display (text bytes) = quoted bytes
content_display (kinds bytes) = commas decimal bytes
content_display (octets bytes) = hex_colons bytes

-- a kind by its name, or by its number where it has none
abbrev pub kind_or : Option (List ℕ) → ℕ → List ℕ
kind_or None kind = pieces (codes "option-" ∷ decimal kind ∷ [])
kind_or (Some name) kind = name

abbrev pub option_display : OptionValue → List ℕ
option_display o =
    pieces (kind_or (name_of o.kind) o.kind ∷ codes "="
    ∷ content_display (content_in (format_of o.kind) o.body) ∷ [])
