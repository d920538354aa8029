-- The data of an option by the format that its kind has.
use Rattle.std.specs.Prelude.{◌≡◌, ℕ, ◌%◌, ◌==◌, if◌then◌else◌, List, [], ◌∷◌, length, slice_index, Option, None, Some}
use Rattle.byteorder.specs.Endian.{big_number}
use Rattle.dhcp_wire.specs.Words.{Ipv4Address, MessageType}
use Rattle.dhcp_wire.specs.Dhcpv4Tables.{message_of}
use Rattle.dhcp_wire.specs.declared.dhcpv4.table.Format.{Format}
use Rattle.dhcp_wire.specs.declared.dhcpv4.value.OptionValue.{OptionValue}

-- by content
pub data Content : Type 0 where
  address : Ipv4Address → Content
  addresses : List ℕ → Content
  seconds : ℕ → Content
  number : ℕ → Content
  byte : ℕ → Content
  message : MessageType → Content
  text : List ℕ → Content
  kinds : List ℕ → Content
  octets : List ℕ → Content

abbrev pub content_of : OptionValue → Content
content_of (OptionValue.Address a) = address a
content_of (OptionValue.Addresses bytes) = addresses bytes.now
content_of (OptionValue.Seconds n) = seconds n
content_of (OptionValue.Number n) = number n
content_of (OptionValue.Byte n) = byte n
content_of (OptionValue.MessageType m) = message m
content_of (OptionValue.Text bytes) = text bytes.now
content_of (OptionValue.Kinds bytes) = kinds bytes.now
content_of (OptionValue.Octets bytes) = octets bytes.now

-- the address of four bytes, the highest first
abbrev pub address_of : ℕ → ℕ → ℕ → ℕ → Ipv4Address
address_of a b c d = record { a = a; b = b; c = c; d = d }

abbrev pub first_address : List ℕ → Ipv4Address
first_address d = address_of (slice_index d 0) (slice_index d 1) (slice_index d 2) (slice_index d 3)

-- a content of data of a given number of bytes; other data are octets
abbrev pub sized : ℕ → List ℕ → Content → Content
sized n d content = if length d == n then content else octets d

-- what data of a format are; numbers have the highest byte first
abbrev pub content_in : Format → List ℕ → Content
content_in Format.Address d = sized 4 d (address (first_address d))
content_in Format.Addresses d = if length d % 4 == 0 then addresses d else octets d
content_in Format.Seconds d = sized 4 d (seconds (big_number 4 d))
content_in Format.Number d = sized 2 d (number (big_number 2 d))
content_in Format.Byte d = sized 1 d (byte (slice_index d 0))
content_in Format.MessageType d = sized 1 d (message (message_of (slice_index d 0)))
content_in Format.Text d = text d
content_in Format.Kinds d = kinds d
content_in Format.Octets d = octets d

-- the addresses in these bytes; a rest of fewer than four bytes is ignored
unfoldable pub addresses_in : List ℕ → List Ipv4Address
addresses_in [] = []
addresses_in (a ∷ []) = []
addresses_in (a ∷ b ∷ []) = []
addresses_in (a ∷ b ∷ c ∷ []) = []
addresses_in (a ∷ b ∷ c ∷ d ∷ rest) = address_of a b c d ∷ addresses_in rest

-- a call of `next` gives the first address and takes it off; where none is left it gives None, and none is left
-- afterwards
abbrev pub GivesFirst : List Ipv4Address → Option Ipv4Address → List Ipv4Address → Type 0
GivesFirst old None new = (old ≡ []) × (new ≡ [])
GivesFirst old (Some a) new = old ≡ a ∷ new
