-- The layout of a DHCP packet (RFC 2131 section 2).
--
--  0                   1                   2                   3
--  0 1 2 3 4 5 6 7 8 9 0 1 2 3 4 5 6 7 8 9 0 1 2 3 4 5 6 7 8 9 0 1
-- +---------------+---------------+---------------+---------------+
-- |      op       |     htype     |     hlen      |     hops      |
-- +---------------+---------------+---------------+---------------+
-- |                              xid                              |
-- +-------------------------------+-------------------------------+
-- |             secs              |             flags             |
-- +-------------------------------+-------------------------------+
-- |                            ciaddr                             |
-- +---------------------------------------------------------------+
-- |                            yiaddr                             |
-- +---------------------------------------------------------------+
-- |                            siaddr                             |
-- +---------------------------------------------------------------+
-- |                            giaddr                             |
-- +---------------------------------------------------------------+
-- |   chaddr, of which the 6 octets of Ethernet are read here     |
-- |                               +- - - - - - - - - - - - - - - -+
-- |                               |  sname, up to byte 108 (*)    |
-- +- - - - - - - - - - - - - - - -+- - - - - - - - - - - - - - - -+
-- |  file, up to byte 236                                         |
-- +---------------------------------------------------------------+
-- |                      magic cookie, 63 82 53 63                |
-- +---------------------------------------------------------------+
-- |  options
-- +- - - - -
--
-- (*) In the RFC chaddr has 16 bytes and sname begins at byte 44; here sname begins after the 6 octets.
use Rattle.std.specs.Prelude.{◌≡◌, ◌≢◌, ℕ, List, [], ◌∷◌, ◌++◌, drop}
use Rattle.std.specs.Str.{IsUtf8}
use Rattle.dhcp_wire.specs.Words.{Field, field}
use Rattle.wirebase.specs.Hardware.{hardware_number}
use Rattle.wirebase.specs.declared.hardware.Hardware.{Hardware}
use Rattle.dhcp_wire.specs.declared.dhcpv4.packet.Packet.{Packet}

-- the buffer of a view, and the view with another buffer
abbrev pub inner : {T : Type 0} → Packet T → T
inner view = view.buffer

abbrev pub with_inner : {T : Type 0} → Packet T → T → Packet T
with_inner view buffer = record view { buffer = buffer }

-- the fields
abbrev pub op_field : Field
op_field = field 0 1

abbrev pub htype_field : Field
htype_field = field 1 2

abbrev pub hlen_field : Field
hlen_field = field 2 3

abbrev pub hops_field : Field
hops_field = field 3 4

abbrev pub xid_field : Field
xid_field = field 4 8

abbrev pub secs_field : Field
secs_field = field 8 10

abbrev pub flags_field : Field
flags_field = field 10 12

abbrev pub ciaddr_field : Field
ciaddr_field = field 12 16

abbrev pub yiaddr_field : Field
yiaddr_field = field 16 20

abbrev pub siaddr_field : Field
siaddr_field = field 20 24

abbrev pub giaddr_field : Field
giaddr_field = field 24 28

abbrev pub chaddr_field : Field
chaddr_field = field 28 34

abbrev pub sname_field : Field
sname_field = field 34 108

abbrev pub file_field : Field
file_field = field 108 236

-- sname and file
abbrev pub names_field : Field
names_field = field 34 236

abbrev pub magic_field : Field
magic_field = field 236 240

-- the bytes from the first option on
abbrev pub options_in : List ℕ → List ℕ
options_in bytes = drop 240 bytes

-- the number of Ethernet, the bytes of its addresses, and the number before the options of DHCP (RFC 2131 section 3)
abbrev pub ethernet_type : ℕ
ethernet_type = hardware_number Hardware.Ethernet

abbrev pub ethernet_len : ℕ
ethernet_len = 6

abbrev pub magic_cookie : ℕ
magic_cookie = 0x63825363

-- none of the bytes is zero
abbrev pub HasNoZero : List ℕ → Type 0
HasNoZero [] = Unit {0}
HasNoZero (byte ∷ rest) = (byte ≢ 0) × HasNoZero rest

-- A text that a field of fixed size holds: the bytes before the first zero. There are some, and they are UTF-8.
pub record IsTextIn (bytes text : List ℕ) : Type 0 where
  pub rest : List ℕ
  pub whole : bytes ≡ text ++ 0 ∷ rest
  pub some : text ≢ []
  pub no_zero : HasNoZero text
  pub utf8 : IsUtf8 text
