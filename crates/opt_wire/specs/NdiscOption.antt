-- The view of one option of neighbor discovery (RFC 4861 section 4.6): a block of whole units of 8 bytes, which counts
-- its units.
--
-- Of any type:
--  0                   1                   2                   3
--  0 1 2 3 4 5 6 7 8 9 0 1 2 3 4 5 6 7 8 9 0 1 2 3 4 5 6 7 8 9 0 1
-- +---------------+---------------+- - - - - - - - - - - - - - - -
-- |     type      |     units     | data: of types 1 and 2, a link-layer address
-- +---------------+---------------+- - - - - - - - - - - - - - - -
--
-- Of type 3, a prefix:
-- +---------------+---------------+---------------+---------------+
-- |       3       |       4       | prefix length |     flags     |
-- +---------------+---------------+---------------+---------------+
-- |                   valid lifetime, in seconds                  |
-- +---------------------------------------------------------------+
-- |                 preferred lifetime, in seconds                |
-- +---------------------------------------------------------------+
-- |                            reserved                           |
-- +---------------------------------------------------------------+
-- |                        prefix, 16 bytes                       |
-- +- - - - - - - -
--
-- Of type 4, a redirected packet:
-- +---------------+---------------+-------------------------------+
-- |       4       |     units     |                               |
-- +---------------+---------------+                               +
-- |                            reserved                           |
-- +---------------------------------------------------------------+
-- |             IPv6 header, as much of its payload as there is   |
-- +- - - - - - - -
--
-- Of type 5, the greatest packet of the link:
-- +---------------+---------------+-------------------------------+
-- |       5       |       1       |            reserved           |
-- +---------------+---------------+-------------------------------+
-- |                              MTU                              |
-- +---------------------------------------------------------------+
use Rattle.std.specs.Prelude.{◌≡◌, ℕ, ◌+◌, ◌-◌, ◌*◌, ◌≤◌, min, List, length}
use Rattle.std.specs.Borrow.{Bor}
use Rattle.opt_wire.specs.Words.{Field, Reaches, byte_of, field}
use Rattle.opt_wire.specs.declared.ndiscoption.NdiscOption.{NdiscOption}

-- the buffer of a view, and the view with another buffer
abbrev pub inner : {T : Type 0} → NdiscOption T → T
inner view = view.buffer

abbrev pub with_inner : {T : Type 0} → NdiscOption T → T → NdiscOption T
with_inner view buffer = record view { buffer = buffer }

abbrev pub view_octets : NdiscOption (Bor (List ℕ)) → List ℕ
view_octets view = (inner view).now

-- ---- the fields

abbrev pub type_field : Field
type_field = field 0 1

abbrev pub length_field : Field
length_field = field 1 2

-- the units that it counts, and the bytes of the whole block
abbrev pub units_in : List ℕ → ℕ
units_in bytes = byte_of length_field bytes

abbrev pub block_field : List ℕ → Field
block_field bytes = field 0 (8 * units_in bytes)

-- the data: all after type and units
abbrev pub data_field : List ℕ → Field
data_field bytes = field 2 (8 * units_in bytes)

-- a link-layer address: what there is room for, but no more than 8 bytes
abbrev pub link_addr_field : List ℕ → Field
link_addr_field bytes = field 2 (2 + min 8 (8 * units_in bytes - 2))

abbrev pub mtu_field : Field
mtu_field = field 4 8

abbrev pub prefix_len_field : Field
prefix_len_field = field 2 3

abbrev pub prefix_flags_field : Field
prefix_flags_field = field 3 4

abbrev pub valid_lifetime_field : Field
valid_lifetime_field = field 4 8

abbrev pub preferred_lifetime_field : Field
preferred_lifetime_field = field 8 12

abbrev pub prefix_reserved_field : Field
prefix_reserved_field = field 12 16

abbrev pub prefix_field : Field
prefix_field = field 16 32

abbrev pub redirected_reserved_field : Field
redirected_reserved_field = field 2 8

-- the packet that is redirected, by its place
abbrev pub redirected_field : List ℕ → Field
redirected_field bytes = field 8 (8 * units_in bytes)

-- ---- blocks

-- the bytes reach the end of the block that they begin with, which is one unit long, and of a prefix or a redirected
-- packet as long as its fixed fields; only the count of no units at all is still open
pub record BeginsWhole (bytes : List ℕ) : Type 0 where
  pub fixed : 8 ≤ length bytes
  pub counted : Reaches (block_field bytes) bytes
  pub prefix_is : byte_of type_field bytes ≡ 3 → 4 ≤ units_in bytes
  pub redirected : byte_of type_field bytes ≡ 4 → 6 ≤ units_in bytes

-- the bytes begin with a block, which counts one unit or more (RFC 4861 section 4.6)
pub record BeginsWithBlock (bytes : List ℕ) : Type 0 where
  pub whole : BeginsWhole bytes
  pub some : 1 ≤ units_in bytes
