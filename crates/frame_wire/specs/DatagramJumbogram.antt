-- The length of a jumbogram (RFC 2675 section 2), in the Jumbo Payload option of its hop-by-hop header. Options begin
-- with their type and the number of bytes of their data (RFC 8200 section 4.2):
--
--  0                   1                   2                   3
--  0 1 2 3 4 5 6 7 8 9 0 1 2 3 4 5 6 7 8 9 0 1 2 3 4 5 6 7 8 9 0 1
--                                 +---------------+---------------+
--                                 |  type, 0xc2   |   length, 4   |
-- +-------------------------------+---------------+---------------+
-- |                     jumbo payload length                      |
-- +---------------------------------------------------------------+
use Rattle.std.specs.Prelude.{◌≡◌, ◌≢◌, ◌+◌, ◌≤◌, List, ℕ, drop, length, slice_index}
use Rattle.frame_wire.specs.Words.{field, number_of, part}
use Rattle.frame_wire.specs.DatagramHeaders.{HasExtension, extension_end}

-- a Jumbo Payload option of this number, at the start of the options
pub record IsJumbo (options : List ℕ) (n : ℕ) : Type 0 where
  pub whole : 6 ≤ length options
  pub kind : slice_index options 0 ≡ 0xc2
  pub size : slice_index options 1 ≡ 4
  pub number : n ≡ number_of (field 2 6) options

-- the end of another option at the start: a Pad1 is its type alone
pub data OtherEndsAt (options : List ℕ) (end : ℕ) : Type 0 where
  pad1 : 1 ≤ length options → slice_index options 0 ≡ 0 → end ≡ 1 → OtherEndsAt options end
  sized : 2 ≤ length options → slice_index options 0 ≢ 0 → slice_index options 0 ≢ 0xc2
      → end ≡ 2 + slice_index options 1 → end ≤ length options → OtherEndsAt options end

-- the options lead past any number of others to a Jumbo Payload option of this number
pub data HasJumbo : List ℕ → ℕ → Type 0 where
  first : {options : List ℕ} {n : ℕ} → IsJumbo options n → HasJumbo options n
  later : {options : List ℕ} {n : ℕ} (end : ℕ) → OtherEndsAt options end → HasJumbo (drop end options) n
      → HasJumbo options n

-- a whole hop-by-hop header, whose options lead to the length of a jumbogram: 65,536 bytes or more
pub record HasJumboLen (header : List ℕ) (n : ℕ) : Type 0 where
  pub whole : HasExtension header
  pub option : HasJumbo (part header 2 (extension_end header)) n
  pub least : 65536 ≤ n
