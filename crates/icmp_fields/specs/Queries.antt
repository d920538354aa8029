-- Messages of ICMPv4 beside echoes and errors, by all octets from the type on: timestamps (RFC 792), address masks (RFC
-- 950), and the solicitations and advertisements of routers (RFC 1256).
--
--  0                   1                   2                   3
--  0 1 2 3 4 5 6 7 8 9 0 1 2 3 4 5 6 7 8 9 0 1 2 3 4 5 6 7 8 9 0 1
-- +---------------+---------------+-------------------------------+
-- |     type      |     code      |           checksum            |
-- +---------------+---------------+-------------------------------+
-- |          identifier           |        sequence number        |  timestamps and address masks
-- +---------------+---------------+-------------------------------+
-- |number of addrs| words of each |       lifetime in seconds     |  advertisements; solicitations have zeros
-- +---------------+---------------+-------------------------------+
--
-- Behind these, timestamps have three numbers of 4 bytes, address masks one, and advertisements an entry for each
-- router: its address, its preference level in two's complement, and maybe more words.
use Rattle.std.specs.Prelude.{◌==◌, ◌*◌, ◌+◌, [], ◌∷◌, ◌++◌, List, None, Option, Some, ℕ, codes, drop}
use Rattle.std.specs.Prelude.{if◌then◌else◌, length, map, nat_lt}
use Rattle.wirebase.specs.Bytes.{byte_of, bytes_of, field as at, number_of}
use Rattle.packet_fields.specs.Entries.{keyed_value}
use Rattle.packet_fields.specs.Fields.{Cell, Entry, Item, entries, field, number, octets, text, time}
use Rattle.packet_fields.specs.Parts.{parts}
use Rattle.packet_fields.specs.Texts.{address_text}
use Rattle.icmp_fields.specs.Icmp.{additional_items, cut_entry, ids_items}
use Rattle.icmp_fields.specs.Texts.{signed_text}
use Rattle.icmp_fields.specs.declared.refusal.Refusal.{Refusal}
use Rattle.icmp_fields.specs.declared.refusal.Refusal.TheVariants as refusal

-- ---- why a message is refused

abbrev pub code_in : List ℕ → ℕ
code_in bytes = byte_of (at 1 2) bytes

-- one of a fixed number of bytes: its code is not 0, or it has fewer
abbrev pub wrong_fixed : ℕ → List ℕ → Option Refusal
wrong_fixed n bytes =
    if code_in bytes == 0 then (if nat_lt (length bytes) n then Some refusal.Length else None)
    else Some (refusal.Code (code_in bytes))

-- An advertisement: how many routers it has, the words of an entry, and where the last one ends.
abbrev pub count_in : List ℕ → ℕ
count_in bytes = byte_of (at 4 5) bytes

abbrev pub words_in : List ℕ → ℕ
words_in bytes = byte_of (at 5 6) bytes

abbrev pub routers_end : List ℕ → ℕ
routers_end bytes = 8 + 4 * words_in bytes * count_in bytes

-- (RFC 1256 section 5.2)
abbrev pub wrong_routers : List ℕ → Option Refusal
wrong_routers bytes =
    if count_in bytes == 0 then Some refusal.NoRouters
    else if nat_lt (words_in bytes) 2 then Some (refusal.EntrySize (words_in bytes))
    else if nat_lt (length bytes) (routers_end bytes) then Some refusal.Cut
    else None

-- its code is 0, or 16 where a mobility agent routes no common traffic (RFC 5944 section 2.1)
abbrev pub wrong_advertisement : List ℕ → Option Refusal
wrong_advertisement bytes =
    if code_in bytes == 0 then wrong_routers bytes
    else if code_in bytes == 16 then wrong_routers bytes
    else Some (refusal.Code (code_in bytes))

-- ---- fields; the times of a timestamp are milliseconds since midnight, universal time, unless the highest bit is set

abbrev pub times_items : List ℕ → List Item
times_items bytes =
    field (codes "originate") (number (number_of (at 8 12) bytes))
    ∷ field (codes "receive") (number (number_of (at 12 16) bytes))
    ∷ field (codes "transmit") (number (number_of (at 16 20) bytes)) ∷ []

abbrev pub timestamp_items : List ℕ → List Item
timestamp_items bytes = ids_items bytes ++ times_items bytes ++ additional_items (drop 20 bytes)

abbrev pub mask_items : List ℕ → List Item
mask_items bytes =
    ids_items bytes ++ (field (codes "mask") (text (address_text (bytes_of (at 8 12) bytes))) ∷ [])
    ++ additional_items (drop 12 bytes)

-- a router, and words of its entry beyond the first two, where there are any
abbrev pub spare_cells : List ℕ → List Cell
spare_cells [] = []
spare_cells (b ∷ bs) = keyed_value (codes "additional_data") (octets (b ∷ bs))

abbrev pub router_entry : List ℕ → Entry
router_entry bytes = record {
  label_key = codes "entry";
  label = codes "router";
  first_key = codes "addr";
  first = text (address_text (bytes_of (at 0 4) bytes));
  rest =
      keyed_value (codes "preference_level") (text (signed_text (number_of (at 4 8) bytes)))
      ++ spare_cells (drop 8 bytes);
}

-- a router that is cut, by its octets
abbrev pub cut_router : List ℕ → Entry
cut_router bytes = cut_entry (codes "router") (codes "fewer bytes than an entry has") bytes

-- so many entries of so many bytes, or as many as there are, the last of which may be cut
abbrev pub router_or_cut : ℕ → List ℕ → Entry
router_or_cut width bytes = if nat_lt (length bytes) width then cut_router bytes else router_entry bytes

abbrev pub router_entries : ℕ → ℕ → List ℕ → List Entry
router_entries width count bytes = map (router_or_cut width) (parts (λ left. width) count bytes)

abbrev pub advertisement_items : List ℕ → List Item
advertisement_items bytes =
    (field (codes "lifetime") (time (1000 * number_of (at 6 8) bytes))
    ∷ entries (codes "routers") (router_entries (4 * words_in bytes) (count_in bytes) (drop 8 bytes)) ∷ [])
    ++ additional_items (drop (routers_end bytes) bytes)
