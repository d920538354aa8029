-- Why octets are no frame of a link: the check that fails first.
use Rattle.std.specs.Prelude.{◌≡◌, ◌≢◌, ◌+◌, ◌/◌, ◌%◌, ◌<◌, ◌≤◌, ◌⊎◌, Bool, List, ℕ, drop, length, slice_index}
use Rattle.frame_wire.specs.Words.{Link, field, number_of}
use Rattle.frame_wire.specs.Link.{FrameValue, TypedValue, IsTagType, IsTagged, HasAddress, IsSession, IsFrame}
use Rattle.frame_wire.specs.Link.{HasAttribute, after_attribute, attribute_len, attribute_type, is_lowest_first}
use Rattle.frame_wire.specs.Link.{IsAddress, after_pad, organization}
use Rattle.frame_wire.specs.declared.link.refusal.Refusal.{Refusal}

-- the bytes are a frame of a link
abbrev pub IsRead : Link → List ℕ → Type 0
IsRead link bytes = (v : FrameValue) × IsFrame link bytes v

-- the bytes end before a protocol of PPP does: they are empty, or the first of two bytes alone
abbrev pub IsProtocolCut : List ℕ → Type 0
IsProtocolCut bytes = (length bytes ≡ 0) ⊎ ((length bytes ≡ 1) × (slice_index bytes 0 % 2 ≢ 1))

-- a type is followed by tags, of which the last is cut
pub data IsTagCut : ℕ → List ℕ → Type 0 where
  here : {type : ℕ} {bytes : List ℕ} → IsTagType type → length bytes < 4 → IsTagCut type bytes
  later : {type : ℕ} {bytes : List ℕ} → IsTagType type → 4 ≤ length bytes
      → IsTagCut (number_of (field 2 4) bytes) (drop 4 bytes) → IsTagCut type bytes

-- a payload of PPPoE whose protocol is cut
abbrev pub IsSessionCut : ℕ → List ℕ → Type 0
IsSessionCut type bytes = (type ≡ 0x8864) × IsSession bytes × IsProtocolCut (drop 6 bytes)

-- of a frame whose EtherType is at a place and whose payload begins at another
abbrev pub RefusesTyped : ℕ → ℕ → List ℕ → Refusal → Type 0
RefusesTyped place start bytes Refusal.Short = length bytes < start
RefusesTyped place start bytes Refusal.Tag =
    (start ≤ length bytes) × IsTagCut (number_of (field place (place + 2)) bytes) (drop start bytes)
RefusesTyped place start bytes Refusal.Protocol =
    (start ≤ length bytes) × ((t : TypedValue)
    × IsTagged (number_of (field place (place + 2)) bytes) (drop start bytes) t.tags t.type t.payload
    × IsSessionCut t.type t.payload)
RefusesTyped place start bytes _ = ⊥

-- of a frame of PPP, after its address and control bytes or without them
abbrev pub RefusesPpp : List ℕ → Refusal → Type 0
RefusesPpp bytes Refusal.Protocol =
    (HasAddress bytes × IsProtocolCut (drop 2 bytes)) ⊎ ((HasAddress bytes → ⊥) × IsProtocolCut bytes)
RefusesPpp bytes _ = ⊥

-- of a PPPoE session: version and type have four bits each in front, and the code has eight (RFC 2516 section 4)
abbrev pub session_word : List ℕ → ℕ
session_word bytes = number_of (field 0 2) bytes

abbrev pub RefusesSession : List ℕ → Refusal → Type 0
RefusesSession bytes Refusal.Short = length bytes < 6
RefusesSession bytes (Refusal.SessionVersion n) = (6 ≤ length bytes) × (session_word bytes / 0x1000 ≡ n) × (n ≢ 1)
RefusesSession bytes (Refusal.SessionType n) =
    (6 ≤ length bytes) × (session_word bytes / 0x1000 ≡ 1) × (session_word bytes / 0x100 % 0x10 ≡ n) × (n ≢ 1)
RefusesSession bytes (Refusal.SessionCode n) =
    (6 ≤ length bytes) × (session_word bytes / 0x100 ≡ 0x11) × (session_word bytes % 0x100 ≡ n) × (n ≢ 0)
RefusesSession bytes Refusal.Protocol = IsSession bytes × IsProtocolCut (drop 6 bytes)
RefusesSession bytes _ = ⊥

-- of a frame that has a header of this many bytes and nothing that could be wrong in it
abbrev pub RefusesPlain : ℕ → List ℕ → Refusal → Type 0
RefusesPlain size bytes Refusal.Short = length bytes < size
RefusesPlain size bytes _ = ⊥

-- of the attributes of NFLOG: the first of them that is not whole, where none before it has the packet
pub data RefusesAttributes (lowest_first : Bool) : List ℕ → Refusal → Type 0 where
  header_cut : {bytes : List ℕ} {refusal : Refusal} → length bytes < 4 → refusal ≡ Refusal.Short
      → RefusesAttributes lowest_first bytes refusal
  len_low : {bytes : List ℕ} {refusal : Refusal} → 4 ≤ length bytes → attribute_len lowest_first bytes < 4
      → refusal ≡ Refusal.NflogLen (attribute_len lowest_first bytes) → RefusesAttributes lowest_first bytes refusal
  value_cut : {bytes : List ℕ} {refusal : Refusal} → 4 ≤ length bytes → 4 ≤ attribute_len lowest_first bytes
      → length bytes < attribute_len lowest_first bytes → refusal ≡ Refusal.Short
      → RefusesAttributes lowest_first bytes refusal
  attribute_later : {bytes : List ℕ} {refusal : Refusal} → HasAttribute lowest_first bytes
      → attribute_type lowest_first bytes ≢ 9
      → RefusesAttributes lowest_first (after_attribute lowest_first bytes) refusal
      → RefusesAttributes lowest_first bytes refusal

pub data RefusesNflog (bytes : List ℕ) (refusal : Refusal) : Type 0 where
  nflog_cut : length bytes < 4 → refusal ≡ Refusal.Short → RefusesNflog bytes refusal
  nflog_version : 4 ≤ length bytes → slice_index bytes 1 ≢ 0
      → refusal ≡ Refusal.NflogVersion (slice_index bytes 1) → RefusesNflog bytes refusal
  nflog_attributes : 4 ≤ length bytes → slice_index bytes 1 ≡ 0
      → RefusesAttributes (is_lowest_first (drop 4 bytes)) (drop 4 bytes) refusal → RefusesNflog bytes refusal

-- of the address of frame relay: its first byte is its last, or its fourth is not, or the bytes end before it does
pub data RefusesAddress (bytes : List ℕ) (refusal : Refusal) : Type 0 where
  address_low : 2 ≤ length bytes → slice_index bytes 0 % 2 ≡ 1 → refusal ≡ Refusal.FrameRelayAddress
      → RefusesAddress bytes refusal
  address_high : 4 ≤ length bytes → slice_index bytes 0 % 2 ≢ 1 → slice_index bytes 1 % 2 ≢ 1
      → slice_index bytes 2 % 2 ≢ 1 → slice_index bytes 3 % 2 ≢ 1 → refusal ≡ Refusal.FrameRelayAddress
      → RefusesAddress bytes refusal
  address_one : length bytes < 2 → refusal ≡ Refusal.Short → RefusesAddress bytes refusal
  address_two : length bytes ≡ 2 → slice_index bytes 0 % 2 ≢ 1 → slice_index bytes 1 % 2 ≢ 1
      → refusal ≡ Refusal.Short → RefusesAddress bytes refusal
  address_three : length bytes ≡ 3 → slice_index bytes 0 % 2 ≢ 1 → slice_index bytes 1 % 2 ≢ 1
      → slice_index bytes 2 % 2 ≢ 1 → refusal ≡ Refusal.Short → RefusesAddress bytes refusal

-- of an NLPID and what follows it
pub data RefusesNlpid (bytes : List ℕ) (refusal : Refusal) : Type 0 where
  nlpid_cut : length bytes < 1 → refusal ≡ Refusal.Short → RefusesNlpid bytes refusal
  snap_cut : 1 ≤ length bytes → length bytes < 6 → slice_index bytes 0 ≡ 0x80 → refusal ≡ Refusal.Short
      → RefusesNlpid bytes refusal
  snap_typed : 6 ≤ length bytes → slice_index bytes 0 ≡ 0x80 → organization bytes ≡ 0
      → RefusesTyped 4 6 bytes refusal → RefusesNlpid bytes refusal

pub data RefusesUnnumbered (bytes : List ℕ) (refusal : Refusal) : Type 0 where
  control_cut : length bytes < 1 → refusal ≡ Refusal.Short → RefusesUnnumbered bytes refusal
  control_other : 1 ≤ length bytes → slice_index bytes 0 ≢ 3
      → refusal ≡ Refusal.FrameRelayControl (slice_index bytes 0) → RefusesUnnumbered bytes refusal
  control_nlpid : 1 ≤ length bytes → slice_index bytes 0 ≡ 3 → RefusesNlpid (after_pad (drop 1 bytes)) refusal
      → RefusesUnnumbered bytes refusal

pub data RefusesFrameRelay (bytes : List ℕ) (refusal : Refusal) : Type 0 where
  address : RefusesAddress bytes refusal → RefusesFrameRelay bytes refusal
  addressed : (len : ℕ) → IsAddress bytes len → RefusesUnnumbered (drop len bytes) refusal
      → RefusesFrameRelay bytes refusal

-- the refusal of other bytes, by their link
abbrev pub Refuses : Link → List ℕ → Refusal → Type 0
Refuses Link.Null bytes refusal = RefusesPlain 4 bytes refusal
Refuses Link.Ethernet bytes refusal = RefusesTyped 12 14 bytes refusal
Refuses Link.Ppp bytes refusal = RefusesPpp bytes refusal
Refuses Link.PppEther bytes refusal = RefusesSession bytes refusal
Refuses Link.Raw bytes refusal = RefusesPlain 1 bytes refusal
Refuses Link.LinuxSll bytes refusal = RefusesTyped 14 16 bytes refusal
Refuses Link.LinuxSll2 bytes refusal = RefusesTyped 0 20 bytes refusal
Refuses Link.CHdlc bytes refusal = RefusesTyped 2 4 bytes refusal
Refuses Link.FrameRelay bytes refusal = RefusesFrameRelay bytes refusal
Refuses Link.Ipnet bytes refusal = RefusesPlain 24 bytes refusal
Refuses Link.Nflog bytes refusal = RefusesNflog bytes refusal
Refuses Link.Ipoib bytes refusal = RefusesTyped 40 44 bytes refusal
