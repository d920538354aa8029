-- The printed texts of messages of multicast listener discovery and their parts.
use Rattle.std.specs.Prelude.{ℕ, List, [], ◌∷◌, ◌++◌, codes, decimal, flat_map, length}
use Rattle.icmp6_wire.specs.Words.{pieces, truth_text, address_text, octets_text, RecordRefusal, RecordType}
use Rattle.icmp6_wire.specs.Mld.{MldValue, query, report, records}
use Rattle.icmp6_wire.specs.MldRecord.{RecordValue, address_record}
use Rattle.icmp6_wire.specs.declared.mld.refusal.Refusal.{Refusal}

-- the type of a record (RFC 3810 section 5.2.12)
abbrev pub record_type_display : RecordType → List ℕ
record_type_display RecordType.ModeIsInclude = codes "MODE_IS_INCLUDE"
record_type_display RecordType.ModeIsExclude = codes "MODE_IS_EXCLUDE"
record_type_display RecordType.ChangeToInclude = codes "CHANGE_TO_INCLUDE_MODE"
record_type_display RecordType.ChangeToExclude = codes "CHANGE_TO_EXCLUDE_MODE"
record_type_display RecordType.AllowNewSources = codes "ALLOW_NEW_SOURCES"
record_type_display RecordType.BlockOldSources = codes "BLOCK_OLD_SOURCES"
record_type_display (RecordType.Unknown n) = pieces (codes "unknown " ∷ decimal n ∷ [])

-- a record: its fields, and the bytes of what follows them
unfoldable pub record_display : RecordValue → List ℕ
record_display (address_record kind words sources group rest) =
    pieces (codes "MLD record record_type=" ∷ record_type_display kind
    ∷ codes " aux_data_len=" ∷ decimal words
    ∷ codes " num_srcs=" ∷ decimal sources
    ∷ codes " mcast_addr=" ∷ address_text group
    ∷ codes " payload=" ∷ octets_text rest ∷ [])

-- records after one another, each in parentheses
abbrev pub records_display : List RecordValue → List ℕ
records_display rs = flat_map (λ r. codes " (" ++ (record_display r ++ codes ")")) rs

-- the fields of a query after its flag
abbrev pub counts_display : ℕ → ℕ → ℕ → List ℕ → List ℕ
counts_display qrv qqic sources d =
    pieces (codes " qrv=" ∷ decimal qrv
    ∷ codes " qqic=" ∷ decimal qqic
    ∷ codes " num_srcs=" ∷ decimal sources
    ∷ codes " data=" ∷ octets_text d ∷ [])

-- a message: its fields, data in hexadecimal; of a report by its records, how many they are and each of them
abbrev pub repr_display : MldValue → List ℕ
repr_display (query code group flag qrv qqic sources d) =
    pieces (codes "MLD query max_resp_code=" ∷ decimal code
    ∷ codes " mcast_addr=" ∷ address_text group
    ∷ codes " s_flag=" ∷ truth_text flag
    ∷ counts_display qrv qqic sources d ∷ [])
repr_display (report count d) =
    pieces (codes "MLD report nr_mcast_addr_rcrds=" ∷ decimal count ∷ codes " data=" ∷ octets_text d ∷ [])
repr_display (records rs) =
    codes "MLD report nr_mcast_addr_rcrds=" ++ (decimal (length rs) ++ records_display rs)

-- why octets are refused
abbrev pub refusal_display : Refusal → List ℕ
refusal_display Refusal.Short = codes "fewer than 8 bytes"
refusal_display (Refusal.UnknownType t) = pieces (codes "type " ∷ decimal t ∷ codes " is not read" ∷ [])
refusal_display Refusal.Length = codes "fewer bytes than the header of its type"

abbrev pub record_refusal_display : RecordRefusal → List ℕ
record_refusal_display RecordRefusal.Short = codes "fewer than 20 bytes"
record_refusal_display RecordRefusal.Cut = codes "fewer bytes than its sources and its auxiliary data take"
