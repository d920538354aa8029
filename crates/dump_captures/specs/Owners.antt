-- The messages of name services that have a question or a record of a name, or of one that ends in it.
use Rattle.std.specs.Prelude.{◌≡◌, ◌-◌, ◌&&◌, ◌||◌, ◌==◌, nat_le, Bool, true, false, List, [], ◌∷◌, drop, take}
use Rattle.std.specs.Prelude.{length, bytes_eq}
use Rattle.std.specs.Prelude.{ℕ, Option, None, Some}
use Rattle.std.specs.Char.{to_ascii_lowercase}
use Rattle.wirebase.specs.Bytes.{Reaches}
use Rattle.frame_wire.specs.UdpCaptured.{CapturedValue, IsCaptured, RefusesCaptured}
use Rattle.frame_wire.specs.declared.udp.Refusal.{Refusal as UdpRefusal}
use Rattle.dns_wire.specs.DnsPacket.{header}
use Rattle.record_wire.specs.Entries.{EntryValue, IsBroken, IsNext, Left, all_of, question, record_in}
use Rattle.record_wire.specs.Name.{labels_of}
use Rattle.record_wire.specs.NameCase.{lower_label}
use Rattle.record_wire.specs.Names.{Names}
use Rattle.record_wire.specs.declared.name.Name.{Name}
use Rattle.dns_fields.specs.Netbios.{decoded, is_encoded}
use Rattle.message_fields.specs.Checksums.{MessageValue, tcp, udp}
use Rattle.message_fields.specs.declared.message.Service.{Service}
use Rattle.dump_captures.specs.Content.{ContentValue, whole, cut, refused}

-- ---- names, label by label

-- they are the same without regard to the case of ASCII letters (RFC 4343 section 3)
abbrev pub are_same : List (List ℕ) → List (List ℕ) → Bool
are_same [] [] = true
are_same [] (y ∷ ys) = false
are_same (x ∷ xs) [] = false
are_same (x ∷ xs) (y ∷ ys) = bytes_eq (lower_label x) (lower_label y) && are_same xs ys

-- the last labels of a name, as many as the end has, are those of the end
abbrev pub ends_in : List (List ℕ) → List (List ℕ) → Bool
ends_in end labels =
    nat_le (length end) (length labels) && are_same (drop (length labels - length end) labels) end

-- ---- names of the NetBIOS name service (RFC 1001 section 14.1)

-- bytes are a text, in letters of either case, and spaces behind it
abbrev pub is_padded : List ℕ → List ℕ → Bool
is_padded [] [] = true
is_padded [] (t ∷ text) = false
is_padded (byte ∷ bytes) [] = (byte == 32) && is_padded bytes []
is_padded (byte ∷ bytes) (t ∷ text) = (to_ascii_lowercase byte == to_ascii_lowercase t) && is_padded bytes text

-- A first label of 32 letters spells 16 bytes: the first 15 are those of the end's first label, and the scope is the
-- rest of it.
abbrev pub is_netbios : List (List ℕ) → List (List ℕ) → Bool
is_netbios [] labels = false
is_netbios (first ∷ rest) [] = false
is_netbios (first ∷ rest) (letters ∷ scope) =
    is_encoded letters && is_padded (decoded (take 30 letters)) first && are_same scope rest

abbrev pub has_end : Service → List (List ℕ) → List (List ℕ) → Bool
has_end Service.Nbns end labels = ends_in end labels || is_netbios end labels
has_end service end labels = ends_in end labels

-- ---- questions and records

-- the octets of the name of a question, or of the owner of a record
abbrev pub owner_in : EntryValue → List ℕ
owner_in (question q) = q.name
owner_in (record_in section r) = r.name

-- whether these octets of a message are a name that ends so; names that can't be read do not
abbrev pub NameEnds : Service → List (List ℕ) → List ℕ → List ℕ → Bool → Type 0
NameEnds service end message bytes true =
    (labels : List (List ℕ)) × Names message bytes labels × (has_end service end labels ≡ true)
NameEnds service end message bytes false =
    (labels : List (List ℕ)) → Names message bytes labels → has_end service end labels ≡ false

-- Whether a question or a record that is left has such a name, as far as these can be read.
pub data HasOwner (service : Service) (end : List (List ℕ)) (message : List ℕ) : Left → Bool → Type 0 where
  none_left : (left : Left) → left.taken ≡ left.ends.all → HasOwner service end message left false
  none_begins : (left after : Left) → IsBroken left after → HasOwner service end message left false
  here : (left after : Left) (value : EntryValue) → IsNext left value after
      → NameEnds service end message (owner_in value) true → HasOwner service end message left true
  further : (left after : Left) (value : EntryValue) (has : Bool) → IsNext left value after
      → NameEnds service end message (owner_in value) false → HasOwner service end message after has
      → HasOwner service end message left has

-- ---- messages

-- a message, or octets that are too few for one
pub data MessageHas (service : Service) (end : List (List ℕ)) (bytes : List ℕ) : Bool → Type 0 where
  has_header : (has : Bool) → Reaches header bytes → HasOwner service end bytes (all_of bytes) has
      → MessageHas service end bytes has
  has_no_header : (Reaches header bytes → ⊥) → MessageHas service end bytes false

-- a UDP datagram with a message, as far as it is there
pub data DatagramHas (service : Service) (end : List (List ℕ)) (bytes : List ℕ) : Bool → Type 0 where
  opened : (c : CapturedValue) (has : Bool) → IsCaptured bytes c → MessageHas service end c.payload has
      → DatagramHas service end bytes has
  unopened : (r : UdpRefusal) → RefusesCaptured bytes r → DatagramHas service end bytes false

-- DHCP has no names
abbrev pub ServiceHas : Service → List (List ℕ) → List ℕ → Bool → Type 0
ServiceHas Service.Dhcp end bytes has = has ≡ false
ServiceHas service end bytes has = DatagramHas service end bytes has

abbrev pub OfMessage : List (List ℕ) → MessageValue → Bool → Type 0
OfMessage end (udp service addresses bytes) has = ServiceHas service end bytes has
OfMessage end (tcp addresses segment bytes) has = MessageHas Service.Dns end bytes has
OfMessage end m has = has ≡ false

-- whether a control packet holds such a message
abbrev pub ContentHas : List (List ℕ) → ContentValue → Bool → Type 0
ContentHas end (whole m) has = OfMessage end m has
ContentHas end (cut m missing counted) has = OfMessage end m has
ContentHas end (refused kind counted r) has = has ≡ false

-- or no name is asked for
abbrev pub HasName : Option Name → ContentValue → Bool → Type 0
HasName None content has = has ≡ true
HasName (Some end) content has = ContentHas (labels_of end) content has
