-- The printed texts.
use Rattle.std.specs.Prelude.{ℕ, List, [], ◌∷◌, length, codes, decimal}
use Rattle.wirebase.specs.Display.{pieces, truth_text}
use Rattle.extension_wire.specs.declared.interface.Role.{Role}
use Rattle.extension_wire.specs.declared.mpls.LabelEntry.{LabelEntry}
use Rattle.extension_wire.specs.declared.refusal.StructureRefusal.{StructureRefusal}
use Rattle.extension_wire.specs.declared.refusal.ObjectRefusal.{ObjectRefusal}
use Rattle.extension_wire.specs.declared.refusal.SplitRefusal.{SplitRefusal}
use Rattle.extension_wire.specs.declared.refusal.LabelRefusal.{LabelRefusal}
use Rattle.extension_wire.specs.declared.refusal.InterfaceRefusal.{InterfaceRefusal}
use Rattle.extension_wire.specs.Object.{ObjectValue}

-- ---- values

abbrev pub object_display : ObjectValue → List ℕ
object_display v =
    pieces
    (codes "object class=" ∷ decimal v.class ∷ codes " c_type=" ∷ decimal v.c_type
    ∷ codes " len=" ∷ decimal (length v.payload) ∷ [])

abbrev pub label_display : LabelEntry → List ℕ
label_display e =
    pieces
    (codes "label=" ∷ decimal e.label ∷ codes " traffic_class=" ∷ decimal e.traffic_class
    ∷ codes " bottom=" ∷ truth_text e.bottom ∷ codes " ttl=" ∷ decimal e.ttl ∷ [])

abbrev pub role_display : Role → List ℕ
role_display Role.Incoming = codes "incoming"
role_display Role.SubIp = codes "below IP"
role_display Role.Outgoing = codes "outgoing"
role_display Role.NextHop = codes "next hop"

-- ---- refusals

abbrev pub split_refusal_display : SplitRefusal → List ℕ
split_refusal_display SplitRefusal.Short = codes "the original datagram has fewer than 128 bytes by its length"
split_refusal_display SplitRefusal.Cut = codes "the original datagram is cut"

abbrev pub structure_refusal_display : StructureRefusal → List ℕ
structure_refusal_display StructureRefusal.Short = codes "the header of the extensions is cut"
structure_refusal_display (StructureRefusal.Version version) =
    pieces (codes "the extensions are of version " ∷ decimal version ∷ [])
structure_refusal_display StructureRefusal.Checksum = codes "the checksum of the extensions is wrong"

abbrev pub object_refusal_display : ObjectRefusal → List ℕ
object_refusal_display ObjectRefusal.Short = codes "the header of the object is cut"
object_refusal_display ObjectRefusal.Length = codes "the object has fewer than 4 bytes by its length"
object_refusal_display ObjectRefusal.Cut = codes "the object is cut"

abbrev pub label_refusal_display : LabelRefusal → List ℕ
label_refusal_display refusal = codes "the stack of labels ends within an entry"

abbrev pub interface_refusal_display : InterfaceRefusal → List ℕ
interface_refusal_display InterfaceRefusal.Cut = codes "the object about the interface is cut"
interface_refusal_display (InterfaceRefusal.AddressFamily family) =
    pieces (codes "the interface has an address of family " ∷ decimal family ∷ [])
interface_refusal_display (InterfaceRefusal.NameLength len) =
    pieces (codes "the name of the interface has a length of " ∷ decimal len ∷ [])
