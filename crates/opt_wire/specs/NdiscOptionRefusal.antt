-- Why bytes begin with no option of neighbor discovery (RFC 4861 section 4.6), and the printed text of that reason.
use Rattle.std.specs.Prelude.{◌≡◌, ℕ, ◌+◌, ◌*◌, ◌≤◌, List, [], ◌∷◌, ◌++◌, length, codes, decimal}
use Rattle.opt_wire.specs.Words.{Check, Fails, byte_of, bytes_of, check, pieces}
use Rattle.wirebase.specs.Ipv6 as ipv6
use Rattle.opt_wire.specs.NdiscOption.{type_field, units_in, redirected_field}
use Rattle.opt_wire.specs.NdiscOptionTables.{type_of, type_text}
use Rattle.opt_wire.specs.NdiscOptionRepr.{OptionValue, BeginsWith}
use Rattle.opt_wire.specs.declared.ndiscoption.tables.Type.{«Type» as Kind}
use Rattle.opt_wire.specs.declared.ndiscoption.refusal.Refusal.{Refusal}

-- the bytes begin with an option
abbrev pub IsRead : List ℕ → Type 0
IsRead bytes = (value : OptionValue) × BeginsWith bytes value

abbrev pub kind_in : List ℕ → Kind
kind_in bytes = type_of (byte_of type_field bytes)

abbrev pub packet_in : List ℕ → List ℕ
packet_in bytes = bytes_of (redirected_field bytes) bytes

-- the checks of the units: the first is there, and they are one or more, and all there
abbrev pub unit_checks : List ℕ → List (Check Refusal)
unit_checks bytes =
    check (8 ≤ length bytes) Refusal.Short
    ∷ check (1 ≤ units_in bytes) Refusal.Zero
    ∷ check (8 * units_in bytes ≤ length bytes) (Refusal.Cut (8 * units_in bytes))
    ∷ []

-- the checks by the type: a prefix has 4 units, an MTU 1, and a redirected packet 6 or more, and it is whole and of
-- version 6
abbrev pub type_checks : Kind → List ℕ → List (Check Refusal)
type_checks Kind.PrefixInformation bytes =
    check (units_in bytes ≡ 4) (Refusal.Length Kind.PrefixInformation (units_in bytes)) ∷ []
type_checks Kind.RedirectedHeader bytes =
    check (6 ≤ units_in bytes) (Refusal.Length Kind.RedirectedHeader (units_in bytes))
    ∷ check (40 + ipv6.payload_len_in (packet_in bytes) ≤ length (packet_in bytes))
    (Refusal.PacketCut (40 + ipv6.payload_len_in (packet_in bytes)))
    ∷ check (ipv6.version_in (packet_in bytes) ≡ 6) (Refusal.PacketVersion (ipv6.version_in (packet_in bytes)))
    ∷ []
type_checks Kind.Mtu bytes = check (units_in bytes ≡ 1) (Refusal.Length Kind.Mtu (units_in bytes)) ∷ []
type_checks _ bytes = []

-- all checks, in their order: bytes that pass them are read, and of others the first that fails is the reason
abbrev pub checks : List ℕ → List (Check Refusal)
checks bytes = unit_checks bytes ++ type_checks (kind_in bytes) bytes

abbrev pub Refuses : List ℕ → Refusal → Type 0
Refuses bytes why = Fails (checks bytes) why

abbrev pub refusal_text : Refusal → List ℕ
refusal_text Refusal.Short = codes "fewer than 8 bytes"
refusal_text Refusal.Zero = codes "a length of 0"
refusal_text (Refusal.Cut n) = pieces (codes "fewer than the " ∷ decimal n ∷ codes " bytes that the option counts" ∷ [])
refusal_text (Refusal.Length t n) =
    pieces (codes "a length of " ∷ decimal n ∷ codes " is not allowed for " ∷ type_text t ∷ [])
refusal_text (Refusal.PacketCut n) =
    pieces (codes "fewer than the " ∷ decimal n ∷ codes " bytes that the redirected packet counts" ∷ [])
refusal_text (Refusal.PacketVersion n) = pieces (codes "version " ∷ decimal n ∷ codes " of the redirected packet" ∷ [])
