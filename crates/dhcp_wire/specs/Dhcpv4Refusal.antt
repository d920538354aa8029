-- Why octets are not a packet that is read: the first check that fails, and the printed text of each reason.
use Rattle.std.specs.Prelude.{◌≡◌, ◌≢◌, ℕ, ◌<◌, ◌⊎◌, List, [], ◌∷◌, ◌++◌, length, slice_index, Option, None, Some}
use Rattle.std.specs.Prelude.{codes, decimal}
use Rattle.std.specs.Option.{option_map}
use Rattle.dhcp_wire.specs.Words.{byte_of, last_of, pieces}
use Rattle.wirebase.specs.Checks.{Fails}
use Rattle.dhcp_wire.specs.declared.dhcpv4.option_kinds.TheConstants.{OPT_CLIENT_ID, OPT_DHCP_MESSAGE_TYPE}
use Rattle.dhcp_wire.specs.declared.dhcpv4.refusal.Refusal.{Refusal}
use Rattle.dhcp_wire.specs.Dhcpv4.{Value, said, type_among, IsOfEthernet, AreOfEthernet, HasHeader, IsPacket}
use Rattle.dhcp_wire.specs.Dhcpv4.{header_checks}
use Rattle.dhcp_wire.specs.Dhcpv4Display.{message_display, opcode_display}
use Rattle.dhcp_wire.specs.Dhcpv4Options.{OptionValue, option_text, IsKind, Options}
use Rattle.dhcp_wire.specs.Dhcpv4Packet.{op_field, options_in, ethernet_type}
use Rattle.dhcp_wire.specs.Dhcpv4Tables.{message_of, opcode_of}

-- the octets are a packet
abbrev pub IsRead : List ℕ → Type 0
IsRead bytes = (value : Value) × IsPacket bytes value

-- a client identifier of 7 bytes that is of this hardware, and not of Ethernet
abbrev pub IsOther : ℕ → OptionValue → Type 0
IsOther hardware o =
    (o.kind ≡ OPT_CLIENT_ID) × (length o.body ≡ 7) × (slice_index o.body 0 ≡ hardware) × (hardware ≢ ethernet_type)

-- the first client identifier of 7 bytes that is not of Ethernet is of this hardware
abbrev pub IsFirstOther : ℕ → List OptionValue → Type 0
IsFirstOther hardware [] = ⊥
IsFirstOther hardware (o ∷ os) = IsOther hardware o ⊎ (IsOfEthernet o × IsFirstOther hardware os)

-- How the options in these bytes end: after padding and whole options comes the end mark, or the end of the bytes; or
-- else an option of a kind that is cut, before its length or within its data.
pub data Ends : List ℕ → Option ℕ → Type 0 where
  with_bytes : Ends [] None
  with_mark : {bytes : List ℕ} (rest : List ℕ) → bytes ≡ 255 ∷ rest → Ends bytes None
  before_length : {bytes : List ℕ} (kind : ℕ) → IsKind kind → bytes ≡ kind ∷ [] → Ends bytes (Some kind)
  within_data : {bytes : List ℕ} (kind n : ℕ) (rest : List ℕ) → IsKind kind → length rest < n
      → bytes ≡ kind ∷ n ∷ rest → Ends bytes (Some kind)
  past_padding : {bytes : List ℕ} {cut : Option ℕ} (rest : List ℕ) → Ends rest cut → bytes ≡ 0 ∷ rest → Ends bytes cut
  past_option : {bytes : List ℕ} {cut : Option ℕ} (o : OptionValue) (rest : List ℕ) → IsKind o.kind → Ends rest cut
      → bytes ≡ option_text o ++ rest → Ends bytes cut

-- A header is there, and these options after it: each client identifier of 7 bytes is of Ethernet, and none of the
-- options is a type of message that has the operation of the packet.
pub record HasNoType (bytes : List ℕ) (options : List OptionValue) : Type 0 where
  pub header : HasHeader bytes
  pub listed : Options (options_in bytes) options
  pub identifiers : AreOfEthernet options
  pub no_type : type_among (byte_of op_field bytes) options ≡ None

-- the data of the last type of message, of whatever length and operation
abbrev pub last_type : List OptionValue → Option (List ℕ)
last_type options = last_of (said OPT_DHCP_MESSAGE_TYPE Some) options

-- the octets are refused, and by this check first
abbrev pub Refuses : List ℕ → Refusal → Type 0
Refuses bytes Refusal.Short = Fails (header_checks bytes) Refusal.Short
Refuses bytes (Refusal.HardwareType n) = Fails (header_checks bytes) (Refusal.HardwareType n)
Refuses bytes (Refusal.HardwareLen n) = Fails (header_checks bytes) (Refusal.HardwareLen n)
Refuses bytes Refusal.MagicCookie = Fails (header_checks bytes) Refusal.MagicCookie
Refuses bytes (Refusal.ClientIdentifier hardware) =
    (options : List OptionValue) × HasHeader bytes × Options (options_in bytes) options
    × IsFirstOther hardware options
Refuses bytes (Refusal.Operation message op) =
    (options : List OptionValue) × (n : ℕ) × HasNoType bytes options × (last_type options ≡ Some (n ∷ []))
    × (message ≡ message_of n) × (op ≡ opcode_of (byte_of op_field bytes))
Refuses bytes (Refusal.MessageTypeLen n) =
    (options : List OptionValue) × HasNoType bytes options × (option_map length (last_type options) ≡ Some n)
    × (n ≢ 1)
Refuses bytes (Refusal.OptionCut kind) =
    (options : List OptionValue) × HasNoType bytes options × (last_type options ≡ None)
    × Ends (options_in bytes) (Some kind)
Refuses bytes Refusal.NoMessageType =
    (options : List OptionValue) × HasNoType bytes options × (last_type options ≡ None)
    × Ends (options_in bytes) None

-- the printed text of each
abbrev pub refusal_display : Refusal → List ℕ
refusal_display Refusal.Short = codes "fewer than 240 bytes"
refusal_display (Refusal.HardwareType n) =
    pieces (codes "hardware type " ∷ decimal n ∷ codes " is not Ethernet" ∷ [])
refusal_display (Refusal.HardwareLen n) =
    pieces (codes "a hardware address has " ∷ decimal n ∷ codes " bytes, not 6" ∷ [])
refusal_display Refusal.MagicCookie = codes "the magic cookie is missing"
refusal_display (Refusal.ClientIdentifier n) =
    pieces (codes "the client identifier is of hardware type " ∷ decimal n ∷ codes ", not Ethernet" ∷ [])
refusal_display (Refusal.Operation message op) =
    pieces (codes "message type " ∷ message_display message ∷ codes " does not go with " ∷ opcode_display op ∷ [])
refusal_display (Refusal.MessageTypeLen n) =
    pieces (codes "the message type has " ∷ decimal n ∷ codes " bytes, not 1" ∷ [])
refusal_display (Refusal.OptionCut kind) = pieces (codes "option " ∷ decimal kind ∷ codes " is cut" ∷ [])
refusal_display Refusal.NoMessageType = codes "there is no message type"
