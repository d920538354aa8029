-- The numbers of DHCP (RFC 2131, RFC 2132): operations, types of message, flags.
use Rattle.std.specs.Prelude.{ℕ, List, [], ◌∷◌, codes}
use Rattle.dhcp_wire.specs.Words.{MessageType, OpCode, case_in, rows_of}
use Rattle.dhcp_wire.specs.declared.dhcpv4.tables.Flags.{Flags}

-- operations (RFC 2131 section 2)
abbrev pub opcode_number : OpCode → ℕ
opcode_number OpCode.Request = 1
opcode_number OpCode.Reply = 2
opcode_number (OpCode.Unknown n) = n

abbrev pub opcode_rows : List (OpCode × ℕ)
opcode_rows = rows_of opcode_number (OpCode.Request ∷ OpCode.Reply ∷ [])

abbrev pub opcode_of : ℕ → OpCode
opcode_of n = case_in OpCode.Unknown opcode_rows n

-- types of message (RFC 2132 section 9.6)
abbrev pub message_number : MessageType → ℕ
message_number MessageType.Discover = 1
message_number MessageType.Offer = 2
message_number MessageType.Request = 3
message_number MessageType.Decline = 4
message_number MessageType.Ack = 5
message_number MessageType.Nak = 6
message_number MessageType.Release = 7
message_number MessageType.Inform = 8
message_number (MessageType.Unknown n) = n

abbrev pub messages : List MessageType
messages =
    MessageType.Discover ∷ MessageType.Offer ∷ MessageType.Request ∷ MessageType.Decline
    ∷ MessageType.Ack ∷ MessageType.Nak ∷ MessageType.Release ∷ MessageType.Inform ∷ []

abbrev pub message_rows : List (MessageType × ℕ)
message_rows = rows_of message_number messages

abbrev pub message_of : ℕ → MessageType
message_of n = case_in MessageType.Unknown message_rows n

-- which operation a type of message is: a client's is a request, a server's a reply (RFC 2131 section 3); that of a
-- type without a name is unknown
abbrev pub operation_of : MessageType → OpCode
operation_of MessageType.Discover = OpCode.Request
operation_of MessageType.Offer = OpCode.Reply
operation_of MessageType.Request = OpCode.Request
operation_of MessageType.Decline = OpCode.Request
operation_of MessageType.Ack = OpCode.Reply
operation_of MessageType.Nak = OpCode.Reply
operation_of MessageType.Release = OpCode.Request
operation_of MessageType.Inform = OpCode.Request
operation_of (MessageType.Unknown n) = OpCode.Unknown 0

-- the flags of a packet (RFC 2131 section 2), each by its name and bit
abbrev pub broadcast_bit : ℕ
broadcast_bit = 0x8000

abbrev pub flag_table : List (List ℕ × ℕ)
flag_table = (codes "BROADCAST", broadcast_bit) ∷ []

abbrev pub flag_bits : Flags → ℕ
flag_bits flags = flags.0
