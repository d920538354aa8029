-- Messages of ICMPv4 (RFC 792): errors with what they quote, whole or cut short, and messages of every other type that
-- is read.
use Rattle.std.specs.Prelude.{ℕ, List}
use Rattle.wirebase.specs.declared.capabilities.ChecksumCapabilities.{ChecksumCapabilities}
use Rattle.icmp4_wire.specs.Icmpv4 as others
use Rattle.icmp4_wire.specs.Icmpv4Display as other_texts
use Rattle.icmp4_wire.specs.Icmpv4Refusal as other_refusals
use Rattle.quote_wire.specs.Error.{ErrorValue, HasErrorType, IsError, Refuses as RefusesError}
use Rattle.quote_wire.specs.Error.{refusal_display as error_display}
use Rattle.quote_wire.specs.Icmpv4Error as errors
use Rattle.quote_wire.specs.declared.icmpv4_error.Kind.{Kind}
use Rattle.quote_wire.specs.declared.message.icmpv4.Icmpv4Message.{Icmpv4Message}
use Rattle.quote_wire.specs.declared.message.icmpv4.Icmpv4Refusal.{Icmpv4Refusal}

-- a message by its content
pub data MessageValue : Type 0 where
  error : ErrorValue Kind → MessageValue
  other : others.MessageValue → MessageValue

abbrev pub value_of : Icmpv4Message → MessageValue
value_of (Icmpv4Message.Error repr) = error (errors.value_of repr)
value_of (Icmpv4Message.Message repr) = other (others.value_of repr)

-- The grammar: of an error its own, and of every other type that of the other messages.
abbrev pub IsMessage : ChecksumCapabilities → List ℕ → MessageValue → Type 0
IsMessage capabilities bytes (error v) = IsError (errors.protocol capabilities) bytes v
IsMessage capabilities bytes (other v) =
    (HasErrorType errors.kind_number bytes → ⊥) × others.IsMessage capabilities bytes v

-- the octets are some message
abbrev pub IsRead : ChecksumCapabilities → List ℕ → Type 0
IsRead capabilities bytes = (v : MessageValue) × IsMessage capabilities bytes v

-- why octets are no message: the check that fails first, by the type
abbrev pub Refuses : ChecksumCapabilities → List ℕ → Icmpv4Refusal → Type 0
Refuses capabilities bytes (Icmpv4Refusal.Error why) =
    HasErrorType errors.kind_number bytes × RefusesError (errors.protocol capabilities) bytes why
Refuses capabilities bytes (Icmpv4Refusal.Message why) =
    (HasErrorType errors.kind_number bytes → ⊥) × other_refusals.Refuses capabilities bytes why

-- what a message prints, and what a reason does
abbrev pub message_display : MessageValue → List ℕ
message_display (error v) = errors.repr_display v
message_display (other v) = other_texts.repr_display v

abbrev pub refusal_display : Icmpv4Refusal → List ℕ
refusal_display (Icmpv4Refusal.Error why) = error_display why
refusal_display (Icmpv4Refusal.Message why) = other_refusals.refusal_display why
