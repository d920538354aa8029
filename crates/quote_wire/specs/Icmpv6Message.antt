-- Messages of ICMPv6 (RFC 4443): errors with what they quote, and messages of every other type that is read.
use Rattle.std.specs.Prelude.{ℕ, List}
use Rattle.wirebase.specs.declared.capabilities.ChecksumCapabilities.{ChecksumCapabilities}
use Rattle.wirebase.specs.declared.ipv6.address.Ipv6Address.{Ipv6Address}
use Rattle.icmp6_wire.specs.Icmpv6 as others
use Rattle.icmp6_wire.specs.Icmpv6Display as other_texts
use Rattle.icmp6_wire.specs.Icmpv6Refusal as other_refusals
use Rattle.quote_wire.specs.Error.{ErrorValue, HasErrorType, IsError, Refuses as RefusesError}
use Rattle.quote_wire.specs.Error.{refusal_display as error_display}
use Rattle.quote_wire.specs.Icmpv6Error as errors
use Rattle.quote_wire.specs.declared.icmpv6_error.Kind.{Kind}
use Rattle.quote_wire.specs.declared.message.icmpv6.Icmpv6Message.{Icmpv6Message}
use Rattle.quote_wire.specs.declared.message.icmpv6.Icmpv6Refusal.{Icmpv6Refusal}

-- a message by its content
pub data MessageValue : Type 0 where
  error : ErrorValue Kind → MessageValue
  other : others.MessageValue → MessageValue

abbrev pub value_of : Icmpv6Message → MessageValue
value_of (Icmpv6Message.Error repr) = error (errors.value_of repr)
value_of (Icmpv6Message.Message repr) = other (others.value_of repr)

-- The grammar of a message between two addresses: of an error its own, and of every other type that of the other
-- messages.
abbrev pub IsMessage : Ipv6Address → Ipv6Address → ChecksumCapabilities → List ℕ → MessageValue → Type 0
IsMessage source destination capabilities bytes (error v) =
    IsError (errors.protocol source destination capabilities) bytes v
IsMessage source destination capabilities bytes (other v) =
    (HasErrorType errors.kind_number bytes → ⊥) × others.IsMessage capabilities source destination bytes v

-- the octets are some message
abbrev pub IsRead : Ipv6Address → Ipv6Address → ChecksumCapabilities → List ℕ → Type 0
IsRead source destination capabilities bytes =
    (v : MessageValue) × IsMessage source destination capabilities bytes v

-- why octets are no message: the check that fails first, by the type
abbrev pub Refuses : Ipv6Address → Ipv6Address → ChecksumCapabilities → List ℕ → Icmpv6Refusal → Type 0
Refuses source destination capabilities bytes (Icmpv6Refusal.Error why) =
    HasErrorType errors.kind_number bytes × RefusesError (errors.protocol source destination capabilities) bytes why
Refuses source destination capabilities bytes (Icmpv6Refusal.Message why) =
    (HasErrorType errors.kind_number bytes → ⊥) × other_refusals.Refuses capabilities source destination bytes why

-- what a message prints, and what a reason does
abbrev pub message_display : MessageValue → List ℕ
message_display (error v) = errors.repr_display v
message_display (other v) = other_texts.repr_display v

abbrev pub refusal_display : Icmpv6Refusal → List ℕ
refusal_display (Icmpv6Refusal.Error why) = error_display why
refusal_display (Icmpv6Refusal.Message why) = other_texts.refusal_display why
