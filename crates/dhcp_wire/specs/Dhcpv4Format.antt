-- The result of writing a DHCP packet, and the format: which values their own text gives back, and as which values.
use Rattle.std.specs.Prelude.{◌≡◌, ◌≢◌, ℕ, ◌+◌, ◌-◌, ◌≤◌, ◌<◌, ◌^◌, ◌↔◌, Bool, nat_le, ◌&&◌, List, [], ◌∷◌, ◌++◌}
use Rattle.std.specs.Prelude.{length, if◌then◌else◌, Option, None, Some, Result, IsOk, OnOk, OnErr}
use Rattle.dhcp_wire.specs.Words.{Error, Ipv4Address, IsProper, MessageType, over}
use Rattle.wirebase.specs.Format.{Format, RoundTrips}
use Rattle.dhcp_wire.specs.Dhcpv4.{Value, Slot, slots_of, text, header_text, options_of, IsPacket}
use Rattle.dhcp_wire.specs.Dhcpv4Options.{OptionValue, option_text, IsKind}
use Rattle.dhcp_wire.specs.Dhcpv4Tables.{message_rows}

-- ---- the bytes that a value takes, as they are counted

-- those of an option with these data, where there are data
abbrev pub data_len : Option (List ℕ) → ℕ
data_len None = 0
data_len (Some d) = 2 + length d

abbrev pub slots_len : List Slot → ℕ
slots_len [] = 0
slots_len (s ∷ rest) = data_len s.body + slots_len rest

-- the header of 240 bytes, the end mark, and the options of the fields
abbrev pub fields_len : Value → ℕ
fields_len v = 241 + slots_len (slots_of v)

abbrev pub options_len : List OptionValue → ℕ
options_len [] = 0
options_len (o ∷ os) = 2 + length o.body + options_len os

-- and the additional options: the length of the text
abbrev pub text_len : Value → ℕ
text_len v = fields_len v + options_len v.additional_options

-- ---- what can be written

-- whether an option may be written where a given number of bytes are free
abbrev pub fits : ℕ → OptionValue → Bool
fits room o = nat_le (length o.body) 255 && nat_le (2 + length o.body) room

-- the texts of the options before the first that is refused, where a given number of bytes are free
unfoldable pub texts_before : ℕ → List OptionValue → List ℕ
texts_before room [] = []
texts_before room (o ∷ os) =
    if fits room o then option_text o ++ texts_before (room - length (option_text o)) os else []

-- no option has more data than one byte counts
abbrev pub AllShort : List OptionValue → Type 0
AllShort [] = Unit {0}
AllShort (o ∷ os) = (length o.body ≤ 255) × AllShort os

-- no data is too long, and a given number of bytes have room for the header, all options and the end mark
abbrev pub CanEmit : ℕ → Value → Type 0
CanEmit room v = AllShort (options_of v) × (text_len v ≤ room)

-- What is written where a value can't be: the header, and the options before the first that is refused; all of them
-- where only the end mark has no room.
abbrev pub refused_text : ℕ → Value → List ℕ
refused_text room v = header_text v ++ texts_before (room - 240) (options_of v)

-- ---- the format

-- a kind that additional options may have: neither padding, nor the end mark, nor that of an option of a field
abbrev pub IsOther : List Slot → ℕ → Type 0
IsOther [] kind = IsKind kind
IsOther (s ∷ slots) kind = (kind ≢ s.kind) × IsOther slots kind

abbrev pub AreAdditional : List Slot → List OptionValue → Type 0
AreAdditional slots [] = Unit {0}
AreAdditional slots (o ∷ os) = IsOther slots o.kind × AreAdditional slots os

-- a number, where there is one, is below this one
abbrev pub IsBelow : ℕ → Option ℕ → Type 0
IsBelow most None = Unit {0}
IsBelow most (Some n) = n < most

-- a list, where there is one, has at most five addresses
abbrev pub IsFew : Option (List Ipv4Address) → Type 0
IsFew None = Unit {0}
IsFew (Some addresses) = length addresses ≤ 5

-- a value that its own text gives back as its normal form
pub record IsCanonical (v : Value) : Type 0 where
  pub whole : text_len v ≤ 65535
  pub short : AllShort (options_of v)
  pub additional : AreAdditional (slots_of v) v.additional_options
  pub message_type : IsProper MessageType.Unknown message_rows v.message_type
  pub transaction_id : v.transaction_id < 2 ^ 32
  pub secs : v.secs < 2 ^ 16
  pub dns_servers : IsFew v.dns_servers
  pub max_size : IsBelow (2 ^ 16) v.max_size
  pub lease_duration : IsBelow (2 ^ 32) v.lease_duration
  pub renew_duration : IsBelow (2 ^ 32) v.renew_duration
  pub rebind_duration : IsBelow (2 ^ 32) v.rebind_duration

-- the normal form: no additional options, since none are read
abbrev pub norm : Value → Value
norm v = record v { additional_options = [] }

-- the format; a value with additional options is an exception
abbrev pub format : Format Value
format = record {
  Reads = IsPacket;
  Fills = Unit {0};
  text = text;
  IsCanonical = IsCanonical;
  IsException = λ v. v.additional_options ≢ [];
  norm = norm;
  IsCut = λ v. ⊥;
}

-- What writing a value over `old` leaves. It succeeds exactly where no data is too long and there is room; then the
-- value's text is at the front, and is all that is left where there was just room for it. Otherwise no end mark is
-- written. A canonical value is read back as its normal form, whatever follows the packet.
pub record Emits (v : Value) (old : List ℕ) (result : Result (Unit {0}) Error) (new : List ℕ) : Type 0 where
  pub accepts : IsOk result ↔ CanEmit (length old) v
  pub written : OnOk result (new ≡ over old (text v))
  pub exact : length old ≡ text_len v → OnOk result (new ≡ text v)
  pub refused : OnErr result (new ≡ over old (refused_text (length old) v))
  pub reads_back : IsCanonical v → OnOk result (IsPacket new (norm v))
  pub round_trips : RoundTrips format v
