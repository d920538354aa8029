-- What an object says of an interface (RFC 5837 section 4). Its C-Type tells the role of the interface, and which parts
-- the payload has, in this order:
--
--   0   1   2   3   4   5   6   7
-- +-------+---+---+---+---+---+---+
-- | role  |reservd|ind|adr|nam|mtu|
-- +-------+---+---+---+---+---+---+
use Rattle.std.specs.Prelude.{◌≡◌, ℕ, ◌+◌, ◌*◌, ◌/◌, ◌%◌, ◌<◌, ◌≤◌, ◌^◌, ◌⊎◌, ◌==◌, Bool, List, ◌++◌, length}
use Rattle.std.specs.Prelude.{Option, None, Some}
use Rattle.std.specs.Option.{option_map}
use Rattle.wirebase.specs.Bytes.{over}
use Rattle.wirebase.specs.ByteWriter.{fields}
use Rattle.wirebase.specs.Format.{Format, RoundTrips}
use Rattle.extension_wire.specs.declared.interface.InterfaceAddress.{InterfaceAddress}
use Rattle.extension_wire.specs.declared.interface.InterfaceInformation.{InterfaceInformation}
use Rattle.extension_wire.specs.declared.interface.Role.{Role}
use Rattle.extension_wire.specs.declared.refusal.InterfaceRefusal.{InterfaceRefusal}
use Rattle.extension_wire.specs.InterfaceParts.{role_number, IsNumber, RefusesNumber, number_fields, number_len}
use Rattle.extension_wire.specs.InterfaceParts.{AddressValue, IsAddress, RefusesAddress, address_fields, address_len}
use Rattle.extension_wire.specs.InterfaceParts.{AddressFits, IsName, RefusesName, name_fields, name_part_len, NameFits}
use Rattle.extension_wire.specs.InterfaceParts.{trimmed}

-- ---- values

abbrev pub address_of : InterfaceAddress → AddressValue
address_of address = record { family = address.family; octets = address.octets.now }

-- what is said, by its content
pub record InterfaceValue : Type 0 where
  pub role : Role
  pub index : Option ℕ
  pub address : Option AddressValue
  pub name : Option (List ℕ)
  pub mtu : Option ℕ

abbrev pub value_of : InterfaceInformation → InterfaceValue
value_of interface =
    record {
      role = interface.role;
      index = interface.index;
      address = option_map address_of interface.address;
      name = option_map (λ name. name.now) interface.name;
      mtu = interface.mtu;
    }

-- ---- the text

-- the bit of a part that is there
abbrev pub bit_of : {A : Type 0} → ℕ → Option A → ℕ
bit_of bit None = 0
bit_of bit (Some a) = bit

abbrev pub c_type_of : InterfaceValue → ℕ
c_type_of v =
    role_number v.role * 0x40 + bit_of 0x08 v.index + bit_of 0x04 v.address + bit_of 0x02 v.name + bit_of 0x01 v.mtu

abbrev pub information_fields : InterfaceValue → List (List ℕ)
information_fields v =
    number_fields v.index ++ (address_fields v.address ++ (name_fields v.name ++ number_fields v.mtu))

abbrev pub text : InterfaceValue → List ℕ
text v = fields (information_fields v)

abbrev pub text_len : InterfaceValue → ℕ
text_len v = number_len v.index + address_len v.address + name_part_len v.name + number_len v.mtu

-- ---- the grammar

-- whether a C-Type tells of a part
abbrev pub has : ℕ → ℕ → Bool
has bit c = c / bit % 2 == 1

-- The grammar: with this C-Type, the bytes say this; what follows the parts is not looked at.
pub record IsInformation (c : ℕ) (bytes : List ℕ) (v : InterfaceValue) : Type 0 where
  pub role_is : role_number v.role ≡ c / 0x40
  pub behind_index : List ℕ
  pub index_is : IsNumber (has 0x08 c) bytes v.index behind_index
  pub behind_address : List ℕ
  pub address_is : IsAddress (has 0x04 c) behind_index v.address behind_address
  pub behind_name : List ℕ
  pub name_is : IsName (has 0x02 c) behind_address v.name behind_name
  pub behind_mtu : List ℕ
  pub mtu_is : IsNumber (has 0x01 c) behind_name v.mtu behind_mtu

-- a part is read, and what follows it is refused
abbrev pub Behind : {A : Type 0} → (A → List ℕ → Type 0) → (List ℕ → Type 0) → Type 0
Behind {A} Reads Refused = (v : A) × (rest : List ℕ) × Reads v rest × Refused rest

-- the first part that is refused, and why
abbrev pub Refuses : ℕ → List ℕ → InterfaceRefusal → Type 0
Refuses c bytes why =
    RefusesNumber (has 0x08 c) bytes why
    ⊎ Behind (IsNumber (has 0x08 c) bytes) (λ behind_index.
    RefusesAddress (has 0x04 c) behind_index why
    ⊎ Behind (IsAddress (has 0x04 c) behind_index) (λ behind_address.
    RefusesName (has 0x02 c) behind_address why
    ⊎ Behind (IsName (has 0x02 c) behind_address) (λ behind_name.
    RefusesNumber (has 0x01 c) behind_name why)))

-- ---- canonical values

-- a number has 32 bits
abbrev pub NumberFits : Option ℕ → Type 0
NumberFits None = Unit {0}
NumberFits (Some n) = n < 2 ^ 32

-- a name does not end in a zero
abbrev pub NameEnds : Option (List ℕ) → Type 0
NameEnds None = Unit {0}
NameEnds (Some name) = trimmed name ≡ name

-- a value that its own text gives back
pub record IsCanonical (v : InterfaceValue) : Type 0 where
  pub index : NumberFits v.index
  pub address : AddressFits v.address
  pub name : NameFits v.name
  pub name_ends : NameEnds v.name
  pub mtu : NumberFits v.mtu

-- the requirements on a value and on the octets that it is written into
pub record CanEmit (v : InterfaceValue) (bytes : List ℕ) : Type 0 where
  pub room : text_len v ≤ length bytes
  pub address : AddressFits v.address
  pub name : NameFits v.name

-- the format of payloads with this C-Type; each value is its normal form, and none is an exception
abbrev pub format : ℕ → Format InterfaceValue
format c =
    record {
      Reads = IsInformation c;
      Fills = Unit {0};
      text = text;
      IsCanonical = IsCanonical;
      IsException = λ v. ⊥;
      norm = λ v. v;
      IsCut = λ v. ⊥;
    }

-- what writing a value over `old` leaves: its text over the front, and where `old` has exactly its length, that alone
pub record Emits (v : InterfaceValue) (old new : List ℕ) : Type 0 where
  pub written : new ≡ over old (text v)
  pub exact : length old ≡ text_len v → new ≡ text v
  pub round_trips : RoundTrips (format (c_type_of v)) v
