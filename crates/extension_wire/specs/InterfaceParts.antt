-- The parts of what an object says of an interface (RFC 5837 sections 4.1 to 4.3), each read from the front of some
-- bytes where its bit of the C-Type says that it is there: the index and the MTU, numbers of four bytes; the address,
--
-- +-------------------------------+-------------------------------+
-- |       family of address       |           reserved            |
-- +-------------------------------+-------------------------------+
-- | address, 4 bytes or 16 bytes
-- +- - - -
--
-- and the name, whose length counts itself and the zeros that pad it to a multiple of 4 bytes:
--
-- +---------------+-----------------------------------------------+
-- |    length     | name, and zeros
-- +---------------+- - - -
use Rattle.std.specs.Prelude.{◌≡◌, ℕ, ◌+◌, ◌-◌, ◌*◌, ◌/◌, ◌%◌, ◌≤◌, ◌==◌, if◌then◌else◌, Bool, true, false}
use Rattle.std.specs.Prelude.{List, [], ◌∷◌, length, drop, replicate, slice_index, Option, None, Some}
use Rattle.byteorder.specs.Endian.{big_number}
use Rattle.wirebase.specs.Bytes.{part}
use Rattle.wirebase.specs.ByteWriter.{be8, be16, be32}
use Rattle.wirebase.specs.Checks.{Check, Fails, Passes, check}
use Rattle.extension_wire.specs.declared.family.Family.{Family}
use Rattle.extension_wire.specs.declared.interface.Role.{Role}
use Rattle.extension_wire.specs.declared.refusal.InterfaceRefusal.{InterfaceRefusal}

-- the numbers of roles (section 4.1)
abbrev pub role_number : Role → ℕ
role_number Role.Incoming = 0
role_number Role.SubIp = 1
role_number Role.Outgoing = 2
role_number Role.NextHop = 3

-- ---- numbers

abbrev pub number_checks : Bool → List ℕ → List (Check InterfaceRefusal)
number_checks false bytes = []
number_checks true bytes = check (4 ≤ length bytes) InterfaceRefusal.Cut ∷ []

abbrev pub RefusesNumber : Bool → List ℕ → InterfaceRefusal → Type 0
RefusesNumber there bytes why = Fails (number_checks there bytes) why

abbrev pub NumberIs : Bool → List ℕ → Option ℕ → List ℕ → Type 0
NumberIs false bytes None rest = rest ≡ bytes
NumberIs false bytes (Some n) rest = ⊥
NumberIs true bytes None rest = ⊥
NumberIs true bytes (Some n) rest = (n ≡ big_number 4 (part bytes 0 4)) × (rest ≡ drop 4 bytes)

-- The grammar: the bytes begin with this number, where one is there, and this is what follows it.
pub record IsNumber (there : Bool) (bytes : List ℕ) (v : Option ℕ) (rest : List ℕ) : Type 0 where
  pub passes : Passes (number_checks there bytes)
  pub is : NumberIs there bytes v rest

abbrev pub number_fields : Option ℕ → List (List ℕ)
number_fields None = []
number_fields (Some n) = be32 n ∷ []

abbrev pub number_len : Option ℕ → ℕ
number_len None = 0
number_len (Some n) = 4

-- ---- addresses

-- the bytes of an address
abbrev pub width : Family → ℕ
width Family.V4 = 4
width Family.V6 = 16

-- the numbers of families, by IANA's registry of address families
abbrev pub family_number : Family → ℕ
family_number Family.V4 = 1
family_number Family.V6 = 2

abbrev pub family_of : ℕ → Option Family
family_of n = if n == 1 then Some Family.V4 else if n == 2 then Some Family.V6 else None

-- an address by its content
pub record AddressValue : Type 0 where
  pub family : Family
  pub octets : List ℕ

abbrev pub family_in : List ℕ → ℕ
family_in bytes = big_number 2 (part bytes 0 2)

-- it is there as far as its family tells
abbrev pub whole_checks : List ℕ → Option Family → List (Check InterfaceRefusal)
whole_checks bytes None = check ⊥ (InterfaceRefusal.AddressFamily (family_in bytes)) ∷ []
whole_checks bytes (Some f) = check (4 + width f ≤ length bytes) InterfaceRefusal.Cut ∷ []

abbrev pub address_checks : Bool → List ℕ → List (Check InterfaceRefusal)
address_checks false bytes = []
address_checks true bytes =
    check (4 ≤ length bytes) InterfaceRefusal.Cut ∷ whole_checks bytes (family_of (family_in bytes))

abbrev pub RefusesAddress : Bool → List ℕ → InterfaceRefusal → Type 0
RefusesAddress there bytes why = Fails (address_checks there bytes) why

abbrev pub AddressIs : Bool → List ℕ → Option AddressValue → List ℕ → Type 0
AddressIs false bytes None rest = rest ≡ bytes
AddressIs false bytes (Some a) rest = ⊥
AddressIs true bytes None rest = ⊥
AddressIs true bytes (Some a) rest =
    (family_of (family_in bytes) ≡ Some a.family) × (a.octets ≡ part bytes 4 (4 + width a.family))
    × (rest ≡ drop (4 + width a.family) bytes)

pub record IsAddress (there : Bool) (bytes : List ℕ) (v : Option AddressValue) (rest : List ℕ) : Type 0 where
  pub passes : Passes (address_checks there bytes)
  pub is : AddressIs there bytes v rest

abbrev pub address_fields : Option AddressValue → List (List ℕ)
address_fields None = []
address_fields (Some a) = be16 (family_number a.family) ∷ be16 0 ∷ a.octets ∷ []

abbrev pub address_len : Option AddressValue → ℕ
address_len None = 0
address_len (Some a) = 4 + width a.family

-- an address has as many bytes as its family says
abbrev pub AddressFits : Option AddressValue → Type 0
AddressFits None = Unit {0}
AddressFits (Some a) = length a.octets ≡ width a.family

-- ---- names

-- the bytes without the zeros at their end
abbrev pub before_trimmed : ℕ → List ℕ → List ℕ
before_trimmed x [] = if x == 0 then [] else x ∷ []
before_trimmed x (y ∷ ys) = x ∷ y ∷ ys

unfoldable pub trimmed : List ℕ → List ℕ
trimmed [] = []
trimmed (x ∷ xs) = before_trimmed x (trimmed xs)

-- the length, and those that are right: multiples of 4, up to 64
abbrev pub name_len_in : List ℕ → ℕ
name_len_in bytes = slice_index bytes 0

abbrev pub IsNameLen : ℕ → Type 0
IsNameLen n = (4 ≤ n) × (n % 4 ≡ 0) × (n ≤ 64)

abbrev pub name_checks : Bool → List ℕ → List (Check InterfaceRefusal)
name_checks false bytes = []
name_checks true bytes =
    check (1 ≤ length bytes) InterfaceRefusal.Cut
    ∷ check (IsNameLen (name_len_in bytes)) (InterfaceRefusal.NameLength (name_len_in bytes))
    ∷ check (name_len_in bytes ≤ length bytes) InterfaceRefusal.Cut
    ∷ []

abbrev pub RefusesName : Bool → List ℕ → InterfaceRefusal → Type 0
RefusesName there bytes why = Fails (name_checks there bytes) why

abbrev pub NameIs : Bool → List ℕ → Option (List ℕ) → List ℕ → Type 0
NameIs false bytes None rest = rest ≡ bytes
NameIs false bytes (Some name) rest = ⊥
NameIs true bytes None rest = ⊥
NameIs true bytes (Some name) rest =
    (name ≡ trimmed (part bytes 1 (name_len_in bytes))) × (rest ≡ drop (name_len_in bytes) bytes)

pub record IsName (there : Bool) (bytes : List ℕ) (v : Option (List ℕ)) (rest : List ℕ) : Type 0 where
  pub passes : Passes (name_checks there bytes)
  pub is : NameIs there bytes v rest

-- the length of a name with the byte before it and its padding
abbrev pub name_len : List ℕ → ℕ
name_len name = (length name + 4) / 4 * 4

abbrev pub name_fields : Option (List ℕ) → List (List ℕ)
name_fields None = []
name_fields (Some name) = be8 (name_len name) ∷ name ∷ replicate (name_len name - 1 - length name) 0 ∷ []

abbrev pub name_part_len : Option (List ℕ) → ℕ
name_part_len None = 0
name_part_len (Some name) = name_len name

-- a name has 63 bytes at most
abbrev pub NameFits : Option (List ℕ) → Type 0
NameFits None = Unit {0}
NameFits (Some name) = length name ≤ 63
