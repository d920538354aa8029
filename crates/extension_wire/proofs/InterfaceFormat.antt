-- What objects say of interfaces: one value, and what is read in the text of one.
use Rattle.std.proofs.Common.{◌≡◌, ℕ, ◌+◌, ◌-◌, ◌*◌, ◌/◌, ◌%◌, ◌≤◌, ◌==◌, Bool, true, false, List, [], ◌∷◌, ◌++◌}
use Rattle.std.proofs.Common.{length, take, Option, None, Some, refl, sym, ap, subst, ◌∙◌, arith, length-append}
use Rattle.std.specs.Prelude.{replicate}
use Rattle.std.proofs.lemmas.List.{append-nil, append_assoc, take_at, drop_at, length-replicate}
use Rattle.byteorder.specs.Endian.{big_bytes, big_number}
use Rattle.byteorder.specs.Numbers.{big_number-reads_back}
use Rattle.wirebase.specs.Bytes.{IsBytes, part, over}
use Rattle.wirebase.specs.ByteWriter.{be8, be16, be32, fields}
use Rattle.wirebase.specs.Checks.{Passes}
use Rattle.wirebase.specs.Format.{Rewrites}
use Rattle.wirebase.proofs.Pieces.{over-exact}
use Rattle.extension_wire.specs.declared.family.Family.{Family}
use Rattle.extension_wire.specs.declared.interface.Role.{Role}
use Rattle.extension_wire.specs.InterfaceParts.{role_number, IsNumber, number_fields, number_len, width, family_number}
use Rattle.extension_wire.specs.InterfaceParts.{family_of, AddressValue, family_in, whole_checks, IsAddress}
use Rattle.extension_wire.specs.InterfaceParts.{address_fields, address_len, AddressFits, trimmed, IsName, name_len}
use Rattle.extension_wire.specs.InterfaceParts.{name_fields, name_part_len, NameFits}
use Rattle.extension_wire.specs.Interface.{InterfaceValue, bit_of, c_type_of, text, text_len, has, IsInformation}
use Rattle.extension_wire.specs.Interface.{NumberFits, NameEnds, IsCanonical, CanEmit, format, Emits}
use Rattle.extension_wire.proofs.InterfacePartsRead.{number_one, address_one, name_one, role_one, trimmed-pad}
use Rattle.extension_wire.proofs.InterfacePartsRead.{number_fits, address_fits, name_fits}

value_with : Role → Option ℕ → Option AddressValue → Option (List ℕ) → Option ℕ → InterfaceValue
value_with role index address name mtu =
    record { role = role; index = index; address = address; name = name; mtu = mtu }

same_value : (v w : InterfaceValue) → v.role ≡ w.role → v.index ≡ w.index → v.address ≡ w.address → v.name ≡ w.name
    → v.mtu ≡ w.mtu → v ≡ w
unfolding value_with
same_value v w a b c d e =
    ap (λ (r : Role). value_with r v.index v.address v.name v.mtu) a
    ∙ ap (λ (n : Option ℕ). value_with w.role n v.address v.name v.mtu) b
    ∙ ap (λ (x : Option AddressValue). value_with w.role w.index x v.name v.mtu) c
    ∙ ap (λ (n : Option (List ℕ)). value_with w.role w.index w.address n v.mtu) d
    ∙ ap (λ (n : Option ℕ). value_with w.role w.index w.address w.name n) e

pub information_one : (c : ℕ) (bytes : List ℕ) (v w : InterfaceValue) → IsInformation c bytes v
    → IsInformation c bytes w → v ≡ w
information_one c bytes v w a b =
    let index = number_one (has 0x08 c) bytes v.index w.index _ _ a.index_is b.index_is in
    let address = address_one (has 0x04 c) b.behind_index v.address w.address _ _
    (subst (λ (l : List ℕ). IsAddress (has 0x04 c) l v.address a.behind_address) index.1 a.address_is) b.address_is in
    let name = name_one (has 0x02 c) b.behind_address v.name w.name _ _
    (subst (λ (l : List ℕ). IsName (has 0x02 c) l v.name a.behind_name) address.1 a.name_is) b.name_is in
    let mtu = number_one (has 0x01 c) b.behind_name v.mtu w.mtu _ _
    (subst (λ (l : List ℕ). IsNumber (has 0x01 c) l v.mtu a.behind_mtu) name.1 a.mtu_is) b.mtu_is in
    same_value v w (role_one v.role w.role (a.role_is ∙ sym b.role_is)) index.0 address.0 name.0 mtu.0

-- ---- what is read in the text of a part, and what is behind it

abbrev pub is_there : {A : Type 0} → Option A → Bool
is_there None = false
is_there (Some a) = true

pub number_read : (v : Option ℕ) (rest : List ℕ) → NumberFits v
    → IsNumber (is_there v) (fields (number_fields v) ++ rest) v rest
unfolding fields be32 part
number_read None rest fits = record { passes = tt; is = refl }
number_read (Some n) rest fits =
    record {
      passes = (omega arith, tt);
      is = (sym (big_number-reads_back 4 n [] (omega (arith, fits))), refl);
    }

family_read : (f : Family) → family_of (big_number 2 (big_bytes 2 (family_number f))) ≡ Some f
family_read Family.V4 = refl
family_read Family.V6 = refl

fits_family : (bytes : List ℕ) (f : Family) → 4 + width f ≤ length bytes → family_of (family_in bytes) ≡ Some f
    → Passes (whole_checks bytes (family_of (family_in bytes)))
fits_family bytes f fits is = subst (λ (o : Option Family). Passes (whole_checks bytes o)) (sym is) (fits, tt)

pub address_read : (v : Option AddressValue) (rest : List ℕ) → AddressFits v
    → IsAddress (is_there v) (fields (address_fields v) ++ rest) v rest
unfolding fields be16 part
address_read None rest fits = record { passes = tt; is = refl }
address_read (Some a) rest fits =
    let front : List ℕ = big_bytes 2 (family_number a.family) ++ (0 ∷ 0 ∷ (a.octets ++ [])) in
    let bytes : List ℕ = front ++ rest in
    let plain : a.octets ++ [] ≡ a.octets = append-nil a.octets in
    let wide : length front ≡ 4 + width a.family = omega (arith, ap (λ (l : List ℕ). length l) plain, fits) in
    let long : length bytes ≡ length front + length rest = length-append front rest in
    let family : family_of (family_in bytes) ≡ Some a.family = family_read a.family in
    record {
      passes = (omega (arith, long, wide), fits_family bytes a.family (omega (arith, long, wide)) family);
      is = (
        family,
        sym (ap (λ (n : ℕ). take n ((a.octets ++ []) ++ rest)) (omega arith)
            ∙ take_at (a.octets ++ []) rest (width a.family) (ap (λ (l : List ℕ). length l) plain ∙ fits)
            ∙ plain),
        sym (drop_at front rest (4 + width a.family) wide),
      );
    }

pub name_read : (v : Option (List ℕ)) (rest : List ℕ) → NameFits v → NameEnds v
    → IsName (is_there v) (fields (name_fields v) ++ rest) v rest
unfolding fields be8 part
name_read None rest fits ends = record { passes = tt; is = refl }
name_read (Some name) rest fits ends =
    let n : ℕ = name_len name in
    let pad : List ℕ = replicate (n - 1 - length name) 0 in
    let padded : List ℕ = name ++ (pad ++ []) in
    let bytes : List ℕ = n ∷ (padded ++ rest) in
    let plain : padded ≡ name ++ pad = ap (λ (l : List ℕ). name ++ l) (append-nil pad) in
    let wide : length padded ≡ n - 1 =
    omega (
      arith,
      ap (λ (l : List ℕ). length l) plain,
      length-append name pad,
      length-replicate {A = ℕ} (n - 1 - length name) 0,
    ) in
    let long : length bytes ≡ n + length rest = omega (arith, length-append padded rest, wide) in
    record {
      passes = (
        omega (arith, long),
        ((omega (arith, fits), omega (arith, fits), omega (arith, fits)), (omega (arith, long), tt)),
      );
      is = (
        sym (ap (λ (l : List ℕ). trimmed l) (take_at padded rest (n - 1) wide ∙ plain)
            ∙ trimmed-pad name (n - 1 - length name) ∙ ends),
        sym (drop_at (n ∷ padded) rest n (omega (arith, wide))),
      );
    }

-- ---- the bits of the C-Type

count : {A : Type 0} → Option A → ℕ
count None = 0
count (Some a) = 1

count_few : {A : Type 0} (v : Option A) → count v ≤ 1
unfolding count
count_few None = omega arith
count_few (Some a) = omega arith

bit_count : {A : Type 0} (bit : ℕ) (v : Option A) → bit_of bit v ≡ bit * count v
unfolding count
bit_count bit None = omega arith
bit_count bit (Some a) = omega arith

flag_read : {A : Type 0} (v : Option A) (n : ℕ) → n ≡ count v → is_there v ≡ (n == 1)
unfolding count
flag_read None n e = rw e refl
flag_read (Some a) n e = rw e refl

-- what the C-Type of a value tells
record Told (v : InterfaceValue) : Type 0 where
  role : role_number v.role ≡ c_type_of v / 0x40
  index : is_there v.index ≡ has 0x08 (c_type_of v)
  address : is_there v.address ≡ has 0x04 (c_type_of v)
  name : is_there v.name ≡ has 0x02 (c_type_of v)
  mtu : is_there v.mtu ≡ has 0x01 (c_type_of v)

bits : (r a b c d whole : ℕ) → a ≤ 1 → b ≤ 1 → c ≤ 1 → d ≤ 1 → whole ≡ r * 0x40 + 8 * a + 4 * b + 2 * c + 1 * d
    → (r ≡ whole / 0x40) × (whole / 0x08 % 2 ≡ a) × (whole / 0x04 % 2 ≡ b) × (whole / 0x02 % 2 ≡ c)
    × (whole / 0x01 % 2 ≡ d)
bits r a b c d whole one two three four e = (omega arith, omega arith, omega arith, omega arith, omega arith)

told : (v : InterfaceValue) → Told v
told v =
    let c : ℕ = c_type_of v in
    let of_bits = bits (role_number v.role) (count v.index) (count v.address) (count v.name) (count v.mtu) c
    (count_few v.index) (count_few v.address) (count_few v.name) (count_few v.mtu)
    (omega (arith, bit_count 8 v.index, bit_count 4 v.address, bit_count 2 v.name, bit_count 1 v.mtu)) in
    record {
      role = of_bits.0;
      index = flag_read v.index (c / 0x08 % 2) of_bits.1;
      address = flag_read v.address (c / 0x04 % 2) of_bits.2;
      name = flag_read v.name (c / 0x02 % 2) of_bits.3;
      mtu = flag_read v.mtu (c / 0x01 % 2) of_bits.4;
    }

-- ---- all parts

pub fields-append : (xs ys : List (List ℕ)) → fields (xs ++ ys) ≡ fields xs ++ fields ys
unfolding fields
fields-append [] ys = refl
fields-append (x ∷ xs) ys =
    ap (λ (l : List ℕ). x ++ l) (fields-append xs ys) ∙ sym (append_assoc x (fields xs) (fields ys))

text-parts : (v : InterfaceValue)
    → text v
    ≡ fields (number_fields v.index) ++ (fields (address_fields v.address)
    ++ (fields (name_fields v.name) ++ (fields (number_fields v.mtu) ++ [])))
text-parts v =
    let index : List (List ℕ) = number_fields v.index in
    let address : List (List ℕ) = address_fields v.address in
    let name : List (List ℕ) = name_fields v.name in
    let mtu : List (List ℕ) = number_fields v.mtu in
    fields-append index (address ++ (name ++ mtu))
    ∙ ap (λ (l : List ℕ). fields index ++ l)
    (fields-append address (name ++ mtu)
    ∙ ap (λ (l : List ℕ). fields address ++ l)
    (fields-append name mtu ∙ ap (λ (l : List ℕ). fields name ++ l) (sym (append-nil (fields mtu)))))

pub information_read : (v : InterfaceValue) → IsCanonical v → IsInformation (c_type_of v) (text v) v
information_read v c =
    let index : List ℕ = fields (number_fields v.index) in
    let address : List ℕ = fields (address_fields v.address) in
    let name : List ℕ = fields (name_fields v.name) in
    let mtu : List ℕ = fields (number_fields v.mtu) in
    let behind_name : List ℕ = mtu ++ [] in
    let behind_address : List ℕ = name ++ behind_name in
    let behind_index : List ℕ = address ++ behind_address in
    let is = told v in
    record {
      role_is = is.role;
      behind_index = behind_index;
      index_is =
          subst (λ (l : List ℕ). IsNumber (has 0x08 (c_type_of v)) l v.index behind_index) (sym (text-parts v))
          (subst (λ (b : Bool). IsNumber b (index ++ behind_index) v.index behind_index) is.index
          (number_read v.index behind_index c.index));
      behind_address = behind_address;
      address_is =
          subst (λ (b : Bool). IsAddress b behind_index v.address behind_address) is.address
          (address_read v.address behind_address c.address);
      behind_name = behind_name;
      name_is =
          subst (λ (b : Bool). IsName b behind_address v.name behind_name) is.name
          (name_read v.name behind_name c.name c.name_ends);
      behind_mtu = [];
      mtu_is = subst (λ (b : Bool). IsNumber b behind_name v.mtu []) is.mtu (number_read v.mtu [] c.mtu);
    }

-- ---- the length of the text

length-number : (v : Option ℕ) → length (fields (number_fields v)) ≡ number_len v
unfolding fields be32
length-number None = refl
length-number (Some n) = refl

length-address : (v : Option AddressValue) → AddressFits v → length (fields (address_fields v)) ≡ address_len v
unfolding fields be16
length-address None fits = refl
length-address (Some a) fits = omega (arith, ap (λ (l : List ℕ). length l) (append-nil a.octets), fits)

length-name : (v : Option (List ℕ)) → length (fields (name_fields v)) ≡ name_part_len v
unfolding fields be8
length-name None = refl
length-name (Some name) =
    let pad : List ℕ = replicate (name_len name - 1 - length name) 0 in
    omega (
      arith,
      length-append name (pad ++ []),
      ap (λ (l : List ℕ). length l) (append-nil pad),
      length-replicate {A = ℕ} (name_len name - 1 - length name) 0,
    )

pub length-text : (v : InterfaceValue) → AddressFits v.address → length (text v) ≡ text_len v
length-text v fits =
    let index : List ℕ = fields (number_fields v.index) in
    let address : List ℕ = fields (address_fields v.address) in
    let name : List ℕ = fields (name_fields v.name) in
    let mtu : List ℕ = fields (number_fields v.mtu) in
    omega (
      arith,
      ap (λ (l : List ℕ). length l) (text-parts v),
      length-append index (address ++ (name ++ (mtu ++ []))),
      length-append address (name ++ (mtu ++ [])),
      length-append name (mtu ++ []),
      ap (λ (l : List ℕ). length l) (append-nil mtu),
      length-number v.index,
      length-address v.address fits,
      length-name v.name,
      length-number v.mtu,
    )

-- what is left where a value was written
pub information_emits : (v : InterfaceValue) (old new : List ℕ) → CanEmit v old → new ≡ over old (text v)
    → Emits v old new
information_emits v old new can written =
    record {
      written = written;
      exact = λ long. written ∙ over-exact old (text v) (long ∙ sym (length-text v can.address));
      round_trips = record {
        reads_back = λ fills c. information_read v c;
        canonical = λ c. c;
        settled = refl;
        same_text = λ c regular. refl;
      };
    }

-- what was read can be written, and read again
information_canonical : (c : ℕ) (bytes : List ℕ) (v : InterfaceValue) → IsBytes bytes → IsInformation c bytes v
    → IsCanonical v
information_canonical c bytes v are is =
    let index = number_fits (has 0x08 c) bytes v.index is.behind_index are is.index_is in
    let address = address_fits (has 0x04 c) is.behind_index v.address is.behind_address index.1 is.address_is in
    let name = name_fits (has 0x02 c) is.behind_address v.name is.behind_name address.1 is.name_is in
    let mtu = number_fits (has 0x01 c) is.behind_name v.mtu is.behind_mtu name.2 is.mtu_is in
    record { index = index.0; address = address.0; name = name.0; name_ends = name.1; mtu = mtu.0 }

pub information_rewrites : (c : ℕ) (bytes : List ℕ) (v : InterfaceValue) → IsBytes bytes → IsInformation c bytes v
    → Rewrites (format (c_type_of v)) v
information_rewrites c bytes v are is =
    let canonical = information_canonical c bytes v are is in
    record {
      canonical = canonical;
      regular = λ e. e;
      reads_back = λ fills. information_read v canonical;
      same_text = refl;
      same_value = λ uncut. refl;
    }
