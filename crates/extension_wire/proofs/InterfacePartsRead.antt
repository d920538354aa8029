-- The parts of what an object says of an interface, as they are read.
use Rattle.std.proofs.Common.{◌≡◌, ℕ, zero, suc, ◌+◌, ◌-◌, ◌≤◌, ◌<◌, ◌%◌, ◌==◌, Bool, true, false, List, [], ◌∷◌, ◌++◌}
use Rattle.std.proofs.Common.{length}
use Rattle.std.proofs.Common.{take, drop, Option, None, Some, refl, sym, ap, subst, ◌∙◌, arith}
use Rattle.std.specs.Prelude.{slice_index, replicate, if◌then◌else◌}
use Rattle.std.proofs.lemmas.Bool.{eqb-true}
use Rattle.std.proofs.lemmas.List.{append-nil, append_assoc, take_all, take_more, length-drop}
use Rattle.wirebase.specs.Bytes.{IsBytes, part}
use Rattle.wirebase.specs.Checks.{Passes}
use Rattle.wirebase.proofs.ByteParts.{IsBytes-drop}
use Rattle.wirebase.proofs.Pieces.{length-part}
use Rattle.wirebase.proofs.WideParts.{number_of-small4}
use Rattle.extension_wire.specs.Interface.{NumberFits, NameEnds}
use Rattle.extension_wire.specs.InterfaceParts.{name_len_in, AddressFits, NameFits}
use Rattle.extension_wire.specs.declared.family.Family.{Family}
use Rattle.extension_wire.specs.InterfaceParts.{before_trimmed, trimmed, width, family_of, family_in, whole_checks}
use Rattle.extension_wire.specs.declared.interface.Role.{Role}
use Rattle.extension_wire.specs.InterfaceParts.{IsNumber, AddressValue, IsAddress, IsName, role_number}

-- ---- zeros at the end

one_before : (x : ℕ) (b : Bool) → (x == 0) ≡ b → (x ≡ 0 → ⊥) → (if b then [] else x ∷ []) ≡ x ∷ []
one_before x true e some = absurd (some (eqb-true x 0 e))
one_before x false e some = refl

before_some : (x y : ℕ) (l : List ℕ) → before_trimmed x (l ++ y ∷ []) ≡ x ∷ (l ++ y ∷ [])
before_some x y [] = refl
before_some x y (z ∷ zs) = refl

pub trimmed-zero : (l : List ℕ) → trimmed (l ++ 0 ∷ []) ≡ trimmed l
unfolding trimmed
trimmed-zero [] = refl
trimmed-zero (x ∷ xs) = ap (λ (l : List ℕ). before_trimmed x l) (trimmed-zero xs)

pub trimmed-some : (l : List ℕ) (x : ℕ) → (x ≡ 0 → ⊥) → trimmed (l ++ x ∷ []) ≡ l ++ x ∷ []
unfolding trimmed
trimmed-some [] x some = one_before x _ refl some
trimmed-some (y ∷ ys) x some =
    ap (λ (l : List ℕ). before_trimmed y l) (trimmed-some ys x some) ∙ before_some y x ys

pub trimmed-pad : (l : List ℕ) (k : ℕ) → trimmed (l ++ replicate k 0) ≡ trimmed l
trimmed-pad l zero = ap (λ (m : List ℕ). trimmed m) (append-nil l)
trimmed-pad l (suc k) =
    ap (λ (m : List ℕ). trimmed m) (sym (append_assoc l (0 ∷ []) (replicate k 0)))
    ∙ trimmed-pad (l ++ 0 ∷ []) k ∙ trimmed-zero l

-- the bytes up to the n-th
last_off : (l : List ℕ) (n : ℕ) → 0 < n → n ≤ length l → take n l ≡ take (n - 1) l ++ slice_index l (n - 1) ∷ []
last_off l n some fits =
    let on : n ≡ (n - 1) + 1 = omega (arith, some) in
    ap (λ (k : ℕ). take k l) on ∙ take_more l (n - 1) 0 (omega (arith, some, fits))

pub zero_off : (l whole : List ℕ) (n : ℕ) → 0 < n → n ≤ length l → slice_index l (n - 1) ≡ 0
    → trimmed (take n l) ≡ whole → trimmed (take (n - 1) l) ≡ whole
zero_off l whole n some fits none is =
    sym (ap (λ (m : List ℕ). trimmed m)
    (last_off l n some fits ∙ ap (λ (x : ℕ). take (n - 1) l ++ x ∷ []) none)
    ∙ trimmed-zero (take (n - 1) l))
    ∙ is

pub some_last : (l whole : List ℕ) (n : ℕ) → 0 < n → n ≤ length l → (slice_index l (n - 1) ≡ 0 → ⊥)
    → trimmed (take n l) ≡ whole → take n l ≡ whole
some_last l whole n some fits more is =
    last_off l n some fits
    ∙ sym (ap (λ (m : List ℕ). trimmed m) (last_off l n some fits)
    ∙ trimmed-some (take (n - 1) l) (slice_index l (n - 1)) more)
    ∙ is

pub none_left : (l whole : List ℕ) (n : ℕ) → n ≡ 0 → trimmed (take n l) ≡ whole → take n l ≡ whole
unfolding trimmed
none_left l whole zero none is = is
none_left l whole (suc n) none is = absurd (omega (arith, none))

-- ---- an address

pub address_by : (there : Bool) (bytes : List ℕ) (f : Family) (end : ℕ) → there ≡ true → 4 ≤ length bytes
    → family_of (family_in bytes) ≡ Some f → end ≡ 4 + width f → end ≤ length bytes
    → IsAddress there bytes (Some (record { family = f; octets = take (end - 4) (drop 4 bytes) }))
    (take (length bytes - end) (drop end bytes))
unfolding part
address_by false bytes f end is long family ends fits = absurd cc
address_by true bytes f end is long family ends fits =
    record {
      passes = (
        long,
        subst (λ (o : Option Family). Passes (whole_checks bytes o)) (sym family) (omega (arith, ends, fits), tt),
      );
      is = (
        family,
        ap (λ (n : ℕ). take (n - 4) (drop 4 bytes)) ends,
        take_all (length bytes - end) (drop end bytes) (omega (arith, length-drop end bytes))
            ∙ ap (λ (n : ℕ). drop n bytes) ends,
      );
    }

-- ---- a name

pub name_by : (there : Bool) (bytes name : List ℕ) → there ≡ true → 1 ≤ length bytes → 4 ≤ slice_index bytes 0
    → slice_index bytes 0 % 4 ≡ 0 → slice_index bytes 0 ≤ 64 → slice_index bytes 0 ≤ length bytes
    → name ≡ trimmed (take (slice_index bytes 0 - 1) (drop 1 bytes))
    → IsName there bytes (Some name) (take (length bytes - slice_index bytes 0) (drop (slice_index bytes 0) bytes))
unfolding part
name_by false bytes name is some more even few fits e = absurd cc
name_by true bytes name is some more even few fits e =
    let end : ℕ = slice_index bytes 0 in
    record {
      passes = (some, ((more, even, few), (fits, tt)));
      is = (e, take_all (length bytes - end) (drop end bytes) (omega (arith, length-drop end bytes)));
    }

-- ---- bytes have one part, and what is behind it

pub number_one : (there : Bool) (bytes : List ℕ) (v w : Option ℕ) (rest tail : List ℕ) → IsNumber there bytes v rest
    → IsNumber there bytes w tail → (v ≡ w) × (rest ≡ tail)
number_one false bytes None None rest tail a b = (refl, a.is ∙ sym b.is)
number_one false bytes (Some v) w rest tail a b = absurd a.is
number_one false bytes None (Some w) rest tail a b = absurd b.is
number_one true bytes None w rest tail a b = absurd a.is
number_one true bytes (Some v) None rest tail a b = absurd b.is
number_one true bytes (Some v) (Some w) rest tail a b =
    (ap (λ (n : ℕ). Some n) (a.is.0 ∙ sym b.is.0), a.is.1 ∙ sym b.is.1)

same_some : (f g : Family) → Some f ≡ Some g → f ≡ g
same_some f g e = cc

address_with : Family → List ℕ → AddressValue
address_with f octets = record { family = f; octets = octets }

same_address : (a b : AddressValue) → a.family ≡ b.family → a.octets ≡ b.octets → a ≡ b
unfolding address_with
same_address a b e f =
    ap (λ (g : Family). address_with g a.octets) e ∙ ap (λ (l : List ℕ). address_with b.family l) f

pub address_one : (there : Bool) (bytes : List ℕ) (v w : Option AddressValue) (rest tail : List ℕ)
    → IsAddress there bytes v rest → IsAddress there bytes w tail → (v ≡ w) × (rest ≡ tail)
address_one false bytes None None rest tail a b = (refl, a.is ∙ sym b.is)
address_one false bytes (Some v) w rest tail a b = absurd a.is
address_one false bytes None (Some w) rest tail a b = absurd b.is
address_one true bytes None w rest tail a b = absurd a.is
address_one true bytes (Some v) None rest tail a b = absurd b.is
address_one true bytes (Some v) (Some w) rest tail a b =
    let family = same_some v.family w.family (sym a.is.0 ∙ b.is.0) in
    let end : 4 + width v.family ≡ 4 + width w.family = ap (λ (f : Family). 4 + width f) family in (
      ap (λ (x : AddressValue). Some x) (same_address v w family
          (a.is.1 ∙ ap (λ (n : ℕ). part bytes 4 n) end ∙ sym b.is.1)),
      a.is.2 ∙ ap (λ (n : ℕ). drop n bytes) end ∙ sym b.is.2,
    )

pub name_one : (there : Bool) (bytes : List ℕ) (v w : Option (List ℕ)) (rest tail : List ℕ)
    → IsName there bytes v rest → IsName there bytes w tail → (v ≡ w) × (rest ≡ tail)
name_one false bytes None None rest tail a b = (refl, a.is ∙ sym b.is)
name_one false bytes (Some v) w rest tail a b = absurd a.is
name_one false bytes None (Some w) rest tail a b = absurd b.is
name_one true bytes None w rest tail a b = absurd a.is
name_one true bytes (Some v) None rest tail a b = absurd b.is
name_one true bytes (Some v) (Some w) rest tail a b =
    (ap (λ (n : List ℕ). Some n) (a.is.0 ∙ sym b.is.0), a.is.1 ∙ sym b.is.1)

role_numbered : ℕ → Role
role_numbered zero = Role.Incoming
role_numbered (suc zero) = Role.SubIp
role_numbered (suc (suc zero)) = Role.Outgoing
role_numbered (suc (suc (suc n))) = Role.NextHop

role_back : (r : Role) → role_numbered (role_number r) ≡ r
unfolding role_numbered
role_back Role.Incoming = refl
role_back Role.SubIp = refl
role_back Role.Outgoing = refl
role_back Role.NextHop = refl

pub role_one : (r s : Role) → role_number r ≡ role_number s → r ≡ s
role_one r s e = sym (role_back r) ∙ ap (λ (n : ℕ). role_numbered n) e ∙ role_back s

-- ---- what is read fits

length-one : (x : ℕ) (b : Bool) → length (if b then [] else x ∷ []) ≤ 1
length-one x true = omega arith
length-one x false = omega arith

length-before : (x : ℕ) (l : List ℕ) → length (before_trimmed x l) ≤ suc (length l)
length-before x [] = length-one x (x == 0)
length-before x (y ∷ ys) = omega arith

pub length-trimmed : (l : List ℕ) → length (trimmed l) ≤ length l
unfolding trimmed
length-trimmed [] = omega arith
length-trimmed (x ∷ xs) = omega (arith, length-before x (trimmed xs), length-trimmed xs)

one_again : (x : ℕ) (b : Bool) → (x == 0) ≡ b → trimmed (if b then [] else x ∷ []) ≡ (if b then [] else x ∷ [])
unfolding trimmed
one_again x true e = refl
one_again x false e = rw e refl

before_again : (x : ℕ) (l : List ℕ) → trimmed l ≡ l → trimmed (before_trimmed x l) ≡ before_trimmed x l
unfolding trimmed
before_again x [] e = one_again x (x == 0) refl
before_again x (y ∷ ys) e = ap (λ (l : List ℕ). before_trimmed x l) e

pub trimmed-trimmed : (l : List ℕ) → trimmed (trimmed l) ≡ trimmed l
unfolding trimmed
trimmed-trimmed [] = refl
trimmed-trimmed (x ∷ xs) = before_again x (trimmed xs) (trimmed-trimmed xs)

pub number_fits : (there : Bool) (bytes : List ℕ) (v : Option ℕ) (rest : List ℕ) → IsBytes bytes
    → IsNumber there bytes v rest → NumberFits v × IsBytes rest
number_fits false bytes None rest are is = (tt, subst IsBytes (sym is.is) are)
number_fits false bytes (Some n) rest are is = absurd is.is
number_fits true bytes None rest are is = absurd is.is
number_fits true bytes (Some n) rest are is =
    let small = number_of-small4 0 4 bytes refl are in
    (omega (arith, is.is.0, small), subst IsBytes (sym is.is.1) (IsBytes-drop 4 bytes are))

family_fits : (bytes : List ℕ) (f : Family) → family_of (family_in bytes) ≡ Some f
    → Passes (whole_checks bytes (family_of (family_in bytes))) → 4 + width f ≤ length bytes
family_fits bytes f e passes = (subst (λ (o : Option Family). Passes (whole_checks bytes o)) e passes).0

pub address_fits : (there : Bool) (bytes : List ℕ) (v : Option AddressValue) (rest : List ℕ) → IsBytes bytes
    → IsAddress there bytes v rest → AddressFits v × IsBytes rest
address_fits false bytes None rest are is = (tt, subst IsBytes (sym is.is) are)
address_fits false bytes (Some a) rest are is = absurd is.is
address_fits true bytes None rest are is = absurd is.is
address_fits true bytes (Some a) rest are is =
    let room = family_fits bytes a.family is.is.0 is.passes.1 in (
      omega (
        arith,
        ap (λ (l : List ℕ). length l) is.is.1,
        length-part bytes 4 (4 + width a.family) (omega arith) room,
      ),
      subst IsBytes (sym is.is.2) (IsBytes-drop (4 + width a.family) bytes are),
    )

pub name_fits : (there : Bool) (bytes : List ℕ) (v : Option (List ℕ)) (rest : List ℕ) → IsBytes bytes
    → IsName there bytes v rest → NameFits v × NameEnds v × IsBytes rest
name_fits false bytes None rest are is = (tt, tt, subst IsBytes (sym is.is) are)
name_fits false bytes (Some name) rest are is = absurd is.is
name_fits true bytes None rest are is = absurd is.is
name_fits true bytes (Some name) rest are is =
    let end : ℕ = name_len_in bytes in
    let inside : List ℕ = part bytes 1 end in
    let long : length inside ≡ end - 1 =
    length-part bytes 1 end (omega (arith, is.passes.1.0.0)) is.passes.1.1.0 in (
      omega (arith, ap (λ (l : List ℕ). length l) is.is.0, length-trimmed inside, long, is.passes.1.0.2),
      ap (λ (l : List ℕ). trimmed l) is.is.0 ∙ trimmed-trimmed inside ∙ sym is.is.0,
      subst IsBytes (sym is.is.1) (IsBytes-drop end bytes are),
    )
