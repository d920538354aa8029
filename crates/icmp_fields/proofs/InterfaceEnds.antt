-- Where the parts end that are read of an interface.
use Rattle.std.proofs.Common.{◌∙◌, ◌≡◌, ◌+◌, ◌≤◌, Bool, List, None, Option, Some, ap, arith, drop, drop-drop, false}
use Rattle.std.proofs.Common.{length, length-drop, subst, sym, true, ℕ}
use Rattle.extension_wire.specs.Interface.{InterfaceValue, IsInformation}
use Rattle.extension_wire.specs.InterfaceParts.{AddressValue, IsAddress, IsName, IsNumber, address_len, number_len}
use Rattle.icmp_fields.specs.private.Names.{HasName, behind_name}

-- a number, an address and a name are there, and this follows them
number_ends : (there : Bool) (bytes : List ℕ) (v : Option ℕ) (rest : List ℕ) → IsNumber there bytes v rest
    → (number_len v ≤ length bytes) × (rest ≡ drop (number_len v) bytes)
number_ends false bytes None rest read = (omega arith, read.is)
number_ends false bytes (Some n) rest read = absurd read.is
number_ends true bytes None rest read = absurd read.is
number_ends true bytes (Some n) rest read = (read.passes.0, read.is.1)

address_ends : (there : Bool) (bytes : List ℕ) (v : Option AddressValue) (rest : List ℕ)
    → IsAddress there bytes v rest → (address_len v ≤ length bytes) × (rest ≡ drop (address_len v) bytes)
address_ends false bytes None rest read = (omega arith, read.is)
address_ends false bytes (Some a) rest read = absurd read.is
address_ends true bytes None rest read = absurd read.is
address_ends true bytes (Some a) rest read =
    let whole = rw read.is.0 at read.passes.1 in (whole.0, read.is.2)

name_ends : (there : Bool) (bytes : List ℕ) (v : Option (List ℕ)) (rest : List ℕ) → IsName there bytes v rest
    → HasName v bytes × (rest ≡ behind_name v bytes)
name_ends false bytes None rest read = (tt, read.is)
name_ends false bytes (Some name) rest read = absurd read.is
name_ends true bytes None rest read = absurd read.is
name_ends true bytes (Some name) rest read = ((read.passes.0, read.passes.1.1.0), read.is.1)

-- What the object has behind its parts begins behind these, of which the first two are of so many octets.
pub record Ends (c : ℕ) (bytes : List ℕ) (v : InterfaceValue) (is : IsInformation c bytes v) (n : ℕ) : Type 0 where
  pub fits : n ≤ length bytes
  pub name : HasName v.name (drop n bytes)
  pub mtu : number_len v.mtu ≤ length (behind_name v.name (drop n bytes))
  pub rest : drop (number_len v.mtu) (behind_name v.name (drop n bytes)) ≡ is.behind_mtu

pub parts_end : (c : ℕ) (bytes : List ℕ) (v : InterfaceValue) (is : IsInformation c bytes v) (n : ℕ)
    → n ≡ number_len v.index + address_len v.address → Ends c bytes v is n
parts_end c bytes v is n front =
    let index = number_ends _ _ _ _ is.index_is in
    let address = address_ends _ _ _ _ is.address_is in
    let name = name_ends _ _ _ _ is.name_is in
    let mtu = number_ends _ _ _ _ is.mtu_is in
    let at : is.behind_address ≡ drop n bytes =
    address.1 ∙ ap (λ (bs : List ℕ). drop (address_len v.address) bs) index.1
    ∙ drop-drop (address_len v.address) (number_len v.index) bytes ∙ ap (λ (k : ℕ). drop k bytes) (sym front) in
    let behind : is.behind_name ≡ behind_name v.name (drop n bytes) =
    name.1 ∙ ap (λ (bs : List ℕ). behind_name v.name bs) at in
    let room : address_len v.address ≤ length (drop (number_len v.index) bytes) =
    subst (λ (bs : List ℕ). address_len v.address ≤ length bs) index.1 address.0 in
    record {
      fits = omega (arith, front, index.0, room, length-drop (number_len v.index) bytes);
      name = subst (HasName v.name) at name.0;
      mtu = subst (λ (bs : List ℕ). number_len v.mtu ≤ length bs) behind mtu.0;
      rest = sym (mtu.1 ∙ ap (λ (bs : List ℕ). drop (number_len v.mtu) bs) behind);
    }
