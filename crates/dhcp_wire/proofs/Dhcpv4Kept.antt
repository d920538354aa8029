-- What the options of a packet give, one after another; and bytes have one value.
use Rattle.dhcp_wire.proofs.Words.{[], ◌∙◌, ◌∷◌, ◌≡◌, AreOfEthernet, HasHeader, IsPacket, List, MessageType, None}
use Rattle.dhcp_wire.proofs.Words.{Option, OptionValue, Some, Value, ℕ, ap, byte_of, fixed_value, given, last_of}
use Rattle.dhcp_wire.proofs.Words.{list_of, op_field, option_or, options_in, or-assoc, or-none, refl, said, subst, sym}
use Rattle.dhcp_wire.proofs.Words.{type_among, with_options}
use Rattle.wirebase.proofs.Numbered.{number-case_in}
use Rattle.dhcp_wire.specs.declared.dhcpv4.tables.OpCode.{OpCode}
use Rattle.dhcp_wire.specs.Dhcpv4Tables.{opcode_number, opcode_of}
use Rattle.dhcp_wire.proofs.Dhcpv4Lists.{list-options, options-unique}

-- ---- addresses by their octets

-- ---- the options of a list, one after another

pub with-none : (v : Value) → with_options [] v ≡ v
unfolding with_options
with-none v = refl

pub with-more : (o : OptionValue) (os : List OptionValue) (v : Value)
    → with_options (o ∷ os) v ≡ with_options os (with_options (o ∷ []) v)
unfolding with_options
with-more o os v =
    λ i. given (λ A kind says field. sym (or-assoc (last_of (said kind says) os) (said kind says o) field) i) v

-- what the last option gives, where there was nothing before
pub given-last : {A : Type 0} {a last : Option A} → a ≡ option_or last None → a ≡ last
given-last {last} e = e ∙ or-none last

-- ---- a packet is what was made of it

with-type : (bytes : List ℕ) (os : List OptionValue) (t u : MessageType)
    → record (with_options os (fixed_value bytes u)) { message_type = t } ≡ with_options os (fixed_value bytes t)
unfolding with_options
with-type bytes os t u = refl

pub packet-made : (bytes : List ℕ) (t : MessageType) (v fixed : Value) → HasHeader bytes
    → AreOfEthernet (list_of (options_in bytes))
    → type_among (byte_of op_field bytes) (list_of (options_in bytes)) ≡ Some t
    → fixed ≡ fixed_value bytes fixed.message_type → v ≡ with_options (list_of (options_in bytes)) fixed
    → IsPacket bytes (record v { message_type = t })
packet-made bytes t v fixed header good typed is with =
    let os : List OptionValue = list_of (options_in bytes) in
    record {
      options = os;
      header = header;
      listed = list-options (options_in bytes);
      identifiers = good;
      message_type = typed;
      value = ap (λ (w : Value). record w { message_type = t }) (with ∙ ap (λ (w : Value). with_options os w) is)
          ∙ with-type bytes os t fixed.message_type;
    }

pub no-additional : (bytes : List ℕ) (v : Value) → IsPacket bytes v → v.additional_options ≡ []
unfolding with_options
no-additional bytes v p = ap (λ (w : Value). w.additional_options) p.value

-- the options of a packet are those of the list
pub same_options : (bytes : List ℕ) (v : Value) (p : IsPacket bytes v) → p.options ≡ list_of (options_in bytes)
same_options bytes v p =
    options-unique (options_in bytes) (list_of (options_in bytes)) p.options (list-options (options_in bytes)) p.listed

pub good_options : (bytes : List ℕ) (v : Value) → IsPacket bytes v → AreOfEthernet (list_of (options_in bytes))
good_options bytes v p = subst (λ (os : List OptionValue). AreOfEthernet os) (same_options bytes v p) p.identifiers

pub packet-typed : (bytes : List ℕ) (v : Value) → IsPacket bytes v
    → type_among (byte_of op_field bytes) (list_of (options_in bytes)) ≡ Some v.message_type
packet-typed bytes v p =
    ap (λ (os : List OptionValue). type_among (byte_of op_field bytes) os) (sym (same_options bytes v p))
    ∙ p.message_type

pub packet-unique : (bytes : List ℕ) (v w : Value) → IsPacket bytes v → IsPacket bytes w → v ≡ w
packet-unique bytes v w p q =
    let os : p.options ≡ q.options = same_options bytes v p ∙ sym (same_options bytes w q) in
    let some : Some v.message_type ≡ Some w.message_type =
    sym (packet-typed bytes v p) ∙ packet-typed bytes w q in
    let typed : v.message_type ≡ w.message_type = cc in
    p.value ∙ ap (λ (l : List OptionValue). with_options l (fixed_value bytes v.message_type)) os
    ∙ ap (λ (t : MessageType). with_options q.options (fixed_value bytes t)) typed ∙ sym q.value

-- ---- the operation of a packet

pub opcode_back : (n : ℕ) → opcode_number (opcode_of n) ≡ n
opcode_back n = number-case_in opcode_number OpCode.Unknown (λ k. refl) (OpCode.Request ∷ OpCode.Reply ∷ []) n
