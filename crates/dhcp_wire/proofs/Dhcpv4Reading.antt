-- What was written is read back: the options of a text, and the last option of each kind.
use Rattle.dhcp_wire.proofs.Words.{[], ◌&&◌, ◌++◌, ◌==◌, ◌^◌, ◌∙◌, ◌∷◌, ◌≡◌, ◌≢◌, AreAdditional, AreOfEthernet, Bool}
use Rattle.dhcp_wire.proofs.Words.{HasHeader, Ipv4Address, IsBelow, IsCanonical, IsFew, IsKind, IsOfEthernet, IsOther}
use Rattle.dhcp_wire.proofs.Words.{IsPacket, IsProper, List, MessageType, None, Option, OptionValue, Options, Slot}
use Rattle.dhcp_wire.proofs.Words.{Some, Value, ℕ, address_in, addresses_in, ap, append_assoc, arith, be16, be32, be8}
use Rattle.dhcp_wire.proofs.Words.{big_bytes, big_number, big_number-reads_back, byte_of, case_in-unnamed, cases_eq}
use Rattle.dhcp_wire.proofs.Words.{cond, drop, drop_at, ended, eqb, ethernet_type, false, fields, fixed_value, flags_of}
use Rattle.dhcp_wire.proofs.Words.{flat_map, flat_map-cons, goes_on, has_broadcast, header_text, identifier_in}
use Rattle.dhcp_wire.proofs.Words.{if◌then◌else◌, inl, inr, last_of, length-append, ne_eqb, norm, number_in, octets_of}
use Rattle.dhcp_wire.proofs.Words.{of_slot, of_slots, op_field, option, option_map, option_or, option_text, options_of}
use Rattle.dhcp_wire.proofs.Words.{options_text, or-assoc, or-none, part, refl, said, servers_in, slots_of, subst, sym}
use Rattle.dhcp_wire.proofs.Words.{take, take_all, true, type_among, type_in, with_options}
use Rattle.wirebase.specs.Ethernet.{Ethernet, octets_of as ethernet_octets}
use Rattle.dhcp_wire.specs.declared.dhcpv4.option_kinds.TheConstants.{OPT_CLIENT_ID, OPT_DHCP_MESSAGE_TYPE}
use Rattle.dhcp_wire.specs.declared.dhcpv4.option_kinds.TheConstants.{OPT_DOMAIN_NAME_SERVER, OPT_IP_LEASE_TIME}
use Rattle.dhcp_wire.specs.declared.dhcpv4.option_kinds.TheConstants.{OPT_MAX_DHCP_MESSAGE_SIZE, OPT_REQUESTED_IP}
use Rattle.dhcp_wire.specs.declared.dhcpv4.option_kinds.TheConstants.{OPT_PARAMETER_REQUEST_LIST, OPT_ROUTER}
use Rattle.dhcp_wire.specs.declared.dhcpv4.option_kinds.TheConstants.{OPT_REBINDING_TIME_VALUE, OPT_SUBNET_MASK}
use Rattle.dhcp_wire.specs.declared.dhcpv4.option_kinds.TheConstants.{OPT_RENEWAL_TIME_VALUE, OPT_SERVER_IDENTIFIER}
use Rattle.dhcp_wire.specs.Dhcpv4Tables.{opcode_number, operation_of, message_number, message_rows}
use Rattle.dhcp_wire.proofs.Dhcpv4Packet.{header_len-240}
use Rattle.dhcp_wire.proofs.Dhcpv4Writing.{both}

-- ---- the options of a text

abbrev AreKinds : List OptionValue → Type 0
AreKinds [] = Unit {0}
AreKinds (o ∷ os) = IsKind o.kind × AreKinds os

listed : (os : List OptionValue) (rest : List ℕ) → AreKinds os → Options (options_text os ++ 255 ∷ rest) os
unfolding options_text
listed [] rest h = ended rest refl
listed (o ∷ os) rest h =
    goes_on o (options_text os ++ 255 ∷ rest) h.0 (listed os rest h.1)
    (append_assoc (option_text o) (options_text os) (255 ∷ rest))

kinds-append : (xs ys : List OptionValue) → AreKinds xs → AreKinds ys → AreKinds (xs ++ ys)
kinds-append [] ys a b = b
kinds-append (o ∷ xs) ys a b = (a.0, kinds-append xs ys a.1 b)

is_kind : ℕ → Bool
is_kind kind = if kind == 0 then false else if kind == 255 then false else true

kind-of : (kind : ℕ) → is_kind kind ≡ true → IsKind kind
unfolding is_kind
kind-of kind h = record {
  no_padding = λ e. let never : false ≡ true = subst (λ (k : ℕ). is_kind k ≡ true) e h in cc;
  no_end = λ e. let never : false ≡ true = subst (λ (k : ℕ). is_kind k ≡ true) e h in cc;
}

-- whether all kinds of the fields' options are such
abbrev all_kinds : (ℕ → Bool) → List Slot → Bool
all_kinds is [] = true
all_kinds is (s ∷ ss) = is s.kind && all_kinds is ss

kinds-slot : (kind : ℕ) (body : Option (List ℕ)) (rest : List OptionValue) → IsKind kind → AreKinds rest
    → AreKinds (of_slot kind body rest)
kinds-slot kind None rest k h = h
kinds-slot kind (Some d) rest k h = (k, h)

kinds-slots : (ss : List Slot) → all_kinds is_kind ss ≡ true → AreKinds (of_slots ss)
kinds-slots [] h = tt
kinds-slots (s ∷ ss) h =
    let each = both (is_kind s.kind) (all_kinds is_kind ss) h in
    kinds-slot s.kind s.body (of_slots ss) (kind-of s.kind each.0) (kinds-slots ss each.1)

kinds-fields : (v : Value) → AreKinds (of_slots (slots_of v))
unfolding is_kind
kinds-fields v = kinds-slots (slots_of v) refl

kinds-additional : (slots : List Slot) (os : List OptionValue) → AreAdditional slots os → AreKinds os
kinds-additional slots [] h = tt
kinds-additional slots (o ∷ os) h = (kind-other slots o.kind h.0, kinds-additional slots os h.1)
  where
    kind-other : (slots : List Slot) (kind : ℕ) → IsOther slots kind → IsKind kind
    kind-other [] kind h = h
    kind-other (s ∷ ss) kind h = kind-other ss kind h.1

-- ---- client identifiers

ethernet-append : (xs ys : List OptionValue) → AreOfEthernet xs → AreOfEthernet ys → AreOfEthernet (xs ++ ys)
ethernet-append [] ys a b = b
ethernet-append (o ∷ xs) ys a b = (a.0, ethernet-append xs ys a.1 b)

is_no_identifier : ℕ → Bool
is_no_identifier kind = if kind == OPT_CLIENT_ID then false else true

no-identifier : (kind : ℕ) (d : List ℕ) → is_no_identifier kind ≡ true → IsOfEthernet (option kind d)
unfolding is_no_identifier
no-identifier kind d h =
    λ is _. let never : false ≡ true = subst (λ (k : ℕ). is_no_identifier k ≡ true) is h in absurd (cc)

ethernet-slot : (kind : ℕ) (body : Option (List ℕ)) (rest : List OptionValue) → is_no_identifier kind ≡ true
    → AreOfEthernet rest → AreOfEthernet (of_slot kind body rest)
ethernet-slot kind None rest e h = h
ethernet-slot kind (Some d) rest e h = (no-identifier kind d e, h)

ethernet-slots : (ss : List Slot) → all_kinds is_no_identifier ss ≡ true → AreOfEthernet (of_slots ss)
ethernet-slots [] h = tt
ethernet-slots (s ∷ ss) h =
    let each = both (is_no_identifier s.kind) (all_kinds is_no_identifier ss) h in
    ethernet-slot s.kind s.body (of_slots ss) each.0 (ethernet-slots ss each.1)

ethernet-own : (address : Option Ethernet) (rest : List OptionValue) → AreOfEthernet rest
    → AreOfEthernet (of_slot OPT_CLIENT_ID (option_map (λ a. ethernet_type ∷ ethernet_octets a) address) rest)
ethernet-own None rest h = h
ethernet-own (Some a) rest h = (λ _ _. refl, h)

ethernet-fields : (v : Value) → AreOfEthernet (of_slots (slots_of v))
unfolding is_no_identifier
ethernet-fields v = (
  no-identifier OPT_DHCP_MESSAGE_TYPE (be8 (message_number v.message_type)) refl,
  ethernet-own v.client_identifier (of_slots (drop 2 (slots_of v))) (ethernet-slots (drop 2 (slots_of v)) refl),
)

-- a kind that some field has
abbrev has_kind : ℕ → List Slot → Bool
has_kind kind [] = false
has_kind kind (s ∷ ss) = if s.kind == kind then true else has_kind kind ss

other-kind : (kind : ℕ) (slots : List Slot) → has_kind kind slots ≡ true → (k : ℕ) → IsOther slots k → k ≢ kind
other-kind kind [] has k other is = absurd (cc)
other-kind kind (s ∷ ss) has k other is = elim (cases_eq s.kind kind) as (λ _. ⊥) [
  | inl same ↦ other.0 (is ∙ sym same)
  | inr differs ↦
      let here : eqb s.kind kind ≡ false = ne_eqb s.kind kind differs in
      other-kind kind ss (sym (ap (λ (b : Bool). cond b true (has_kind kind ss)) here) ∙ has) k other.1 is
]

ethernet-additional : (v : Value) (os : List OptionValue) → AreAdditional (slots_of v) os → AreOfEthernet os
ethernet-additional v [] h = tt
ethernet-additional v (o ∷ os) h = (
  λ is _. absurd (other-kind OPT_CLIENT_ID (slots_of v) refl o.kind h.0 is),
  ethernet-additional v os h.1,
)

-- ---- the last option of each kind

last-append : {A : Type 0} (says : OptionValue → Option A) (xs ys : List OptionValue)
    → last_of says (xs ++ ys) ≡ option_or (last_of says ys) (last_of says xs)
last-append says [] ys = sym (or-none (last_of says ys))
last-append says (o ∷ xs) ys =
    ap (λ a. option_or a (says o)) (last-append says xs ys)
    ∙ sym (or-assoc (last_of says ys) (last_of says xs) (says o))

abbrev AreNot : ℕ → List OptionValue → Type 0
AreNot kind [] = Unit {0}
AreNot kind (o ∷ os) = (eqb o.kind kind ≡ false) × AreNot kind os

are_not : (kind : ℕ) (slots : List Slot) → has_kind kind slots ≡ true → (os : List OptionValue)
    → AreAdditional slots os → AreNot kind os
are_not kind slots has [] h = tt
are_not kind slots has (o ∷ os) h =
    (ne_eqb o.kind kind (other-kind kind slots has o.kind h.0), are_not kind slots has os h.1)

silent : {A : Type 0} (kind : ℕ) (says : List ℕ → Option A) (os : List OptionValue) → AreNot kind os
    → last_of (said kind says) os ≡ None
silent kind says [] h = refl
silent kind says (o ∷ os) h =
    ap (λ a. option_or a (said kind says o)) (silent kind says os h.1)
    ∙ ap (λ (b : Bool). cond b (says o.body) None) h.0

abbrev said_of : {A : Type 0} → (List ℕ → Option A) → Option (List ℕ) → Option A
said_of says None = None
said_of says (Some d) = says d

abbrev one_more : {A : Type 0} → (List ℕ → Option A) → Bool → Option (List ℕ) → Option A → Option A
one_more says true body last = option_or last (said_of says body)
one_more says false body last = last

no-more : {A : Type 0} (says : List ℕ → Option A) (b : Bool) (last : Option A) → last ≡ one_more says b None last
no-more says true last = sym (or-none last)
no-more says false last = refl

some-more : {A : Type 0} (says : List ℕ → Option A) (b : Bool) (d : List ℕ) (last : Option A)
    → option_or last (cond b (says d) None) ≡ one_more says b (Some d) last
some-more says true d last = refl
some-more says false d last = or-none last

last-slot : {A : Type 0} (kind : ℕ) (says : List ℕ → Option A) (k : ℕ) (body : Option (List ℕ))
    (rest : List OptionValue)
    → last_of (said kind says) (of_slot k body rest) ≡ one_more says (eqb k kind) body (last_of (said kind says) rest)
last-slot kind says k None rest = no-more says (eqb k kind) (last_of (said kind says) rest)
last-slot kind says k (Some d) rest = some-more says (eqb k kind) d (last_of (said kind says) rest)

abbrev in_slots : {A : Type 0} → ℕ → (List ℕ → Option A) → List Slot → Option A
in_slots kind says [] = None
in_slots kind says (s ∷ ss) = one_more says (eqb s.kind kind) s.body (in_slots kind says ss)

last-slots : {A : Type 0} (kind : ℕ) (says : List ℕ → Option A) (ss : List Slot)
    → last_of (said kind says) (of_slots ss) ≡ in_slots kind says ss
last-slots kind says [] = refl
last-slots kind says (s ∷ ss) =
    last-slot kind says s.kind s.body (of_slots ss)
    ∙ ap (λ last. one_more says (eqb s.kind kind) s.body last) (last-slots kind says ss)

-- of all options of a value, only those of its fields give a field
last-options : {A : Type 0} (kind : ℕ) (says : List ℕ → Option A) (v : Value)
    → has_kind kind (slots_of v) ≡ true → AreAdditional (slots_of v) v.additional_options
    → last_of (said kind says) (options_of v) ≡ in_slots kind says (slots_of v)
last-options kind says v has h =
    last-append (said kind says) (of_slots (slots_of v)) v.additional_options
    ∙ ap (λ a. option_or a (last_of (said kind says) (of_slots (slots_of v))))
    (silent kind says v.additional_options (are_not kind (slots_of v) has v.additional_options h))
    ∙ last-slots kind says (slots_of v)

back : {A : Type 0} (kind : ℕ) (says : List ℕ → Option A) (v : Value) → AreAdditional (slots_of v) v.additional_options
    → has_kind kind (slots_of v) ≡ true
    → in_slots kind says (slots_of v) ≡ option_or (last_of (said kind says) (options_of v)) None
back kind says v h has = sym (last-options kind says v has h) ∙ sym (or-none (last_of (said kind says) (options_of v)))

-- ---- what each of them gives

address-back : (a : Option Ipv4Address) → a ≡ said_of address_in (option_map octets_of a)
address-back None = refl
address-back (Some a) = refl

identifier-back : (a : Option Ethernet)
    → a ≡ said_of identifier_in (option_map (λ address. ethernet_type ∷ ethernet_octets address) a)
identifier-back None = refl
identifier-back (Some a) = refl

size-back : (n : Option ℕ) → IsBelow (2 ^ 16) n → n ≡ said_of (number_in 2) (option_map be16 n)
unfolding be16
size-back None h = refl
size-back (Some n) h = ap Some (sym (big_number-reads_back 2 n [] h))

seconds-back : (n : Option ℕ) → IsBelow (2 ^ 32) n → n ≡ said_of (number_in 4) (option_map be32 n)
unfolding be32
seconds-back None h = refl
seconds-back (Some n) h = ap Some (sym (big_number-reads_back 4 n [] h))

list-back : (d : Option (List ℕ)) → d ≡ said_of Some d
list-back None = refl
list-back (Some d) = refl

all-addresses : (xs : List Ipv4Address) → addresses_in (flat_map octets_of xs) ≡ xs
unfolding addresses_in
all-addresses [] = refl
all-addresses (x ∷ xs) =
    ap (λ (l : List ℕ). addresses_in l) (flat_map-cons octets_of x xs)
    ∙ ap (λ (l : List Ipv4Address). x ∷ l) (all-addresses xs)

servers-back : (l : Option (List Ipv4Address)) → IsFew l
    → l ≡ said_of servers_in (option_map (flat_map octets_of) l)
servers-back None h = refl
servers-back (Some xs) h =
    ap Some (sym (ap (λ (l : List Ipv4Address). take 5 l) (all-addresses xs) ∙ take_all 5 xs h))

type-back : (t : MessageType) → IsProper MessageType.Unknown message_rows t
    → type_in (opcode_number (operation_of t)) (be8 (message_number t)) ≡ Some t
unfolding be8
type-back MessageType.Discover h = refl
type-back MessageType.Offer h = refl
type-back MessageType.Request h = refl
type-back MessageType.Decline h = refl
type-back MessageType.Ack h = refl
type-back MessageType.Nak h = refl
type-back MessageType.Release h = refl
type-back MessageType.Inform h = refl
type-back (MessageType.Unknown n) h =
    ap (λ (t : MessageType). cond (eqb (opcode_number (operation_of t)) 0) (Some t) None)
    (case_in-unnamed MessageType.Unknown message_rows n (h n refl))

-- ---- the header

flag-back : (b : Bool) → b ≡ has_broadcast (big_number 2 (big_bytes 2 (flags_of b)))
flag-back true = refl
flag-back false = refl

header-back : (v : Value) (more : List ℕ) → HasHeader (header_text v ++ more)
unfolding header_text fields be8 be16 be32 part
header-back v more =
    (omega (arith, length-append (header_text v) more, header_len-240 v), (refl, (refl, (refl, tt))))

operation-back : (v : Value) (more : List ℕ)
    → byte_of op_field (header_text v ++ more) ≡ opcode_number (operation_of v.message_type)
unfolding header_text fields be8 part
operation-back v more = refl

-- the fixed part, and each field by the last option that gives it
value-back : (v : Value) (more : List ℕ) → IsCanonical v
    → norm v ≡ with_options (options_of v) (fixed_value (header_text v ++ more) v.message_type)
unfolding header_text fields be8 be16 be32 part with_options
value-back v text c =
    let more = c.additional in
    λ i. record {
      message_type = v.message_type;
      transaction_id = sym (big_number-reads_back 4 v.transaction_id [] c.transaction_id) i;
      secs = sym (big_number-reads_back 2 v.secs [] c.secs) i;
      client_hardware_address = v.client_hardware_address;
      client_ip = v.client_ip;
      your_ip = v.your_ip;
      server_ip = v.server_ip;
      router = (address-back v.router ∙ back OPT_ROUTER address_in v more refl) i;
      subnet_mask = (address-back v.subnet_mask ∙ back OPT_SUBNET_MASK address_in v more refl) i;
      relay_agent_ip = v.relay_agent_ip;
      broadcast = flag-back v.broadcast i;
      requested_ip = (address-back v.requested_ip ∙ back OPT_REQUESTED_IP address_in v more refl) i;
      client_identifier = (identifier-back v.client_identifier ∙ back OPT_CLIENT_ID identifier_in v more refl) i;
      server_identifier = (address-back v.server_identifier ∙ back OPT_SERVER_IDENTIFIER address_in v more refl) i;
      parameter_request_list =
          (list-back v.parameter_request_list ∙ back OPT_PARAMETER_REQUEST_LIST Some v more refl) i;
      dns_servers =
          (servers-back v.dns_servers c.dns_servers ∙ back OPT_DOMAIN_NAME_SERVER servers_in v more refl) i;
      max_size = (size-back v.max_size c.max_size ∙ back OPT_MAX_DHCP_MESSAGE_SIZE (number_in 2) v more refl) i;
      lease_duration =
          (seconds-back v.lease_duration c.lease_duration ∙ back OPT_IP_LEASE_TIME (number_in 4) v more refl) i;
      renew_duration =
          (seconds-back v.renew_duration c.renew_duration ∙ back OPT_RENEWAL_TIME_VALUE (number_in 4) v more refl) i;
      rebind_duration =
          (seconds-back v.rebind_duration c.rebind_duration
          ∙ back OPT_REBINDING_TIME_VALUE (number_in 4) v more refl) i;
      additional_options = [];
    }

-- ---- a packet

pub packet-read : (v : Value) (rest : List ℕ) → IsCanonical v
    → IsPacket (header_text v ++ (options_text (options_of v) ++ 255 ∷ rest)) (norm v)
packet-read v rest c =
    let os : List OptionValue = options_of v in
    let more : List ℕ = options_text os ++ 255 ∷ rest in
    let kinds = kinds-append (of_slots (slots_of v)) v.additional_options (kinds-fields v)
    (kinds-additional (slots_of v) v.additional_options c.additional) in
    let behind : drop 240 (header_text v ++ more) ≡ more = drop_at (header_text v) more 240 (header_len-240 v) in
    record {
      options = os;
      header = header-back v more;
      listed = subst (λ (l : List ℕ). Options l os) (sym behind) (listed os rest kinds);
      identifiers =
          ethernet-append (of_slots (slots_of v)) v.additional_options (ethernet-fields v)
          (ethernet-additional v v.additional_options c.additional);
      message_type =
          ap (λ (op : ℕ). type_among op os) (operation-back v more)
          ∙ last-options OPT_DHCP_MESSAGE_TYPE (type_in (opcode_number (operation_of v.message_type))) v refl
          c.additional
          ∙ type-back v.message_type c.message_type;
      value = value-back v more c;
    }
