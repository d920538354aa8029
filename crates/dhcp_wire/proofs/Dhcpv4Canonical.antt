-- A value that was read is canonical: it can be written again.
use Rattle.dhcp_wire.proofs.Words.{[], ◌++◌, ◌+◌, ◌-◌, ◌<◌, ◌^◌, ◌∙◌, ◌∷◌, ◌≡◌, ◌≤◌, ◌⊎◌, AllShort, AreAdditional, Bool}
use Rattle.dhcp_wire.proofs.Words.{Ipv4Address, IsBelow, IsBytes, IsCanonical, IsFew, IsPacket, IsProper, List}
use Rattle.dhcp_wire.proofs.Words.{MessageType, None, Option, OptionValue, Options, Some, Value, ℕ, addresses_in, ap}
use Rattle.dhcp_wire.proofs.Words.{append-nil, arith, be16, be32, be8, big_from-lt, big_number, byte_of, case-read}
use Rattle.dhcp_wire.proofs.Words.{cond, drop, ended, eqb, ethernet_type, false, flat_map, goes_on, inl, inr, last_of}
use Rattle.dhcp_wire.proofs.Words.{length, length-append, length-take, lone, none, number_in, octets_of, of_slot}
use Rattle.dhcp_wire.proofs.Words.{of_slots, op_field, option, option_map, option_or, option_text, options_of}
use Rattle.dhcp_wire.proofs.Words.{options_text, padded, part, refl, said, servers_in, slice_index, slots_of, subst}
use Rattle.dhcp_wire.proofs.Words.{suc, sym, take, take-append-drop, text, text_len, torn, true, type_in, with_options}
use Rattle.wirebase.specs.Ethernet.{octets_of as ethernet_octets}
use Rattle.wirebase.proofs.ByteParts.{IsBytes-drop, IsBytes-front, IsBytes-rest}
use Rattle.dhcp_wire.specs.declared.dhcpv4.option_kinds.TheConstants.{OPT_DHCP_MESSAGE_TYPE, OPT_DOMAIN_NAME_SERVER}
use Rattle.dhcp_wire.specs.declared.dhcpv4.option_kinds.TheConstants.{OPT_IP_LEASE_TIME, OPT_MAX_DHCP_MESSAGE_SIZE}
use Rattle.dhcp_wire.specs.declared.dhcpv4.option_kinds.TheConstants.{OPT_PARAMETER_REQUEST_LIST}
use Rattle.dhcp_wire.specs.declared.dhcpv4.option_kinds.TheConstants.{OPT_REBINDING_TIME_VALUE, OPT_RENEWAL_TIME_VALUE}
use Rattle.dhcp_wire.specs.Dhcpv4Tables.{message_number, messages, message_of, message_rows}
use Rattle.dhcp_wire.proofs.Dhcpv4Data.{octets-len, be16-len, be32-len}
use Rattle.dhcp_wire.proofs.Dhcpv4Kept.{given-last, no-additional}
use Rattle.dhcp_wire.proofs.Dhcpv4Lengths.{text_len-options, text_len-whole}

-- ---- what holds of each option holds of the last

-- an option of bytes that one byte counts
abbrev IsSmall : OptionValue → Type 0
IsSmall o = IsBytes o.body × (length o.body ≤ 255)

abbrev AreSmall : List OptionValue → Type 0
AreSmall [] = Unit {0}
AreSmall (o ∷ os) = IsSmall o × AreSmall os

small-options : {bytes : List ℕ} {os : List OptionValue} → Options bytes os → IsBytes bytes → AreSmall os
small-options none are = tt
small-options (ended rest e) are = tt
small-options (padded rest tail e) are =
    small-options tail (IsBytes-rest (0 ∷ []) rest (subst (λ (l : List ℕ). IsBytes l) e are))
small-options (lone kind k e) are = tt
small-options (torn kind n rest k short e) are = tt
small-options (goes_on o rest k tail e) are =
    let moved : IsBytes (option_text o ++ rest) = subst (λ (l : List ℕ). IsBytes l) e are in
    let counted : length o.body < 256 = moved 1 in (
      (IsBytes-front o.body rest (λ i. moved (suc (suc i))), omega (arith, counted)),
      small-options tail (IsBytes-rest (option_text o) rest moved),
    )

last-or : {A : Type 0} (a b : Option A) (x : A) → option_or a b ≡ Some x → (a ≡ Some x) ⊎ (b ≡ Some x)
last-or None b x e = inr e
last-or (Some y) b x e = inl e

last-holds : {A : Type 0} (says : OptionValue → Option A) (Q : A → Type 0)
    → ((o : OptionValue) (x : A) → IsSmall o → says o ≡ Some x → Q x)
    → (os : List OptionValue) (x : A) → AreSmall os → last_of says os ≡ Some x → Q x
last-holds says Q each [] x h e = absurd (cc)
last-holds says Q each (o ∷ os) x h e = elim (last-or (last_of says os) (says o) x e) as (λ _. Q x) [
  | inl before ↦ last-holds says Q each os x h.1 before
  | inr here ↦ each o x h.0 here
]

where-true : {A : Type 0} (b : Bool) (y : Option A) (x : A) → cond b y None ≡ Some x → y ≡ Some x
where-true true y x e = e
where-true false y x e = absurd (cc)

number-some : (b : Bool) (d : List ℕ) (n x : ℕ) → option_map (big_number n) (cond b (Some d) None) ≡ Some x
    → big_number n d ≡ x
number-some true d n x e = cc
number-some false d n x e = absurd (cc)

-- ---- numbers

number-small : (kind n : ℕ) (o : OptionValue) (x : ℕ) → IsSmall o → said kind (number_in n) o ≡ Some x → x < 256 ^ n
number-small kind n o x small e =
    let one : number_in n o.body ≡ Some x = where-true (eqb o.kind kind) (number_in n o.body) x e in
    subst (λ (k : ℕ). k < 256 ^ n) (number-some (eqb (length o.body) n) o.body n x one) (big_from-lt 0 n o.body small.0)

number-below : (kind n : ℕ) (os : List OptionValue) (a : Option ℕ) → AreSmall os
    → a ≡ last_of (said kind (number_in n)) os → IsBelow (256 ^ n) a
number-below kind n os None h e = tt
number-below kind n os (Some x) h e =
    last-holds (said kind (number_in n)) (λ k. k < 256 ^ n) (number-small kind n) os x h (sym e)

part-small : (bytes : List ℕ) (i j n : ℕ) → IsBytes bytes → big_number n (part bytes i j) < 256 ^ n
unfolding part
part-small bytes i j n are =
    let tail : List ℕ = drop i bytes in
    let front : List ℕ = take (j - i) tail in
    big_from-lt 0 n front (IsBytes-front front (drop (j - i) tail)
    (subst (λ (l : List ℕ). IsBytes l) (sym (take-append-drop (j - i) tail)) (IsBytes-drop i bytes are)))

-- ---- lists

abbrev IsWithin : ℕ → Option (List ℕ) → Type 0
IsWithin most None = Unit {0}
IsWithin most (Some d) = length d ≤ most

list-small : (kind : ℕ) (o : OptionValue) (x : List ℕ) → IsSmall o → said kind Some o ≡ Some x → length x ≤ 255
list-small kind o x small e =
    let one : Some o.body ≡ Some x = where-true (eqb o.kind kind) (Some o.body) x e in
    let same : o.body ≡ x = cc in
    subst (λ (l : List ℕ). length l ≤ 255) same small.1

list-within : (kind : ℕ) (os : List OptionValue) (a : Option (List ℕ)) → AreSmall os → a ≡ last_of (said kind Some) os
    → IsWithin 255 a
list-within kind os None h e = tt
list-within kind os (Some d) h e =
    last-holds (said kind Some) (λ l. length l ≤ 255) (list-small kind) os d h (sym e)

servers-small : (o : OptionValue) (xs : List Ipv4Address) → IsSmall o
    → said OPT_DOMAIN_NAME_SERVER servers_in o ≡ Some xs → length xs ≤ 5
servers-small o xs small e =
    let first : List Ipv4Address = take 5 (addresses_in o.body) in
    let one : Some first ≡ Some xs = where-true (eqb o.kind OPT_DOMAIN_NAME_SERVER) (Some first) xs e in
    let same : first ≡ xs = cc in
    subst (λ (l : List Ipv4Address). length l ≤ 5) same
    (omega (arith, length-take 5 (addresses_in o.body)))

servers-few : (os : List OptionValue) (a : Option (List Ipv4Address)) → AreSmall os
    → a ≡ last_of (said OPT_DOMAIN_NAME_SERVER servers_in) os → IsFew a
servers-few os None h e = tt
servers-few os (Some xs) h e =
    last-holds (said OPT_DOMAIN_NAME_SERVER servers_in) (λ l. length l ≤ 5) servers-small os xs h (sym e)

servers-within : (a : Option (List Ipv4Address)) → IsFew a → IsWithin 20 (option_map (flat_map octets_of) a)
servers-within None h = tt
servers-within (Some xs) h = let few : length xs ≤ 5 = h in omega (arith, few, octets-len xs)

map-within : {A : Type 0} (f : A → List ℕ) (n : ℕ) → ((x : A) → length (f x) ≡ n) → (a : Option A)
    → IsWithin n (option_map f a)
map-within f n long None = tt
map-within f n long (Some x) = omega (arith, long x)

-- ---- the type of a message

is_unknown : MessageType → Bool
is_unknown (MessageType.Unknown n) = true
is_unknown _ = false

type-small : (op : ℕ) (o : OptionValue) (t : MessageType) → IsSmall o
    → said OPT_DHCP_MESSAGE_TYPE (type_in op) o ≡ Some t
    → IsProper MessageType.Unknown message_rows t
unfolding is_unknown
type-small op o t small e =
    let n : ℕ = slice_index o.body 0 in
    let one : type_in op o.body ≡ Some t = where-true (eqb o.kind OPT_DHCP_MESSAGE_TYPE) (type_in op o.body) t e in
    let two : Some (message_of n) ≡ Some t = where-true _ (Some (message_of n)) t one in
    let same : t ≡ message_of n = cc in
    (case-read message_number MessageType.Unknown (λ k. refl) is_unknown (λ k. refl) messages n refl same).0

-- ---- the options of the fields

-- none has too much data, and all take a given number of bytes at most
record Bounded (most : ℕ) (os : List OptionValue) : Type 0 where
  short : AllShort os
  len : length (options_text os) ≤ most

bounded-none : Bounded 0 []
unfolding options_text
bounded-none = record { short = tt; len = omega arith }

bounded-slot : (m n kind : ℕ) (body : Option (List ℕ)) (rest : List OptionValue) → m ≤ 255 → IsWithin m body
    → Bounded n rest → Bounded (2 + m + n) (of_slot kind body rest)
unfolding options_text
bounded-slot m n kind None rest small h b = let len = b.len in record { short = b.short; len = omega (arith, len) }
bounded-slot m n kind (Some d) rest small h b =
    let few : length d ≤ m = h in
    let len = b.len in
    record {
      short = (omega (arith, few, small), b.short);
      len = omega (arith, few, len, length-append (option_text (option kind d)) (options_text rest));
    }

be8-len : (n : ℕ) → length (be8 n) ≤ 1
unfolding be8
be8-len n = omega arith

bounded-slots : (v : Value) → IsWithin 255 v.parameter_request_list → IsFew v.dns_servers
    → Bounded 337 (of_slots (slots_of v))
bounded-slots v list few =
    bounded-slot 1 334 _ (Some (be8 (message_number v.message_type))) _ (omega arith) (be8-len
    (message_number v.message_type))
    (bounded-slot 7 325 _ _ _ (omega arith)
    (map-within (λ address. ethernet_type ∷ ethernet_octets address) 7 (λ x. refl) v.client_identifier)
    (bounded-slot 4 319 _ _ _ (omega arith) (map-within octets_of 4 (λ x. refl) v.server_identifier)
    (bounded-slot 4 313 _ _ _ (omega arith) (map-within octets_of 4 (λ x. refl) v.router)
    (bounded-slot 4 307 _ _ _ (omega arith) (map-within octets_of 4 (λ x. refl) v.subnet_mask)
    (bounded-slot 4 301 _ _ _ (omega arith) (map-within octets_of 4 (λ x. refl) v.requested_ip)
    (bounded-slot 2 297 _ _ _ (omega arith) (map-within be16 2 be16-len v.max_size)
    (bounded-slot 4 291 _ _ _ (omega arith) (map-within be32 4 be32-len v.lease_duration)
    (bounded-slot 4 285 _ _ _ (omega arith) (map-within be32 4 be32-len v.renew_duration)
    (bounded-slot 4 279 _ _ _ (omega arith) (map-within be32 4 be32-len v.rebind_duration)
    (bounded-slot 255 22 _ _ _ (omega arith) list
    (bounded-slot 20 0 _ _ _ (omega arith) (servers-within v.dns_servers few) bounded-none)))))))))))

text-bounded : (v : Value) → Bounded 337 (options_of v) → text_len v ≤ 65535
text-bounded v b =
    let len = b.len in
    let whole : length (text v) ≤ 65535 = omega (arith, len, text_len-options v) in
    subst (λ (n : ℕ). n ≤ 65535) (text_len-whole v) whole

-- ---- a value that was read

pub canonical-read : (bytes : List ℕ) (v : Value) → IsBytes bytes → IsPacket bytes v → IsCanonical v
unfolding with_options
canonical-read bytes v are p =
    let os : List OptionValue = p.options in
    let small : AreSmall os = small-options p.listed (IsBytes-drop 240 bytes are) in
    let none : v.additional_options ≡ [] = no-additional bytes v p in
    let few : IsFew v.dns_servers =
    servers-few os v.dns_servers small (given-last (ap (λ (w : Value). w.dns_servers) p.value)) in
    let list : IsWithin 255 v.parameter_request_list =
    list-within OPT_PARAMETER_REQUEST_LIST os v.parameter_request_list small
    (given-last (ap (λ (w : Value). w.parameter_request_list) p.value)) in
    let alone : of_slots (slots_of v) ≡ options_of v =
    sym (append-nil (of_slots (slots_of v)))
    ∙ ap (λ (more : List OptionValue). of_slots (slots_of v) ++ more) (sym none) in
    let all : Bounded 337 (options_of v) =
    subst (λ (l : List OptionValue). Bounded 337 l) alone (bounded-slots v list few) in
    record {
      whole = text-bounded v all;
      short = all.short;
      additional = subst (λ (more : List OptionValue). AreAdditional (slots_of v) more) (sym none) tt;
      message_type =
          last-holds (said OPT_DHCP_MESSAGE_TYPE (type_in (byte_of op_field bytes)))
          (λ t. IsProper MessageType.Unknown message_rows t) (type-small (byte_of op_field bytes)) os v.message_type
          small
          p.message_type;
      transaction_id =
          subst (λ (n : ℕ). n < 2 ^ 32) (sym (ap (λ (w : Value). w.transaction_id) p.value)) (part-small bytes 4 8 4
          are);
      secs = subst (λ (n : ℕ). n < 2 ^ 16) (sym (ap (λ (w : Value). w.secs) p.value)) (part-small bytes 8 10 2 are);
      dns_servers = few;
      max_size =
          number-below OPT_MAX_DHCP_MESSAGE_SIZE 2 os v.max_size small
          (given-last (ap (λ (w : Value). w.max_size) p.value));
      lease_duration =
          number-below OPT_IP_LEASE_TIME 4 os v.lease_duration small
          (given-last (ap (λ (w : Value). w.lease_duration) p.value));
      renew_duration =
          number-below OPT_RENEWAL_TIME_VALUE 4 os v.renew_duration small
          (given-last (ap (λ (w : Value). w.renew_duration) p.value));
      rebind_duration =
          number-below OPT_REBINDING_TIME_VALUE 4 os v.rebind_duration small
          (given-last (ap (λ (w : Value). w.rebind_duration) p.value));
    }
