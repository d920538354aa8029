-- The grammar of messages: what the bytes say where they pass the checks, one value at most, and none where a check
-- fails.
use Rattle.icmp4_wire.proofs.Words.{[], ◌∙◌, ◌∷◌, ◌≡◌, Ipv4Address, List, None, Reaches, Repr, Some, ℕ, ap, byte_of}
use Rattle.icmp4_wire.proofs.Words.{bytes_of, inl, inr, number-case_in, refl, subst, sym}
use Rattle.wirebase.specs.Ipv4.{octets_of}
use Rattle.icmp4_wire.specs.declared.igmp.refusal.Refusal.{Refusal}
use Rattle.icmp4_wire.specs.declared.igmp.tables.Message.{Message}
use Rattle.icmp4_wire.specs.Igmp.{message_number, type_field, code_field, group_field, type_in, address_of, group_in}
use Rattle.icmp4_wire.specs.Igmp.{IsGroup, value_of, IsMessage}
use Rattle.icmp4_wire.specs.IgmpRefusal.{IsRead, Refuses}

-- what says something is of a type that has a name
named : (bytes : List ℕ) (message : Message) (code : ℕ) (group : Ipv4Address) (r : Repr) (t : ℕ)
    → type_in bytes ≡ message → value_of message code group ≡ Some r → type_in bytes ≡ Message.Unknown t → ⊥
named bytes message code group r t kind says unknown =
    let never : None ≡ Some r = ap (λ (m : Message). value_of m code group) (sym unknown ∙ kind) ∙ says in cc

pub says_message : (bytes : List ℕ) (message : Message) (code : ℕ) (group : Ipv4Address) (r : Repr)
    → Reaches group_field bytes → type_in bytes ≡ message → byte_of code_field bytes ≡ code
    → octets_of group ≡ bytes_of group_field bytes → IsGroup group → value_of message code group ≡ Some r
    → IsMessage bytes r
says_message bytes message code group r whole kind code_is octets is says =
    let same : group ≡ group_in bytes = ap address_of octets in
    record {
      passes = (
        whole,
        (named bytes message code group r (byte_of type_field bytes) kind says, (subst IsGroup same is, tt)),
      );
      says = rw (kind, code_is, sym same) says;
    }

pub one_message : (bytes : List ℕ) (v w : Repr) → IsMessage bytes v → IsMessage bytes w → v ≡ w
one_message bytes v w a b = let same : Some v ≡ Some w = sym a.says ∙ b.says in cc

-- bytes that pass the checks say something
said : (message : Message) (code : ℕ) (group : Ipv4Address) → ((t : ℕ) → message ≡ Message.Unknown t → ⊥)
    → (r : Repr) × (value_of message code group ≡ Some r)
said Message.MembershipQuery code group named = (_, refl)
said Message.MembershipReportV1 code group named = (_, refl)
said Message.MembershipReportV2 code group named = (_, refl)
said Message.LeaveGroup code group named = (_, refl)
said (Message.Unknown t) code group named = absurd (named t refl)

-- a type without a name is the byte itself
pub unnamed : (bytes : List ℕ) (t : ℕ) → Message.Unknown t ≡ type_in bytes → byte_of type_field bytes ≡ t
unnamed bytes t e =
    sym (number-case_in message_number Message.Unknown (λ (n : ℕ). refl) (Message.MembershipQuery
    ∷ Message.MembershipReportV2 ∷ Message.LeaveGroup ∷ Message.MembershipReportV1 ∷ []) (byte_of type_field bytes))
    ∙ sym (ap message_number e)

-- what is read has the type of a message, and a group that one may have
pub read_named : (bytes : List ℕ) (r : Repr) (t : ℕ) → IsMessage bytes r → Message.Unknown t ≡ type_in bytes → ⊥
read_named bytes r t m unknown =
    named bytes (type_in bytes) (byte_of code_field bytes) (group_in bytes) r t refl m.says (sym unknown)

pub read_group : (bytes : List ℕ) (group : Ipv4Address) (r : Repr) → octets_of group ≡ bytes_of group_field bytes
    → IsMessage bytes r → IsGroup group
read_group bytes group r octets m = subst IsGroup (sym (ap address_of octets)) m.passes.1.1.0

-- the first check that fails in octets that are not read
pub unread_type : (bytes : List ℕ) (t : ℕ) → Reaches group_field bytes → Message.Unknown t ≡ type_in bytes
    → Refuses bytes (Refusal.UnknownType t)
unread_type bytes t whole e =
    let same : byte_of type_field bytes ≡ t = unnamed bytes t e in
    let kind : type_in bytes ≡ Message.Unknown (byte_of type_field bytes) = sym e ∙ ap Message.Unknown (sym same) in
    inr (whole, inl (λ differs. differs kind, ap Refusal.UnknownType (sym same)))

pub unread_group : (bytes : List ℕ) (group : Ipv4Address) → (IsRead bytes → ⊥) → Reaches group_field bytes
    → ((t : ℕ) → type_in bytes ≡ Message.Unknown t → ⊥) → octets_of group ≡ bytes_of group_field bytes
    → Refuses bytes (Refusal.Group group)
unread_group bytes group unread whole named octets =
    let read = said (type_in bytes) (byte_of code_field bytes) (group_in bytes) named in
    let refused : IsGroup (group_in bytes) → ⊥ = λ is.
    unread (read.0, record { passes = (whole, (named (byte_of type_field bytes), (is, tt))); says = read.1 }) in
    inr (whole, inr (named (byte_of type_field bytes), inl (refused, ap Refusal.Group (ap address_of octets))))

pub ruleset grammar = (says_message, one_message, read_named, read_group)

pub ruleset reasons = (unread_type)
