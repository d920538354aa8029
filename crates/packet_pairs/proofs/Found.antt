-- What a message is found to be.
use Rattle.std.proofs.Common.{◌≡◌, ◌≢◌, ◌∙◌, [], ◌∷◌, List, None, Option, Some, ap, arith, false, get_or, inl, inr}
use Rattle.std.proofs.Common.{length, refl}
use Rattle.std.proofs.Common.{slice_index, subst, sym, ℕ}
use Rattle.wirebase.specs.Bytes.{Reaches, number_of}
use Rattle.dhcp_wire.specs.Dhcpv4Packet.{magic_cookie, magic_field}
use Rattle.dhcp_wire.specs.Dhcpv4Tables.{message_of}
use Rattle.dhcp_wire.specs.declared.dhcpv4.tables.MessageType.{MessageType}
use Rattle.dhcp_options.specs.Joined.{octets_of}
use Rattle.dhcp_options.specs.Parts.{Answer, ArePartsOf}
use Rattle.packet_pairs.specs.Echo.{IsEcho6}
use Rattle.packet_pairs.specs.Exchange.{ExchangeValue, Finds}
use Rattle.packet_pairs.specs.Lease.{HasType, IsLease, IsTyped, type_option}
use Rattle.packet_pairs.specs.Message.{IsIcmp6, IsOf}
use Rattle.packet_pairs.specs.Names.{IsName}
use Rattle.packet_pairs.specs.Neighbor.{IsNeighbor}
use Rattle.packet_pairs.specs.Types.{Addresses, Ipv6Address, Service, Way}

-- no echo, so it is what is found of neighbors
pub no_echo : (source destination : Ipv6Address) (bytes : List ℕ) (found : Option ExchangeValue)
    → Finds (IsEcho6 (Addresses.V6 source destination) bytes) None → Finds (IsNeighbor source destination bytes) found
    → Finds (IsIcmp6 source destination bytes) found
no_echo source destination bytes None echo neighbor = λ e h. elim h [ inl p ↦ echo e p | inr q ↦ neighbor e q ]
no_echo source destination bytes (Some e) echo neighbor = inr neighbor

-- what is found of a service that is neither DHCP nor the NetBIOS name service
pub of_name : (service : Service) (w : Way) (bytes : List ℕ) (found : Option ExchangeValue)
    → service ≢ Service.Dhcp → service ≢ Service.Nbns → Finds (IsName service false w bytes) found
    → Finds (IsOf service w bytes) found
of_name Service.Dns w bytes found no_lease no_node h = h
of_name Service.Mdns w bytes found no_lease no_node h = h
of_name Service.Llmnr w bytes found no_lease no_node h = h
of_name Service.Nbns w bytes found no_lease no_node h = absurd (no_node refl)
of_name Service.Dhcp w bytes found no_lease no_node h = absurd (no_lease refl)

-- ---- the type of a message of DHCP

-- the first of the parts is another than one octet
pub not_one : (parts left : List (List ℕ)) (first : List ℕ) → parts ≡ first ∷ left → length first ≢ 1
    → (n : ℕ) (more : List (List ℕ)) → parts ≡ (n ∷ []) ∷ more → ⊥
not_one parts left first e other n more f =
    other (ap length (ap (λ (l : List (List ℕ)). get_or l 0 []) (sym e ∙ f)))

pub no_type : (bytes : List ℕ) (answers : List Answer)
    → ((others : List Answer) → ArePartsOf bytes others → others ≡ answers)
    → ((n : ℕ) (more : List (List ℕ)) → octets_of type_option answers ≡ (n ∷ []) ∷ more → ⊥) → (kind : MessageType)
    → HasType bytes kind → ⊥
no_type bytes answers unique none kind h =
    none h.n h.more
    (subst (λ a. octets_of type_option a ≡ (h.n ∷ []) ∷ h.more) (unique h.answers h.parts) h.first)

-- there is no part
pub no_part : (parts : List (List ℕ)) → parts ≡ [] → (n : ℕ) (more : List (List ℕ)) → parts ≡ (n ∷ []) ∷ more → ⊥
no_part parts e n more f = absurd (omega (arith, ap length (sym e ∙ f)))

one_octet : (octets : List ℕ) → length octets ≡ 1 → octets ≡ slice_index octets 0 ∷ []
one_octet (x ∷ []) e = refl
one_octet [] e = absurd (omega (arith, e))
one_octet (x ∷ y ∷ more) e = absurd (omega (arith, e))

pub one_type : (bytes : List ℕ) (answers : List Answer) (first : List ℕ) (left : List (List ℕ))
    → ((others : List Answer) → ArePartsOf bytes others → others ≡ answers)
    → octets_of type_option answers ≡ first ∷ left → length first ≡ 1 → (other : MessageType) → HasType bytes other
    → other ≡ message_of (slice_index first 0)
one_type bytes answers first left unique e one other h =
    h.is
    ∙ ap (λ (l : List (List ℕ)). message_of (slice_index (get_or l 0 []) 0))
    (sym (subst (λ a. octets_of type_option a ≡ (h.n ∷ []) ∷ h.more) (unique h.answers h.parts) h.first) ∙ e)

-- a message of this type, and of no other
pub typed : (bytes : List ℕ) (kind : MessageType) → Reaches magic_field bytes
    → number_of magic_field bytes ≡ magic_cookie → HasType bytes kind
    → ((other : MessageType) → HasType bytes other → other ≡ kind) → (found : Option ExchangeValue)
    → Finds (IsTyped kind bytes) found → Finds (IsLease bytes) found
typed bytes kind whole cookie has only None f = λ e h. f e (subst (λ k. IsTyped k bytes e) (only h.kind h.typed) h.told)
typed bytes kind whole cookie has only (Some e) f =
    record { whole = whole; cookie = cookie; kind = kind; typed = has; told = f }
