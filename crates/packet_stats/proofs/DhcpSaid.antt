-- What messages of DHCP say is counted.
use Rattle.std.proofs.Common.{◌≡◌, ◌≤◌, ◌∙◌, [], ◌∷◌, Bool, Err, List, Ok, OnErr, OnOk, Result, ap, arith, drop}
use Rattle.std.proofs.Common.{false, length}
use Rattle.std.proofs.Common.{Option, refl, subst, sym, true, ℕ}
use Rattle.std.specs.Prelude.{min, take}
use Rattle.std.proofs.lemmas.List.{length-take}
use Rattle.wirebase.specs.Bytes.{byte_of, bytes_of}
use Rattle.dhcp_wire.specs.Dhcpv4Packet.{hlen_field, yiaddr_field}
use Rattle.dhcp_options.specs.Joined.{octets_of}
use Rattle.dhcp_options.specs.Parts.{Answer, ArePartsOf}
use Rattle.dhcp_fields.specs.Header.{hardware_address}
use Rattle.packet_stats.specs.Dhcp.{DhcpSays, address_said, gives_address, is_reply, is_request, lease_said, replies}
use Rattle.packet_stats.specs.Dhcp.{request_said, requests, time_in}
use Rattle.packet_stats.specs.Row.{MentionValue, said_of}
use Rattle.packet_stats.specs.Stats.{CountsAll, CountsPart, CountsSome, CountsThat, State}
use Rattle.packet_stats.specs.Subject.{client, lease}
use Rattle.packet_stats.specs.Types.{Fault}

not_both : (b : Bool) → b ≡ true → b ≡ false → ⊥
not_both true is other = cc (is, other)
not_both false is other = cc (is, other)

module _ (bytes : List ℕ) (old new : State) where
  pub request_counted : (r : Result (Unit {0}) Fault) → is_reply bytes ≡ false
      → OnOk r (CountsAll old (request_said bytes) new) → OnOk r (CountsThat (DhcpSays bytes) old new)
  request_counted (Ok u) is counted = (request_said bytes, requests is refl, counted)
  request_counted (Err fault) is counted = tt

  part_of_request : is_reply bytes ≡ false → CountsSome old (request_said bytes) new → (ms : List MentionValue)
      → DhcpSays bytes ms → CountsSome old ms new
  part_of_request is some ms (requests other e) = subst (λ l. CountsSome old l new) (sym e) some
  part_of_request is some ms (replies parts other are e) = absurd (not_both (is_reply bytes) other is)

  pub request_broken : (r : Result (Unit {0}) Fault) → is_reply bytes ≡ false
      → OnErr r (CountsSome old (request_said bytes) new) → OnErr r (CountsPart (DhcpSays bytes) old new)
  request_broken (Ok u) is some = tt
  request_broken (Err fault) is some = part_of_request is some

  pub reply_counted : (r : Result (Unit {0}) Fault) (parts : List Answer) → is_reply bytes ≡ true
      → ArePartsOf bytes parts → OnOk r (CountsAll old (lease_said parts bytes) new)
      → OnOk r (CountsThat (DhcpSays bytes) old new)
  reply_counted (Ok u) parts is are counted = (lease_said parts bytes, replies parts is are refl, counted)
  reply_counted (Err fault) parts is are counted = tt

  part_of_reply : (parts : List Answer) → is_reply bytes ≡ true
      → ((others : List Answer) → ArePartsOf bytes others → others ≡ parts)
      → CountsSome old (lease_said parts bytes) new → (ms : List MentionValue) → DhcpSays bytes ms
      → CountsSome old ms new
  part_of_reply parts is unique some ms (requests other e) = absurd (not_both (is_reply bytes) is other)
  part_of_reply parts is unique some ms (replies others other are e) =
      subst (λ l. CountsSome old l new)
      (sym (e ∙ ap (λ (a : List Answer). lease_said a bytes) (unique others are))) some

  pub reply_broken : (r : Result (Unit {0}) Fault) (parts : List Answer) → is_reply bytes ≡ true
      → ((others : List Answer) → ArePartsOf bytes others → others ≡ parts)
      → OnErr r (CountsSome old (lease_said parts bytes) new) → OnErr r (CountsPart (DhcpSays bytes) old new)
  reply_broken (Ok u) parts is unique some = tt
  reply_broken (Err fault) parts is unique some = part_of_reply parts is unique some

-- ---- what a request and a lease say

pub client_is : (bytes hardware : List ℕ) → is_request bytes ≡ true → hardware ≡ hardware_address bytes
    → said_of (client hardware) ∷ [] ≡ request_said bytes
client_is bytes hardware is same = ap (λ (l : List ℕ). said_of (client l) ∷ []) same ∙ rw is refl

pub address_is : (parts : List Answer) (bytes address hardware : List ℕ) (time : Option ℕ)
    → gives_address bytes ≡ true → address ≡ bytes_of yiaddr_field bytes → hardware ≡ hardware_address bytes
    → time ≡ time_in (octets_of 51 parts) → said_of (lease address hardware time) ∷ [] ≡ address_said parts bytes
address_is parts bytes address hardware time is from held until =
    ap (λ (l : List ℕ). said_of (lease l hardware time) ∷ []) from
    ∙ ap (λ (l : List ℕ). said_of (lease (bytes_of yiaddr_field bytes) l time) ∷ []) held
    ∙ ap (λ (t : Option ℕ). said_of (lease (bytes_of yiaddr_field bytes) (hardware_address bytes) t) ∷ []) until
    ∙ rw is refl

-- a hardware address has 16 octets at most
at_most : (n : ℕ) (octets : List ℕ) → length (take (min n 16) octets) ≤ 16
at_most n octets = omega (arith, length-take (min n 16) octets)

pub few_octets : (bytes octets : List ℕ) → octets ≡ hardware_address bytes → length octets ≤ 16
few_octets bytes octets is = omega (arith, ap length is, at_most (byte_of hlen_field bytes) (drop 28 bytes))
