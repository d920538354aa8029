-- What is read, and what is cut, after the header of a link.
use Rattle.frame_wire.proofs.Words.{◌≡◌, ◌≢◌, ◌+◌, ◌-◌, ◌≤◌, ◌∙◌, ◌↔◌, Addresses, BeginsWhole, Bool}
use Rattle.frame_wire.proofs.Words.{ChecksumCapabilities, HasChecksum, IsNone, IsSome, IsTagged, List, None, Option}
use Rattle.frame_wire.proofs.Words.{Some, ℕ, arith, big_number, drop, dst_port_field, false, field, is_verified, length}
use Rattle.frame_wire.proofs.Words.{number_of, part, refl, src_port_field, subst, sym, true}
use Rattle.frame_wire.specs.Link.{FrameValue, TypedValue, IsPayload, IsTypedFrame}
use Rattle.frame_wire.specs.LinkRefusal.{IsSessionCut}
use Rattle.frame_wire.specs.UdpRefusal.{IsRead}

-- tags of the type and the bytes that are in a frame
tagged_at : (octets : List ℕ) (place start kind : ℕ) (rest : List ℕ) (t : TypedValue)
    → kind ≡ number_of (field place (place + 2)) octets → rest ≡ drop start octets
    → IsTagged kind rest t.tags t.type t.payload
    → IsTagged (number_of (field place (place + 2)) octets) (drop start octets) t.tags t.type t.payload
tagged_at octets place start kind rest t e f is =
    subst (λ n. IsTagged n (drop start octets) t.tags t.type t.payload) e
    (subst (λ l. IsTagged kind l t.tags t.type t.payload) f is)

-- the number of a field of two bytes
pub number_of_two : (octets : List ℕ) (place n : ℕ) → n ≡ big_number 2 (part octets place (place + 2))
    → n ≡ number_of (field place (place + 2)) octets
number_of_two octets place n e =
    let two : place + 2 - place ≡ 2 = omega arith in
    subst (λ k. n ≡ big_number k (part octets place (place + 2))) (sym two) e

pub typed_read : (octets : List ℕ) (place start kind : ℕ) (rest : List ℕ) (t : TypedValue) (v : FrameValue)
    → start ≤ length octets → kind ≡ number_of (field place (place + 2)) octets → rest ≡ drop start octets
    → IsTagged kind rest t.tags t.type t.payload → IsPayload t.type t.tags t.payload v
    → (w : FrameValue) × (start ≤ length octets)
    × IsTypedFrame (number_of (field place (place + 2)) octets) (drop start octets) w
typed_read octets place start kind rest t v long e f is payload = (
  v,
  long,
  record { typed = t; tagged = tagged_at octets place start kind rest t e f is; payload = payload },
)

pub typed_cut : (octets : List ℕ) (place start kind : ℕ) (rest : List ℕ) (t : TypedValue)
    → start ≤ length octets → kind ≡ number_of (field place (place + 2)) octets → rest ≡ drop start octets
    → IsTagged kind rest t.tags t.type t.payload → IsSessionCut t.type t.payload
    → (start ≤ length octets) × ((u : TypedValue)
    × IsTagged (number_of (field place (place + 2)) octets) (drop start octets) u.tags u.type u.payload
    × IsSessionCut u.type u.payload)
typed_cut octets place start kind rest t long e f is cut =
    (long, (t, tagged_at octets place start kind rest t e f is, cut))

-- what is not required holds
pub unasked : {P : Type 0} (asked answer : Bool) → (answer ≡ asked) → answer ≡ false → asked ≡ true → P
unasked asked answer e is_not is = let both : true ≡ false = sym is ∙ sym e ∙ is_not in cc

-- the ports that are read
pub ports_read : (capabilities : ChecksumCapabilities) (addresses : Addresses) (bytes : List ℕ) → BeginsWhole bytes
    → number_of dst_port_field bytes ≢ 0
    → (is_verified capabilities.udp ≡ true → HasChecksum addresses bytes)
    → IsRead capabilities addresses bytes
ports_read capabilities addresses bytes whole port checksum = (
  record { src_port = number_of src_port_field bytes; dst_port = number_of dst_port_field bytes },
  record { whole = whole; source = refl; destination = refl; port = port; checksum = checksum },
)

-- what is not read has a reason
pub told_some : {A P : Type 0} (reason : Option A) → (IsNone reason ↔ P) → (P → ⊥) → IsSome reason
told_some (Some x) exact refused = refl
told_some None exact refused = absurd (refused (exact.0 refl))
