-- Octets are data or a record in one way, and are no question and no record where a reason refuses them.
use Rattle.dns_wire.proofs.Words.{◌≡◌, ◌++◌, ◌∙◌, IsSplit, List, ℕ, ap, drop, inl, inr, number_of, subst, sym}
use Rattle.wirebase.specs.Checks.{Check, Passes}
use Rattle.wirebase.proofs.Checks.{passes_fails, passes_both}
use Rattle.wirebase.proofs.Ipv4Header as ipv4
use Rattle.wirebase.proofs.Ipv6Header as ipv6
use Rattle.dns_wire.specs.declared.dns.refusal.Refusal.{Refusal}
use Rattle.dns_wire.specs.declared.dns.tables.Type.{«Type» as RecordType}
use Rattle.dns_wire.specs.DnsQuestion.{question_checks}
use Rattle.dns_wire.specs.DnsRecord.{DataValue, address4, address6, canonical_name, other, IsData, RecordValue}
use Rattle.dns_wire.specs.DnsRecord.{ttl_field, length_field, type_in, data_in, field_checks, IsRecord}
use Rattle.dns_wire.specs.DnsRefusal.{Refuses, RefusesQuestion, BeginsWithQuestion, data_checks, RefusesRecord}
use Rattle.dns_wire.specs.DnsRefusal.{BeginsWithRecord}
use Rattle.dns_wire.proofs.DnsNameBreaks.{no_split}
use Rattle.dns_wire.proofs.DnsSplit.{split_one}

refused : (checks : List ℕ → List (Check Refusal)) (bytes : List ℕ) (why : Refusal) → Refuses checks bytes why
    → (name after : List ℕ) → IsSplit bytes name after → Passes (checks after) → ⊥
refused checks bytes why (inl (reason, is, breaks)) name after s passes = no_split bytes reason breaks name after s
refused checks bytes why (inr (begin, behind, r, fails)) name after s passes =
    let e = (split_one bytes name begin after behind s r).1 in
    passes_fails (checks behind) (subst (λ t. Passes (checks t)) e passes) why fails

pub question_refused : (bytes : List ℕ) (why : Refusal) → RefusesQuestion bytes why → BeginsWithQuestion bytes → ⊥
question_refused bytes why told (value, rest, h) =
    refused question_checks bytes why told value.name h.after h.split h.passes

-- ---- data

pub data_one : (t : RecordType) (bytes : List ℕ) (v w : DataValue) → IsData t bytes v → IsData t bytes w → v ≡ w
data_one t bytes (address4 a) (address4 b) h k = ap address4 (ipv4.same_address a b (h.2 ∙ sym k.2))
data_one t bytes (address6 a) (address6 b) h k = ap address6 (ipv6.same_address a b (h.2 ∙ sym k.2))
data_one t bytes (canonical_name a) (canonical_name b) h k = ap canonical_name (h.1 ∙ sym k.1)
data_one t bytes (other a x) (other b y) h k =
    ap (λ u. other u x) (h.3 ∙ sym k.3) ∙ ap (λ d. other b d) (h.4 ∙ sym k.4)
data_one t bytes (address4 a) (address6 b) h k = let never = sym h.0 ∙ k.0 in cc
data_one t bytes (address4 a) (canonical_name b) h k = let never = sym h.0 ∙ k.0 in cc
data_one t bytes (address6 a) (address4 b) h k = let never = sym h.0 ∙ k.0 in cc
data_one t bytes (address6 a) (canonical_name b) h k = let never = sym h.0 ∙ k.0 in cc
data_one t bytes (canonical_name a) (address4 b) h k = let never = sym h.0 ∙ k.0 in cc
data_one t bytes (canonical_name a) (address6 b) h k = let never = sym h.0 ∙ k.0 in cc
data_one t bytes (address4 a) (other u b) h k = absurd (k.0 h.0)
data_one t bytes (address6 a) (other u b) h k = absurd (k.1 h.0)
data_one t bytes (canonical_name a) (other u b) h k = absurd (k.2 h.0)
data_one t bytes (other u a) (address4 b) h k = absurd (h.0 k.0)
data_one t bytes (other u a) (address6 b) h k = absurd (h.1 k.0)
data_one t bytes (other u a) (canonical_name b) h k = absurd (h.2 k.0)

-- ---- records

abbrev record_of : List ℕ → ℕ → DataValue → RecordValue
record_of name ttl holds = record { name = name; ttl = ttl; holds = holds }

pub record_one : (bytes : List ℕ) (r s : RecordValue) (rest more : List ℕ) → IsRecord bytes r rest
    → IsRecord bytes s more → (r ≡ s) × (rest ≡ more)
record_one bytes r s rest more h k =
    let one = split_one bytes r.name s.name h.after k.after h.split k.split in
    let ttls : r.ttl ≡ s.ttl = h.ttl_is ∙ (ap (λ t. number_of ttl_field t) one.1 ∙ sym k.ttl_is) in
    let datas = data_one _ _ r.holds s.holds
    (subst (λ t. IsData (type_in t) (data_in t) r.holds) one.1 h.data_is) k.data_is in (
      ap (λ n. record_of n r.ttl r.holds) one.0
          ∙ (ap (λ t. record_of s.name t r.holds) ttls ∙ ap (λ d. record_of s.name s.ttl d) datas),
      h.rest_is ∙ (ap (λ t. drop (number_of length_field t) (drop 10 t)) one.1 ∙ sym k.rest_is),
    )

pub record_refused : (bytes : List ℕ) (why : Refusal) → RefusesRecord bytes why → BeginsWithRecord bytes → ⊥
unfolding data_checks
record_refused bytes why told (r, rest, h) =
    refused (λ after. field_checks after ++ data_checks (type_in after) (data_in after)) bytes why told r.name h.after
    h.split (passes_both (field_checks h.after) (data_checks _ _) h.passes ((r.holds, h.data_is), tt))
