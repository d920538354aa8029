-- Requests about an interface and their answers: what is read in their texts, and what was read.
use Rattle.std.proofs.Common.{◌≡◌, ◌↔◌, ℕ, ◌+◌, ◌*◌, ◌/◌, ◌%◌, Bool, true, false, IsTrue, List, [], ◌∷◌, ◌++◌, refl}
use Rattle.std.proofs.Common.{sym, ap, ◌∙◌, arith}
use Rattle.std.proofs.lemmas.List.{append-nil}
use Rattle.byteorder.specs.Endian.{big_bytes}
use Rattle.byteorder.specs.Numbers.{big_number-reads_back}
use Rattle.wirebase.specs.Bytes.{IsBytes, part}
use Rattle.wirebase.specs.ByteWriter.{be8, be16, fields}
use Rattle.wirebase.proofs.ByteParts.{number_of-small}
use Rattle.wirebase.proofs.Parses.{same_flag}
use Rattle.header_wire.specs.ExtendedEcho.{Request, bit, flags_number, request_fields, IsExtendedRequest}
use Rattle.header_wire.specs.ExtendedEcho.{IsExtendedReply, RequestFits, ReplyFits}
use Rattle.header_wire.specs.declared.extended_echo.ExtendedEchoReply.{ExtendedEchoReply}

-- ---- the texts behind the checksum

abbrev pub request_rest : Request → List ℕ
request_rest r = big_bytes 2 r.ident ++ (r.seq_no ∷ bit r.local 1 ∷ r.structure)

abbrev pub reply_rest : ExtendedEchoReply → List ℕ
reply_rest r = big_bytes 2 r.ident ++ (r.seq_no ∷ flags_number r ∷ [])

pub request-text : (r : Request) → fields (request_fields r) ≡ request_rest r
unfolding fields be8 be16
request-text r =
    ap (λ (l : List ℕ). big_bytes 2 r.ident ++ (r.seq_no ∷ bit r.local 1 ∷ l)) (append-nil r.structure)

-- ---- reading what was written

-- a flag that is set, and one that is not
set : {P : Type 0} → P → IsTrue true ↔ P
set p = (λ yes. p, λ yes. refl)

unset : {P : Type 0} → (P → ⊥) → IsTrue false ↔ P
unset none = (λ no. cc, λ p. absurd (none p))

local_read : (flag : Bool) → IsTrue flag ↔ (bit flag 1 % 2 ≡ 1)
local_read true = set refl
local_read false = unset (λ e. omega (arith, e))

record Flags (state : ℕ) (active four six : Bool) (n : ℕ) : Type 0 where
  state_is : state ≡ n / 32
  active_is : IsTrue active ↔ (n / 4 % 2 ≡ 1)
  four_is : IsTrue four ↔ (n / 2 % 2 ≡ 1)
  six_is : IsTrue six ↔ (n % 2 ≡ 1)

flags_read : (state : ℕ) (active four six : Bool)
    → Flags state active four six (32 * state + bit active 4 + bit four 2 + bit six 1)
flags_read state true true true = record {
  state_is = omega arith;
  active_is = set (omega arith);
  four_is = set (omega arith);
  six_is = set (omega arith);
}
flags_read state true true false = record {
  state_is = omega arith;
  active_is = set (omega arith);
  four_is = set (omega arith);
  six_is = unset (λ e. omega (arith, e));
}
flags_read state true false true = record {
  state_is = omega arith;
  active_is = set (omega arith);
  four_is = unset (λ e. omega (arith, e));
  six_is = set (omega arith);
}
flags_read state true false false = record {
  state_is = omega arith;
  active_is = set (omega arith);
  four_is = unset (λ e. omega (arith, e));
  six_is = unset (λ e. omega (arith, e));
}
flags_read state false true true = record {
  state_is = omega arith;
  active_is = unset (λ e. omega (arith, e));
  four_is = set (omega arith);
  six_is = set (omega arith);
}
flags_read state false true false = record {
  state_is = omega arith;
  active_is = unset (λ e. omega (arith, e));
  four_is = set (omega arith);
  six_is = unset (λ e. omega (arith, e));
}
flags_read state false false true = record {
  state_is = omega arith;
  active_is = unset (λ e. omega (arith, e));
  four_is = unset (λ e. omega (arith, e));
  six_is = set (omega arith);
}
flags_read state false false false = record {
  state_is = omega arith;
  active_is = unset (λ e. omega (arith, e));
  four_is = unset (λ e. omega (arith, e));
  six_is = unset (λ e. omega (arith, e));
}

-- t, c, a and b are what stands before: the type, the code, and the bytes of the checksum
pub request_read : (r : Request) (t c a b : ℕ) → RequestFits r → IsExtendedRequest (t ∷ c ∷ a ∷ b ∷ request_rest r) r
unfolding part
request_read r t c a b (one, two) = record {
  ident = sym (big_number-reads_back 2 r.ident [] (omega (arith, one)));
  seq_no = refl;
  local = local_read r.local;
  structure = refl;
}

pub reply_read : (r : ExtendedEchoReply) (t a b : ℕ) → ReplyFits r
    → IsExtendedReply (t ∷ r.code ∷ a ∷ b ∷ reply_rest r) r
unfolding part
reply_read r t a b (code, one, two, three) =
    let flags = flags_read r.state r.active r.ipv4 r.ipv6 in
    record {
      code = refl;
      ident = sym (big_number-reads_back 2 r.ident [] (omega (arith, one)));
      seq_no = refl;
      state = flags.state_is;
      active = flags.active_is;
      ipv4 = flags.four_is;
      ipv6 = flags.six_is;
    }

-- ---- what was read

abbrev a_request : ℕ → ℕ → Bool → List ℕ → Request
a_request ident seq_no local structure =
    record { ident = ident; seq_no = seq_no; local = local; structure = structure }

pub request-one : (bytes : List ℕ) (r s : Request) → IsExtendedRequest bytes r → IsExtendedRequest bytes s → r ≡ s
request-one bytes r s a b =
    let one = a.ident ∙ sym b.ident in
    let two = a.seq_no ∙ sym b.seq_no in
    let three = same_flag r.local s.local _ a.local b.local in
    let four = a.structure ∙ sym b.structure in
    let same : a_request r.ident r.seq_no r.local r.structure ≡ a_request s.ident s.seq_no s.local s.structure =
    rw (one, two, three, four) refl in
    same

abbrev a_reply : ℕ → ℕ → ℕ → ℕ → Bool → Bool → Bool → ExtendedEchoReply
a_reply code ident seq_no state active four six =
    record {
      code = code;
      ident = ident;
      seq_no = seq_no;
      state = state;
      active = active;
      ipv4 = four;
      ipv6 = six;
    }

pub reply-one : (bytes : List ℕ) (r s : ExtendedEchoReply) → IsExtendedReply bytes r → IsExtendedReply bytes s → r ≡ s
reply-one bytes r s a b =
    let one = a.code ∙ sym b.code in
    let two = a.ident ∙ sym b.ident in
    let three = a.seq_no ∙ sym b.seq_no in
    let four = a.state ∙ sym b.state in
    let five = same_flag r.active s.active _ a.active b.active in
    let six = same_flag r.ipv4 s.ipv4 _ a.ipv4 b.ipv4 in
    let seven = same_flag r.ipv6 s.ipv6 _ a.ipv6 b.ipv6 in
    let same : a_reply r.code r.ident r.seq_no r.state r.active r.ipv4 r.ipv6
    ≡ a_reply s.code s.ident s.seq_no s.state s.active s.ipv4 s.ipv6 =
    rw (one, two, three, four, five, six, seven) refl in
    same

pub request_fits : (bytes : List ℕ) (r : Request) → IsBytes bytes → IsExtendedRequest bytes r → RequestFits r
request_fits bytes r are is =
    (omega (arith, is.ident, number_of-small 4 6 bytes refl are), omega (arith, is.seq_no, are 6))

pub reply_fits : (bytes : List ℕ) (r : ExtendedEchoReply) → IsBytes bytes → IsExtendedReply bytes r → ReplyFits r
reply_fits bytes r are is = (
  omega (arith, is.code, are 1),
  omega (arith, is.ident, number_of-small 4 6 bytes refl are),
  omega (arith, is.seq_no, are 6),
  omega (arith, is.state, are 7),
)
