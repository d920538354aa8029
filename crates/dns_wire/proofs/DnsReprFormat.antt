-- The text of a query, and what is read in it.
use Rattle.dns_wire.proofs.Words.{◌≡◌, ◌<◌, ◌≤◌, ◌^◌, [], ◌∷◌, ◌++◌, ◌∙◌, Bool, Emits, IsBytes, IsBytes-drop, IsFormat}
use Rattle.dns_wire.proofs.Words.{IsKnown, IsProper, List, QuestionValue, SameText, ℕ, ap, append-nil, arith, be16}
use Rattle.dns_wire.proofs.Words.{big_bytes, case-read, case_in-unnamed, false, fields, flags_in, length, length-append}
use Rattle.dns_wire.proofs.Words.{length-drop, number_of, number_of-small, opcode_in, over, over-exact, part, refl}
use Rattle.dns_wire.proofs.Words.{round_trips, same_text, subst, sym, true}
use Rattle.dns_wire.specs.declared.dns.tables.Opcode.{Opcode}
use Rattle.dns_wire.specs.DnsTables.{opcode_number, opcodes, opcode_rows, opcode_of}
use Rattle.dns_wire.specs.DnsPacket.{id_field, flags_field, payload_in}
use Rattle.dns_wire.specs.DnsQuestion as question
use Rattle.dns_wire.specs.DnsRepr.{QueryValue, flags_word, text, text_len, IsQuery, IsCanonical, format}
use Rattle.dns_wire.proofs.DnsFlagsWord.{known-small, opcode_in-word, flags_in-word, known-flags_in}
use Rattle.dns_wire.proofs.DnsQuestionFormat.{length-question_text, question_reads, question_one, question_accepted}

-- ---- kinds of query

is_unknown_opcode : Opcode → Bool
is_unknown_opcode (Opcode.Unknown n) = true
is_unknown_opcode _ = false

opcode_of-number : (k : Opcode) → IsProper Opcode.Unknown opcode_rows k → k ≡ opcode_of (opcode_number k)
opcode_of-number (Opcode.Unknown n) p = sym (case_in-unnamed Opcode.Unknown opcode_rows n (p n refl))
opcode_of-number _ p = refl

opcode-read : {k : Opcode} (n : ℕ) → k ≡ opcode_of n → IsProper Opcode.Unknown opcode_rows k × (opcode_number k ≡ n)
unfolding is_unknown_opcode
opcode-read n is = case-read opcode_number Opcode.Unknown (λ k. refl) is_unknown_opcode (λ k. refl) opcodes n refl is

-- ---- the text

query_text : (q : QueryValue) → text q ≡ big_bytes 2 q.transaction_id
    ++ (big_bytes 2 (flags_word q.flags q.kind) ++ (0 ∷ 1 ∷ 0 ∷ 0 ∷ 0 ∷ 0 ∷ 0 ∷ 0 ∷ question.text q.asks))
unfolding fields be16
query_text q = refl

pub length-query_text : (q : QueryValue) → length (text q) ≡ text_len q
length-query_text q = omega (arith, ap length (query_text q), length-question_text q.asks)

id_back : (n : ℕ) (behind : List ℕ) → n < 2 ^ 16 → n ≡ number_of id_field (big_bytes 2 n ++ behind)
unfolding part
id_back n behind small = omega arith

word_back : (m n : ℕ) (behind : List ℕ) → n < 2 ^ 16 → number_of flags_field
    (big_bytes 2 m ++ (big_bytes 2 n ++ behind)) ≡ n
unfolding part
word_back m n behind small = omega arith

query_reads : (q : QueryValue) → IsCanonical q → IsQuery (text q) q
unfolding part
query_reads q c =
    let n = opcode_number q.kind in
    let word = flags_word q.flags q.kind in
    let counts : List ℕ = 0 ∷ 1 ∷ 0 ∷ 0 ∷ 0 ∷ 0 ∷ 0 ∷ 0 ∷ question.text q.asks in
    let fits : word < 2 ^ 16 = omega (arith, known-small q.flags c.known, c.four_bits) in
    let is : number_of flags_field (big_bytes 2 q.transaction_id ++ (big_bytes 2 word ++ counts)) ≡ word =
    word_back q.transaction_id word counts fits in
    rw (query_text q) (record {
      whole = omega arith;
      id = id_back q.transaction_id (big_bytes 2 word ++ counts) c.id;
      flags_are = sym (ap flags_in is ∙ flags_in-word q.flags n c.known c.four_bits);
      kind_is = opcode_of-number q.kind c.proper ∙ ap opcode_of
          (sym (ap opcode_in is ∙ opcode_in-word q.flags n c.known c.four_bits));
      one_question = refl;
      no_answer = refl;
      no_authority = refl;
      no_additional = refl;
      asks = question_reads q.asks (question.text q.asks) [] c.asks (sym (append-nil (question.text q.asks)));
    })

-- ---- one value, and what was read

abbrev query_of : ℕ → Opcode → ℕ → QuestionValue → QueryValue
query_of id k flags asks = record { transaction_id = id; kind = k; flags = flags; asks = asks }

query_one : (bytes : List ℕ) (v w : QueryValue) → IsQuery bytes v → IsQuery bytes w → v ≡ w
query_one bytes v w h k =
    let ids : v.transaction_id ≡ w.transaction_id = h.id ∙ sym k.id in
    let kinds : v.kind ≡ w.kind = h.kind_is ∙ sym k.kind_is in
    let same : v.flags ≡ w.flags = h.flags_are ∙ sym k.flags_are in
    let asks = (question_one (payload_in bytes) v.asks w.asks [] [] h.asks k.asks).0 in
    ap (λ n. query_of n v.kind v.flags v.asks) ids
    ∙ (ap (λ t. query_of w.transaction_id t v.flags v.asks) kinds
    ∙ (ap (λ n. query_of w.transaction_id w.kind n v.asks) same
    ∙ ap (λ q. query_of w.transaction_id w.kind w.flags q) asks))

query_accepted : (bytes : List ℕ) (v : QueryValue) → IsBytes bytes → length bytes ≤ 65515 → IsQuery bytes v
    → IsCanonical v
query_accepted bytes v are small h =
    let word = number_of flags_field bytes in
    let read = opcode-read (opcode_in word) h.kind_is in
    let asks = question_accepted (payload_in bytes) v.asks [] (IsBytes-drop 12 bytes are)
    (omega (arith, length-drop 12 bytes)) h.asks in
    record {
      id = omega (arith, h.id, number_of-small 0 2 bytes refl are);
      proper = read.0;
      four_bits = omega (arith, read.1);
      known = subst IsKnown (sym h.flags_are) (known-flags_in word);
      asks = asks;
      small = omega (
        arith,
        small,
        h.whole,
        h.asks.passes.0,
        ap length h.asks.split.whole,
        length-append v.asks.name h.asks.after,
        length-drop 12 bytes,
      );
    }

pub query_format : IsFormat format
query_format = record {
  one_value = query_one;
  reads_back = λ v fills c. query_reads v c;
  norm_canonical = λ v c. c;
  norm_norm = λ v. refl;
  norm_text = λ v c regular. refl;
  accepted = query_accepted;
  regular = λ bytes v h e. e;
  kept = λ bytes v are c h whole. refl;
}

pub query_same_text : (a b : QueryValue) → SameText format a b
query_same_text a b = same_text format query_format _ a b

-- ---- the result of writing

pub query_emits : (q : QueryValue) (old new : List ℕ) → new ≡ over old (text q) → Emits q old new
query_emits q old new e = record {
  written = e;
  exact = alone;
  reads_back = λ c long. subst (λ bytes. IsQuery bytes q) (sym (alone long)) (query_reads q c);
  round_trips = round_trips format query_format q;
}
  where
    alone : length old ≡ text_len q → new ≡ text q
    alone long = e ∙ over-exact old (text q) (long ∙ sym (length-query_text q))
