-- The format of errors: their bytes have one value, which is canonical, and a normal form has the text of its value.
use Rattle.std.proofs.Common.{◌≡◌, ℕ, ◌<◌, ◌≤◌, ◌^◌, true, min, List, ◌∷◌, ◌++◌, length, take}
use Rattle.std.proofs.Common.{refl, sym, ap, subst, ◌∙◌, arith}
use Rattle.std.proofs.lemmas.List.{append-nil, length-take, take_min, take_all}
use Rattle.byteorder.specs.Endian.{big_bytes}
use Rattle.wirebase.specs.declared.capabilities.Checksum.{Checksum}
use Rattle.wirebase.specs.Bytes.{part, splice, over, byte_of, number_of}
use Rattle.wirebase.specs.ByteWriter.{be8, be16, be32, fields}
use Rattle.wirebase.specs.Capabilities.{is_verified, is_computed, sealed_where}
use Rattle.wirebase.specs.Checksum.{sealed, IsGood}
use Rattle.wirebase.specs.Format.{SameText}
use Rattle.wirebase.specs.Icmp.{type_field, code_field, checksum_field, data_in}
use Rattle.wirebase.proofs.WideParts.{number_of-small4}
use Rattle.wirebase.proofs.CapabilitySeals.{length-sealed_where, IsGood-sealed_where}
use Rattle.wirebase.proofs.ChecksumSeals.{IsGood-sealed}
use Rattle.wirebase.proofs.Format.{IsFormat, round_trips, same_text-by}
use Rattle.wirebase.proofs.Pieces.{over-exact, length-over}
use Rattle.quote_wire.specs.Error.{Protocol, ErrorValue, rest_field, error_fields, text, text_len, seal, packet_text}
use Rattle.quote_wire.specs.Error.{emitted, IsError, IsCanonical, norm, Fills, format, Emits}

-- what is quoted, counted
pub take_counted : (most : ℕ) (d : List ℕ) (n : ℕ) → n ≡ min (length d) most → take n d ≡ take most d
take_counted most d n e =
    let turned : n ≡ min most (length d) = omega (arith, e) in
    ap (λ (k : ℕ). take k d) turned ∙ take_min most d

-- what a protocol's definitions have to be
pub record IsProtocol {K : Type 0} (p : Protocol K) : Type 0 where
  pub one : (a b : K) → p.number a ≡ p.number b → a ≡ b
  pub cut : (bytes : List ℕ) → p.IsQuoted bytes → p.IsQuoted (take p.most bytes)

-- bytes that begin with a type and a code, whatever the checksum after them
record Begins (bytes : List ℕ) (t code : ℕ) (behind : List ℕ) : Type 0 where
  first : ℕ
  second : ℕ
  whole : bytes ≡ t ∷ code ∷ first ∷ second ∷ behind

begins-sealed : (extra : ℕ) (checksum : Checksum) (t code : ℕ) (behind bytes : List ℕ)
    → bytes ≡ t ∷ code ∷ 0 ∷ 0 ∷ behind → Begins (sealed_where checksum checksum_field bytes extra) t code behind
unfolding sealed splice
begins-sealed extra Checksum.Both t code behind bytes e = rw e (record { first = _; second = _; whole = refl })
begins-sealed extra Checksum.Rx t code behind bytes e = record { first = 0; second = 0; whole = e }
begins-sealed extra Checksum.Tx t code behind bytes e = rw e (record { first = _; second = _; whole = refl })
begins-sealed extra Checksum.None t code behind bytes e = record { first = 0; second = 0; whole = e }

-- the fields that are read in them
record Fields (bytes : List ℕ) (t code rest : ℕ) (quoted : List ℕ) : Type 0 where
  kind : byte_of type_field bytes ≡ t
  code_is : byte_of code_field bytes ≡ code
  rest_is : number_of rest_field bytes ≡ rest
  quoted_is : data_in bytes ≡ quoted

fields_read : (bytes : List ℕ) (t code rest : ℕ) (quoted : List ℕ) → rest < 2 ^ 32
    → Begins bytes t code (big_bytes 4 rest ++ quoted) → Fields bytes t code rest quoted
unfolding part
fields_read bytes t code rest quoted small b = rw b.whole (record {
  kind = refl;
  code_is = refl;
  rest_is = omega (arith, small);
  quoted_is = refl;
})

good-computed : (extra : ℕ) (checksum : Checksum) (bytes : List ℕ) → 8 ≤ length bytes → is_computed checksum ≡ true
    → IsGood (sealed_where checksum checksum_field bytes extra) extra
good-computed extra Checksum.Both bytes room computed =
    IsGood-sealed checksum_field bytes extra refl (omega (arith, room)) refl
good-computed extra Checksum.Rx bytes room computed = cc
good-computed extra Checksum.Tx bytes room computed =
    IsGood-sealed checksum_field bytes extra refl (omega (arith, room)) refl
good-computed extra Checksum.None bytes room computed = cc

module _ {K : Type 0} (p : Protocol K) where
  -- the text field by field
  error_text : (v : ErrorValue K)
      → text p v ≡ p.number v.kind ∷ v.code ∷ 0 ∷ 0 ∷ (big_bytes 4 v.rest ++ take p.most v.quoted)
  unfolding fields be8 be16 be32
  error_text v = simp append-nil

  pub length-text : (v : ErrorValue K) → length (text p v) ≡ text_len p v
  length-text v = omega (arith, ap (λ (l : List ℕ). length l) (error_text v), length-take {A = ℕ} p.most v.quoted)

  pub length-seal : (bytes : List ℕ) → 8 ≤ length bytes → length (seal p bytes) ≡ length bytes
  length-seal bytes room =
      length-sealed_where checksum_field bytes (p.extra (length bytes)) refl (omega (arith, room)) p.checksum

  pub length-packet_text : (v : ErrorValue K) → length (packet_text p v) ≡ text_len p v
  length-packet_text v = length-seal (text p v) (omega (arith, length-text v)) ∙ length-text v

  -- sealed octets are good, where the checksum is computed
  pub seal-good : (bytes : List ℕ) → 8 ≤ length bytes → is_computed p.checksum ≡ true
      → IsGood (seal p bytes) (p.extra (length (seal p bytes)))
  seal-good bytes room computed =
      subst (λ (n : ℕ). IsGood (seal p bytes) (p.extra n)) (sym (length-seal bytes room))
      (good-computed (p.extra (length bytes)) p.checksum bytes room computed)

  -- ---- one value

  same_value : (v w : ErrorValue K) → v.kind ≡ w.kind → v.code ≡ w.code → v.rest ≡ w.rest → v.quoted ≡ w.quoted → v ≡ w
  same_value v w kind code rest quoted =
      let made : record v { kind = v.kind } ≡ record w { kind = w.kind } = cc in
      made

  one_value : IsProtocol p → (bytes : List ℕ) (v w : ErrorValue K) → IsError p bytes v → IsError p bytes w → v ≡ w
  one_value is bytes v w a b =
      same_value v w (is.one v.kind w.kind (sym a.kind ∙ b.kind)) (sym a.code ∙ b.code) (sym a.rest ∙ b.rest)
      (sym a.quoted ∙ b.quoted)

  -- ---- what was written

  pub packet_read : IsProtocol p → (v : ErrorValue K) → Fills p → IsCanonical p v
      → IsError p (packet_text p v) (norm p v)
  packet_read is v fills c =
      let some : 8 ≤ length (text p v) = omega (arith, length-text v) in
      let extra : ℕ = p.extra (length (text p v)) in
      let read = fields_read (packet_text p v) (p.number v.kind) v.code v.rest (take p.most v.quoted) c.rest
      (begins-sealed extra p.checksum _ _ _ (text p v) (error_text v)) in
      let good : is_verified p.checksum ≡ true → IsGood (packet_text p v) (p.extra (length (packet_text p v))) =
      λ verified.
      subst (λ (n : ℕ). IsGood (packet_text p v) (p.extra n)) (sym (length-seal (text p v) some))
      (IsGood-sealed_where checksum_field (text p v) extra refl (omega (arith, some)) p.checksum refl fills verified) in
      record {
        passes = (omega (arith, length-packet_text v), (good, ((v.kind, read.kind), tt)));
        kind = read.kind;
        code = read.code_is;
        rest = read.rest_is;
        quoted = read.quoted_is;
        quotes = is.cut v.quoted c.quotes;
      }

  -- the fields of its packet, whoever takes care of the checksum
  packet_fields : (v : ErrorValue K) → IsCanonical p v
      → Fields (packet_text p v) (p.number v.kind) v.code v.rest (take p.most v.quoted)
  packet_fields v c =
      fields_read (packet_text p v) (p.number v.kind) v.code v.rest (take p.most v.quoted) c.rest
      (begins-sealed (p.extra (length (text p v))) p.checksum _ _ _ (text p v) (error_text v))

  -- ---- the normal form

  quoted-quoted : (d : List ℕ) → take p.most (take p.most d) ≡ take p.most d
  quoted-quoted d = take_all p.most (take p.most d) (omega (arith, length-take {A = ℕ} p.most d))

  quoting : ErrorValue K → List ℕ → ErrorValue K
  quoting v d = record v { quoted = d }

  uncut : (v : ErrorValue K) → (p.most < length v.quoted → ⊥) → length v.quoted ≤ p.most
  uncut v whole = grind (arith, whole)

  -- ---- all of it

  pub error_format : IsProtocol p → IsFormat (format p)
  unfolding quoting
  error_format is = record {
    one_value = one_value is;
    reads_back = packet_read is;
    norm_canonical = λ v c. record { code = c.code; rest = c.rest; quotes = is.cut v.quoted c.quotes };
    norm_norm = λ v. ap (quoting v) (quoted-quoted v.quoted);
    norm_text =
        λ v c regular. ap
        (λ (d : List ℕ). seal p (fields (error_fields (p.number v.kind) v.code v.rest d)))
        (quoted-quoted v.quoted);
    accepted = λ bytes v are small m.
        let code = are 1 in
        let rest = number_of-small4 4 8 bytes refl are in
        record { code = omega (arith, code, m.code); rest = omega (arith, rest, m.rest); quotes = m.quotes };
    regular = λ bytes v m e. e;
    kept = λ bytes v are c m whole. ap (quoting v) (take_all p.most v.quoted (uncut v whole));
  }

  -- also where the checksum is verified and not filled: the fields are read back by themselves
  pub error_same_text : IsProtocol p → (a b : ErrorValue K) → SameText (format p) a b
  error_same_text is =
      same_text-by (format p) (error_format is)
      (λ bytes v. Fields bytes (p.number v.kind) v.code v.rest v.quoted)
      (λ bytes v w a b. same_value v w (is.one v.kind w.kind (sym a.kind ∙ b.kind)) (sym a.code_is ∙ b.code_is)
      (sym a.rest_is ∙ b.rest_is) (sym a.quoted_is ∙ b.quoted_is))
      packet_fields

  -- what is left where an error was written
  pub error_emits : IsProtocol p → (v : ErrorValue K) (old new : List ℕ) → 8 ≤ length old → new ≡ emitted p v old
      → Emits p v old new
  error_emits is v old new room left =
      let exact : length old ≡ text_len p v → new ≡ packet_text p v = λ long.
      left ∙ ap (λ (l : List ℕ). seal p l) (over-exact old (text p v) (long ∙ sym (length-text v))) in
      let some : 8 ≤ length (over old (text p v)) = omega (arith, room, length-over old (text p v)) in
      record {
        written = left;
        exact = exact;
        good =
            λ computed. subst (λ (bytes : List ℕ). IsGood bytes (p.extra (length bytes))) (sym left)
            (seal-good (over old (text p v)) some computed);
        reads_back = λ long fills canonical.
            subst (λ (bytes : List ℕ). IsError p bytes (norm p v)) (sym (exact long))
            (packet_read is v fills canonical);
        round_trips = round_trips (format p) (error_format is) v;
      }
