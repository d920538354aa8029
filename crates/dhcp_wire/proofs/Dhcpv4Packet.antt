-- A packet as it is written: the header, and the options after it.
use Rattle.dhcp_wire.proofs.Words.{[], ◌++◌, ◌+◌, ◌-◌, ◌↔◌, ◌∙◌, ◌∷◌, ◌≡◌, ◌≤◌, AllShort, Err, Error, IsBlank, IsOk}
use Rattle.dhcp_wire.proofs.Words.{List, Ok, OnErr, OnOk, OptionValue, Puts, Result, Sheet, Value, Writer}
use Rattle.dhcp_wire.proofs.Words.{WritesOptions, ℕ, ap, append-nil, append_assoc, arith, be16, be32, be8, drop}
use Rattle.dhcp_wire.proofs.Words.{drop-drop, drop_all, fields, header_fields, header_text, length, length-append}
use Rattle.dhcp_wire.proofs.Words.{length-drop, options_of, options_text, over, over-fits, put, put-fields, refl, sheet}
use Rattle.dhcp_wire.proofs.Words.{subst, sym, take, take_all, texts_before, whole-sheet}
use Rattle.wirebase.specs.ByteWriter.{written, free as free_bytes, blank, put_all}
use Rattle.dhcp_wire.proofs.Dhcpv4Writing.{length-before}

pub header_len-240 : (v : Value) → length (header_text v) ≡ 240
unfolding header_text fields be8 be16 be32
header_len-240 v = refl

-- a text that takes all that was free
put-all : (s : Sheet) (text : List ℕ) → length text ≡ length s.free
    → (put s text).written ++ (put s text).free ≡ s.written ++ text
unfolding put
put-all s text e =
    ap (λ (l : List ℕ). (s.written ++ take (length s.free) text) ++ l)
    (drop_all (length text) s.free (omega (arith, e)))
    ∙ append-nil (s.written ++ take (length s.free) text)
    ∙ ap (λ (l : List ℕ). s.written ++ l) (take_all (length s.free) text (omega (arith, e)))

-- what is written and what is free after the header
header-sheet : (v : Value) (old : List ℕ) (w u : Writer) → 240 ≤ length old → IsBlank w old
    → Puts w u (header_fields v) → (written u ≡ header_text v) × (free_bytes u ≡ drop 240 old)
unfolding header_text put
header-sheet v old w u room fresh puts =
    let whole : sheet u ≡ put (blank old) (header_text v) =
    puts.puts ∙ ap (λ (s : Sheet). put_all s (header_fields v)) fresh.nothing
    ∙ sym (put-fields (blank old) (header_fields v)) in (
      ap (λ (s : Sheet). s.written) whole ∙ take_all (length old) (header_text v) (omega (arith, header_len-240 v)),
      ap (λ (s : Sheet). s.free) whole ∙ ap (λ (n : ℕ). drop n old) (header_len-240 v),
    )

-- a front and what was written after it
laid : (h old t : List ℕ) (n : ℕ) → length h ≡ n → length t + n ≤ length old
    → h ++ over (drop n old) t ≡ over old (h ++ t)
laid h old t n e room =
    let long = length-append h t in
    ap (λ (l : List ℕ). h ++ l) (over-fits (drop n old) t (omega (arith, length-drop n old)))
    ∙ sym (append_assoc h t (drop (length t) (drop n old)))
    ∙ ap (λ (l : List ℕ). (h ++ t) ++ l) (drop-drop (length t) n old
    ∙ ap (λ (k : ℕ). drop k old) (omega (arith, long, e)))
    ∙ sym (over-fits old (h ++ t) (omega (arith, long, e)))

pub record Emitted (h t : List ℕ) (n : ℕ) (os : List OptionValue) (old : List ℕ) (result : Result (Unit {0}) Error)
    (new : List ℕ) : Type 0 where
  pub accepts : IsOk result ↔ (AllShort os × (length (h ++ t) ≤ length old))
  pub ok : OnOk result (new ≡ over old (h ++ t))
  pub refused : OnErr result (new ≡ over old (h ++ texts_before (length old - n) os))

behind : (h old rest mine : List ℕ) (n : ℕ) (os : List OptionValue) (result : Result (Unit {0}) Error)
    → length h ≡ n → n ≤ length old
    → rest ≡ drop n old → WritesOptions os rest result mine
    → Emitted h (options_text os ++ 255 ∷ []) n os old result (h ++ mine)
behind h old rest mine n os (Ok x) e room is w =
    let t : List ℕ = options_text os ++ 255 ∷ [] in
    let two = w.accepts.0 refl in
    let far = two.1 in
    let enough : length t + n ≤ length old = omega (arith, ap length is, length-drop n old) in
    record {
      accepts = ((λ ok. (two.0, omega (arith, length-append h t, e))), (λ ok. refl));
      ok = ap (λ (l : List ℕ). h ++ l) (w.ok ∙ ap (λ (l : List ℕ). over l t) is) ∙ laid h old t n e enough;
      refused = tt;
    }
behind h old rest mine n os (Err x) e room is w =
    let t : List ℕ = options_text os ++ 255 ∷ [] in
    let long : length rest ≡ length old - n = ap length is ∙ length-drop n old in
    let before : List ℕ = texts_before (length old - n) os in
    let short = length-before os (length old - n) in
    record {
      accepts = (
        (λ ok. absurd (cc)),
        (λ both. w.accepts.1 (
          both.0,
          let l = both.1 in omega (
            arith,
            length-append h t,
            e,
            long,
          ),
        )),
      );
      ok = tt;
      refused = ap (λ (l : List ℕ). h ++ l) (w.refused
          ∙ ap (λ (l : List ℕ). over l (texts_before (length rest) os)) is
          ∙ ap (λ (k : ℕ). over (drop n old) (texts_before k os)) long)
          ∙ laid h old before n e (omega arith);
    }

-- the result of writing a value, where the header was written, and then the options into all bytes that were free after
-- it
pub laid_behind : (v : Value) (old part mine new : List ℕ) (w u x : Writer) (n : ℕ) (result : Result (Unit {0}) Error)
    → 240 ≤ length old → IsBlank w old → Puts w u (header_fields v) → n ≡ length (free_bytes u)
    → part ≡ take n (free_bytes u) → WritesOptions (options_of v) part result mine → length mine ≡ n
    → sheet x ≡ put (sheet u) mine → new ≡ x.buffer.now
    → Emitted (header_text v) (options_text (options_of v) ++ 255 ∷ []) 240 (options_of v) old result new
laid_behind v old part mine new w u x n result room fresh puts all is wrote long tail left =
    let h : List ℕ = header_text v in
    let two = header-sheet v old w u room fresh puts in
    let rest : part ≡ drop 240 old = is ∙ take_all n (free_bytes u) (omega (arith, all)) ∙ two.1 in
    let whole : new ≡ h ++ mine =
    left ∙ sym (whole-sheet x) ∙ ap (λ (s : Sheet). s.written ++ s.free) tail
    ∙ put-all (sheet u) mine (long ∙ all) ∙ ap (λ (l : List ℕ). l ++ mine) two.0 in
    subst (λ (l : List ℕ). Emitted h (options_text (options_of v) ++ 255 ∷ []) 240 (options_of v) old result l)
    (sym whole) (behind h old part mine 240 (options_of v) result (header_len-240 v) room rest wrote)
