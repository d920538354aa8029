-- Identifier and sequence number are written as the four bytes after the checksum.
use Rattle.wirebase.proofs.Words.{◌≡◌, [], ◌∷◌, ◌∙◌, List, Puts, ℕ, ap, be16, be8, big_bytes, echo_fields, fields, put}
use Rattle.wirebase.proofs.Words.{refl, rules, sheet, slice_index, sym}
use Rattle.wirebase.proofs.Chains.{put-fields}
use Rattle.wirebase.proofs.icmp.put_echo.Goals as goal

-- the fields, with identifier and sequence number written together
abbrev wide_fields : ℕ → List ℕ → List ℕ → List ℕ → List (List ℕ)
wide_fields kind i s d =
    be8 kind ∷ be8 0 ∷ be16 0
    ∷ (slice_index i 0 ∷ slice_index i 1 ∷ slice_index s 0 ∷ slice_index s 1 ∷ []) ∷ d ∷ []

same_fields : (kind ident seq_no : ℕ) (d : List ℕ) (i s : List ℕ) → i ≡ big_bytes 2 ident → s ≡ big_bytes 2 seq_no
    → fields (wide_fields kind i s d) ≡ fields (echo_fields kind ident seq_no d)
unfolding fields be8 be16
same_fields kind ident seq_no d i s is_i is_s = rw (is_i, is_s) refl

pub returns : goal.returns
returns c =
    let kind = c.args.kind in
    let i : List ℕ = c.to_be_bytes.result in
    let s : List ℕ = c.to_be_bytes-2.result in
    let d : List ℕ = c.args.data.now in
    let puts : Puts c.args.w.now c.put_front.new.self (wide_fields kind i s d) = search rules in
    let before = sheet c.args.w.now in
    record {
      puts =
          puts.puts
          ∙ sym (put-fields before (wide_fields kind i s d))
          ∙ ap (put before)
          (same_fields kind c.args.ident c.args.seq_no d i s c.to_be_bytes.ensures c.to_be_bytes-2.ensures)
          ∙ put-fields before (echo_fields kind c.args.ident c.args.seq_no d);
      same_slice = puts.same_slice;
    }
