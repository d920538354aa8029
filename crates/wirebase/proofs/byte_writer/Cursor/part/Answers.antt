-- The part begins at the place of the next byte, or where the bytes end if that is past them and nothing is asked for.
use Rattle.wirebase.proofs.Words.{◌≡◌, ◌+◌, ◌-◌, ◌≤◌, ◌++◌, ◌∙◌, List, ℕ, ap, arith, cases_lt, drop, drop_all, inl, inr}
use Rattle.wirebase.proofs.Words.{length, length-drop, min, part, refl, sheet_of, splice, sym, take, take_all}
use Rattle.wirebase.proofs.Chains.{sheet_of-part, room-part}
use Rattle.wirebase.proofs.byte_writer.Cursor.part.Goals as goal

part-place : (bytes text : List ℕ) (p n start : ℕ) → n ≤ length (drop p bytes) → start ≡ min p (length bytes)
    → (splice bytes start (start + n) text ≡ splice bytes p (p + n) text)
    × (part bytes start (start + n) ≡ take n (drop p bytes))
unfolding part splice
part-place bytes text p n start room is =
    let count : start + n - start ≡ n = omega arith in
    elim (cases_lt (length bytes) p) [
      | inl past ↦
          let end : start ≡ length bytes = omega arith in
          let none : n ≡ 0 = omega (arith, length-drop p bytes) in
          let front : take start bytes ≡ take p bytes =
          take_all start bytes (omega arith) ∙ sym (take_all p bytes (omega arith)) in
          let back : drop (start + n) bytes ≡ drop (p + n) bytes =
          drop_all (start + n) bytes (omega arith) ∙ sym (drop_all (p + n) bytes (omega arith)) in
          let behind : drop start bytes ≡ drop p bytes =
          drop_all start bytes (omega arith) ∙ sym (drop_all p bytes (omega arith)) in (
            ap (λ (l : List ℕ). l ++ (text ++ drop (start + n) bytes)) front
                ∙ ap (λ (l : List ℕ). take p bytes ++ (text ++ l)) back,
            ap (λ (k : ℕ). take k (drop start bytes)) count ∙ ap (λ (l : List ℕ). take n l) behind,
          )
      | inr within ↦
          let same : start ≡ p = omega arith in (
            ap (λ (k : ℕ). take k bytes ++ (text ++ drop (k + n) bytes)) same,
            ap (λ (k : ℕ). take k (drop start bytes)) count ∙ ap (λ (k : ℕ). take n (drop k bytes)) same,
          )
    ]

pub returns : goal.returns
unfolding sheet_of
returns g c =
    let w = c.args.self.now in
    let bytes = g.T.Octets.bytes w.buffer in
    let start : c.min-start.result ≡ min w.position (length bytes) =
    c.min-start.ensures ∙ ap (λ (l : List ℕ). min w.position (length l)) c.octets-len.ensures in (
      (refl, λ text. rw ((part-place bytes text w.position c.args.count _ c.requires start).0) refl),
      record {
        lends = tt;
        value = c.range_mut.ensures.value ∙ (part-place bytes bytes w.position c.args.count _ c.requires start).1;
        len = omega (arith, c.range_mut.ensures.len);
        puts = λ text long.
            sheet_of-part g.T.Octets.bytes g.T.OctetsMut.put g.met.T.OctetsMut.bytes_put w c.args.count text c.requires
            long;
        room = λ text long.
            room-part g.T.Octets.bytes g.T.OctetsMut.put g.met.T.OctetsMut.bytes_put w c.args.count text c.requires
            long;
      },
    )
