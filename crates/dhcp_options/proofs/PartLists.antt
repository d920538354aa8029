-- The parts of a packet: there is one list, and it is that of its areas, marked.
use Rattle.dhcp_options.proofs.Words.{[], ◌∙◌, ◌≡◌, Answer, ArePartsOf, GiveAll, HasAreas, IsBytes, IsOverload, List, Option}
use Rattle.dhcp_options.proofs.Words.{Overload, PlacedAnswer, answers_left, ap, areas, arith, drop, false, file_if, joined, length, length-drop, length-take, marked, None, part, parts, sname_if, Some, subst, sym, ◌≤◌, ℕ}
use Rattle.std.proofs.Math.ListN.{replicate}
use Rattle.dhcp_options.specs.declared.areas.Areas.{Areas}
use Rattle.dhcp_options.proofs.AreaAnswers.{left-give, left-one}
use Rattle.dhcp_options.specs.Joined.{together}
use Rattle.dhcp_options.proofs.JoinedParts.{left-fits}
use Rattle.dhcp_options.proofs.Marks.{marks-parts, no-marks, octets-marked}
use Rattle.dhcp_options.proofs.SmallKinds.{left-small}

module _ (bytes : List ℕ) (overload : Option Overload) (held : Areas) where
  unmarked : HasAreas overload bytes held → IsBytes bytes
      → marked (replicate 256 false) (answers_left held) ≡ parts [] (answers_left held)
  unmarked has are =
      marks-parts (replicate 256 false) [] (answers_left held) no-marks (left-small overload bytes held has are)

  pub parts-is : IsOverload bytes overload → HasAreas overload bytes held → IsBytes bytes
      → ArePartsOf bytes (marked (replicate 256 false) (answers_left held))
  parts-is is has are =
      record {
        overload = overload;
        given = answers_left held;
        overloads = is;
        gives = left-give overload bytes held has;
        whole = unmarked has are;
      }

pub parts-one : (bytes : List ℕ) (overload : Option Overload) (held : Areas) (others : List Answer)
    → ((other : Option Overload) → IsOverload bytes other → other ≡ overload) → HasAreas overload bytes held
    → IsBytes bytes → ArePartsOf bytes others → others ≡ marked (replicate 256 false) (answers_left held)
parts-one bytes overload held others one has are is =
    let gives : GiveAll (areas overload bytes) is.given =
    subst (λ (o : Option Overload). GiveAll (areas o bytes) is.given) (one is.overload is.overloads) is.gives in
    is.whole ∙ ap (λ (given : List PlacedAnswer). parts [] given) (left-one overload bytes held is.given has gives)
    ∙ sym (unmarked bytes overload held has are)

-- what stands in the areas is in the packet
file-len : (overload : Option Overload) (bytes : List ℕ) → length (file_if overload bytes) ≤ 128
unfolding part
file-len None bytes = omega arith
file-len (Some Overload.File) bytes = omega (arith, length-take 128 (drop 108 bytes))
file-len (Some Overload.Sname) bytes = omega arith
file-len (Some Overload.FileAndSname) bytes = omega (arith, length-take 128 (drop 108 bytes))

sname-len : (overload : Option Overload) (bytes : List ℕ) → length (sname_if overload bytes) ≤ 64
unfolding part
sname-len None bytes = omega arith
sname-len (Some Overload.File) bytes = omega arith
sname-len (Some Overload.Sname) bytes = omega (arith, length-take 64 (drop 44 bytes))
sname-len (Some Overload.FileAndSname) bytes = omega (arith, length-take 64 (drop 44 bytes))

pub parts-fit : (kind : ℕ) (bytes : List ℕ) (overload : Option Overload) (held : Areas) → 240 ≤ length bytes
    → HasAreas overload bytes held
    → length (joined kind (marked (replicate 256 false) (answers_left held))) ≤ length bytes
parts-fit kind bytes overload held whole has =
    omega (
      arith,
      whole,
      ap (λ (parts : List (List ℕ)). length (together parts))
          (octets-marked kind (replicate 256 false) (answers_left held)),
      left-fits kind held,
      ap length has.options,
      length-drop 240 bytes,
      ap length has.file,
      file-len overload bytes,
      ap length has.sname,
      sname-len overload bytes,
    )
