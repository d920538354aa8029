-- Options written one after another, which are read in turn.
use Rattle.std.proofs.Common.{◌≡◌, ℕ, ◌*◌, List, [], ◌∷◌, ◌++◌, length, sym, ap, ◌∙◌, arith}
use Rattle.std.proofs.Common.{length-append, subst}
use Rattle.std.proofs.Math.ListN.{get_or-append}
use Rattle.std.proofs.lemmas.List.{append-nil, append_assoc}
use Rattle.std.proofs.lemmas.Grind.{common_steps}
use Rattle.std.proofs.lemmas.Slice.{take-put_mid, drop-put_mid}
use Rattle.wirebase.specs.Checks.{Passes}
use Rattle.neighbor_wire.specs.declared.option.NeighborOption.{NeighborOption}
use Rattle.neighbor_wire.specs.Option.{value_of, units_in, text}
use Rattle.neighbor_wire.specs.Options.{ends, goes_on, block_checks, AreBlocks}
use Rattle.neighbor_wire.proofs.OptionTexts.{value_whole, text_block}

pub ruleset writes = (common_steps, take-put_mid, drop-put_mid)

-- a block stays one where more is behind it
same_units : (bytes more : List ℕ) → Passes (block_checks bytes) → units_in (bytes ++ more) ≡ units_in bytes
same_units bytes more p = get_or-append bytes more 0 1 (omega (arith, p.0))

begins_more : (bytes more : List ℕ) → Passes (block_checks bytes) → Passes (block_checks (bytes ++ more))
begins_more bytes more p =
    let same = same_units bytes more p in
    let long = length-append bytes more in (
      omega (arith, long, p.0),
      (omega (arith, same, p.1.0), (omega (arith, same, long, p.1.1.0), tt)),
    )

blocks_more : (bytes last : List ℕ) → Passes (block_checks last) → length last ≡ 8 * units_in last
    → (blocks : List (List ℕ)) → AreBlocks bytes blocks → AreBlocks (bytes ++ last) (blocks ++ last ∷ [])
blocks_more bytes last p long [] ends = goes_on last [] p long ends (sym (append-nil last))
blocks_more bytes last p long (b ∷ blocks) (goes_on block rest q counted tile whole) =
    goes_on block (rest ++ last) (begins_more bytes last q)
    (counted ∙ ap (λ (n : ℕ). 8 * n) (sym (same_units bytes last q)))
    (blocks_more rest last p long blocks tile)
    (ap (λ (l : List ℕ). l ++ last) whole ∙ append_assoc block rest last)

pub no_blocks : AreBlocks [] []
no_blocks = ends

-- behind them an option
pub push_blocks : (o : NeighborOption) (old new : List ℕ) → new ≡ old ++ text (value_of o) → (blocks : List (List ℕ))
    → AreBlocks old blocks → AreBlocks new (blocks ++ text (value_of o) ∷ [])
push_blocks o old new e blocks are =
    let block = text_block (value_of o) (value_whole o) in
    subst (λ (l : List ℕ). AreBlocks l (blocks ++ text (value_of o) ∷ [])) (sym e)
    (blocks_more old (text (value_of o)) block.begins block.counted blocks are)
