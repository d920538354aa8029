use Rattle.std.proofs.Common.{length, refl, sym}
use Rattle.std.proofs.lemmas.Bool.{eqb-true, eqb-false}
use Rattle.std.proofs.lemmas.List.{nil_from_length}
use Rattle.icmp6_wire.specs.private.NdiscOptionsSeen.{kept_of}
use Rattle.icmp6_wire.proofs.NdiscTiling.{front_lacks, blocks_behind, says_more, says_all}
use Rattle.icmp6_wire.proofs.ndisc.options_seen.OptionsSeen.add_all.Goals as goal

pub returns-in_err-block-clause-reads : goal.returns-in_err-block-clause-reads
returns-in_err-block-clause-reads c = λ options blocks.
    let rest = c.loop-rest.rest.now in
    let has = c.loop-rest.invariant.tiled options blocks in
    absurd (front_lacks rest has.options (eqb-false (length rest) 0 (sym c.loop-rest-test.ensures))
    (c.in_err-block.ensures.refuses refl) has.tiling)

pub loop-rest-preserved : goal.loop-rest-preserved
loop-rest-preserved c =
    let rest = c.loop-rest.rest.now in
    let block = c.in_ok-block.block.now in
    let behind = c.in_ok-block.behind.now in
    let parts = c.in_ok-block.ensures.sound in
    record {
      said = says_more c.args.payload.now rest block behind (kept_of c.loop-rest.self)
          (kept_of c.add_block.new.self) parts.0 parts.1 c.add_block.ensures c.loop-rest.invariant.said;
      tiled = λ options blocks.
          let has = c.loop-rest.invariant.tiled options blocks in
          blocks_behind rest block behind has.options parts.0 parts.1 has.tiling;
    }

pub returns-clause-sound : goal.returns-clause-sound
returns-clause-sound c = λ ok.
    let rest = c.loop-rest.rest.now in
    let none = nil_from_length rest (eqb-true (length rest) 0 (sym c.loop-rest-test.ensures)) in
    says_all c.args.payload.now (kept_of c.loop-rest.self)
    (rw none at c.loop-rest.invariant.said)
