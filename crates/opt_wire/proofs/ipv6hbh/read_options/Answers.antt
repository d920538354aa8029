use Rattle.opt_wire.proofs.Words.{◌++◌, ◌∙◌, ◌∷◌, Answer, Error, List, Ok, Result, ap, arith, eqb-true, length}
use Rattle.opt_wire.proofs.Words.{length-map, map, sym, value_of}
use Rattle.wirebase.specs.Answers.{seen}
use Rattle.opt_wire.specs.declared.ipv6option.Repr.{Repr}
use Rattle.opt_wire.proofs.Ipv6HbhGrammar.{header-full, header-refused}
use Rattle.opt_wire.proofs.ipv6hbh.read_options.Goals as goal

pub returns-in_err-option-clause-reads : goal.returns-in_err-option-clause-reads
returns-in_err-option-clause-reads c = λ other header.
    let read = map value_of c.loop-option.options.items in
    let next = c.in-Some.ensures.steps
    ∙ ap (λ (r : Result Repr Error). seen value_of r ∷ c.next.new.self) c.in_err-option.was in
    absurd (header-refused 8 c.args.octets.now read other c.in_err-option.field-0.0 _ c.next.new.self
    c.loop-option.invariant.tile (ap (λ (l : List Answer). map Ok read ++ l) next)
    (omega (arith, c.loop-option.invariant.few, length-map c.loop-option.options.items value_of)) header)

pub returns-then-is_full-clause-sound : goal.returns-then-is_full-clause-sound
returns-then-is_full-clause-sound c = λ ok.
    let read = map value_of c.loop-option.options.items in
    let next = c.in-Some.ensures.steps
    ∙ ap (λ (r : Result Repr Error). seen value_of r ∷ c.next.new.self) c.in_ok-option.was in
    let full = length-map c.loop-option.options.items value_of
    ∙ eqb-true (length c.loop-option.options.items) 8 (sym c.is_full.ensures.value ∙ c.if-is_full.true) in
    header-full 8 c.args.octets.now read (value_of c.in_ok-option.option) _ c.next.new.self c.requires.some
    c.loop-option.invariant.tile (ap (λ (l : List Answer). map Ok read ++ l) next) full
