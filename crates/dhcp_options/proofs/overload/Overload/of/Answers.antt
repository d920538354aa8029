use Rattle.dhcp_options.proofs.Words.{◌∙◌, ◌≡◌, List, None, Option, OptionValue, Overload, ap, first_said}
use Rattle.dhcp_options.proofs.Words.{list_of, option_or, options_in, subst, sym, ℕ, Options}
use Rattle.std.specs.Borrow.{Bor}
use Rattle.dhcp_wire.proofs.Dhcpv4Lists.{list-options}
use Rattle.dhcp_options.proofs.Overloads.{overload-is, overload-one}
use Rattle.dhcp_options.proofs.overload.Overload.of.Goals as goal

pub loop-option-init : goal.loop-option-init
loop-option-init c =
    let bytes = options_in c.args.octets.now in
    let same : list_of bytes ≡ c.into_iter-option-iterator.result =
    c.into_options-option-items.ensures.unique (list_of bytes)
    (subst (λ (b : Bor (List ℕ)). Options (options_in b.now) (list_of bytes)) (sym c.new_unchecked.ensures)
    (list-options bytes))
    ∙ sym c.into_iter-option-iterator.ensures.into_iter_gives in
    ap (λ (os : List OptionValue). first_said os) (sym same)

pub returns-in-Some-said-clause-overload : goal.returns-in-Some-said-clause-overload
returns-in-Some-said-clause-overload c =
    overload-is _ _
    (sym c.loop-option.invariant ∙ ap (λ (os : List OptionValue). first_said os) c.in-Some.ensures.steps
    ∙ ap (λ (s : Option Overload). option_or s (first_said c.next.new.self)) (sym c.in-Some-said.ensures))

pub returns-in-Some-said-clause-unique : goal.returns-in-Some-said-clause-unique
returns-in-Some-said-clause-unique c = λ other is.
    overload-one _ other is
    ∙ (sym c.loop-option.invariant ∙ ap (λ (os : List OptionValue). first_said os) c.in-Some.ensures.steps
    ∙ ap (λ (s : Option Overload). option_or s (first_said c.next.new.self)) (sym c.in-Some-said.ensures))

pub returns-clause-overload : goal.returns-clause-overload
returns-clause-overload c =
    overload-is _ None
    (sym c.loop-option.invariant ∙ ap (λ (os : List OptionValue). first_said os) c.in-None.ensures.steps.0)

pub returns-clause-unique : goal.returns-clause-unique
returns-clause-unique c = λ other is.
    overload-one _ other is
    ∙ (sym c.loop-option.invariant ∙ ap (λ (os : List OptionValue). first_said os) c.in-None.ensures.steps.0)
