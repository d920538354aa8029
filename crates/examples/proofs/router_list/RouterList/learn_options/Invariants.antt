use Rattle.examples.specs.RouterList.{LearnsAll, Lists, lists_of}
use Rattle.examples.proofs.router_list.RouterList.learn_options.Given as goal

-- what the options that are left change then is what all change
abbrev pub invariant-loop-option : goal.invariant-loop-option
invariant-loop-option l =
    (new : Lists) → LearnsAll l.source l.option-iterator (lists_of l.self) new
    → LearnsAll l.source l.initial.option-iterator (lists_of l.initial.self) new
