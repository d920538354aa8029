-- A field that is overwritten by each option that gives it is what the last such option gives.
use Rattle.wirebase.proofs.Words.{◌≡◌, [], ◌∷◌, ◌∙◌, List, None, Option, Some, ap, refl}
use Rattle.std.specs.Option.{option_or}
use Rattle.wirebase.specs.LastOf.{last_of}
use Rattle.wirebase.specs.private.Parts.{keep_all}

pub or-assoc : {A : Type 0} (a b c : Option A) → option_or a (option_or b c) ≡ option_or (option_or a b) c
or-assoc None b c = refl
or-assoc (Some x) b c = refl

pub or-none : {A : Type 0} (a : Option A) → option_or a None ≡ a
or-none None = refl
or-none (Some x) = refl

kept_from : {O K A : Type 0} (keep : K → O → K) (field : K → Option A) (says : O → Option A)
    → ((k : K) (o : O) → field (keep k o) ≡ option_or (says o) (field k))
    → (os : List O) (k : K) → field (keep_all keep k os) ≡ option_or (last_of says os) (field k)
unfolding keep_all
kept_from keep field says h [] k = refl
kept_from keep field says h (o ∷ os) k =
    kept_from keep field says h os (keep k o) ∙ ap (λ x. option_or (last_of says os) x) (h k o)
    ∙ or-assoc (last_of says os) (says o) (field k)

pub kept : {O K A : Type 0} (keep : K → O → K) (field : K → Option A) (says : O → Option A)
    → ((k : K) (o : O) → field (keep k o) ≡ option_or (says o) (field k))
    → (nothing : K) → field nothing ≡ None
    → (os : List O) → field (keep_all keep nothing os) ≡ last_of says os
kept keep field says h nothing none os =
    kept_from keep field says h os nothing ∙ ap (λ x. option_or (last_of says os) x) none ∙ or-none (last_of says os)
