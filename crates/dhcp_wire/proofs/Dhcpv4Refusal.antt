-- How options end, by what the bytes begin with.
use Rattle.dhcp_wire.proofs.Words.{[], ◌++◌, ◌<◌, ◌↔◌, ◌∙◌, ◌∷◌, ◌≡◌, ◌≢◌, ◌≤◌, Ends, Err, IsNone, IsSome, List, None}
use Rattle.dhcp_wire.proofs.Words.{Ok, OnErr, OnOk, Option, Result, Some, ℕ, ap, arith, drop, false, length}
use Rattle.dhcp_wire.proofs.Words.{length-take-le, option, refl, subst, sym, take, take-append-drop, true}
use Rattle.std.specs.Prelude.{is_err, is_some}
use Rattle.dhcp_wire.specs.Dhcpv4Refusal.{with_bytes, with_mark, before_length, within_data, past_padding, past_option}

pub ends-none : (bytes : List ℕ) → length bytes ≡ 0 → Ends bytes None
ends-none [] e = with_bytes
ends-none (byte ∷ rest) e = absurd (omega (arith, e))

pub ends-mark : (bytes behind : List ℕ) (kind : ℕ) → bytes ≡ kind ∷ behind → kind ≡ 255 → Ends bytes None
ends-mark bytes behind kind e k = with_mark behind (e ∙ ap (λ (n : ℕ). n ∷ behind) k)

pub ends-padding : (bytes behind : List ℕ) (kind : ℕ) (cut : Option ℕ) → bytes ≡ kind ∷ behind → kind ≡ 0
    → Ends behind cut → Ends bytes cut
ends-padding bytes behind kind cut e k h = past_padding behind h (e ∙ ap (λ (n : ℕ). n ∷ behind) k)

pub ends-lone : (bytes behind : List ℕ) (kind : ℕ) → bytes ≡ kind ∷ behind → kind ≢ 255 → kind ≢ 0
    → length behind ≡ 0 → Ends bytes (Some kind)
ends-lone bytes [] kind e no_end no_padding l =
    before_length kind (record { no_padding = no_padding; no_end = no_end }) e
ends-lone bytes (byte ∷ rest) kind e no_end no_padding l = absurd (omega (arith, l))

pub ends-torn : (bytes behind body : List ℕ) (kind count : ℕ) → bytes ≡ kind ∷ behind → kind ≢ 255 → kind ≢ 0
    → behind ≡ count ∷ body → length body < count → Ends bytes (Some kind)
ends-torn bytes behind body kind count e no_end no_padding f short =
    within_data kind count body (record { no_padding = no_padding; no_end = no_end }) short
    (e ∙ ap (λ (l : List ℕ). kind ∷ l) f)

pub ends-option : (bytes behind body front after : List ℕ) (kind count : ℕ) (cut : Option ℕ) → bytes ≡ kind ∷ behind
    → kind ≢ 255 → kind ≢ 0 → behind ≡ count ∷ body → count ≤ length body → front ≡ take count body
    → after ≡ drop count body → Ends after cut → Ends bytes cut
ends-option bytes behind body front after kind count cut e no_end no_padding f room g h rest =
    let counted : length (take count body) ≡ count = length-take-le count body room in
    let back = subst (λ (l : List ℕ). Ends l cut) h rest in
    let whole : count ∷ body ≡ length (take count body) ∷ (take count body ++ drop count body) =
    ap (λ (l : List ℕ). count ∷ l) (sym (take-append-drop count body))
    ∙ ap (λ (n : ℕ). n ∷ (take count body ++ drop count body)) (sym counted) in
    past_option (option kind (take count body)) (drop count body)
    (record { no_padding = no_padding; no_end = no_end }) back
    (e ∙ ap (λ (l : List ℕ). kind ∷ l) (f ∙ whole))

-- ---- results and options, by whether there is a value

pub when-ok : {A E P : Type 0} (r : Result A E) → is_err r ≡ false → OnOk r P → P
when-ok (Ok x) e p = p
when-ok (Err x) e p = cc

pub when-err : {A E P : Type 0} (r : Result A E) → is_err r ≡ true → OnErr r P → P
when-err (Ok x) e p = cc
when-err (Err x) e p = p

pub when-some : {A : Type 0} (o : Option A) → is_some o ≡ true → (x : A) × (o ≡ Some x)
when-some None e = cc
when-some (Some x) e = (x, refl)

pub when-none : {A : Type 0} (o : Option A) → is_some o ≡ false → o ≡ None
when-none None e = refl
when-none (Some x) e = cc

-- what is not read has a reason
pub told_some : {A P : Type 0} (reason : Option A) → (IsNone reason ↔ P) → (P → ⊥) → IsSome reason
told_some (Some x) exact refused = refl
told_some None exact refused = absurd (refused (exact.0 refl))
