-- The format of options: what was read is canonical, and it is its own normal form.
use Rattle.opt_wire.proofs.Words.{[], ◌*◌, ◌++◌, ◌+◌, ◌∙◌, ◌∷◌, ◌≡◌, ◌≤◌, Bool, IsBytes, IsFormat, IsOption, List}
use Rattle.opt_wire.proofs.Words.{OptionValue, RouterAlert, SameText, ℕ, ap, append-nil, arith, case-read, drop, false}
use Rattle.opt_wire.proofs.Words.{length, over, over-exact, over-fits, pad1, pad_n, refl, round_trips, router_alert}
use Rattle.opt_wire.proofs.Words.{same_text, subst, sym, take_all, true, unknown}
use Rattle.wirebase.proofs.ByteParts.{IsBytes-front}
use Rattle.opt_wire.specs.declared.ipv6option.tables.Type.{«Type» as Kind}
use Rattle.opt_wire.specs.Ipv6OptionTables.{type_number, types, alert_number, alerts}
use Rattle.opt_wire.specs.Ipv6Option.{text, text_len, HasData, BeginsWith, IsCanonical, norm, format, Emits}
use Rattle.opt_wire.proofs.Ipv6OptionGrammar.{begins_with-unique}
use Rattle.opt_wire.proofs.Ipv6OptionText.{length-text, option_text, begins_with-text, norm-canonical, norm-norm}
use Rattle.opt_wire.proofs.Ipv6OptionText.{norm-text}

-- ---- what was read

is_unknown_type : Kind → Bool
is_unknown_type (Kind.Unknown n) = true
is_unknown_type _ = false

is_unknown_alert : RouterAlert → Bool
is_unknown_alert (RouterAlert.Unknown n) = true
is_unknown_alert _ = false

pub option-canonical : (w : List ℕ) (v : OptionValue) → IsBytes w → IsOption w v → IsCanonical v
unfolding is_unknown_type is_unknown_alert
option-canonical w pad1 are h = tt
option-canonical w (pad_n n) are h =
    let here : IsBytes (1 ∷ n ∷ h.0) = subst IsBytes h.1 are in
    here 1
option-canonical w (router_alert a) are h =
    let here : IsBytes (5 ∷ 2 ∷ h.0 ∷ h.1 ∷ []) = subst IsBytes h.2 are in
    let read =
    case-read alert_number RouterAlert.Unknown (λ k. refl) is_unknown_alert (λ k. refl) alerts (256 * h.0 + h.1) refl
    h.3 in (
      read.0,
      omega (arith, read.1, here 2, here 3),
    )
option-canonical w (unknown k n d) are h =
    let t = h.0 in
    let here : IsBytes (t ∷ n ∷ d) = subst IsBytes h.1 are in
    let read = case-read type_number Kind.Unknown (λ k. refl) is_unknown_type (λ k. refl) types t refl h.3 in (
      read.0,
      λ e. h.4 (sym read.1 ∙ ap type_number e),
      λ e. h.5 (sym read.1 ∙ ap type_number e),
      λ e. h.6 (sym read.1 ∙ ap type_number e),
      omega (arith, read.1, here 0),
      here 1,
      omega (arith, h.2),
    )

pub option-kept : (w : List ℕ) (v : OptionValue) → IsOption w v → norm v ≡ v
option-kept w (unknown k n d) h = ap (unknown k n) (take_all n d (omega (arith, h.2)))
option-kept w _ h = refl

-- ---- all of it

pub option_format : IsFormat format
option_format = record {
  one_value = begins_with-unique;
  reads_back =
      λ v filled c. record { front = text v; rest = []; whole = sym (append-nil (text v)); option = option_text v c };
  norm_canonical = norm-canonical;
  norm_norm = norm-norm;
  norm_text = λ v c regular. norm-text v;
  accepted = λ bytes v are small h. option-canonical h.front v
      (IsBytes-front h.front h.rest (subst IsBytes h.whole are)) h.option;
  regular = λ bytes v h e. e;
  kept = λ bytes v are c h whole. option-kept h.front v h.option;
}

pub option_same_text : (a b : OptionValue) → SameText format a b
option_same_text a b = same_text format option_format tt a b

-- what is left where a text was written that there is room for
pub option_emits : (v : OptionValue) (old new : List ℕ) → HasData v → text_len v ≤ length old
    → new ≡ over old (text v) → Emits v old new
option_emits v old new enough room e =
    let left : new ≡ text v ++ drop (length (text v)) old = e
    ∙ over-fits old (text v) (omega (arith, room, length-text v enough)) in
    record {
      written = e;
      exact = λ long. e ∙ over-exact old (text v) (long ∙ sym (length-text v enough));
      reads_back =
          λ canonical. subst (λ (bytes : List ℕ). BeginsWith bytes (norm v)) (sym left)
          (begins_with-text v _ canonical);
      round_trips = round_trips format option_format v;
    }
