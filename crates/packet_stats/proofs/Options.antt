-- Options of neighbor discovery in turn.
use Rattle.std.proofs.Common.{◌≡◌, ◌∙◌, ◌-◌, ◌≤◌, ◌<◌, [], ◌∷◌, Bool, List, Some, ap, arith, drop, false, length}
use Rattle.std.proofs.Common.{Option, refl, take, true, ℕ}
use Rattle.std.proofs.lemmas.Bool.{eqb-true}
use Rattle.std.proofs.lemmas.List.{length-drop}
use Rattle.std.specs.Prelude.{◌==◌, find}
use Rattle.wirebase.specs.Bytes.{byte_of, bytes_of, field as at}
use Rattle.packet_fields.proofs.PartsInTurn.{enough, first_part}
use Rattle.neighbor_fields.specs.Ndisc.{option_len}
use Rattle.packet_stats.specs.Neighbors.{has_prefix, link_said, options_in, prefix_said}
use Rattle.packet_stats.specs.Row.{said_of}
use Rattle.packet_stats.specs.Subject.{neighbor, prefix}

some_octets : (bytes : List ℕ) → 1 ≤ length bytes → 1 ≤ option_len bytes
some_octets bytes any = grind arith

-- the first option, and the others
pub next_option : (bytes option others : List ℕ) → 0 < length bytes → option ≡ take (option_len bytes) bytes
    → others ≡ drop (option_len bytes) bytes → options_in bytes ≡ option ∷ options_in others
next_option [] option others any option_is others_is = absurd (omega (arith, any))
next_option (b ∷ bs) option others any option_is others_is =
    let one = some_octets (b ∷ bs) (omega arith) in
    let fewer = length-drop (option_len (b ∷ bs)) (b ∷ bs) in
    let count : length others ≡ length (b ∷ bs) - option_len (b ∷ bs) = ap length others_is ∙ fewer in
    first_part option_len (length (b ∷ bs)) (b ∷ bs) option others any any option_is others_is
    ∙ ap (λ more. option ∷ more)
    (enough option_len some_octets (length (b ∷ bs) - 1) (length others) others (omega (arith, count)) (omega arith))

pub no_options : (bytes : List ℕ) → (length bytes == 0) ≡ true → options_in bytes ≡ []
no_options [] none = refl
no_options (b ∷ bs) none = absurd (omega (arith, eqb-true (length (b ∷ bs)) 0 none))

-- the first of a list of which this holds
module _ {X : Type 0} (p : X → Bool) where
  pub find-here : (x : X) (xs : List X) → p x ≡ true → find p (x ∷ xs) ≡ Some x
  find-here x xs is = rw is refl

  pub find-behind : (x : X) (xs : List X) → p x ≡ false → find p (x ∷ xs) ≡ find p xs
  find-behind x xs is = rw is refl

-- ---- what an option says

pub link_is : (address link option : List ℕ) (found : Option (List ℕ)) → Some option ≡ found
    → link ≡ bytes_of (at 2 8) option → said_of (neighbor address link) ∷ [] ≡ link_said address found
link_is address link option found is same =
    ap (λ (l : List ℕ). said_of (neighbor address l) ∷ []) same ∙ ap (link_said address) is

pub prefix_is : (source option address : List ℕ) (len : ℕ) → has_prefix option ≡ true
    → address ≡ bytes_of (at 16 32) option → len ≡ byte_of (at 2 3) option
    → said_of (prefix address len source) ∷ [] ≡ prefix_said source option
prefix_is source option address len is address_is len_is =
    ap (λ (l : List ℕ). said_of (prefix l len source) ∷ []) address_is
    ∙ ap (λ (n : ℕ). said_of (prefix (bytes_of (at 16 32) option) n source) ∷ []) len_is ∙ rw is refl
