-- The prefixes that the options of a router tell, block by block.
use Rattle.std.proofs.Common.{◌≡◌, ℕ, ◌*◌, List, [], ◌∷◌, ◌++◌, length, take, drop, refl, sym, ap, subst, ◌∙◌, arith}
use Rattle.std.proofs.Common.{length-append}
use Rattle.std.specs.Prelude.{None}
use Rattle.std.specs.List.{filter_map}
use Rattle.std.proofs.Math.ListN.{get_or-append}
use Rattle.std.proofs.lemmas.List.{take_at, drop_at}
use Rattle.control_wire.specs.NdiscOption.{units_in}
use Rattle.control_wire.specs.NdiscOptionRepr.{OptionValue, source, target, prefix_information, redirected, mtu}
use Rattle.control_wire.specs.NdiscOptionRepr.{unknown}
use Rattle.control_wire.specs.NdiscOptionRepr.{BeginsWith}
use Rattle.control_wire.specs.NdiscBlocks.{IsBlock, AreBlocks, ends, goes_on, skips, prefix_in}
use Rattle.control_wire.specs.NdiscPrefixInformationType.{PrefixInformation}
use Rattle.examples.specs.Router.{TellPrefixes}

-- there is one block at the start of bytes
units_at : (block rest : List ℕ) → IsBlock block → units_in (block ++ rest) ≡ units_in block
units_at block rest b = get_or-append block rest 0 1 (omega (arith, b.begins.whole.fixed))

record SameParts (a b c d : List ℕ) : Type 0 where
  fronts : a ≡ c
  rests : b ≡ d

same_parts : (a b c d : List ℕ) → IsBlock a → IsBlock c → a ++ b ≡ c ++ d → SameParts a b c d
same_parts a b c d one two e =
    let units : units_in a ≡ units_in c =
    sym (units_at a b one) ∙ ap (λ (l : List ℕ). units_in l) e ∙ units_at c d two in
    let n : ℕ = 8 * units_in c in
    let left : length a ≡ n = omega (arith, one.exact, units) in
    let right : length c ≡ n = two.exact in
    record {
      fronts = sym (take_at a b n left) ∙ ap (λ (l : List ℕ). take n l) e ∙ take_at c d n right;
      rests = sym (drop_at a b n left) ∙ ap (λ (l : List ℕ). drop n l) e ∙ drop_at c d n right;
    }

-- and the bytes are not empty
some_block : (block rest : List ℕ) → IsBlock block → [] ≡ block ++ rest → ⊥
some_block block rest b e =
    omega (arith, ap (λ (l : List ℕ). length l) e, length-append block rest, b.begins.whole.fixed)

no_prefix : (v : OptionValue) → ((p : PrefixInformation) → v ≡ prefix_information p → ⊥) → prefix_in v ≡ None
no_prefix (source a) none = refl
no_prefix (target a) none = refl
no_prefix (prefix_information p) none = absurd (none p refl)
no_prefix (redirected h d) none = refl
no_prefix (mtu n) none = refl
no_prefix (unknown t n d) none = refl

-- the prefixes after a prefix
pub record Told (bytes : List ℕ) (p : PrefixInformation) (prefixes : List PrefixInformation) : Type 0 where
  pub more : List PrefixInformation
  pub first : prefixes ≡ p ∷ more
  pub behind : TellPrefixes bytes more

first_told : (bytes block rest : List ℕ) (p : PrefixInformation) (options : List OptionValue)
    → (prefixes : List PrefixInformation) → prefixes ≡ filter_map prefix_in options
    → IsBlock block → bytes ≡ block ++ rest → BeginsWith block (prefix_information p)
    → ((v : OptionValue) → BeginsWith block v → v ≡ prefix_information p)
    → AreBlocks bytes options → Told rest p prefixes
first_told bytes block rest p options prefixes told b e reads alone ends = absurd (some_block block rest b e)
first_told bytes block rest p options prefixes told b e reads alone (goes_on {options = os} c s v g l u i) =
    let same = same_parts c s block rest g b (sym i ∙ e) in
    let first : v ≡ prefix_information p = alone v (subst (λ (x : List ℕ). BeginsWith x v) same.fronts l) in
    record {
      more = filter_map prefix_in os;
      first = told ∙ ap (λ (x : OptionValue). filter_map prefix_in (x ∷ os)) first;
      behind = record {
        options = os;
        tiling = subst (λ (x : List ℕ). AreBlocks x os) same.rests u;
        told = refl;
      };
    }
first_told bytes block rest p options prefixes told b e reads alone (skips c s g l u i) =
    let same = same_parts c s block rest g b (sym i ∙ e) in
    absurd (l (prefix_information p)
    (subst (λ (x : List ℕ). BeginsWith x (prefix_information p)) (sym same.fronts) reads))

-- a block with a prefix has the first prefix
pub told_first : (bytes block rest : List ℕ) (p : PrefixInformation) (prefixes : List PrefixInformation)
    → IsBlock block → bytes ≡ block ++ rest → BeginsWith block (prefix_information p)
    → ((v : OptionValue) → BeginsWith block v → v ≡ prefix_information p)
    → TellPrefixes bytes prefixes → Told rest p prefixes
told_first bytes block rest p prefixes b e reads alone t =
    first_told bytes block rest p t.options prefixes t.told b e reads alone t.tiling

later_told : (bytes block rest : List ℕ) (options : List OptionValue) (prefixes : List PrefixInformation)
    → prefixes ≡ filter_map prefix_in options → IsBlock block → bytes ≡ block ++ rest
    → ((p : PrefixInformation) → BeginsWith block (prefix_information p) → ⊥)
    → AreBlocks bytes options → TellPrefixes rest prefixes
later_told bytes block rest options prefixes told b e none ends = absurd (some_block block rest b e)
later_told bytes block rest options prefixes told b e none (goes_on {options = os} c s v g l u i) =
    let same = same_parts c s block rest g b (sym i ∙ e) in
    let other : prefix_in v ≡ None =
    no_prefix v (λ p is. none p (subst (λ (x : OptionValue). BeginsWith block x) is
    (subst (λ (x : List ℕ). BeginsWith x v) same.fronts l))) in
    record {
      options = os;
      tiling = subst (λ (x : List ℕ). AreBlocks x os) same.rests u;
      told = told ∙ rw other refl;
    }
later_told bytes block rest options prefixes told b e none (skips {options = os} c s g l u i) =
    let same = same_parts c s block rest g b (sym i ∙ e) in
    record {
      options = os;
      tiling = subst (λ (x : List ℕ). AreBlocks x os) same.rests u;
      told = told;
    }

-- a block without a prefix is followed by all prefixes
pub told_later : (bytes block rest : List ℕ) (prefixes : List PrefixInformation)
    → IsBlock block → bytes ≡ block ++ rest → ((p : PrefixInformation) → BeginsWith block (prefix_information p) → ⊥)
    → TellPrefixes bytes prefixes → TellPrefixes rest prefixes
told_later bytes block rest prefixes b e none t =
    later_told bytes block rest t.options prefixes t.told b e none t.tiling

none_told : (bytes : List ℕ) (options : List OptionValue) (prefixes : List PrefixInformation)
    → prefixes ≡ filter_map prefix_in options
    → ((block rest : List ℕ) → IsBlock block → bytes ≡ block ++ rest → ⊥) → AreBlocks bytes options → prefixes ≡ []
none_told bytes options prefixes told none ends = told
none_told bytes options prefixes told none (goes_on c s v g l u i) = absurd (none c s g i)
none_told bytes options prefixes told none (skips c s g l u i) = absurd (none c s g i)

-- where there is no block, there is no prefix
pub told_none : (bytes : List ℕ) (prefixes : List PrefixInformation)
    → ((block rest : List ℕ) → IsBlock block → bytes ≡ block ++ rest → ⊥) → TellPrefixes bytes prefixes → prefixes ≡ []
told_none bytes prefixes none t = none_told bytes t.options prefixes t.told none t.tiling
