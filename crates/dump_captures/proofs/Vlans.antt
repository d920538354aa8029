-- The numbers of VLANs.
use Rattle.std.proofs.Common.{◌≡◌, ◌∙◌, ◌≤◌, ◌<◌, [], ◌∷◌, ◌++◌, Bool, List, ℕ, ap, append_assoc, arith, codes, decimal}
use Rattle.std.proofs.Common.{Option, subst, drop, false, flat_map, length, map, refl, sym, take, true}
use Rattle.std.proofs.lemmas.List.{append-nil}
use Rattle.packet_fields.specs.Output.{Gains}
use Rattle.packet_fields.specs.Fields.{AllFit, numbers_text, with_commas}
use Rattle.dump_captures.specs.Heading.{vlans_of}
use Rattle.dump_captures.specs.private.Vlans.{one_of, run_from}

-- one tag more
pub one_vlan : (first : Bool) (done left all : List ℕ) → 4 ≤ length left → done ++ run_from first left ≡ all
    → (done ++ one_of first (take 4 left)) ++ run_from false (drop 4 left) ≡ all
one_vlan first done [] all some is = absurd (omega (arith, some))
one_vlan first done (a ∷ []) all some is = absurd (omega (arith, some))
one_vlan first done (a ∷ b ∷ []) all some is = absurd (omega (arith, some))
one_vlan first done (a ∷ b ∷ c ∷ []) all some is = absurd (omega (arith, some))
one_vlan first done (a ∷ b ∷ c ∷ d ∷ rest) all some is =
    append_assoc done (one_of first (a ∷ b ∷ c ∷ d ∷ [])) (run_from false rest) ∙ is

-- fewer octets than a tag has
pub no_vlan : (first : Bool) (tags : List ℕ) → length tags < 4 → run_from first tags ≡ []
no_vlan first [] few = refl
no_vlan first (a ∷ []) few = refl
no_vlan first (a ∷ b ∷ []) few = refl
no_vlan first (a ∷ b ∷ c ∷ []) few = refl
no_vlan first (a ∷ b ∷ c ∷ d ∷ rest) few = absurd (omega (arith, few))

more_words : (tags : List ℕ) → run_from false tags ≡ flat_map (λ next. codes "," ++ next) (map decimal (vlans_of tags))
more_words [] = refl
more_words (a ∷ []) = refl
more_words (a ∷ b ∷ []) = refl
more_words (a ∷ b ∷ c ∷ []) = refl
more_words (a ∷ b ∷ c ∷ d ∷ rest) = ap (λ more. one_of false (a ∷ b ∷ c ∷ d ∷ []) ++ more) (more_words rest)

-- with commas between them
pub words_are : (tags : List ℕ) → 4 ≤ length tags → run_from true tags ≡ with_commas (map decimal (vlans_of tags))
words_are [] some = absurd (omega (arith, some))
words_are (a ∷ []) some = absurd (omega (arith, some))
words_are (a ∷ b ∷ []) some = absurd (omega (arith, some))
words_are (a ∷ b ∷ c ∷ []) some = absurd (omega (arith, some))
words_are (a ∷ b ∷ c ∷ d ∷ rest) some = ap (λ more. one_of true (a ∷ b ∷ c ∷ d ∷ []) ++ more) (more_words rest)

more_members : (tags : List ℕ) → run_from false tags ≡ flat_map (λ next. codes "," ++ decimal next) (vlans_of tags)
more_members [] = refl
more_members (a ∷ []) = refl
more_members (a ∷ b ∷ []) = refl
more_members (a ∷ b ∷ c ∷ []) = refl
more_members (a ∷ b ∷ c ∷ d ∷ rest) = ap (λ more. one_of false (a ∷ b ∷ c ∷ d ∷ []) ++ more) (more_members rest)

-- as an array
pub array_is : (tags : List ℕ) → (codes "[" ++ run_from true tags) ++ codes "]" ≡ numbers_text (vlans_of tags)
array_is [] = refl
array_is (a ∷ []) = refl
array_is (a ∷ b ∷ []) = refl
array_is (a ∷ b ∷ c ∷ []) = refl
array_is (a ∷ b ∷ c ∷ d ∷ rest) =
    ap (λ more. (codes "[" ++ (one_of true (a ∷ b ∷ c ∷ d ∷ []) ++ more)) ++ codes "]") (more_members rest)
    ∙ simp append_assoc

-- they are below 4096
pub all_fit : (tags : List ℕ) → AllFit (vlans_of tags)
all_fit [] = tt
all_fit (a ∷ []) = tt
all_fit (a ∷ b ∷ []) = tt
all_fit (a ∷ b ∷ c ∷ []) = tt
all_fit (a ∷ b ∷ c ∷ d ∷ rest) = (omega arith, all_fit rest)

-- all of them are printed where fewer octets are left than a tag has
pub all_numbers : (first : Bool) (all done : List ℕ) (a b : Option (List ℕ)) (left : List ℕ) → length left < 4
    → done ++ run_from first left ≡ all → Gains a b done → Gains a b all
all_numbers first all done a b left few is gains =
    subst (Gains a b) (sym (append-nil done) ∙ sym (ap (λ more. done ++ more) (no_vlan first left few)) ∙ is) gains
