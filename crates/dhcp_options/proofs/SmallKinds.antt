-- Kinds of options are bytes.
use Rattle.dhcp_options.proofs.Words.{[], ◌++◌, ◌-◌, ◌<◌, ◌∷◌, ◌≡◌, Area, Err, HasAreas, IsBytes, List, None, Ok}
use Rattle.dhcp_options.proofs.Words.{Option, OptionValue, Options, Overload, PlacedAnswer, Some, answers_in}
use Rattle.dhcp_options.proofs.Words.{answers_left, arith, cut_of, drop, file_if, list_of}
use Rattle.dhcp_options.proofs.Words.{map, option_text, part, placed, refl, refusal_in}
use Rattle.dhcp_options.proofs.Words.{sname_if, subst, suc, sym, take, zero, ℕ}
use Rattle.dhcp_wire.specs.Dhcpv4Options.{ended, goes_on, lone, none, padded, torn}
use Rattle.dhcp_wire.proofs.Dhcpv4Lists.{list-options}
use Rattle.wirebase.proofs.ByteParts.{IsBytes-drop}
use Rattle.dhcp_options.specs.declared.areas.Areas.{Areas}

-- every option has a kind of one byte
abbrev pub AreSmall : List PlacedAnswer → Type 0
AreSmall [] = Unit {0}
AreSmall (Ok p ∷ more) = (p.option.kind < 256) × AreSmall more
AreSmall (Err refusal ∷ more) = AreSmall more

abbrev AllSmall : List OptionValue → Type 0
AllSmall [] = Unit {0}
AllSmall (o ∷ os) = (o.kind < 256) × AllSmall os

behind : (bytes front rest : List ℕ) → bytes ≡ front ++ rest → IsBytes bytes → IsBytes rest
behind bytes [] rest e are = subst (λ (l : List ℕ). IsBytes l) e are
behind bytes (x ∷ front) rest e are =
    behind (front ++ rest) front rest refl
    (λ i. let whole : IsBytes (x ∷ (front ++ rest)) = subst (λ (l : List ℕ). IsBytes l) e are in whole (suc i))

small : {bytes : List ℕ} {options : List OptionValue} → Options bytes options → IsBytes bytes → AllSmall options
small none are = tt
small (ended rest e) are = tt
small (padded rest tail e) are = small tail (behind _ (0 ∷ []) rest e are)
small (lone kind k e) are = tt
small (torn kind n rest k short e) are = tt
small (goes_on o rest k tail e) are = (
  (subst (λ (l : List ℕ). IsBytes l) e are) 0,
  small tail (behind _ (option_text o) rest e are),
)

placed-small : (area : Area) (options : List OptionValue) (cut : Option ℕ) → AllSmall options
    → AreSmall (map (λ o. Ok (placed area o)) options ++ refusal_in area cut)
placed-small area [] None h = tt
placed-small area [] (Some kind) h = tt
placed-small area (o ∷ os) cut (k, h) = (k, placed-small area os cut h)

in-small : (area : Area) (bytes : List ℕ) → IsBytes bytes → AreSmall (answers_in area bytes)
unfolding answers_in
in-small area bytes are = placed-small area (list_of bytes) (cut_of bytes) (small (list-options bytes) are)

both-small : (front rest : List PlacedAnswer) → AreSmall front → AreSmall rest → AreSmall (front ++ rest)
both-small [] rest a b = b
both-small (Ok p ∷ front) rest (k, a) b = (k, both-small front rest a b)
both-small (Err refusal ∷ front) rest a b = both-small front rest a b

front-bytes : (n : ℕ) (bytes : List ℕ) → IsBytes bytes → IsBytes (take n bytes)
front-bytes zero bytes are i = omega arith
front-bytes (suc n) [] are i = are i
front-bytes (suc n) (x ∷ bytes) are zero = are 0
front-bytes (suc n) (x ∷ bytes) are (suc i) = front-bytes n bytes (λ j. are (suc j)) i

part-bytes : (bytes : List ℕ) (i j : ℕ) → IsBytes bytes → IsBytes (part bytes i j)
unfolding part
part-bytes bytes i j are = front-bytes (j - i) (drop i bytes) (IsBytes-drop i bytes are)

file-bytes : (overload : Option Overload) (bytes : List ℕ) → IsBytes bytes → IsBytes (file_if overload bytes)
file-bytes None bytes are = λ i. omega arith
file-bytes (Some Overload.File) bytes are = part-bytes bytes 108 236 are
file-bytes (Some Overload.Sname) bytes are = λ i. omega arith
file-bytes (Some Overload.FileAndSname) bytes are = part-bytes bytes 108 236 are

sname-bytes : (overload : Option Overload) (bytes : List ℕ) → IsBytes bytes → IsBytes (sname_if overload bytes)
sname-bytes None bytes are = λ i. omega arith
sname-bytes (Some Overload.File) bytes are = λ i. omega arith
sname-bytes (Some Overload.Sname) bytes are = part-bytes bytes 44 108 are
sname-bytes (Some Overload.FileAndSname) bytes are = part-bytes bytes 44 108 are

pub left-small : (overload : Option Overload) (bytes : List ℕ) (a : Areas) → HasAreas overload bytes a → IsBytes bytes
    → AreSmall (answers_left a)
left-small overload bytes a has are =
    let options : IsBytes a.options.now =
    subst (λ (l : List ℕ). IsBytes l) (sym has.options) (IsBytes-drop 240 bytes are) in
    let file : IsBytes a.file.now =
    subst (λ (l : List ℕ). IsBytes l) (sym has.file) (file-bytes overload bytes are) in
    let sname : IsBytes a.sname.now =
    subst (λ (l : List ℕ). IsBytes l) (sym has.sname) (sname-bytes overload bytes are) in
    both-small (answers_in Area.Options a.options.now) _ (in-small Area.Options a.options.now options)
    (both-small (answers_in Area.File a.file.now) _ (in-small Area.File a.file.now file)
    (in-small Area.Sname a.sname.now sname))
