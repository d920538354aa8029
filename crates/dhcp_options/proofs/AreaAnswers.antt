-- What areas give.
use Rattle.dhcp_options.proofs.Words.{[], ◌++◌, ◌∙◌, ◌∷◌, ◌≡◌, Area, AreaBytes, Err, GiveAll, Gives}
use Rattle.dhcp_options.proofs.Words.{HasAreas, List, None, Ok, Option, OptionValue, Overload, PlacedAnswer}
use Rattle.dhcp_options.proofs.Words.{Some, ahead, ahead_of, answers_in, answers_left, ap, append-nil}
use Rattle.dhcp_options.proofs.Words.{area_bytes, areas, cut_of, file_if, given, list_of, options_in}
use Rattle.dhcp_options.proofs.Words.{placed, refl, sname_if, subst, sym, ℕ}
use Rattle.dhcp_wire.proofs.Dhcpv4Lists.{list-options, options-unique}
use Rattle.dhcp_options.specs.private.Ahead.{Ahead}
use Rattle.dhcp_options.specs.declared.areas.Areas.{Areas}
use Rattle.dhcp_options.proofs.Cuts.{cut-is, ends-cut}
use Rattle.dhcp_options.proofs.AheadFronts.{ahead-nothing}

-- ---- one area, by what is ahead in it

pub answers-ahead : (area : Area) (bytes : List ℕ) (a : Ahead) → ahead_of bytes ≡ a
    → answers_in area bytes ≡ given area a
unfolding answers_in
answers-ahead area bytes a e = ap (given area) e

pub answers-option : (area : Area) (bytes rest : List ℕ) (o : OptionValue)
    → ahead_of bytes ≡ ahead (o ∷ list_of rest) (cut_of rest)
    → answers_in area bytes ≡ Ok (placed area o) ∷ answers_in area rest
unfolding answers_in
answers-option area bytes rest o e = ap (given area) e

pub answers-nothing : (area : Area) → answers_in area [] ≡ []
answers-nothing area = answers-ahead area [] (ahead [] None) ahead-nothing

-- and nothing behind a refusal
pub answers-refusal : (area : Area) (kind : ℕ)
    → given area (ahead [] (Some kind)) ≡ Err (record { area = area; kind = kind }) ∷ answers_in area []
answers-refusal area kind =
    ap (λ (l : List PlacedAnswer). Err (record { area = area; kind = kind }) ∷ l) (sym (answers-nothing area))

-- ---- one area, by the relation

gives-computed : (area : Area) (bytes : List ℕ) → Gives (area_bytes area bytes) (answers_in area bytes)
unfolding answers_in
gives-computed area bytes =
    record {
      options = list_of bytes;
      cut = cut_of bytes;
      listed = list-options bytes;
      ends = ends-cut bytes;
      whole = refl;
    }

gives-one : (area : Area) (bytes : List ℕ) (answers : List PlacedAnswer) → Gives (area_bytes area bytes) answers
    → answers ≡ answers_in area bytes
unfolding answers_in
gives-one area bytes answers gives =
    gives.whole
    ∙ ap (λ (os : List OptionValue). given area (ahead os gives.cut))
    (sym (options-unique bytes gives.options (list_of bytes) gives.listed (list-options bytes)))
    ∙ ap (λ (c : Option ℕ). given area (ahead (list_of bytes) c)) (sym (cut-is bytes gives.cut gives.ends))

-- ---- all areas of a packet

abbrev all_in : List ℕ → List ℕ → List ℕ → List PlacedAnswer
all_in options file sname =
    answers_in Area.Options options ++ (answers_in Area.File file ++ answers_in Area.Sname sname)

behind-none : (area : Area) (l : List PlacedAnswer) → l ++ answers_in area [] ≡ l
behind-none area l = ap (λ (m : List PlacedAnswer). l ++ m) (answers-nothing area) ∙ append-nil l

before-none : (area : Area) (l : List PlacedAnswer) → answers_in area [] ++ l ≡ l
before-none area l = ap (λ (m : List PlacedAnswer). m ++ l) (answers-nothing area)

-- areas that give nothing are as good as none
abbrev held : List AreaBytes → List PlacedAnswer
held [] = []
held (area ∷ more) = answers_in area.area area.bytes ++ held more

held-give : (some : List AreaBytes) → GiveAll some (held some)
held-give [] = refl
held-give (area ∷ more) =
    (answers_in area.area area.bytes, held more, gives-computed area.area area.bytes, held-give more, refl)

held-one : (some : List AreaBytes) (answers : List PlacedAnswer) → GiveAll some answers → answers ≡ held some
held-one [] answers e = e
held-one (area ∷ more) answers (front, rest, gives, all, whole) =
    whole ∙ ap (λ (l : List PlacedAnswer). l ++ rest) (gives-one area.area area.bytes front gives)
    ∙ ap (λ (l : List PlacedAnswer). answers_in area.area area.bytes ++ l) (held-one more rest all)

held-all : (overload : Option Overload) (bytes : List ℕ)
    → held (areas overload bytes) ≡ all_in (options_in bytes) (file_if overload bytes) (sname_if overload bytes)
held-all None bytes =
    ap (λ (l : List PlacedAnswer). answers_in Area.Options (options_in bytes) ++ l)
    (sym (before-none Area.File (answers_in Area.Sname []) ∙ answers-nothing Area.Sname))
held-all (Some Overload.File) bytes =
    ap (λ (l : List PlacedAnswer).
    answers_in Area.Options (options_in bytes) ++ (answers_in Area.File (file_if (Some Overload.File) bytes) ++ l))
    (sym (answers-nothing Area.Sname))
held-all (Some Overload.Sname) bytes =
    ap (λ (l : List PlacedAnswer). answers_in Area.Options (options_in bytes) ++ l)
    (append-nil (answers_in Area.Sname (sname_if (Some Overload.Sname) bytes))
    ∙ sym (before-none Area.File (answers_in Area.Sname (sname_if (Some Overload.Sname) bytes))))
held-all (Some Overload.FileAndSname) bytes =
    ap (λ (l : List PlacedAnswer).
    answers_in Area.Options (options_in bytes)
    ++ (answers_in Area.File (file_if (Some Overload.FileAndSname) bytes) ++ l))
    (append-nil (answers_in Area.Sname (sname_if (Some Overload.FileAndSname) bytes)))

left-all : (overload : Option Overload) (bytes : List ℕ) (a : Areas) → HasAreas overload bytes a
    → answers_left a ≡ held (areas overload bytes)
left-all overload bytes a has =
    ap (λ (l : List ℕ). all_in l a.file.now a.sname.now) has.options
    ∙ ap (λ (l : List ℕ). all_in (options_in bytes) l a.sname.now) has.file
    ∙ ap (λ (l : List ℕ). all_in (options_in bytes) (file_if overload bytes) l) has.sname
    ∙ sym (held-all overload bytes)

pub left-give : (overload : Option Overload) (bytes : List ℕ) (a : Areas) → HasAreas overload bytes a
    → GiveAll (areas overload bytes) (answers_left a)
left-give overload bytes a has =
    subst (λ (l : List PlacedAnswer). GiveAll (areas overload bytes) l) (sym (left-all overload bytes a has))
    (held-give (areas overload bytes))

pub left-one : (overload : Option Overload) (bytes : List ℕ) (a : Areas) (answers : List PlacedAnswer)
    → HasAreas overload bytes a → GiveAll (areas overload bytes) answers → answers ≡ answers_left a
left-one overload bytes a answers has all =
    held-one (areas overload bytes) answers all ∙ sym (left-all overload bytes a has)
