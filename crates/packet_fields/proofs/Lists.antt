-- Lists that are printed in a loop, after their first element.
use Rattle.std.proofs.Common.{◌≡◌, ◌-◌, ◌≤◌, [], ◌∷◌, ◌++◌, List, ℕ, ap, arith, codes, drop, flat_map, get_or, length, map, refl, take}
use Rattle.std.proofs.lemmas.List.{take_all}
use Rattle.json.specs.Print.{quoted}
use Rattle.hex.specs.Hex.{encode_lower}
use Rattle.wirebase.specs.Hexadecimal.{hex_colons}
use Rattle.packet_fields.specs.Fields.{strings_text, with_commas}
use Rattle.packet_fields.specs.private.Colons.{behind_colon}

abbrev pub behind_comma : {X : Type 0} → (X → List ℕ) → X → List ℕ
behind_comma text next = codes "," ++ text next

flat_map-map : {X : Type 0} (f : X → List ℕ) (g : List ℕ → List ℕ) (xs : List X)
    → flat_map g (map f xs) ≡ flat_map (λ x. g (f x)) xs
flat_map-map f g [] = refl
flat_map-map f g (x ∷ xs) = ap (λ more. g (f x) ++ more) (flat_map-map f g xs)

pub commas-some : {X : Type 0} (f : X → List ℕ) (xs : List X) (d : X) → 1 ≤ length xs
    → with_commas (map f xs) ≡ f (get_or xs 0 d)
    ++ flat_map (λ next. codes "," ++ f next) (take (length xs - 1) (drop 1 xs))
commas-some f [] d some = absurd (omega (arith, some))
commas-some f (x ∷ xs) d some =
    let all : take (length (x ∷ xs) - 1) xs ≡ xs = take_all (length (x ∷ xs) - 1) xs (omega arith) in
    rw all (ap (λ more. f x ++ more) (flat_map-map f (λ next. codes "," ++ next) xs))

pub strings-some : {X : Type 0} (f : X → List ℕ) (xs : List X) (d : X) → 1 ≤ length xs
    → strings_text (map f xs) ≡ codes "[" ++ quoted (f (get_or xs 0 d))
    ++ flat_map (λ next. codes "," ++ quoted (f next)) (take (length xs - 1) (drop 1 xs)) ++ codes "]"
strings-some f [] d some = absurd (omega (arith, some))
strings-some f (x ∷ xs) d some =
    let all : take (length (x ∷ xs) - 1) xs ≡ xs = take_all (length (x ∷ xs) - 1) xs (omega arith) in
    rw all
    (ap (λ more. codes "[" ++ quoted (f x) ++ more ++ codes "]")
    (flat_map-map f (λ next. codes "," ++ quoted next) xs))

pub colons-some : (xs : List ℕ) → 1 ≤ length xs
    → hex_colons xs ≡ encode_lower (get_or xs 0 0 ∷ []) ++ flat_map behind_colon (take (length xs - 1) (drop 1 xs))
colons-some [] some = absurd (omega (arith, some))
colons-some (x ∷ xs) some =
    let all : take (length (x ∷ xs) - 1) xs ≡ xs = take_all (length (x ∷ xs) - 1) xs (omega arith) in
    rw all refl
