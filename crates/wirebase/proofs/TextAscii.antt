-- Texts of ASCII characters alone.
use Rattle.wirebase.proofs.Words.{◌+◌, ◌/◌, ◌%◌, ◌<◌, [], ◌∷◌, ◌++◌, ◌≡◌, Bool, IsAscii, List, ℕ, arith, codes, cond}
use Rattle.wirebase.proofs.Words.{digit_char, drop, false, flat_map, groups_text, hex, hex_groups_text, last_digits}
use Rattle.wirebase.proofs.Words.{longest_zero_run, nat_lt, refl, suc, take, true, zero}
use Rattle.std.proofs.lemmas.Str.{IsAscii-append, IsAscii-drop}
use Rattle.std.proofs.lemmas.Str.Ascii.{IsAscii-nil, IsAscii-cons, IsAscii-push}
use Rattle.std.proofs.lemmas.Bool.{and_parts, ltb-true}
use Rattle.std.proofs.lemmas.List.Elements.{All-head, All-tail, All-take, All-drop}
use Rattle.std.specs.List.{All, list_all}
use Rattle.std.specs.Net.Text.{leading_zero_digits}

-- a text that a test finds to be ASCII
pub tested-ascii : (text : List ℕ) → list_all (λ b. nat_lt b 128) text ≡ true → IsAscii text
tested-ascii [] e = IsAscii-nil
tested-ascii (b ∷ text) e =
    let parts = and_parts (nat_lt b 128) (list_all (λ b. nat_lt b 128) text) e in
    IsAscii-cons b text (ltb-true b 128 parts.0) (tested-ascii text parts.1)

-- texts one after another
joined-ascii : (x y z : List ℕ) → IsAscii x → IsAscii y → IsAscii z → IsAscii (x ++ y ++ z)
joined-ascii x y z e f g = IsAscii-append (x ++ y) z (IsAscii-append x y e f) g

pub last_digits-ascii : (count number : ℕ) → IsAscii (last_digits count number)
last_digits-ascii zero number = IsAscii-nil
last_digits-ascii (suc count) number =
    IsAscii-push (last_digits count (number / 10)) (48 + number % 10) (last_digits-ascii count (number / 10))
    (omega arith)

-- ---- groups of hexadecimal digits

digit-ascii : (n : ℕ) → n < 16 → digit_char n < 128
digit-ascii n small = grind arith

four-ascii : (a b c d : ℕ) → a < 128 → b < 128 → c < 128 → d < 128 → IsAscii (a ∷ b ∷ c ∷ d ∷ [])
four-ascii a b c d e f g h =
    IsAscii-cons a (b ∷ c ∷ d ∷ []) e
    (IsAscii-cons b (c ∷ d ∷ []) f (IsAscii-cons c (d ∷ []) g (IsAscii-cons d [] h IsAscii-nil)))

pub hex-ascii : (n : ℕ) → n < 0x10000 → IsAscii (hex n)
unfolding hex
hex-ascii n fits =
    let third = digit-ascii (n / 0x100 % 16) (omega arith) in
    let second = digit-ascii (n / 0x10 % 16) (omega arith) in
    IsAscii-drop
    (digit_char (n / 0x1000) ∷ digit_char (n / 0x100 % 16) ∷ digit_char (n / 0x10 % 16) ∷ digit_char (n % 16) ∷ [])
    (leading_zero_digits n)
    (four-ascii (digit_char (n / 0x1000)) (digit_char (n / 0x100 % 16)) (digit_char (n / 0x10 % 16)) (digit_char (n %
    16))
    (digit-ascii (n / 0x1000) (omega arith)) third second (digit-ascii (n % 16) (omega arith)))

abbrev pub IsGroup : ℕ → Type 0
IsGroup n = n < 0x10000

behind-ascii : (groups : List ℕ) → All IsGroup groups → IsAscii (flat_map (λ g. codes ":" ++ hex g) groups)
behind-ascii [] fit = IsAscii-nil
behind-ascii (g ∷ groups) fit =
    IsAscii-append (codes ":" ++ hex g) (flat_map (λ g. codes ":" ++ hex g) groups)
    (IsAscii-cons 58 (hex g) (omega arith) (hex-ascii g (All-head IsGroup g groups fit)))
    (behind-ascii groups (All-tail IsGroup g groups fit))

groups-ascii : (groups : List ℕ) → All IsGroup groups → IsAscii (groups_text groups)
groups-ascii [] fit = IsAscii-nil
groups-ascii (g ∷ groups) fit =
    IsAscii-append (hex g) (flat_map (λ g. codes ":" ++ hex g) groups) (hex-ascii g (All-head IsGroup g groups fit))
    (behind-ascii groups (All-tail IsGroup g groups fit))

either-ascii : (b : Bool) (xs ys : List ℕ) → IsAscii xs → IsAscii ys → IsAscii (cond b xs ys)
either-ascii true xs ys e f = e
either-ascii false xs ys e f = f

pub address-ascii : (groups : List ℕ) → All IsGroup groups → IsAscii (hex_groups_text groups)
unfolding hex_groups_text
address-ascii groups fit =
    let run = longest_zero_run groups in
    let front = groups-ascii (take run.0 groups) (All-take IsGroup run.0 groups fit) in
    let back = groups-ascii (drop (run.0 + run.1) groups) (All-drop IsGroup (run.0 + run.1) groups fit) in
    either-ascii _ (groups_text (take run.0 groups) ++ codes "::" ++ groups_text (drop (run.0 + run.1) groups))
    (groups_text groups)
    (joined-ascii (groups_text (take run.0 groups)) (codes "::") (groups_text (drop (run.0 + run.1) groups)) front
    (tested-ascii (codes "::") refl) back)
    (groups-ascii groups fit)

-- ---- addresses and ports

pub v4-ascii : (a b c d : List ℕ) → IsAscii a → IsAscii b → IsAscii c → IsAscii d
    → IsAscii (a ++ codes "." ++ b ++ codes "." ++ c ++ codes "." ++ d)
v4-ascii a b c d e f g h =
    let dot = tested-ascii (codes ".") refl in
    let two = joined-ascii a (codes ".") b e dot f in
    let three = joined-ascii (a ++ codes "." ++ b) (codes ".") c two dot g in
    joined-ascii (a ++ codes "." ++ b ++ codes "." ++ c) (codes ".") d three dot h

pub with_port-ascii : (address port : List ℕ) → IsAscii address → IsAscii port → IsAscii (address ++ codes ":" ++ port)
with_port-ascii address port e f = joined-ascii address (codes ":") port e (tested-ascii (codes ":") refl) f

pub in_brackets-ascii : (address port : List ℕ) → IsAscii address → IsAscii port
    → IsAscii (codes "[" ++ address ++ codes "]:" ++ port)
in_brackets-ascii address port e f =
    joined-ascii (codes "[" ++ address) (codes "]:") port
    (IsAscii-append (codes "[") address (tested-ascii (codes "[") refl) e) (tested-ascii (codes "]:") refl) f
