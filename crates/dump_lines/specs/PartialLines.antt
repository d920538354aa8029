-- How a line is read: octets are taken a part at a time, and what is kept of them has the shape that the line has.
use Rattle.std.specs.Prelude.{◌≡◌, ◌≢◌, ℕ, ◌*◌, ◌≤◌, Bool, true, false, if◌then◌else◌, List, [], ◌++◌, All, length}
use Rattle.std.specs.Prelude.{Option, Some}
use Rattle.std.specs.Io.BufRead.{strip_last, take_through, drop_through}
use Rattle.dump_lines.specs.Lines.{words_in}
use Rattle.dump_lines.specs.Listing.{Shape, bad, line_shape}
use Rattle.dump_lines.specs.declared.partial_line.Line.{Line}

-- the shape of a line of which a front is read, and these octets are still to come
abbrev pub shape_from : Line → List ℕ → Shape
shape_from line rest = if line.is_bad then bad else line_shape (line.octets.items ++ rest)

-- nothing is read
pub record IsFresh (line : Line) : Type 0 where
  pub shape : (rest : List ℕ) → shape_from line rest ≡ line_shape rest

-- octets after which a word begins: this many words, whatever follows, and no CR at the end
pub record IsFront (front : List ℕ) (n : ℕ) : Type 0 where
  pub words : List (List ℕ)
  pub count : length words ≡ n
  pub followed : (rest : List ℕ) → words_in (front ++ rest) ≡ words ++ words_in rest
  pub no_end : strip_last 13 front ≡ front

-- at most four whole words are kept, each with a space after it, and a fifth as far as it may be the last
pub record IsKept (line : Line) : Type 0 where
  pub front : List ℕ
  pub word : List ℕ
  pub split : line.octets.items ≡ front ++ word
  pub start : line.start ≡ length front
  pub whole : IsFront front line.words
  pub free : All (λ octet. octet ≢ 32) word
  pub few : line.words ≤ 4
  pub short : length word ≤ 131071
  pub packet_buffer : length front ≤ 131072 * line.words

-- where there was a line of these octets, its shape was read, and the lines after it are left; else there was none
abbrev pub NextLine : List ℕ → Option (List ℕ) → Line → Bool → Type 0
NextLine octets left line true =
    (octets ≢ [])
    × (shape_from line [] ≡ line_shape (strip_last 10 (take_through 10 octets)))
    × (left ≡ Some (drop_through 10 octets))
NextLine octets left line false = octets ≡ []
