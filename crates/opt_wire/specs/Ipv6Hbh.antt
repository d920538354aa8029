-- A hop-by-hop header without its first two bytes (RFC 8200 section 4.3).
use Rattle.std.specs.Prelude.{◌≡◌, ◌≢◌, ℕ, ◌+◌, ◌≤◌, List, [], length, map, take, sum_by, Ok}
use Rattle.std.specs.Borrow.{Bor}
use Rattle.std.specs.List.{AllByRecursion}
use Rattle.opt_wire.specs.Words.{Format, RoundTrips, fields, over}
use Rattle.opt_wire.specs.declared.ipv6hbh.Header.{Header}
use Rattle.opt_wire.specs.declared.ipv6hbh.Repr.{Repr}
use Rattle.opt_wire.specs.Ipv6Option as option
use Rattle.opt_wire.specs.Ipv6Option.{OptionValue, value_of as option_value}
use Rattle.opt_wire.specs.Ipv6OptionAnswers.{Answer, Tile}

-- the buffer of a view, and the view with another buffer
abbrev pub inner : {T : Type 0} → Header T → T
inner view = view.buffer

abbrev pub with_inner : {T : Type 0} → Header T → T → Header T
with_inner view buffer = record view { buffer = buffer }

abbrev pub view_octets : Header (Bor (List ℕ)) → List ℕ
view_octets view = (inner view).now

-- the options by their content
abbrev pub value_of : Repr → List OptionValue
value_of repr = map option_value repr.options.items

-- their texts one after another, and the text of a header
abbrev pub header_fields : List OptionValue → List (List ℕ)
header_fields options = map option.text options

abbrev pub text : List OptionValue → List ℕ
text options = fields (header_fields options)

-- the bytes that they take by the lengths that they count
abbrev pub text_len : List OptionValue → ℕ
text_len options = sum_by option.text_len options

-- each holds as many bytes of data as it counts
abbrev pub HaveData : List OptionValue → Type 0
HaveData options = AllByRecursion option.HasData options

-- The grammar where at most a given number of options are kept: there are bytes, and the options of their tiling are
-- read up to one more than are kept; so there is no refusal among these.
pub record IsHeader (most : ℕ) (bytes : List ℕ) (options : List OptionValue) : Type 0 where
  pub answers : List Answer
  pub read : List OptionValue
  pub some : bytes ≢ []
  pub tile : Tile bytes answers
  pub good : take (most + 1) answers ≡ map Ok read
  pub kept : options ≡ take most read

-- one to as many canonical options as are kept
pub record IsCanonical (most : ℕ) (options : List OptionValue) : Type 0 where
  pub some : 1 ≤ length options
  pub few : length options ≤ most
  pub each : AllByRecursion option.IsCanonical options

-- the normal form: that of each option
abbrev pub norm : List OptionValue → List OptionValue
norm options = map option.norm options

-- the format, where at most a given number of options are kept; no value is an exception, and what was read holds no
-- more data than it counts
abbrev pub format : ℕ → Format (List OptionValue)
format most = record {
  Reads = IsHeader most;
  Fills = Unit {0};
  text = text;
  IsCanonical = IsCanonical most;
  IsException = λ options. ⊥;
  norm = norm;
  IsCut = λ options. ⊥;
}

-- What writing options over `old` leaves, where at most a given number of are kept. Where `old` has exactly their
-- length, their text is all that is left, and canonical options are read back as their normal form.
pub record Emits (most : ℕ) (options : List OptionValue) (old new : List ℕ) : Type 0 where
  pub written : new ≡ over old (text options)
  pub exact : length old ≡ text_len options → new ≡ text options
  pub reads_back : IsCanonical most options → length old ≡ text_len options → IsHeader most new (norm options)
  pub round_trips : RoundTrips (format most) options
