-- The options that a value follows, and what their values are.
use Rattle.std.specs.Prelude.{ℕ, ◌^◌, ◌==◌, ◌&&◌, nat_lt, if◌then◌else◌, List, length, codes, bytes_eq}
use Rattle.std.specs.Prelude.{Option, None, Some}
use Rattle.std.specs.List.{after_first, before_first}
use Rattle.std.specs.Option.{option_and_then}
use Rattle.std.specs.Str.{all_ascii_digits}
use Rattle.std.specs.Str.Parse.{digits_value}
use Rattle.dump_captures.specs.declared.options.Color.{Color as AnyColor}
use Rattle.dump_captures.specs.declared.options.Color.TheVariants.{Auto, Always, Never}
use Rattle.dump_captures.specs.declared.options.TimeForm.{TimeForm}
use Rattle.dump_captures.specs.declared.options.TimeForm.TheVariants.{Clock, Utc, Relative, Delta, Epoch}
use Rattle.dump_captures.specs.declared.settings.Setting.{Setting}
use Rattle.dump_captures.specs.declared.settings.Setting.TheVariants.{Only, Most, Host, Name, Time, Port, Color}

-- ---- the options

abbrev pub setting_of : List ℕ → Option Setting
setting_of option =
    if bytes_eq option (codes "--only") then Some Only
    else if bytes_eq option (codes "-c") then Some Most
    else if bytes_eq option (codes "--host") then Some Host
    else if bytes_eq option (codes "--name") then Some Name
    else if bytes_eq option (codes "--time") then Some Time
    else if bytes_eq option (codes "--port") then Some Port
    else if bytes_eq option (codes "--color") then Some Color
    else None

-- ---- two parts of a text

-- the text before the first such octet, and that behind it where there is one
abbrev pub before : ℕ → List ℕ → List ℕ
before octet text = before_first (λ other. other == octet) text

abbrev pub behind : ℕ → List ℕ → Option (List ℕ)
behind octet text =
    if nat_lt (length (before octet text)) (length text) then Some (after_first (λ other. other == octet) text)
    else None

-- an option, and its value where an equals sign is between the two
abbrev pub option_in : List ℕ → List ℕ
option_in word = before 61 word

abbrev pub value_in : List ℕ → Option (List ℕ)
value_in word = behind 61 word

-- ---- values

-- a number of 64 bits in decimal digits, one or more
abbrev pub number_in : List ℕ → Option ℕ
number_in text =
    if all_ascii_digits text && nat_lt 0 (length text) && nat_lt (digits_value 10 text) (2 ^ 64)
    then Some (digits_value 10 text)
    else None

-- the same from 1 on
abbrev pub count_in : List ℕ → Option ℕ
count_in text = option_and_then (λ number. if number == 0 then None else Some number) (number_in text)

abbrev pub time_form_in : List ℕ → Option TimeForm
time_form_in text =
    if bytes_eq text (codes "utc") then Some Utc
    else if bytes_eq text (codes "clock") then Some Clock
    else if bytes_eq text (codes "relative") then Some Relative
    else if bytes_eq text (codes "delta") then Some Delta
    else if bytes_eq text (codes "epoch") then Some Epoch
    else None

abbrev pub color_in : List ℕ → Option AnyColor
color_in text =
    if bytes_eq text (codes "auto") then Some Auto
    else if bytes_eq text (codes "always") then Some Always
    else if bytes_eq text (codes "never") then Some Never
    else None
