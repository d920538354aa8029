-- What the arguments of the program ask for.
use Rattle.std.specs.Prelude.{ℕ, ◌==◌, ◌||◌, ◌&&◌, not, nat_lt, Bool, true, false, if◌then◌else◌, List, [], ◌∷◌}
use Rattle.std.specs.Prelude.{◌++◌, length, get_or, map, codes, bytes_eq, string_bytes, Option, None, Some, Result, Ok}
use Rattle.std.specs.Prelude.{Err, unwrap_or}
use Rattle.std.specs.List.{fold, slice_split}
use Rattle.std.specs.Option.{ok_or, option_and_then, option_map}
use Rattle.packet_fields.specs.declared.form.Form.TheVariants.{Json, Lines}
use Rattle.dump_captures.specs.Kinds.{kinds, kind_place, kind_text}
use Rattle.dump_captures.specs.Nearest.{nearest}
use Rattle.dump_captures.specs.Numbers.{changed_at}
use Rattle.dump_captures.specs.Ports.{no_ports, with_ports}
use Rattle.dump_captures.specs.Settings.{color_in, count_in, option_in, setting_of, time_form_in, value_in}
use Rattle.dump_captures.specs.declared.arguments.Wrong.{Wrong}
use Rattle.dump_captures.specs.declared.arguments.Wrong.TheVariants as wrong
use Rattle.dump_captures.specs.declared.kind.Kind.{Kind}
use Rattle.dump_captures.specs.declared.kind.Kind.TheVariants.{Icmp4, Icmp6}
use Rattle.dump_captures.specs.declared.options.Only.{Only}
use Rattle.dump_captures.specs.declared.options.Options.{Options}
use Rattle.dump_captures.specs.declared.options.Color.{Color}
use Rattle.dump_captures.specs.declared.options.Color.TheVariants.{Auto}
use Rattle.dump_captures.specs.declared.options.TimeForm.{TimeForm}
use Rattle.dump_captures.specs.declared.ports.Ports.{Ports}
use Rattle.dump_captures.specs.declared.settings.Setting.{Setting}
use Rattle.dump_captures.specs.declared.settings.Setting.TheVariants as setting

-- ---- kinds by their names

abbrev pub is_named : List ℕ → Kind → Bool
is_named name kind = bytes_eq name (kind_text kind)

-- the first of these kinds that has this name
abbrev pub first_named : List ℕ → List Kind → Option Kind
first_named name [] = None
first_named name (kind ∷ rest) = if is_named name kind then Some kind else first_named name rest

-- the kind of a name, none where it is no kind's
abbrev pub kind_named : List ℕ → Option Kind
kind_named name = first_named name kinds

-- ---- the packets that a list of names chooses

abbrev pub chooses_none : Only
chooses_none = record {
  kinds = map (λ _. false) kinds;
  hop_by_hop = false;
}

abbrev pub with_kind : Only → Kind → Only
with_kind only kind = record only { kinds = changed_at (kind_place kind) (λ _. true) only.kinds }

-- with those of a name: packets of a kind, those of both ICMPs, or those with hop-by-hop options
abbrev pub with_name : List ℕ → Only → Option Only
with_name name only =
    if bytes_eq name (codes "hbh") then Some (record only { hop_by_hop = true })
    else if bytes_eq name (codes "icmp") then Some (with_kind (with_kind only Icmp4) Icmp6)
    else option_and_then (λ kind. Some (with_kind only kind)) (kind_named name)

-- one after another, up to one that is no name
abbrev pub then_name : Result Only (List ℕ) → List ℕ → Result Only (List ℕ)
then_name (Ok only) name = ok_or (with_name name only) name
then_name (Err wrong) name = Err wrong

-- the packets of all the names, or the first item that is no name
abbrev pub with_names : List (List ℕ) → Result Only (List ℕ)
with_names names = fold then_name (Ok chooses_none) names

-- the names are separated by commas
unfoldable pub only_of : List ℕ → Result Only (List ℕ)
only_of list = with_names (slice_split (λ octet. octet == 44) list)

-- ---- the task

-- What is wrong: a word that is no option, or a name in a list that is not a kind's, with the known word that is
-- nearest; an option whose value is not one, or is missing; an argument that is not UTF-8.
pub data WrongValue : Type 0 where
  unknown_option : List ℕ → Option (List ℕ) → WrongValue
  unknown_kind : List ℕ → Option (List ℕ) → WrongValue
  bad_value : Setting → List ℕ → WrongValue
  missing_value : Setting → WrongValue
  not_text : WrongValue

abbrev pub wrong_value : Wrong → WrongValue
wrong_value (wrong.UnknownOption word near) = unknown_option (string_bytes word) (option_map (λ other. other.now) near)
wrong_value (wrong.UnknownKind name near) = unknown_kind (string_bytes name) (option_map (λ other. other.now) near)
wrong_value (wrong.BadValue setting text) = bad_value setting (string_bytes text)
wrong_value (wrong.MissingValue setting) = missing_value setting
wrong_value wrong.NotText = not_text

-- what the program is asked to do, with files by their names; of a host and of a name there are the texts
pub data TaskValue : Type 0 where
  help : TaskValue
  version : TaskValue
  dump : Options → Option (List ℕ) → Option (List ℕ) → List (List ℕ) → TaskValue
  unknown : WrongValue → TaskValue

-- the arguments so far: what they choose, the texts of a host and of a name, the files, and what the next ones are
pub record ReadingValue : Type 0 where
  pub options : Options
  pub host : Option (List ℕ)
  pub name : Option (List ℕ)
  pub files : List (List ℕ)
  pub wants : Option Setting
  pub wants_files : Bool

-- all packets, and no files
abbrev pub nothing_read : ReadingValue
nothing_read = record {
  options = record {
    only = record {
      kinds = map (λ _. true) kinds;
      hop_by_hop = true;
    };
    host = None;
    name = None;
    most = None;
    prints = true;
    form = Lines;
    is_brief = false;
    is_verbose = false;
    color = Auto;
    time_form = None;
    is_strict = false;
    pairs = false;
    stats = false;
    ports = no_ports;
  };
  host = None;
  name = None;
  files = [];
  wants = None;
  wants_files = false;
}

-- an argument more is read, or it tells the task
pub data Reads : Type 0 where
  more : ReadingValue → Reads
  ends : TaskValue → Reads

-- an option begins with a hyphen, and is not that alone
abbrev pub is_option : List ℕ → Bool
is_option word = nat_lt 1 (length word) && (get_or word 0 0 == 45)

-- ---- options without a value

abbrev pub with_flag : List ℕ → ReadingValue → Option Reads
with_flag word r =
    if bytes_eq word (codes "--count") then Some (more (record r { options = record r.options { prints = false } }))
    else if bytes_eq word (codes "--json")
    then Some (more (record r { options = record r.options { form = Json; is_brief = false } }))
    else if bytes_eq word (codes "--brief") || bytes_eq word (codes "-1")
    then Some (more (record r { options = record r.options { form = Lines; is_brief = true } }))
    else if bytes_eq word (codes "--verbose") || bytes_eq word (codes "-v")
    then Some (more (record r { options = record r.options { is_verbose = true } }))
    else if bytes_eq word (codes "--pairs")
    then Some (more (record r { options = record r.options { pairs = true } }))
    else if bytes_eq word (codes "--stats")
    then Some (more (record r { options = record r.options { stats = true } }))
    else if bytes_eq word (codes "--strict")
    then Some (more (record r { options = record r.options { is_strict = true } }))
    else if bytes_eq word (codes "--") then Some (more (record r { wants_files = true }))
    else if bytes_eq word (codes "-n") || bytes_eq word (codes "-r") then Some (more r)
    else if bytes_eq word (codes "-nn") || bytes_eq word (codes "-nr") then Some (more r)
    else if bytes_eq word (codes "--help") || bytes_eq word (codes "-h") then Some (ends help)
    else if bytes_eq word (codes "--version") || bytes_eq word (codes "-V") then Some (ends version)
    else None

-- ---- options with a value, of which the last one counts; of ports the last one of each kind

-- the known words, for one that is not known
abbrev pub option_words : List (List ℕ)
option_words =
    codes "--only" ∷ codes "--host" ∷ codes "--name" ∷ codes "--time" ∷ codes "--port" ∷ codes "--color"
    ∷ codes "--count" ∷ codes "--json" ∷ codes "--brief" ∷ codes "--pairs" ∷ codes "--stats" ∷ codes "--verbose"
    ∷ codes "--strict" ∷ codes "--help" ∷ codes "--version" ∷ []

abbrev pub kind_words : List (List ℕ)
kind_words = map kind_text kinds ++ codes "icmp" ∷ codes "hbh" ∷ []

abbrev pub with_only : Result Only (List ℕ) → ReadingValue → Reads
with_only (Err name) r = ends (unknown (unknown_kind name (nearest name kind_words)))
with_only (Ok only) r = more (record r { options = record r.options { only = only } })

abbrev pub with_most : Option ℕ → List ℕ → ReadingValue → Reads
with_most None text r = ends (unknown (bad_value setting.Most text))
with_most (Some count) text r = more (record r { options = record r.options { most = Some count } })

abbrev pub with_time_form : Option TimeForm → List ℕ → ReadingValue → Reads
with_time_form None text r = ends (unknown (bad_value setting.Time text))
with_time_form (Some form) text r = more (record r { options = record r.options { time_form = Some form } })

abbrev pub with_color : Option Color → List ℕ → ReadingValue → Reads
with_color None text r = ends (unknown (bad_value setting.Color text))
with_color (Some color) text r = more (record r { options = record r.options { color = color } })

abbrev pub with_given : Option Ports → List ℕ → ReadingValue → Reads
with_given None text r = ends (unknown (bad_value setting.Port text))
with_given (Some ports) text r = more (record r { options = record r.options { ports = ports } })

abbrev pub with_value : Setting → List ℕ → ReadingValue → Reads
with_value setting.Only text r = with_only (only_of text) r
with_value setting.Most text r = with_most (count_in text) text r
with_value setting.Host text r = more (record r { host = Some text })
with_value setting.Name text r = more (record r { name = Some text })
with_value setting.Time text r = with_time_form (time_form_in text) text r
with_value setting.Port text r = with_given (with_ports r.options.ports text) text r
with_value setting.Color text r = with_color (color_in text) text r

-- the value is in the same word, or is the next argument
abbrev pub with_setting : Option Setting → Option (List ℕ) → List ℕ → ReadingValue → Reads
with_setting None value word r = ends (unknown (unknown_option word (nearest (option_in word) option_words)))
with_setting (Some setting) None word r = more (record r { wants = Some setting })
with_setting (Some setting) (Some value) word r = with_value setting value r

abbrev pub with_option : List ℕ → ReadingValue → Reads
with_option word r = unwrap_or (with_flag word r) (with_setting (setting_of (option_in word)) (value_in word) word r)

-- ---- the arguments

-- an argument where an option wants its value, or none does; behind `--` are files alone
abbrev pub with_argument : Option Setting → List ℕ → ReadingValue → Reads
with_argument (Some setting) word r = with_value setting word (record r { wants = None })
with_argument None word r =
    if r.wants_files || not (is_option word) then more (record r { files = r.files ++ word ∷ [] })
    else with_option word r

abbrev pub with_word : List ℕ → ReadingValue → Reads
with_word word r = with_argument r.wants word r

-- one after another, up to one that tells the task
abbrev pub then_word : Reads → List ℕ → Reads
then_word (more r) word = with_word word r
then_word (ends task) word = ends task

-- at the end no value may be missing
abbrev pub end_of : Option Setting → ReadingValue → TaskValue
end_of (Some setting) r = unknown (missing_value setting)
end_of None r = dump r.options r.host r.name r.files

abbrev pub at_end : Reads → TaskValue
at_end (more r) = end_of r.wants r
at_end (ends task) = task

unfoldable pub task_of : List (List ℕ) → TaskValue
task_of words = at_end (fold then_word (more nothing_read) words)
