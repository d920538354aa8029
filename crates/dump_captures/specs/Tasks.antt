-- What the program does where arguments ask for a task: the texts of a host and of a name are read.
use Rattle.std.specs.Prelude.{◌≡◌, ◌⊎◌, ℕ, List, map, string_bytes, Option, None, Some, IsSomeAnd}
use Rattle.record_wire.specs.Name.{labels_of}
use Rattle.record_wire.specs.NameText.{IsNameText}
use Rattle.dump_captures.specs.Arguments.{TaskValue, WrongValue, bad_value, dump, help, unknown, version, wrong_value}
use Rattle.dump_captures.specs.Host.{IsHostText}
use Rattle.dump_captures.specs.declared.arguments.Task.{Task}
use Rattle.dump_captures.specs.declared.arguments.Task.TheVariants as task
use Rattle.dump_captures.specs.declared.arguments.Wrong.{Wrong}
use Rattle.dump_captures.specs.declared.host.Host.{Host}
use Rattle.dump_captures.specs.declared.options.Options.{Options}
use Rattle.dump_captures.specs.declared.settings.Setting.TheVariants as setting

-- ---- hosts and names by their texts

-- options with the host of a text, where there is one
abbrev pub HasHost : Options → Option (List ℕ) → Options → Type 0
HasHost asked None options = options ≡ asked
HasHost asked (Some text) options =
    (options ≡ record asked { host = options.host }) × IsSomeAnd options.host (IsHostText text)

-- the text is no host's
abbrev pub IsNoHost : Option (List ℕ) → Wrong → Type 0
IsNoHost None wrong = ⊥
IsNoHost (Some text) wrong =
    (wrong_value wrong ≡ bad_value setting.Host text) × ((host : Host) → IsHostText text host → ⊥)

-- the same of the name of a text, by RFC 1035 section 5.1
abbrev pub HasNameOf : Options → Option (List ℕ) → Options → Type 0
HasNameOf asked None options = options ≡ asked
HasNameOf asked (Some text) options =
    (options ≡ record asked { name = options.name })
    × IsSomeAnd options.name (λ name. IsNameText text (labels_of name))

abbrev pub IsNoName : Option (List ℕ) → Wrong → Type 0
IsNoName None wrong = ⊥
IsNoName (Some text) wrong =
    (wrong_value wrong ≡ bad_value setting.Name text) × ((labels : List (List ℕ)) → IsNameText text labels → ⊥)

-- ---- the task

-- The files are dumped as asked, or it is told which text is not a host's or a name's.
abbrev pub IsDump : Options → Option (List ℕ) → Option (List ℕ) → List (List ℕ) → Task → Type 0
IsDump asked host name files (task.Dump options names) =
    (with_host : Options) × HasHost asked host with_host × HasNameOf with_host name options
    × (map string_bytes names.items ≡ files)
IsDump asked host name files (task.Unknown wrong) =
    IsNoHost host wrong ⊎ ((with_host : Options) × HasHost asked host with_host × IsNoName name wrong)
IsDump asked host name files done = ⊥

abbrev pub IsWrong : WrongValue → Task → Type 0
IsWrong told (task.Unknown wrong) = wrong_value wrong ≡ told
IsWrong told done = ⊥

-- The task is what is asked for.
abbrev pub IsTask : TaskValue → Task → Type 0
IsTask help done = done ≡ task.Help
IsTask version done = done ≡ task.Version
IsTask (dump options host name files) done = IsDump options host name files done
IsTask (unknown wrong) done = IsWrong wrong done
