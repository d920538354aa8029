-- Which of the fields file and sname hold options (option overload, RFC 2132 section 9.3).
use Rattle.std.specs.Prelude.{◌≡◌, ◌==◌, [], ◌∷◌, List, None, Option, Some, if◌then◌else◌, ℕ}
use Rattle.std.specs.Option.{option_or}
use Rattle.dhcp_wire.specs.declared.dhcpv4.option_kinds.TheConstants.{OPT_OPTION_OVERLOAD}
use Rattle.dhcp_options.specs.Words.{OptionValue, Options, Overload, options_in}

-- what a number says
abbrev pub overload_of : ℕ → Option Overload
overload_of n =
    if n == 1 then Some Overload.File else if n == 2 then Some Overload.Sname
    else if n == 3 then Some Overload.FileAndSname else None

-- what data say: one byte
abbrev pub overload_in : List ℕ → Option Overload
overload_in [] = None
overload_in (n ∷ []) = overload_of n
overload_in (n ∷ more ∷ rest) = None

-- what an option says: 52
abbrev pub said : OptionValue → Option Overload
said o = if o.kind == OPT_OPTION_OVERLOAD then overload_in o.body else None

-- what the first option says that says anything
abbrev pub first_said : List OptionValue → Option Overload
first_said [] = None
first_said (o ∷ os) = option_or (said o) (first_said os)

-- what the options of the options field say
pub record IsOverload (bytes : List ℕ) (overload : Option Overload) : Type 0 where
  pub options : List OptionValue
  pub listed : Options (options_in bytes) options
  pub first : overload ≡ first_said options
