-- The answers of an iterator over options as they are computed, for its model. They are those of the tiling.
use Rattle.std.specs.Prelude.{ℕ, ◌==◌, nat_lt, if◌then◌else◌, List, [], ◌∷◌, length, take, Option, None, Some}
use Rattle.byteorder.specs.Endian.{big_number}
use Rattle.opt_wire.specs.Ipv6OptionTables.{type_of, alert_of}
use Rattle.opt_wire.specs.Ipv6Option.{OptionValue, pad1, pad_n, router_alert, unknown}

-- the option at the front of the bytes, where they begin with one: of a router alert, of a type that is not 0, of bytes
-- after a type, and of all bytes
abbrev pub alert_at : ℕ → List ℕ → Option OptionValue
alert_at n d = if n == 2 then Some (router_alert (alert_of (big_number 2 d))) else None

abbrev pub known_at : ℕ → ℕ → List ℕ → Option OptionValue
known_at t n d = if t == 1 then Some (pad_n n) else if t == 5 then alert_at n d else Some (unknown (type_of t) n d)

abbrev pub counted_at : ℕ → List ℕ → Option OptionValue
counted_at t [] = None
counted_at t (n ∷ rest) = if nat_lt (length rest) n then None else known_at t n (take n rest)

abbrev pub front_of : List ℕ → Option OptionValue
front_of [] = None
front_of (t ∷ rest) = if t == 0 then Some pad1 else counted_at t rest
