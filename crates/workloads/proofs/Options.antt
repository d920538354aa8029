-- The options of a header that each have their data.
use Rattle.std.proofs.Common.{List, [], ◌∷◌, ◌++◌, map}
use Rattle.opt_wire.specs.declared.ipv6option.Repr.{Repr}
use Rattle.opt_wire.specs.Ipv6Option.{HasData, value_of}
use Rattle.opt_wire.specs.Ipv6Hbh.{HaveData}

-- and one more
pub one_more : (options : List Repr) (option : Repr) → HaveData (map value_of options) → HasData (value_of option)
    → HaveData (map value_of (options ++ option ∷ []))
one_more [] option each has = (has, tt)
one_more (o ∷ options) option each has = (each.0, one_more options option each.1 has)
