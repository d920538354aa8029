-- The option joined, where its parts are short enough.
use Rattle.std.proofs.Common.{◌≤◌, arith, refl}
use Rattle.dhcp_options.specs.Joined.{copied}
use Rattle.dhcp_fields.proofs.Joined.{long_is, printed_as, value_is}
use Rattle.dhcp_fields.proofs.options.show_option.Goals as goal

pub returns-in-Ok : goal.returns-in-Ok
returns-in-Ok g c =
    λ parts are. rw (c.of.ensures.unique parts are)
    (printed_as _ _ _ _ _ _ c.show_value.result
    (value_is c.of.result c.args.kind _ (c.in-Ok.ensures.accepts.0 refl) c.in-Ok.ensures.value) c.show_value.ensures)

pub returns-in-Err : goal.returns-in-Err
returns-in-Err g c =
    let long : copied c.args.kind c.of.result ≤ 1500 → ⊥ = λ fits. cc (c.in-Err.ensures.accepts.1 fits) in
    λ parts are. rw (c.of.ensures.unique parts are)
    (printed_as _ _ _ _ _ _ c.show_long.result (long_is c.of.result c.args.kind (omega (arith, long)))
    c.show_long.ensures)
