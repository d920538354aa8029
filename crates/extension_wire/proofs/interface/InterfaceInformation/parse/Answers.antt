use Rattle.std.proofs.Common.{rules, ◌≡◌, Err, inr}
use Rattle.extension_wire.specs.Interface.{Refuses}
use Rattle.extension_wire.proofs.InterfaceFormat.{information_one, information_rewrites}
use Rattle.extension_wire.proofs.interface.InterfaceInformation.parse.Goals as goal

pub returns-in_err-mtu-clause-told : goal.returns-in_err-mtu-clause-told
returns-in_err-mtu-clause-told c =
    let told : Refuses c.args.c_type c.args.payload.now c.in_err-mtu.field-0.0 =
    inr (
      c.in_ok-index.index,
      c.in_ok-index.behind.now,
      c.in_ok-index.ensures.sound,
      inr (
        _,
        c.in_ok-address.behind.now,
        c.in_ok-address.ensures.sound,
        inr (_, c.in_ok-name.behind.now, c.in_ok-name.ensures.sound, c.in_err-mtu.ensures.told),
      ),
    ) in
    let failed : c.from_residual-in_err-mtu.result ≡ Err c.in_err-mtu.field-0.0 = search rules in
    rw failed told

pub returns-clause-sound : goal.returns-clause-sound
returns-clause-sound c = record {
  role_is = c.of.ensures;
  behind_index = c.in_ok-index.behind.now;
  index_is = c.in_ok-index.ensures.sound;
  behind_address = c.in_ok-address.behind.now;
  address_is = c.in_ok-address.ensures.sound;
  behind_name = c.in_ok-name.behind.now;
  name_is = c.in_ok-name.ensures.sound;
  behind_mtu = c.in_ok-mtu.field-0-1.now;
  mtu_is = c.in_ok-mtu.ensures.sound;
}

pub returns-clause-complete : goal.returns-clause-complete
returns-clause-complete c value is =
    information_one c.args.c_type c.args.payload.now _ value (returns-clause-sound c) is

pub returns-clause-rewrites : goal.returns-clause-rewrites
returns-clause-rewrites c =
    information_rewrites c.args.c_type c.args.payload.now _ c.are_bytes.ensures (returns-clause-sound c)
