use Rattle.dhcp_wire.proofs.Words.{◌++◌, ◌+◌, ◌-◌, ◌<◌, ◌∙◌, ◌≡◌, ◌≤◌, ℕ, addresses_in, ap, arith, eqb-false, eqb-true}
use Rattle.dhcp_wire.proofs.Words.{length, sym, take}
use Rattle.dhcp_wire.proofs.Dhcpv4Addresses.{taken-more, taken-short, taken-full}
use Rattle.dhcp_wire.proofs.dhcpv4.options_seen.addresses.Goals as goal

pub returns-in_default : goal.returns-in_default
returns-in_default c =
    taken-short c.loop-rest.addresses.items (take 5 (addresses_in c.args.data.now))
    (5 - length c.loop-rest.addresses.items) c.loop-rest.rest.now c.in_default.ensures.cases c.loop-rest.invariant.kept

pub loop-rest-preserved : goal.loop-rest-preserved
loop-rest-preserved c =
    let items = c.loop-rest.addresses.items in
    let after = c.in-Some.after.now in
    let other = eqb-false (length items) 5 (sym c.loop-rest-test.ensures.value) in
    let few = c.loop-rest.invariant.few in
    let room : length items < 5 = omega arith in
    let whole = c.in-Some.ensures.cases.2 in
    let long : 4 ≤ length c.loop-rest.rest.now = omega arith in
    let len : length c.push.new.self.items ≡ length items + 1 = c.push.ensures.len in
    record {
      few = omega (arith, len);
      kept = ap (λ (n : ℕ). c.push.new.self.items ++ take (5 - n) (addresses_in after)) len
          ∙ taken-more items c.push.new.self.items c.from_octets.result c.loop-rest.rest.now after
          (take 5 (addresses_in c.args.data.now)) room c.push.ensures.items long
          (c.from_octets.ensures.value ∙ c.in-Some.ensures.cases.0)
          c.in-Some.ensures.cases.1 c.loop-rest.invariant.kept;
    }

pub returns : goal.returns
returns c =
    taken-full c.loop-rest.addresses.items (take 5 (addresses_in c.args.data.now)) c.loop-rest.rest.now
    (eqb-true (length c.loop-rest.addresses.items) 5 (sym c.loop-rest-test.ensures.value)) c.loop-rest.invariant.kept
