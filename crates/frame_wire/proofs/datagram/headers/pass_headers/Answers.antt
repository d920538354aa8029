-- Headers are passed, one after another.
use Rattle.frame_wire.proofs.Words.{inl, refl}
use Rattle.frame_wire.specs.DatagramHeaders.{here}
use Rattle.frame_wire.proofs.Headers.{so_far-more}
use Rattle.frame_wire.proofs.datagram.headers.pass_headers.Goals as goal

pub returns-in_default-clause-torn : goal.returns-in_default-clause-torn
returns-in_default-clause-torn c = record {
  rest = _;
  final = _;
  passes = c.headers.invariant.passes _ _ _ (here refl refl refl);
  torn = inl (c.in_default.ensures.torn refl);
}

pub headers-preserved : goal.headers-preserved
headers-preserved c =
    so_far-more _ _ _ _ _ _ _ _ _ _ c.headers.invariant c.in-Some.ensures.ends c.behind_header-dst_addr.ensures
    c.from-protocol.ensures.value c.behind-rest.ensures

pub returns-clause-passes : goal.returns-clause-passes
returns-clause-passes c = c.headers.invariant.passes _ _ _ (here refl refl refl)
