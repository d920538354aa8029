-- A whole message is at the start, or the octets are too short.
use Rattle.frame_wire.proofs.Words.{◌≡◌, ◌+◌, ◌-◌, arith}
use Rattle.frame_wire.proofs.Messages.{message_here, messages-cut, messages-short}
use Rattle.frame_wire.proofs.tcp.prefixed.first.Goals as goal

pub returns-then-octets-lt-LENGTH_LEN-clause-none : goal.returns-then-octets-lt-LENGTH_LEN-clause-none
returns-then-octets-lt-LENGTH_LEN-clause-none c _ = messages-short c.args.octets.now c.if-octets-lt-LENGTH_LEN.true

pub returns-then-octets-end-clause-none : goal.returns-then-octets-end-clause-none
returns-then-octets-end-clause-none c _ =
    messages-cut c.args.octets.now (omega (arith, c.if-octets-end.true, c.u16_at.ensures))

pub returns-clause-some : goal.returns-clause-some
returns-clause-some c =
    let len : 2 + c.u16_at.result - 2 ≡ c.u16_at.result = omega arith in
    rw (len, c.behind.ensures)
    (message_here c.args.octets.now c.u16_at.result c.are_bytes.ensures c.u16_at.ensures c.if-octets-end.false)
