-- Headers are passed, up to the first that is not whole or is that of a fragment.
use Rattle.frame_wire.proofs.Headers.{fragment_so_far-more, fragment_last}
use Rattle.frame_wire.proofs.Tags.{told, told_not}
use Rattle.frame_wire.proofs.datagram.jumbogram.has_fragment.Goals as goal

pub headers-preserved : goal.headers-preserved
headers-preserved c =
    fragment_so_far-more _ _ _ _ _ _ _ c.headers.invariant (told _ c.is_extension.ensures c.headers-test.true)
    c.in-Some.ensures.ends c.from-protocol.ensures.value c.behind-rest.ensures

pub returns : goal.returns
returns c =
    fragment_last _ _ _ _ _ c.headers.invariant (told_not _ c.is_extension.ensures c.headers-test.false)
    c.is_fragment.ensures
