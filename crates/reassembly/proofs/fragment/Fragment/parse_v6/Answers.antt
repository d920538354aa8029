-- The headers before that of a fragment are whole; other octets are no fragment.
use Rattle.reassembly.proofs.Headers.{datagram_no_fragment, leads_whole, refused_no_fragment}
use Rattle.reassembly.proofs.fragment.Fragment.parse_v6.Goals as goal

pub options_of-options-requires : goal.options_of-options-requires
options_of-options-requires c =
    leads_whole c.next_header-next_header.result c.payload-payload.result.now c.in_ok-header-in-Fragment.header.now
    c.in_ok-header-in-Fragment.ensures.sound

pub returns-in_default-clause-complete : goal.returns-in_default-clause-complete
returns-in_default-clause-complete c none v =
    refused_no_fragment c.args.octets.now c.in-Err.refusal v c.in-Err.ensures.refuses c.in_default.not-Fragment

pub returns-in-Ok-clause-complete : goal.returns-in-Ok-clause-complete
returns-in-Ok-clause-complete c none v = datagram_no_fragment c.args.octets.now _ v c.in-Ok.ensures.sound
