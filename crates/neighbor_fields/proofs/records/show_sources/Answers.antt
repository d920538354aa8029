-- The sources, that some are missing, and the octets behind them.
use Rattle.packet_fields.proofs.Fields.{◌and◌}
use Rattle.neighbor_fields.proofs.records.show_sources.Goals as goal

pub returns-clause-prints : goal.returns-clause-prints
returns-clause-prints g c =
    let len_is = c.whole_len.ensures.value in
    let sources = rw (c.split_at.ensures.front, len_is) at c.in_ok-field.ensures in
    let lack = rw c.sources_lack-lack.ensures at c.in_ok-show_lack.ensures in
    let additional = rw (c.split_at.ensures.back, len_is) at c.in_ok-show_additional.ensures in
    sources and lack and additional
