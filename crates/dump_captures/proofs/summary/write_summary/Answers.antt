-- The parts of the line, one after another.
use Rattle.packet_fields.proofs.Printing.{◌then◌, gained, gains_last}
use Rattle.dump_captures.specs.Summary.{summary_text}
use Rattle.dump_captures.proofs.summary.write_summary.Goals as goal

pub returns : goal.returns
unfolding summary_text
returns g c =
    let listed = rw c.listed.ensures at c.in_ok-put-2.ensures.text in
    let refused = rw c.all_refused.ensures at c.in_ok-put-3.ensures.text in
    let links = rw c.as_slice.ensures.value at c.in_ok-write_links.ensures in
    gains_last _ _ _
    (c.in_ok-put.ensures.text then gained _ _ _ c.in_ok-write_all.ensures.bytes then listed
    then gained _ _ _ c.in_ok-write_all-2.ensures.bytes then refused
    then gained _ _ _ c.in_ok-write_all-3.ensures.bytes then c.in_ok-write_reasons.ensures
    then gained _ _ _ c.in_ok-write_all-4.ensures.bytes then c.in_ok-put-4.ensures.text
    then gained _ _ _ c.in_ok-write_all-5.ensures.bytes then c.in_ok-write_counts.ensures
    then c.in_ok-write_further.ensures then c.in_ok-write_fragments.ensures then links)
    c.write_further-2.ensures
