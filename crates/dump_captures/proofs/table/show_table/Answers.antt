-- The names of the columns, and then the rows.
use Rattle.packet_fields.proofs.Printing.{gains_last}
use Rattle.dump_captures.specs.Table.{table_text}
use Rattle.dump_captures.proofs.table.show_table.Goals as goal

pub returns : goal.returns
unfolding table_text
returns g c = gains_last _ _ _ c.in_ok-show_head.ensures c.show_rows.ensures
