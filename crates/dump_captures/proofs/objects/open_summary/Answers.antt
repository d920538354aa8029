-- The front, and the name of the file behind it.
use Rattle.packet_fields.specs.declared.form.Form.TheVariants.{Json}
use Rattle.dump_captures.proofs.Printing.{gains_items}
use Rattle.dump_captures.proofs.objects.open_summary.Goals as goal

pub returns : goal.returns
returns g c = gains_items _ _ _ _ Json _ c.show_file.result c.in_ok-open_object.ensures c.show_file.ensures
