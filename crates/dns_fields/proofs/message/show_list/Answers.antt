-- The entries between what precedes them and what follows them.
use Rattle.std.proofs.Common.{Ok, ℕ, refl}
use Rattle.packet_fields.proofs.EntryChains.{list_printed}
use Rattle.dns_fields.proofs.message.show_list.Goals as goal

pub returns : goal.returns
returns g c =
    let (es, are, printed) = c.in_ok-unread.ensures in (
      _,
      (es, are, refl),
      list_printed {E = ℕ} _ _ _ _ _ _ _ (Ok tt) c.in_ok-open_list.ensures printed c.in_ok-close_list.ensures,
    )
