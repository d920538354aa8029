-- What got no answer, and then the page.
use Rattle.std.proofs.Common.{refl}
use Rattle.std.specs.Option.{option_map}
use Rattle.dump_captures.specs.End.{EndPrints}
use Rattle.dump_captures.specs.private.Kept.{session_of}
use Rattle.dump_captures.proofs.Printing.{gains_some}
use Rattle.dump_captures.proofs.end.show_end.Goals as goal

pub returns : goal.returns
returns g c =
    let first = c.in_ok-show_unanswered.ensures in
    let file = option_map (λ name. name.now) c.args.file in
    gains_some _ (EndPrints c.args.options.now file (session_of c.args.session.now)) _ _ _ first.0
    c.show_statistics.result first.2
    (λ page is. record {
      unanswered = first.0;
      page = page;
      is_unanswered = first.1;
      is_page = is;
      text_is = refl;
    }) c.show_statistics.ensures
