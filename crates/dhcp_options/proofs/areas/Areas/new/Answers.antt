use Rattle.dhcp_options.proofs.Words.{take_rest}
use Rattle.dhcp_options.proofs.areas.Areas.new.Goals as goal

pub returns-clause-areas : goal.returns-clause-areas
returns-clause-areas c =
    record {
      options = take_rest c.args.octets.now 240;
      file = c.file_of.ensures.value;
      sname = c.sname_of.ensures.value;
    }
