use Rattle.record_wire.proofs.StringLists.{strings_ahead, strings_one}
use Rattle.record_wire.proofs.strings.TxtStrings.new.Goals as goal

pub returns-clause-strings : goal.returns-clause-strings
returns-clause-strings c = strings_ahead c.args.octets.now

pub returns-clause-unique : goal.returns-clause-unique
returns-clause-unique c others are = strings_one c.args.octets.now others are
