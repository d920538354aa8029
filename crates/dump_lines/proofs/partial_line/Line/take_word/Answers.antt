-- A word gets too long, or it is kept.
use Rattle.std.proofs.Common.{rules, ◌≡◌, ◌-◌, ◌<◌, ◌≤◌, ◌++◌, refl, length}
use Rattle.dump_lines.proofs.Taking.{takes_long, kept_longer}
use Rattle.dump_lines.proofs.partial_line.Line.take_word.Goals as goal

pub returns-then-part-as_slice-clause-takes : goal.returns-then-part-as_slice-clause-takes
returns-then-part-as_slice-clause-takes c =
    let line = c.args.self.now in
    let long : 131071 - (length line.octets.items - line.start) < length c.args.part.now =
    rw c.as_slice.ensures.value at c.if-part-as_slice.true in
    takes_long _ c.requires.kept _ _ c.requires.word long refl

pub returns-in-Ok-clause-kept : goal.returns-in-Ok-clause-kept
returns-in-Ok-clause-kept c =
    let line = c.args.self.now in
    let fits : length c.args.part.now ≤ 131071 - (length line.octets.items - line.start) =
    rw c.as_slice.ensures.value at c.if-part-as_slice.false in
    let items : c.extend_from_slice.new.self.items ≡ line.octets.items ++ c.args.part.now = search rules in
    kept_longer _ c.requires.kept _ _ c.requires.word fits items refl refl
