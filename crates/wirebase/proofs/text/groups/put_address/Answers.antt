-- The groups before the run, and those after it.
use Rattle.wirebase.proofs.Words.{◌+◌, ◌++◌, ◌∙◌, ap, groups_text, take}
use Rattle.std.proofs.lemmas.List.Elements.{All-from_get_or}
use Rattle.wirebase.proofs.Rooms.{short_run, long_run, behind_run, three_parts}
use Rattle.wirebase.proofs.TextAscii.{IsGroup, address-ascii}
use Rattle.wirebase.proofs.text.groups.put_address.Goals as goal

pub returns-then-len-lt2-clause-text : goal.returns-then-len-lt2-clause-text
returns-then-len-lt2-clause-text c =
    c.put_groups.ensures.text
    ∙ ap (λ text. take c.args.at c.args.room.now ++ text)
    (short_run c.args.groups.now c.longest_run-start.result.1 c.longest_run-start.ensures.len c.if-len-lt2.true)

pub returns-clause-text : goal.returns-clause-text
returns-clause-text c =
    let run = c.longest_run-start in
    let groups = c.args.groups.now in
    let behind = behind_run groups (run.result.0 + run.result.1) c.told-groups in
    let last = c.put_groups-2.ensures.text
    ∙ ap (λ left. take c.put_colons-behind.result c.put_colons-behind.new.room ++ groups_text left) behind in
    three_parts _ _ _ _ _ _ _ _ c.put_groups-front.ensures.text c.put_colons-behind.ensures.text last
    (long_run groups run.result.0 run.result.1 run.ensures.start run.ensures.len c.if-len-lt2.false)

pub returns-then-len-lt2-clause-ascii : goal.returns-then-len-lt2-clause-ascii
returns-then-len-lt2-clause-ascii c =
    address-ascii c.args.groups.now (All-from_get_or IsGroup c.args.groups.now 0 (λ i _. c.fits-groups i))

pub returns-clause-ascii : goal.returns-clause-ascii
returns-clause-ascii c =
    address-ascii c.args.groups.now (All-from_get_or IsGroup c.args.groups.now 0 (λ i _. c.fits-groups i))
