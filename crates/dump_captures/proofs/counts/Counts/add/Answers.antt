-- The category has a row, or one comes after the others.
use Rattle.std.proofs.Common.{rules, ◌≡◌, ◌<◌, false, length, refl}
use Rattle.dump_captures.specs.Counts.{counts_of, has_category}
use Rattle.dump_captures.specs.Numbers.{one_more}
use Rattle.dump_captures.proofs.Countings.{in_its_row-there, in_its_row-new}
use Rattle.dump_captures.proofs.counts.Counts.add.Goals as goal

pub returns-in-Some : goal.returns-in-Some
returns-in-Some c =
    let (within, is, none) = c.in-Some.ensures.found in
    let t = counts_of c.args.self.now in
    rw c.saturating_add-self.ensures
    (in_its_row-there c.args.category (record t { all = one_more t.all }) c.in-Some.place
    c.as_slice.result.now c.as_mut_slice.result.now c.add_at.new.rows c.as_slice.ensures.value
    c.as_mut_slice.ensures.value c.add_at.ensures within is none)

pub returns : goal.returns
returns c =
    let none : has_category c.args.category c.as_slice.result.now ≡ false = c.in_default.ensures.missing refl in
    let few : length c.args.self.now.rows.items < 16 = search rules in
    let t = counts_of c.args.self.now in
    rw c.saturating_add-self.ensures
    (in_its_row-new c.args.category (record t { all = one_more t.all }) c.as_slice.result.now
    c.push.new.self.items c.as_slice.ensures.value none few c.push.ensures.items)
