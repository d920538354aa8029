use Rattle.std.proofs.Common.{◌≡◌, ◌<◌, ◌∙◌, ap, false, inl, length, refl, rules, sym}
use Rattle.examples.specs.TimedList.{has}
use Rattle.examples.proofs.TimedLists.{has_lent, renewed_lent, renewed_new}
use Rattle.examples.proofs.timed_list.renew.Goals as goal

pub returns-in-Some-clause-told : goal.returns-in-Some-clause-told
returns-in-Some-clause-told g c =
    let found = c.in-Some.ensures in (
      λ is. inl (has_lent (g.T.Entry.is_of c.args.key.now) c.args.entry c.args.entries.now.items
          c.as_slice.result.now c.in-Some.place c.as_slice.ensures.value found.within found.found),
      λ is. refl,
    )

pub returns-in-Some-clause-value : goal.returns-in-Some-clause-value
returns-in-Some-clause-value g c =
    let found = c.in-Some.ensures in
    renewed_lent g.row.N (g.T.Entry.is_of c.args.key.now) c.args.entry c.args.entries.now.items c.as_slice.result.now
    c.as_mut_slice.result.now c.in-Some.place c.as_slice.ensures.value c.as_mut_slice.ensures.value found.within
    found.found found.first

pub returns-clause-value : goal.returns-clause-value
returns-clause-value g c =
    let test = g.T.Entry.is_of c.args.key.now in
    let none : has test c.args.entries.now.items ≡ false =
    ap (has test) (sym c.as_slice.ensures.value) ∙ c.in_default.ensures.missing refl in
    let few : length c.args.entries.now.items < g.row.N = search rules in
    c.push.ensures.items ∙ sym (renewed_new g.row.N test c.args.entry c.args.entries.now.items none few)
