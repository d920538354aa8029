-- Each turn prints the first of the objects that are left.
use Rattle.std.proofs.Common.{◌≡◌, ◌≤◌, ◌++◌, ◌∷◌, [], append_assoc, length, refl, rules, subst, sym}
use Rattle.std.proofs.lemmas.List.{append-nil, nil_from_length}
use Rattle.packet_fields.proofs.EntryChains.{entries_none}
use Rattle.icmp_fields.specs.Extensions.{AreObjects, broken, next, none}
use Rattle.icmp_fields.proofs.ExtensionEntries.{last_printed, some_later}
use Rattle.icmp_fields.proofs.extensions.objects.show_objects.Goals as goal

pub loop-rest-init : goal.loop-rest-init
loop-rest-init g c = ([], λ more are. are, refl, entries_none c.args.form _)

pub loop-rest-preserved : goal.loop-rest-preserved
loop-rest-preserved g c =
    let (done, on, first, printed) = c.loop-rest.invariant in
    let shown = c.in_ok-show_object-in-Ok.ensures in (
      done ++ shown.es,
      λ more are.
          subst (AreObjects c.args.octets.now) (sym (append_assoc done shown.es more))
          (on (shown.es ++ more) (next _ _ shown.es more c.in-Ok.ensures.sound shown.are are refl)),
      some_later done shown.es shown.some,
      shown.prints _ done first printed,
    )

pub returns-in-Err : goal.returns-in-Err
returns-in-Err g c =
    let (done, on, first, printed) = c.loop-rest.invariant in
    let some : 1 ≤ length c.loop-rest.rest.now = search rules in
    last_printed _ _ _ _ _ _ _ _ _ first printed
    (on (_ ∷ []) (broken c.in-Err.refusal some c.in-Err.ensures.told refl)) c.show_broken.ensures

pub returns : goal.returns
returns g c =
    let (done, on, first, printed) = c.loop-rest.invariant in
    let empty : length c.loop-rest.rest.now ≡ 0 = search rules in (
      done,
      subst (AreObjects c.args.octets.now) (append-nil done)
          (on [] (none (nil_from_length c.loop-rest.rest.now empty) refl)),
      printed,
    )
