-- The answers of the walk over a name.
use Rattle.dns_wire.proofs.Words.{◌≡◌, ◌+◌, ◌*◌, ◌≤◌, [], ◌∷◌, ◌++◌, ◌∙◌, AllByRecursion, Coming, Follows, HasPath}
use Rattle.dns_wire.proofs.Words.{HaveParts, IsBrokenPath, IsCompletePath, IsFront, IsPart, List, NamePart, ℕ, ahead_of}
use Rattle.dns_wire.proofs.Words.{answers, ap, append-nil, arith, at_end, at_fault, broken_name, by_front, cases_lt}
use Rattle.dns_wire.proofs.Words.{drop, ends, front_of, goes_on, in_windows, inl, inr, joined, last_window, le-ltb}
use Rattle.dns_wire.proofs.Words.{length, lt-ltb, map, pointer, refl, slice_range, stop, subst, suc, sym, take}
use Rattle.dns_wire.proofs.Words.{take_all, torn, whole, whole_name, windows, zero}
use Rattle.dns_wire.specs.DnsNameWalk.{FollowsOnly, IsWalkOver}
use Rattle.dns_wire.proofs.DnsNameLabels.{name_gives, gives_name}
use Rattle.dns_wire.proofs.DnsNameTurns.{whole_parts, Whole-front, Whole-length, Points-front, Points-length}
use Rattle.dns_wire.proofs.DnsNameTurns.{parts_length}
use Rattle.dns_wire.proofs.DnsNameParts.{part_one, label_front, after_first_label}
use Rattle.dns_wire.proofs.DnsNameRoutes.{Breaks, Ends, Route, found, route_ahead, ends_ahead, breaks_ahead}
use Rattle.dns_wire.proofs.DnsNamePaths.{complete_route, opened, break_part, break_longest, break_stays, end_stays}
use Rattle.dns_wire.proofs.DnsNamePaths.{route_longest, route_follows, follows_one}

-- the whole message is open at first
pub whole_open : (C : List ℕ → List ℕ → List (List ℕ) → Type 0) (text message targets : List ℕ)
    (parts : List (List (List ℕ))) → Route C text (take (length message) message) targets parts
    → Route C text message targets parts
whole_open C text message targets parts r =
    subst (λ m. Route C text m targets parts) (take_all (length message) message (omega arith)) r

pub open_whole : (C : List ℕ → List ℕ → List (List ℕ) → Type 0) (text message targets : List ℕ)
    (parts : List (List (List ℕ))) → Route C text message targets parts
    → Route C text (take (length message) message) targets parts
open_whole C text message targets parts r =
    subst (λ m. Route C text m targets parts) (sym (take_all (length message) message (omega arith))) r

end_steps : (targets : List ℕ) (parts : List (List (List ℕ))) (closing : ℕ → List Coming)
    → in_windows 0 0 parts ++ closing (((0 + length (joined parts)) + 0) + length targets) ≡ in_windows 0 0 parts
    ++ closing (length (joined parts) + length targets)
end_steps targets parts closing =
    let e : ((0 + length (joined parts)) + 0) + length targets ≡ length (joined parts) + length targets = omega arith in
    ap (λ m. in_windows 0 0 parts ++ closing m) e

pub gives_complete : (text message targets : List ℕ) (parts : List (List (List ℕ)))
    → IsCompletePath text message targets parts
    → ahead_of 0 text message ≡ whole_name targets parts
gives_complete text message targets parts path =
    let r = whole_open Ends text message targets parts
    (complete_route targets parts (length message) text message (omega arith) path.falls path.parts_lead) in
    route_ahead Ends at_end ends_ahead targets parts 0 0 text message r ∙ end_steps targets parts at_end

pub complete_follows : (text message targets : List ℕ) (parts : List (List (List ℕ)))
    → IsCompletePath text message targets parts → FollowsOnly message text (joined parts)
complete_follows text message targets parts path =
    let r = whole_open Ends text message targets parts
    (complete_route targets parts (length message) text message (omega arith) path.falls path.parts_lead) in
    let f = subst (λ t. Follows message t (joined parts)) (append-nil text)
    (route_follows targets parts text [] message [] message (sym (append-nil message)) r) in
    (f, λ others k. follows_one message text (joined parts) others f k)

have_last : (targets : List ℕ) (firsts : List (List (List ℕ))) (final : List (List ℕ)) (text message : List ℕ)
    (above : ℕ) → HaveParts (text ∷ windows message above targets) (map goes_on targets) firsts
    → IsPart (last_window text message above targets) final ends
    → HaveParts (text ∷ windows message above targets) (map goes_on targets ++ ends ∷ []) (firsts ++ final ∷ [])
have_last [] [] final text message above h k = (k, tt)
have_last [] (l ∷ ls) final text message above h k = absurd h
have_last (p ∷ ps) [] final text message above h k = absurd h
have_last (p ∷ ps) (l ∷ ls) final text message above h k = (h.0, have_last ps ls final _ message p h.1 k)

-- a route to an end is a complete path
pub route_complete : (text message targets : List ℕ) (parts : List (List (List ℕ)))
    → Route Ends text message targets parts → IsCompletePath text message targets parts
route_complete text message targets parts r =
    let o = opened Ends targets parts (length message) text message (omega arith)
    (open_whole Ends text message targets parts r) in
    record {
      falls = o.falls;
      parts_lead = rw o.is (have_last targets o.firsts o.final text message (length message) o.leads o.closes);
    }

-- a route to a break is a broken path
pub route_broken : (text message targets : List ℕ) (parts : List (List (List ℕ)))
    → Route Breaks text message targets parts → (firsts : List (List (List ℕ))) × (front : List (List ℕ))
    × IsBrokenPath text message targets firsts front × (parts ≡ firsts ++ front ∷ [])
route_broken text message targets parts r =
    let at = open_whole Breaks text message targets parts r in
    let o = opened Breaks targets parts (length message) text message (omega arith) at in (
      o.firsts,
      o.final,
      record {
        path = record { falls = o.falls; parts_lead = o.leads };
        longest = λ others other_parts path. route_longest Breaks break_stays others targets other_parts parts
            (length message) text message (omega arith) at path.falls path.parts_lead;
        no_end = λ labels h. let k = break_part o.final labels _ o.reach ends o.closes h in cc;
        whole_front = record { rest = o.closes.rest; each = o.closes.each; whole = o.closes.is };
        longest_front = λ others h. break_longest o.final others _ o.reach o.closes h;
      },
      o.is,
    )

-- each answer comes after no more steps than half the bytes
turn_linear : (f : NamePart) (most n : ℕ) (text reach : List ℕ) (go : ℕ → List ℕ → List ℕ → List Coming)
    → front_of text ≡ f → 2 * n + length text + length reach ≤ most
    → ((m : ℕ) (t r : List ℕ) → 2 * m + length t + length r ≤ most
    → AllByRecursion (λ c. 2 * c.steps ≤ most) (go m t r)) → AllByRecursion (λ c. 2 * c.steps ≤ most)
    (by_front f n reach go)
turn_linear (whole b r) most n text reach go e h k =
    let w = Whole-front text b r e in
    let l = Whole-length text b r w in
    let s = w.some in
    (omega arith, k (n + 1) r reach (omega arith))
turn_linear (pointer p) most n text reach go e h k =
    let at = Points-length text p (Points-front text p e) in
    elim (cases_lt p (length reach)) [
      | inl l ↦ rw (lt-ltb p (length reach) l)
          (k (n + 1) (drop p reach) (take p reach) (omega (arith, parts_length p reach l)))
      | inr l ↦ rw (le-ltb p (length reach) l) (omega arith, (omega arith, tt))
    ]
turn_linear stop most n text reach go e h k = (omega arith, tt)
turn_linear torn most n text reach go e h k = (omega arith, (omega arith, tt))

answers_linear : (f most n : ℕ) (text reach : List ℕ) → 2 * n + length text + length reach ≤ most
    → AllByRecursion (λ c. 2 * c.steps ≤ most) (answers f n text reach)
unfolding answers
answers_linear zero most n text reach h = (omega arith, (omega arith, tt))
answers_linear (suc f) most n text reach h =
    turn_linear (front_of text) most n text reach (answers f) refl h (λ m t r k. answers_linear f most m t r k)

pub is_linear : (text message : List ℕ) → AllByRecursion (λ c. 2 * c.steps ≤ length text + length message)
    (ahead_of 0 text message)
is_linear text message =
    answers_linear (length text + length message) (length text + length message) 0 text message (omega arith)

-- a text has one list of whole labels of a length
front_one : (labels others : List (List ℕ)) (text : List ℕ) → IsFront text labels → IsFront text others
    → length labels ≡ length others → labels ≡ others
front_one [] [] text h k e = refl
front_one [] (o ∷ os) text h k e = absurd (omega arith)
front_one (l ∷ ls) [] text h k e = absurd (omega arith)
front_one (l ∷ ls) (o ∷ os) text h k e =
    let a = after_first_label text l ls h in
    let b = after_first_label text o os k in
    let same = whole_parts l a.0 o b.0 (sym (label_front text l a.0 a.1 a.2) ∙ label_front text o b.0 b.1 b.2) in
    let more = front_one ls os b.0 (subst (λ r. IsFront r ls) same.1 a.3) b.3 (omega arith) in
    let first : l ≡ o = same.0 in
    cc

-- falling paths of one length are one path
path_one : (targets others : List ℕ) (parts other_parts : List (List (List ℕ))) (above : ℕ) (text message : List ℕ)
    → HaveParts (text ∷ windows message above targets) (map goes_on targets) parts
    → HaveParts (text ∷ windows message above others) (map goes_on others) other_parts → length targets ≡ length others
    → (targets ≡ others) × (parts ≡ other_parts)
path_one [] [] [] [] above text message h k e = (refl, refl)
path_one [] [] [] (o ∷ os) above text message h k e = absurd k
path_one [] [] (l ∷ ls) other_parts above text message h k e = absurd h
path_one [] (q ∷ qs) parts other_parts above text message h k e = absurd (omega arith)
path_one (p ∷ ps) [] parts other_parts above text message h k e = absurd (omega arith)
path_one (p ∷ ps) (q ∷ qs) [] other_parts above text message h k e = absurd h
path_one (p ∷ ps) (q ∷ qs) (l ∷ ls) [] above text message h k e = absurd k
path_one (p ∷ ps) (q ∷ qs) (l ∷ ls) (o ∷ os) above text message h k e =
    let one = part_one l o text (goes_on p) (goes_on q) h.0 k.0 in
    let same : p ≡ q = cc in
    let at = subst (λ n. HaveParts (slice_range message n above ∷ windows message n ps) (map goes_on ps) ls) same h.1 in
    let more = path_one ps qs ls os q (slice_range message q above) message at k.1 (omega arith) in
    (cc, cc)

pub either_path : (text message : List ℕ) → HasPath text message
either_path text message =
    elim (found (length text + length message) text message (omega arith)) [
      | inl r ↦ inl (r.0, r.1, route_complete text message r.0 r.1 r.2)
      | inr r ↦ let b = route_broken text message r.0 r.1 r.2 in inr (r.0, b.0, b.1, b.2)
    ]

pub gives_broken : (text message targets : List ℕ) (parts : List (List (List ℕ))) (front : List (List ℕ))
    → IsBrokenPath text message targets parts front
    → ahead_of 0 text message ≡ broken_name targets (parts ++ front ∷ [])
gives_broken text message targets parts front path =
    elim (found (length text + length message) text message (omega arith)) [
      | inl r ↦
          let o = opened Ends r.0 r.1 (length message) text message (omega arith)
          (open_whole Ends text message r.0 r.1 r.2) in
          let not_longer = path.longest r.0 o.firsts (record { falls = o.falls; parts_lead = o.leads }) in
          let not_shorter : length targets ≤ length r.0 =
          route_longest Ends end_stays targets r.0 parts r.1 (length message) text message (omega arith)
          (open_whole Ends text message r.0 r.1 r.2) path.path.falls path.path.parts_lead in
          let one = path_one r.0 targets o.firsts parts (length message) text message o.leads path.path.parts_lead
          (omega arith) in
          absurd (path.no_end o.final
          (subst (λ ps. IsPart (last_window text message (length message) ps) o.final ends) one.0 o.closes))
      | inr r ↦
          let b = route_broken text message r.0 r.1 r.2 in
          let one = path_one r.0 targets b.0 parts (length message)
          text message b.2.path.parts_lead path.path.parts_lead
          (let x = b.2.longest targets parts path.path in let y = path.longest r.0 b.0 b.2.path in omega arith) in
          let at : IsFront (last_window text message (length message) targets) b.1 =
          subst (λ ps. IsFront (last_window text message (length message) ps) b.1) one.0 b.2.whole_front in
          let there_longest =
          subst (λ ps. (others : List (List ℕ)) → IsFront (last_window text message (length message) ps) others
          → length others ≤ length b.1) one.0 b.2.longest_front in
          let same_front =
          front_one b.1 front (last_window text message (length message) targets) at path.whole_front
          (let x = there_longest front path.whole_front in let y = path.longest_front b.1 at in omega arith) in
          let parts_is : r.1 ≡ parts ++ front ∷ [] =
          b.3 ∙ (ap (λ ls. ls ++ b.1 ∷ []) one.1 ∙ ap (λ f. parts ++ f ∷ []) same_front) in
          route_ahead Breaks at_fault breaks_ahead r.0 r.1 0 0 text message r.2
          ∙ (end_steps r.0 r.1 at_fault
          ∙ (ap (broken_name r.0) parts_is ∙ ap (λ ps. broken_name ps (parts ++ front ∷ [])) one.0))
    ]

-- all of it, of a walk that has just begun
pub walks_over : (text message : List ℕ) → IsWalkOver text message
    (record { steps = 0; ahead = ahead_of 0 text message })
walks_over text message = record {
  start = refl;
  either = either_path text message;
  complete = gives_complete text message;
  follows = complete_follows text message;
  broken = gives_broken text message;
  names = λ labels. (
    gives_name text message (ahead_of 0 text message) (either_path text message) (gives_complete text message)
        (gives_broken text message) labels,
    name_gives text message (ahead_of 0 text message) (gives_complete text message) labels,
  );
  linear = is_linear text message;
}
