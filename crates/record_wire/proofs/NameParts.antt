-- The labels of a name that were read, part by part, and those that are still to come.
use Rattle.record_wire.proofs.Words.{◌≡◌, ◌+◌, ◌-◌, ◌<◌, ◌≤◌, [], ◌∷◌, ◌++◌, ◌∙◌, AllByRecursion, AreOfName, Bool}
use Rattle.record_wire.proofs.Words.{IsLabel, LabelsAtFront, List, Names, Whole-front, ℕ, ap, append-nil, append_assoc}
use Rattle.record_wire.proofs.Words.{arith, cond, drop, drop_at, false, flat_map-append, front_of, length}
use Rattle.record_wire.proofs.Words.{length-append, length-take-le, ltb, most_pointers, pointer, refl, stop, subst, suc}
use Rattle.record_wire.proofs.Words.{sym, take, take-append_seam, torn, true, whole, wire, written, written_all, zero}
use Rattle.std.proofs.lemmas.List.{take_all, length-drop, drop-drop}
use Rattle.dns_wire.specs.DnsName.{IsName, joined}
use Rattle.dns_wire.specs.DnsNameAhead.{NamePart}
use Rattle.dns_wire.specs.private.DnsNameAhead.{ahead_of, answers, by_front}
use Rattle.dns_wire.specs.DnsNameWalk.{Coming, label, Gives, in_window, in_windows, at_end, at_fault}
use Rattle.dns_wire.proofs.DnsNameTurns.{ahead_pointer, ahead_far, ahead_stop, ahead_torn}
use Rattle.dns_wire.proofs.DnsNameRoutes.{labels_ahead}
use Rattle.dns_wire.proofs.DnsNameTheorem.{walks_over}
use Rattle.record_wire.proofs.LabelLists.{drop_seam, written_more, each_more, name_of}

-- what follows this many bytes, as a range up to the end
pub drop_whole : (n : ℕ) (xs : List ℕ) → take (length xs - n) (drop n xs) ≡ drop n xs
drop_whole n xs = take_all (length xs - n) (drop n xs) (omega (arith, length-drop n xs))

-- ---- labels at the start of a text

pub none_in_front : (text : List ℕ) → LabelsAtFront text 0
none_in_front text = record { labels = []; rest = text; each = tt; is = refl; count = refl }

pub behind_front : (text : List ℕ) (len : ℕ) (so : LabelsAtFront text len) → drop len text ≡ so.rest
behind_front text len so =
    ap (λ t. drop len t) so.is
    ∙ (ap (λ n. drop n (written_all so.labels ++ so.rest)) (sym so.count) ∙ drop_seam (written_all so.labels) so.rest)

pub in_front : (text : List ℕ) (len : ℕ) (so : LabelsAtFront text len) → take len text ≡ written_all so.labels
in_front text len so =
    ap (λ t. take len t) so.is
    ∙ (ap (λ n. take n (written_all so.labels ++ so.rest)) (sym so.count)
    ∙ take-append_seam (written_all so.labels) so.rest)

pub front_fits : (text : List ℕ) (len : ℕ) → LabelsAtFront text len → len ≤ length text
front_fits text len so = omega (arith, ap length so.is, length-append (written_all so.labels) so.rest, so.count)

-- one label more
pub one_more_in_front : (text bytes rest : List ℕ) (len : ℕ) → LabelsAtFront text len
    → whole bytes rest ≡ front_of (drop len text) → LabelsAtFront text (len + (1 + length bytes))
one_more_in_front text bytes rest len so e =
    let w = Whole-front (drop len text) bytes rest (sym e) in
    let at : so.rest ≡ written bytes ++ rest = sym (behind_front text len so) ∙ w.is in
    let more = written_more so.labels bytes in
    record {
      labels = so.labels ++ bytes ∷ [];
      rest = rest;
      each = each_more so.labels bytes so.each (w.some, w.few);
      is = so.is
          ∙ (ap (λ (r : List ℕ). written_all so.labels ++ r) at
          ∙ (sym (append_assoc (written_all so.labels) (written bytes) rest)
          ∙ ap (λ (o : List ℕ). o ++ rest) (sym more)));
      count = omega (arith, ap length more, length-append (written_all so.labels) (written bytes), so.count);
    }

pub behind_one_more : (text bytes rest : List ℕ) (len : ℕ) → whole bytes rest ≡ front_of (drop len text)
    → drop (len + (1 + length bytes)) text ≡ rest
behind_one_more text bytes rest len e =
    let w = Whole-front (drop len text) bytes rest (sym e) in
    sym (drop-drop (1 + length bytes) len text)
    ∙ (ap (λ t. drop (1 + length bytes) t) w.is ∙ drop_at (length bytes ∷ bytes) rest (1 + length bytes) (omega arith))

-- ---- labels before what else comes

before : (i n : ℕ) (labels more : List (List ℕ)) (ahead : List Coming) → Gives ahead more
    → Gives (in_window i n labels ++ ahead) (labels ++ more)
before i n [] more ahead g = g
before i n (bytes ∷ labels) more ahead g = (refl, before i (n + 1) labels more ahead g)

behind : (i n : ℕ) (labels all : List (List ℕ)) (ahead : List Coming) → Gives (in_window i n labels ++ ahead) all
    → (more : List (List ℕ)) × (all ≡ labels ++ more) × Gives ahead more
behind i n [] all ahead g = (all, refl, g)
behind i n (bytes ∷ labels) [] ahead g = cc
behind i n (bytes ∷ labels) (first ∷ all) ahead g =
    let rest = behind i (n + 1) labels all ahead g.1 in
    let same : first ≡ bytes = cc g.0 in
    (rest.0, ap (λ (b : List ℕ). b ∷ all) same ∙ ap (λ (ls : List (List ℕ)). bytes ∷ ls) rest.1, rest.2)

none_at_end : (n : ℕ) (more : List (List ℕ)) → Gives (at_end n) more → more ≡ []
none_at_end n [] g = refl
none_at_end n (bytes ∷ more) g = cc g.0

none_at_fault : (n : ℕ) (more : List (List ℕ)) → Gives (at_fault n) more → ⊥
none_at_fault n [] g = cc g
none_at_fault n (bytes ∷ more) g = cc g.0

each_of_both : (done labels : List (List ℕ)) → AllByRecursion IsLabel done → AllByRecursion IsLabel labels
    → AllByRecursion IsLabel (done ++ labels)
each_of_both [] labels each more = more
each_of_both (d ∷ done) labels each more = (each.0, each_of_both done labels each.1 more)

-- ---- steps

-- the steps after the last of the answers to come
abbrev last_steps : List Coming → ℕ
last_steps [] = 0
last_steps (c ∷ []) = c.steps
last_steps (c ∷ d ∷ cs) = last_steps (d ∷ cs)

last_of_both : (cs : List Coming) (d : Coming) (ds : List Coming) → last_steps (cs ++ d ∷ ds) ≡ last_steps (d ∷ ds)
last_of_both [] d ds = refl
last_of_both (c ∷ []) d ds = refl
last_of_both (c ∷ e ∷ cs) d ds = last_of_both (e ∷ cs) d ds

last_behind : (cs ds : List Coming) → 1 ≤ length ds → last_steps (cs ++ ds) ≡ last_steps ds
last_behind cs [] some = absurd (omega (arith, some))
last_behind cs (d ∷ ds) some = last_of_both cs d ds

some_by : (b : Bool) (xs ys : List Coming) → 1 ≤ length xs → 1 ≤ length ys → 1 ≤ length (cond b xs ys)
some_by true xs ys h k = h
some_by false xs ys h k = k

some_by_front : (f : NamePart) (n : ℕ) (reach : List ℕ) (go : ℕ → List ℕ → List ℕ → List Coming)
    → ((m : ℕ) (t r : List ℕ) → 1 ≤ length (go m t r)) → 1 ≤ length (by_front f n reach go)
some_by_front (whole bytes rest) n reach go h = omega arith
some_by_front (pointer target) n reach go h =
    some_by (ltb target (length reach)) (go (n + 1) (drop target reach) (take target reach)) (at_fault n)
    (h (n + 1) (drop target reach) (take target reach)) (omega arith)
some_by_front stop n reach go h = omega arith
some_by_front torn n reach go h = omega arith

-- there is an answer
some_answers : (most n : ℕ) (text reach : List ℕ) → 1 ≤ length (answers most n text reach)
unfolding answers
some_answers zero n text reach = omega arith
some_answers (suc most) n text reach = some_by_front (front_of text) n reach (answers most) (some_answers most)

some_ahead : (n : ℕ) (text reach : List ℕ) → 1 ≤ length (ahead_of n text reach)
some_ahead n text reach = some_answers (length text + length reach) n text reach

late_by : (b : Bool) (n : ℕ) (xs : List Coming) (more : List (List ℕ)) → Gives (cond b xs (at_fault n)) more
    → (Gives xs more → n + 1 + length more ≤ last_steps xs) → n + length more ≤ last_steps (cond b xs (at_fault n))
late_by true n xs more g h = omega (arith, h g)
late_by false n xs more g h = absurd (none_at_fault n more g)

late_by_front : (f : NamePart) (n : ℕ) (reach : List ℕ) (go : ℕ → List ℕ → List ℕ → List Coming) (more : List (List ℕ))
    → ((m : ℕ) (t r : List ℕ) → 1 ≤ length (go m t r))
    → ((m : ℕ) (t r : List ℕ) (ls : List (List ℕ)) → Gives (go m t r) ls → m + length ls ≤ last_steps (go m t r))
    → Gives (by_front f n reach go) more → n + length more ≤ last_steps (by_front f n reach go)
late_by_front (whole bytes rest) n reach go [] some h g = cc g
late_by_front (whole bytes rest) n reach go (first ∷ more) some h g =
    omega (
      arith,
      h (n + 1) rest reach more g.1,
      last_behind (record { answer = label bytes; steps = n + 1 } ∷ [])
          (go (n + 1) rest reach) (some (n + 1) rest reach),
    )
late_by_front (pointer target) n reach go more some h g =
    late_by (ltb target (length reach)) n (go (n + 1) (drop target reach) (take target reach)) more g
    (h (n + 1) (drop target reach) (take target reach) more)
late_by_front stop n reach go more some h g = omega (arith, ap length (none_at_end n more g))
late_by_front torn n reach go more some h g = absurd (none_at_fault n more g)

-- the last answer comes after a step for each label at least
late_answers : (most n : ℕ) (text reach : List ℕ) (more : List (List ℕ)) → Gives (answers most n text reach) more
    → n + length more ≤ last_steps (answers most n text reach)
unfolding answers
late_answers zero n text reach more g = absurd (none_at_fault n more g)
late_answers (suc most) n text reach more g =
    late_by_front (front_of text) n reach (answers most) more (some_answers most) (late_answers most) g

late_ahead : (n : ℕ) (text reach : List ℕ) (more : List (List ℕ)) → Gives (ahead_of n text reach) more
    → n + length more ≤ last_steps (ahead_of n text reach)
late_ahead n text reach more g = late_answers (length text + length reach) n text reach more g

-- the last answer of a name comes after its labels and its pointers
steps_of_name : (text message : List ℕ) (labels : List (List ℕ)) (name : IsName text message labels)
    → last_steps (ahead_of 0 text message) ≡ length labels + length name.targets
steps_of_name text message labels name =
    let all = (walks_over text message).complete name.targets name.parts name.path in
    ap last_steps all
    ∙ (last_behind (in_windows 0 0 name.parts) (at_end (length (joined name.parts) + length name.targets)) (omega arith)
    ∙ ap (λ (ls : List (List ℕ)). length ls + length name.targets) (sym name.is))

-- ---- the name so far

-- The octets are those of the labels that were read, after this many pointers. The labels of the name are these, and
-- then those that come from the text that is left, with these bytes of the message open.
pub record IsReadTo (text message octets left reach : List ℕ) (pointers : ℕ) : Type 0 where
  pub steps : ℕ
  pub done : List (List ℕ)
  pub each : AllByRecursion IsLabel done
  pub written : octets ≡ written_all done
  pub count : steps ≡ length done + pointers
  pub last : last_steps (ahead_of 0 text message) ≡ last_steps (ahead_of steps left reach)
  pub back : (labels : List (List ℕ)) → Gives (ahead_of steps left reach) labels
      → Gives (ahead_of 0 text message) (done ++ labels)
  pub forth : (labels : List (List ℕ)) → Gives (ahead_of 0 text message) labels
      → (more : List (List ℕ)) × (labels ≡ done ++ more) × Gives (ahead_of steps left reach) more

pub nothing_read : (text message octets : List ℕ) → octets ≡ [] → IsReadTo text message octets text message 0
nothing_read text message octets e = record {
  steps = 0;
  done = [];
  each = tt;
  written = e;
  count = refl;
  last = refl;
  back = λ labels g. g;
  forth = λ labels g. (labels, refl, g);
}

pub pointer_read : (text message octets left reach : List ℕ) (pointers target : ℕ)
    → IsReadTo text message octets left reach pointers
    → pointer target ≡ front_of left → target < length reach
    → IsReadTo text message octets (drop target reach) (take target reach) (pointers + 1)
pointer_read text message octets left reach pointers target so e l =
    let same : ahead_of (so.steps + 1) (drop target reach) (take target reach)
    ≡ ahead_of so.steps left reach =
    ahead_pointer so.steps left reach target (ahead_of so.steps left reach) e l refl in
    record {
      steps = so.steps + 1;
      done = so.done;
      each = so.each;
      written = so.written;
      count = omega (arith, so.count);
      last = so.last ∙ ap last_steps (sym same);
      back = λ labels g. so.back labels (subst (λ cs. Gives cs labels) same g);
      forth = λ labels g.
          let f = so.forth labels g in
          (f.0, f.1, subst (λ cs. Gives cs f.0) (sym same) f.2);
    }

pub labels_read : (text message octets next left reach : List ℕ) (pointers len : ℕ)
    → IsReadTo text message octets left reach pointers
    → LabelsAtFront left len → next ≡ octets ++ take len left
    → IsReadTo text message next (drop len left) reach pointers
labels_read text message octets next left reach pointers len so front pushed =
    let n = (so.steps + length front.labels) + 0 in
    let ahead = ahead_of n (drop len left) reach in
    let zero_more : so.steps ≡ so.steps + 0 = omega arith in
    let same : ahead_of so.steps left reach ≡ in_window 0 so.steps front.labels ++ ahead =
    ap (λ m. ahead_of m left reach) zero_more
    ∙ (labels_ahead front.labels 0 so.steps left front.rest reach front.each front.is
    ∙ ap (λ t. in_window 0 so.steps front.labels ++ ahead_of n t reach) (sym (behind_front left len front))) in
    record {
      steps = n;
      done = so.done ++ front.labels;
      each = each_of_both so.done front.labels so.each front.each;
      written = pushed
          ∙ (ap (λ (o : List ℕ). o ++ take len left) so.written
          ∙ (ap (λ (o : List ℕ). written_all so.done ++ o) (in_front left len front)
          ∙ sym (flat_map-append written so.done front.labels)));
      count = omega (arith, so.count, length-append so.done front.labels);
      last = so.last
          ∙ (ap last_steps same
          ∙ last_behind (in_window 0 so.steps front.labels) ahead (some_ahead n (drop len left) reach));
      back = λ labels g.
          rw (append_assoc so.done front.labels labels)
          (so.back (front.labels ++ labels) (subst (λ cs. Gives cs (front.labels ++ labels)) (sym same)
          (before 0 so.steps front.labels labels ahead g)));
      forth = λ labels g.
          let f = so.forth labels g in
          let b = behind 0 so.steps front.labels f.0 ahead (subst (λ cs. Gives cs f.0) same f.2) in (
            b.0,
            f.1
                ∙ (ap (λ (ls : List (List ℕ)). so.done ++ ls) b.1 ∙ sym (append_assoc so.done front.labels b.0)),
            b.2,
          );
    }

-- one label
pub label_read : (text message octets left reach bytes rest : List ℕ) (pointers : ℕ)
    → IsReadTo text message octets left reach pointers
    → whole bytes rest ≡ front_of left → IsReadTo text message (octets ++ written bytes) rest reach pointers
unfolding one_more_in_front none_in_front
label_read text message octets left reach bytes rest pointers so e =
    let n = 0 + (1 + length bytes) in
    let front = one_more_in_front left bytes rest 0 (none_in_front left) e in
    let one : written bytes ≡ take n left = sym (append-nil (written bytes)) ∙ sym (in_front left n front) in
    subst (λ l. IsReadTo text message (octets ++ written bytes) l reach pointers) (behind_one_more left bytes rest 0 e)
    (labels_read text message octets (octets ++ written bytes) left reach pointers n so front
    (ap (λ (o : List ℕ). octets ++ o) one))

-- the name whose labels were read to the end
pub all_read : (text message octets left reach : List ℕ) (pointers : ℕ)
    → (so : IsReadTo text message octets left reach pointers)
    → stop ≡ front_of left → length octets < 255 → pointers ≤ most_pointers → Names message text so.done
all_read text message octets left reach pointers so e room few =
    let end = ahead_stop so.steps left reach (ahead_of so.steps left reach) e refl in
    let last : Gives (ahead_of so.steps left reach) [] =
    subst (λ cs. Gives cs []) (sym end) refl in
    let name = ((walks_over text message).names so.done).0
    (subst (λ ls. Gives (ahead_of 0 text message) ls) (append-nil so.done) (so.back [] last)) in
    record {
      name_is = record {
        is = name;
        few = omega (
          arith,
          few,
          so.count,
          steps_of_name text message so.done name,
          so.last,
          ap last_steps end,
        );
      };
      fits = name_of octets so.done so.each so.written room;
    }

-- the labels of a name, after those that were read
pub still_read : (text message octets left reach : List ℕ) (pointers : ℕ)
    (so : IsReadTo text message octets left reach pointers)
    (labels : List (List ℕ)) → IsName text message labels
    → (more : List (List ℕ)) × (labels ≡ so.done ++ more) × Gives (ahead_of so.steps left reach) more
still_read text message octets left reach pointers so labels name =
    so.forth labels (((walks_over text message).names labels).1 name)

pub all_same : (text message octets left reach : List ℕ) (pointers : ℕ)
    → IsReadTo text message octets left reach pointers
    → stop ≡ front_of left → (labels : List (List ℕ)) → IsName text message labels → octets ≡ written_all labels
all_same text message octets left reach pointers so e labels name =
    let f = still_read text message octets left reach pointers so labels name in
    let end = ahead_stop so.steps left reach (ahead_of so.steps left reach) e refl in
    let none = none_at_end so.steps f.0 (subst (λ cs. Gives cs f.0) end f.2) in
    let all : labels ≡ so.done =
    f.1 ∙ (ap (λ (ls : List (List ℕ)). so.done ++ ls) none ∙ append-nil so.done) in
    so.written ∙ ap written_all (sym all)

pub no_name_far : (text message octets left reach : List ℕ) (pointers target : ℕ)
    → IsReadTo text message octets left reach pointers
    → pointer target ≡ front_of left → length reach ≤ target → (labels : List (List ℕ))
    → IsName text message labels → ⊥
no_name_far text message octets left reach pointers target so e l labels name =
    let f = still_read text message octets left reach pointers so labels name in
    let bad = ahead_far so.steps left reach target (ahead_of so.steps left reach) e l refl in
    none_at_fault so.steps f.0 (subst (λ cs. Gives cs f.0) bad f.2)

pub no_name_torn : (text message octets left reach : List ℕ) (pointers : ℕ)
    → IsReadTo text message octets left reach pointers
    → torn ≡ front_of left → (labels : List (List ℕ)) → IsName text message labels → ⊥
no_name_torn text message octets left reach pointers so e labels name =
    let f = still_read text message octets left reach pointers so labels name in
    let bad = ahead_torn so.steps left reach (ahead_of so.steps left reach) e refl in
    none_at_fault so.steps f.0 (subst (λ cs. Gives cs f.0) bad f.2)

-- a name has as many pointers as were followed, or more
pub pointers_read : (text message octets left reach : List ℕ) (pointers : ℕ)
    → IsReadTo text message octets left reach pointers → (labels : List (List ℕ))
    → (name : IsName text message labels) → pointers ≤ length name.targets
pointers_read text message octets left reach pointers so labels name =
    let f = still_read text message octets left reach pointers so labels name in
    omega (
      arith,
      so.count,
      ap (λ (ls : List (List ℕ)). length ls) f.1,
      length-append so.done f.0,
      late_ahead so.steps left reach f.0 f.2,
      so.last,
      steps_of_name text message labels name,
    )

-- a pointer after as many as are followed belongs to no name that is read
pub no_name_more : (text message octets left reach : List ℕ) (pointers target : ℕ)
    → IsReadTo text message octets left reach pointers
    → pointer target ≡ front_of left → target < length reach → pointers ≡ most_pointers
    → (labels : List (List ℕ)) → Names message text labels → ⊥
no_name_more text message octets left reach pointers target so e l most labels names =
    let next = pointer_read text message octets left reach pointers target so e l in
    omega (
      arith,
      pointers_read text message octets (drop target reach) (take target reach) (pointers + 1) next labels
          names.name_is.is,
      names.name_is.few,
      most,
    )

-- there is room for what was read of a name, and for byte 0
pub room_read : (text message octets left reach : List ℕ) (pointers : ℕ)
    → IsReadTo text message octets left reach pointers
    → (labels : List (List ℕ)) → IsName text message labels → AreOfName labels → length octets < 255
room_read text message octets left reach pointers so labels name fit =
    let f = still_read text message octets left reach pointers so labels name in
    omega (
      arith,
      fit.fits,
      ap (λ (ls : List (List ℕ)). length (wire ls)) f.1,
      length-append (written_all (so.done ++ f.0)) (0 ∷ []),
      ap length (flat_map-append written so.done f.0),
      length-append (written_all so.done) (written_all f.0),
      ap length so.written,
    )

-- labels that do not fit
pub room_for_labels : (text message octets left reach : List ℕ) (pointers len : ℕ)
    → IsReadTo text message octets left reach pointers
    → LabelsAtFront left len → (labels : List (List ℕ)) → IsName text message labels → AreOfName labels
    → length octets + length (take len left) < 255
room_for_labels text message octets left reach pointers len so front labels name fit =
    let next = labels_read text message octets (octets ++ take len left) left reach pointers len so front refl in
    let room =
    room_read text message (octets ++ take len left) (drop len left) reach pointers next labels name fit in
    omega (arith, room, length-append octets (take len left))

-- a label that ends too far belongs to no name
pub no_name_long : (text message octets left reach bytes rest : List ℕ) (pointers len : ℕ)
    → IsReadTo text message octets left reach pointers → LabelsAtFront left len
    → whole bytes rest ≡ front_of (drop len left)
    → 255 ≤ len + (1 + length bytes) → (labels : List (List ℕ)) → IsName text message labels → AreOfName labels → ⊥
no_name_long text message octets left reach bytes rest pointers len so front e far labels name fit =
    let n = len + (1 + length bytes) in
    let more = one_more_in_front left bytes rest len front e in
    let next = labels_read text message octets (octets ++ take n left) left reach pointers n so more refl in
    let room = room_read text message (octets ++ take n left) (drop n left) reach pointers next labels name fit in
    omega (
      arith,
      far,
      room,
      length-append octets (take n left),
      length-take-le n left (front_fits left n more),
    )
