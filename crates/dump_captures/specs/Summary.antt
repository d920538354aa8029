-- The line that sums up a capture.
use Rattle.std.specs.Prelude.{ℕ, ◌==◌, if◌then◌else◌, List, [], ◌∷◌, ◌++◌, get_or, codes, decimal, flat_map}
use Rattle.std.specs.List.{fold}
use Rattle.dump_captures.specs.Counts.{category_text, counts_text}
use Rattle.dump_captures.specs.Kinds.{reasons, reason_place, reason_text}
use Rattle.dump_captures.specs.Numbers.{in_brackets, more_by}
use Rattle.dump_captures.specs.Tally.{TallyValue}
use Rattle.dump_captures.specs.declared.counts.Count.{Count}
use Rattle.dump_captures.specs.declared.kind.Reason.{Reason}

-- ---- how many packets

-- the numbers of some things, added up to the greatest number of 64 bits
abbrev pub sum_up : {A : Type 0} → (A → ℕ) → List A → ℕ
sum_up number xs = fold (λ sum x. more_by (number x) sum) 0 xs

-- those of every kind that were listed
abbrev pub listed_in : TallyValue → ℕ
listed_in t = sum_up (λ r. r.listed) t.rows

-- those of every kind that were refused for a reason, and for any
abbrev pub refused_for : TallyValue → Reason → ℕ
refused_for t reason = sum_up (λ r. get_or r.refused (reason_place reason) 0) t.rows

unfoldable pub refused_in : TallyValue → ℕ
refused_in t = sum_up (refused_for t) reasons

-- ---- the line

-- `2 checksum`, and nothing of a reason for which no packet was refused
abbrev pub reason_parts : TallyValue → Reason → List (List ℕ)
reason_parts t reason =
    if refused_for t reason == 0 then []
    else (decimal (refused_for t reason) ++ codes " " ++ reason_text reason) ∷ []

unfoldable pub reasons_text : TallyValue → List ℕ
reasons_text t = in_brackets (flat_map (reason_parts t) reasons)

-- the frames of a link that is not read
abbrev pub link_text : Count → List ℕ
link_text row = codes ", " ++ decimal row.packets ++ codes " of link " ++ category_text row.category

abbrev pub links_text : List Count → List ℕ
links_text links = flat_map link_text links

-- a further number and what it counts, and nothing where there is none
abbrev pub further_text : ℕ → List ℕ → List ℕ
further_text count what = if count == 0 then [] else codes ", " ++ decimal count ++ what

-- the fragments that were kept, by the protocols that they name
abbrev pub fragments_text : TallyValue → List ℕ
fragments_text t =
    if t.fragments.all == 0 then []
    else codes ", " ++ decimal t.fragments.all ++ codes " fragments" ++ counts_text t.fragments
    ++ further_text t.joined (codes " of them put together")

-- as `5 packets, 2 listed, 1 refused (1 cut), 2 of other protocols (1 tcp, 1 arp), 3 of link USER0`
unfoldable pub summary_text : TallyValue → List ℕ
summary_text t =
    decimal t.packets ++ codes " packets, " ++ decimal (listed_in t) ++ codes " listed, " ++ decimal (refused_in t)
    ++ codes " refused" ++ reasons_text t ++ codes ", " ++ decimal t.others.all ++ codes " of other protocols"
    ++ counts_text t.others ++ further_text t.passed (codes " not chosen") ++ fragments_text t
    ++ links_text t.links.rows ++ further_text t.links.further (codes " of other links")
