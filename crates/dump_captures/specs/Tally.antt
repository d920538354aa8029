-- The number of packets of each kind in a capture, and their outcomes.
use Rattle.std.specs.Prelude.{ℕ, zero, suc, List, [], ◌∷◌}
use Rattle.dump_captures.specs.Counts.{CountsValue, counts_of, no_counts, with_one_more}
use Rattle.dump_captures.specs.Kinds.{kind_place, reason_place}
use Rattle.dump_captures.specs.Numbers.{changed_at, more_by, one_more}
use Rattle.dump_captures.specs.declared.counts.Category.TheVariants as category
use Rattle.dump_captures.specs.declared.kind.Reason.{Reason}
use Rattle.dump_captures.specs.declared.tally.Counted.{Counted}
use Rattle.dump_captures.specs.declared.tally.Outcome.{Outcome}
use Rattle.dump_captures.specs.declared.tally.Outcome.TheVariants.{Unread, Other, Kept, Passed, Listed, Refused}
use Rattle.dump_captures.specs.declared.tally.Row.{Row}
use Rattle.dump_captures.specs.declared.tally.Tally.{Tally}

-- the numbers by content
pub record TallyValue : Type 0 where
  pub packets : ℕ
  pub passed : ℕ
  pub rows : List Row
  pub others : CountsValue
  pub fragments : CountsValue
  pub joined : ℕ
  pub links : CountsValue

abbrev pub tally_of : Tally → TallyValue
tally_of t = record {
  packets = t.packets;
  passed = t.passed;
  rows = t.rows;
  others = counts_of t.others;
  fragments = counts_of t.fragments;
  joined = t.joined;
  links = counts_of t.links;
}

-- no packets
abbrev pub zeros : ℕ → List ℕ
zeros zero = []
zeros (suc n) = 0 ∷ zeros n

abbrev pub no_row : Row
no_row = record { listed = 0; refused = zeros 8; octets = 0 }

abbrev pub empty : TallyValue
empty = record {
  packets = 0;
  passed = 0;
  rows = no_row ∷ no_row ∷ no_row ∷ no_row ∷ no_row ∷ no_row ∷ no_row ∷ no_row ∷ no_row ∷ [];
  others = no_counts;
  fragments = no_counts;
  joined = 0;
  links = no_counts;
}

-- ---- the packets of one kind

abbrev pub with_listed : ℕ → Row → Row
with_listed octets r = record r { listed = one_more r.listed; octets = more_by octets r.octets }

abbrev pub with_refused : Reason → ℕ → Row → Row
with_refused reason octets r =
    record r { refused = changed_at (reason_place reason) one_more r.refused; octets = more_by octets r.octets }

-- ---- a packet

-- what became of it, by its kind and why it is refused
abbrev pub counted_as : Outcome → ℕ → ℕ → TallyValue → TallyValue
counted_as Unread link octets t = record t { links = with_one_more (category.Link link) t.links }
counted_as (Other c) link octets t = record t { others = with_one_more c t.others }
counted_as (Kept c) link octets t = record t { fragments = with_one_more c t.fragments }
counted_as Passed link octets t = record t { passed = one_more t.passed }
counted_as (Listed kind) link octets t = record t { rows = changed_at (kind_place kind) (with_listed octets) t.rows }
counted_as (Refused kind reason) link octets t =
    record t { rows = changed_at (kind_place kind) (with_refused reason octets) t.rows }

-- a packet more, on this link and of this many captured bytes, and the fragments that were put together with it
abbrev pub counted : Counted → ℕ → ℕ → TallyValue → TallyValue
counted c link octets t =
    counted_as c.outcome link octets
    (record t { packets = one_more t.packets; joined = more_by c.joined t.joined })

-- a packet that no fragment was put together with
abbrev pub alone : Outcome → Counted
alone outcome = record { outcome = outcome; joined = 0 }
