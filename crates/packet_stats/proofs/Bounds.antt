-- What is kept stays within bounds.
use Rattle.std.proofs.Common.{◌≡◌, ◌≤◌, [], ◌∷◌, Err, List, Ok, OnErr, OnOk, Result, ap, arith, length, length-append}
use Rattle.std.proofs.Common.{map, ℕ}
use Rattle.std.proofs.lemmas.List.{length-map}
use Rattle.packet_stats.specs.Bounds.{HaveFewTimes, IsWithin, IsWithinBounds}
use Rattle.packet_stats.specs.Row.{MentionValue, counted, first_row, row_of}
use Rattle.packet_stats.specs.Stats.{nothing, state_of}
use Rattle.packet_stats.specs.Table.{Counts, TableValue, again, first, overlooks, table_of}
use Rattle.packet_stats.specs.Types.{Fault, Row}
use Rattle.packet_stats.specs.declared.stats.Stats.{Stats}
use Rattle.packet_stats.specs.declared.table.Table.{Table}

-- ---- a table

counts_within : (most : ℕ) (old new : TableValue) (m : MentionValue) → Counts most old m new → length old.rows ≤ most
    → length new.rows ≤ most
counts_within most old new m (again before behind r parts unknown same is) few =
    omega (
      arith,
      ap (λ (t : TableValue). length t.rows) is,
      ap length parts,
      length-append before (counted m.after r ∷ behind),
      length-append before (r ∷ behind),
      few,
    )
counts_within most old new m (first unknown room is) few =
    omega (arith, ap (λ (t : TableValue). length t.rows) is, length-append old.rows (first_row m ∷ []), room)
counts_within most old new m (overlooks unknown full is) few =
    omega (arith, ap (λ (t : TableValue). length t.rows) is, few)

pub stays_within : (r : Result (Unit {0}) Fault) (most : ℕ) (old new : Table) (m : MentionValue)
    → OnOk r (Counts most (table_of old) m (table_of new)) → OnErr r (table_of new ≡ table_of old)
    → length old.rows.items ≤ most → length new.rows.items ≤ most
stays_within (Ok u) most old new m counts same few =
    let before = length-map old.rows.items row_of in
    let behind = length-map new.rows.items row_of in
    let within = counts_within most (table_of old) (table_of new) m counts (omega (arith, before, few)) in
    omega (arith, behind, within)
stays_within (Err fault) most old new m counts same few =
    let before = length-map old.rows.items row_of in
    let behind = length-map new.rows.items row_of in
    omega (arith, before, behind, ap (λ (t : TableValue). length t.rows) same, few)

pub none_within : (most : ℕ) (t : Table) → table_of t ≡ nothing → length t.rows.items ≤ most
none_within most t none =
    omega (arith, length-map t.rows.items row_of, ap (λ (v : TableValue). length v.rows) none)

few_times : (rows : List Row) → HaveFewTimes (map row_of rows)
few_times [] = tt
few_times (r ∷ rs) = (r.few, few_times rs)

is_within : (most : ℕ) (t : Table) → length t.rows.items ≤ most → IsWithin most (table_of t)
is_within most t few =
    record { rows = omega (arith, length-map t.rows.items row_of, few); times = few_times t.rows.items }

-- ---- all tables

pub bounds_of : (s : Stats) → IsWithinBounds (state_of s)
bounds_of s = record {
  questions = is_within 1024 s.questions s.few_questions;
  rcodes = is_within 1024 s.rcodes s.few_rcodes;
  servers = is_within 256 s.servers s.few_servers;
  clients = is_within 1024 s.clients s.few_clients;
  leases = is_within 1024 s.leases s.few_leases;
  members = is_within 1024 s.members s.few_members;
  sources = is_within 1024 s.sources s.few_sources;
  neighbors = is_within 1024 s.neighbors s.few_neighbors;
  routers = is_within 1024 s.routers s.few_routers;
  prefixes = is_within 1024 s.prefixes s.few_prefixes;
}
