-- The table of counts.
use Rattle.std.specs.Prelude.{ℕ, ◌||◌, false, if◌then◌else◌, List, [], ◌++◌, get_or, codes, decimal, flat_map}
use Rattle.dump_captures.specs.Kinds.{kinds, kind_text, kind_place, reasons, reason_text}
use Rattle.dump_captures.specs.Tally.{TallyValue, no_row}
use Rattle.dump_captures.specs.declared.kind.Kind.{Kind}
use Rattle.dump_captures.specs.declared.options.Only.{Only}
use Rattle.dump_captures.specs.declared.tally.Row.{Row}

-- ---- the table

-- the names of the reasons, each after a tab
abbrev pub reason_names : List ℕ
reason_names = flat_map (λ reason. codes "\t" ++ reason_text reason) reasons

-- the names of the columns, with tabs between them
abbrev pub head_text : List ℕ
head_text = codes "kind\tlisted" ++ reason_names ++ codes "\toctets\n"

-- numbers, each after a tab
abbrev pub with_tabs : List ℕ → List ℕ
with_tabs numbers = flat_map (λ n. codes "\t" ++ decimal n) numbers

abbrev pub row_text : Kind → Row → List ℕ
row_text kind r =
    kind_text kind ++ codes "\t" ++ decimal r.listed ++ with_tabs r.refused ++ codes "\t" ++ decimal r.octets
    ++ codes "\n"

-- the row of a kind, where packets of it may be chosen
abbrev pub chosen_text : Only → List Row → Kind → List ℕ
chosen_text only rows kind =
    if get_or only.kinds (kind_place kind) false || only.hop_by_hop
    then row_text kind (get_or rows (kind_place kind) no_row)
    else []

-- the rows of all kinds, in their order
abbrev pub rows_text : Only → TallyValue → List ℕ
rows_text only t = flat_map (chosen_text only t.rows) kinds

unfoldable pub table_text : Only → TallyValue → List ℕ
table_text only t = head_text ++ rows_text only t
