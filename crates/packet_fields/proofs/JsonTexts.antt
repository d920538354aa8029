-- The text of an object in JSON reads as the object.
use Rattle.std.proofs.Common.{◌≡◌, ◌∙◌, ◌≤◌, [], ◌∷◌, ◌++◌, Bool, List, None, Option, Some, ℕ, ap, append_assoc, arith, codes, decimal, false, flat_map, refl, sym, true}
use Rattle.std.proofs.lemmas.List.{append-nil}
use Rattle.json.specs.Json.{document}
use Rattle.json.specs.Print.{quoted}
use Rattle.json.specs.Tree.{HasNumbers, ItemsHaveNumbers, MembersHaveNumbers}
use Rattle.json.specs.Tree as tree
use Rattle.json.proofs.Printed.Decimals.{IsNumber-decimal}
use Rattle.json.proofs.Printed.Trees.{document-print}
use Rattle.serde_json.specs.Data.{Members}
use Rattle.serde_json.specs.Data as values
use Rattle.serde_json.specs.Written.{compact_text, items_text as values_text, members_text, outline, items_outline, members_outline}
use Rattle.serde_json.proofs.Texts.{print-outline}
use Rattle.packet_fields.specs.Fields.{Cell, CellsFit, EntriesFit, Entry, Fits, Item, ItemsFit, Leaf, field, named, entries}
use Rattle.packet_fields.specs.Fields.{AllFit, number, truth, text, octets, time, texts, numbers, missing, leaf_text, comma_unless, name_key, shown_text, bare, keyed, hidden, Shown}
unfoldable use Rattle.packet_fields.specs.Fields.{member_key, member, before, after, name_text, cell_before}
unfoldable use Rattle.packet_fields.specs.Fields.{keyed_before, cell_text, cells_text, entry_before, first_text}
unfoldable use Rattle.packet_fields.specs.Fields.{entry_after, list_before, list_after, item_text, items_text}
use Rattle.packet_fields.specs.Fields.{entry_text, entries_text}
use Rattle.packet_fields.specs.Json.{value_of, strings, integers, cell_members, entry_value, entry_values, with_name, members_of, object_of, ReadsAsJson}
unfoldable use Rattle.packet_fields.specs.Json.{object_text}
use Rattle.packet_fields.specs.declared.form.Form.TheVariants.{Json}

-- ---- texts

more_strings : (ts : List (List ℕ))
    → values_text true (strings ts) ≡ flat_map (λ t. codes "," ++ quoted t) ts ++ codes "]"
more_strings [] = refl
more_strings (t ∷ ts) =
    ap (λ s. 44 ∷ (quoted t ++ s)) (more_strings ts)
    ∙ ap (λ s. 44 ∷ s) (sym (append_assoc (quoted t) (flat_map (λ t. codes "," ++ quoted t) ts) (codes "]")))

more_numbers : (ns : List ℕ) → values_text true (integers ns) ≡ flat_map (λ n. codes "," ++ decimal n) ns ++ codes "]"
more_numbers [] = refl
more_numbers (n ∷ ns) =
    ap (λ s. 44 ∷ (decimal n ++ s)) (more_numbers ns)
    ∙ ap (λ s. 44 ∷ s) (sym (append_assoc (decimal n) (flat_map (λ n. codes "," ++ decimal n) ns) (codes "]")))

leaf_is : (l : Leaf) → compact_text (value_of l) ≡ leaf_text Json l
leaf_is (number n) = refl
leaf_is (truth true) = refl
leaf_is (truth false) = refl
leaf_is (text t) = refl
leaf_is (octets bytes) = refl
leaf_is (time n) = refl
leaf_is (texts []) = refl
leaf_is (texts (t ∷ ts)) =
    ap (λ s. 91 ∷ (quoted t ++ s)) (more_strings ts)
    ∙ ap (λ s. 91 ∷ s) (sym (append_assoc (quoted t) (flat_map (λ t. codes "," ++ quoted t) ts) (codes "]")))
leaf_is (numbers []) = refl
leaf_is (numbers (n ∷ ns)) =
    ap (λ s. 91 ∷ (decimal n ++ s)) (more_numbers ns)
    ∙ ap (λ s. 91 ∷ s) (sym (append_assoc (decimal n) (flat_map (λ n. codes "," ++ decimal n) ns) (codes "]")))
leaf_is missing = refl

-- a member with its comma, before others
one_member : (k v rest : List ℕ) → 44 ∷ (quoted k ++ 58 ∷ (v ++ rest)) ≡ (member_key k ++ v) ++ rest
unfolding member_key
one_member k v rest = simp append_assoc

shown_is : (s : Shown) (k : List ℕ) (l : Leaf) → shown_text Json s k l ≡ member_key k ++ leaf_text Json l
unfolding cell_before keyed_before member
shown_is bare k l = refl
shown_is keyed k l = refl
shown_is hidden k l = refl

cells_are : (cs : List Cell) → members_text true (cell_members cs) ≡ cells_text Json cs ++ codes "}"
unfolding cells_text cell_text
cells_are [] = refl
cells_are (c ∷ cs) =
    ap (λ s. 44 ∷ (quoted c.key ++ 58 ∷ (s ++ members_text true (cell_members cs)))) (leaf_is c.value)
    ∙ ap (λ s. 44 ∷ (quoted c.key ++ 58 ∷ (leaf_text Json c.value ++ s))) (cells_are cs)
    ∙ one_member c.key (leaf_text Json c.value) (cells_text Json cs ++ codes "}")
    ∙ ap (λ s. s ++ (cells_text Json cs ++ codes "}")) (sym (shown_is c.shown c.key c.value))
    ∙ sym (append_assoc (cell_text Json c) (cells_text Json cs) (codes "}"))

-- an entry, after a comma where it is not the first
entry_is : (is_first : Bool) (e : Entry)
    → comma_unless is_first ++ compact_text (entry_value e) ≡ entry_text Json is_first e
unfolding entry_before first_text entry_after member member_key
entry_is is_first e =
    ap (λ s. comma_unless is_first ++ 123 ∷ (quoted e.label_key ++ 58 ∷ (quoted e.label ++ 44 ∷ (quoted e.first_key
    ++ 58 ∷ (s ++ members_text true (cell_members e.rest))))))
    (leaf_is e.first)
    ∙ ap (λ s. comma_unless is_first ++ 123 ∷ (quoted e.label_key ++ 58 ∷ (quoted e.label ++ 44 ∷ (quoted e.first_key
    ++ 58 ∷ (leaf_text Json e.first ++ s)))))
    (cells_are e.rest)
    ∙ simp append_assoc

more_entries : (es : List Entry) → values_text true (entry_values es) ≡ flat_map (entry_text Json false) es ++ codes "]"
more_entries [] = refl
more_entries (e ∷ es) =
    ap (λ s. codes "," ++ (compact_text (entry_value e) ++ s)) (more_entries es)
    ∙ sym (append_assoc (codes ",") (compact_text (entry_value e)) (flat_map (entry_text Json false) es ++ codes "]"))
    ∙ ap (λ s. s ++ (flat_map (entry_text Json false) es ++ codes "]")) (entry_is false e)
    ∙ sym (append_assoc (entry_text Json false e) (flat_map (entry_text Json false) es) (codes "]"))

entries_are : (es : List Entry)
    → compact_text (values.array (entry_values es)) ≡ codes "[" ++ (entries_text Json es ++ codes "]")
entries_are [] = refl
entries_are (e ∷ es) =
    ap (λ s. 91 ∷ (compact_text (entry_value e) ++ s)) (more_entries es)
    ∙ ap (λ s. 91 ∷ (s ++ (flat_map (entry_text Json false) es ++ codes "]"))) (entry_is true e)
    ∙ ap (λ s. 91 ∷ s) (sym (append_assoc (entry_text Json true e) (flat_map (entry_text Json false) es) (codes "]")))

-- the members of fields
name_is : (key : List ℕ) (name : Option (List ℕ)) (more : Members) (all : List ℕ) → members_text true more ≡ all
    → members_text true (with_name key name more) ≡ name_text Json key name ++ all
unfolding name_text member
name_is key None more all is = is
name_is key (Some name) more all is =
    ap (λ s. 44 ∷ (quoted (name_key key) ++ 58 ∷ (quoted name ++ s))) is ∙ one_member (name_key key) (quoted name) all

items_are : (items : List Item) → members_text true (members_of items) ≡ items_text Json items ++ codes "}"
unfolding items_text item_text before after list_before list_after
items_are [] = refl
items_are (field key value ∷ rest) =
    ap (λ s. 44 ∷ (quoted key ++ 58 ∷ (s ++ members_text true (members_of rest)))) (leaf_is value)
    ∙ ap (λ s. 44 ∷ (quoted key ++ 58 ∷ (leaf_text Json value ++ s))) (items_are rest)
    ∙ one_member key (leaf_text Json value) (items_text Json rest ++ codes "}")
    ∙ simp (append_assoc, append-nil)
items_are (named key n name ∷ rest) =
    ap (λ s. 44 ∷ (quoted key ++ 58 ∷ (decimal n ++ s))) (name_is key name (members_of rest) _ (items_are rest))
    ∙ one_member key (decimal n) (name_text Json key name ++ (items_text Json rest ++ codes "}"))
    ∙ simp (append_assoc, append-nil)
items_are (entries key es ∷ rest) =
    ap (λ s. 44 ∷ (quoted key ++ 58 ∷ (s ++ members_text true (members_of rest)))) (entries_are es)
    ∙ ap (λ s. 44 ∷ (quoted key ++ 58 ∷ ((codes "[" ++ (entries_text Json es ++ codes "]")) ++ s))) (items_are rest)
    ∙ one_member key (codes "[" ++ (entries_text Json es ++ codes "]")) (items_text Json rest ++ codes "}")
    ∙ simp (append_assoc, append-nil)

object_is : (key : List ℕ) (first : Leaf) (items : List Item)
    → compact_text (object_of key first items) ≡ object_text key first items
unfolding object_text
object_is key first items =
    ap (λ s. 123 ∷ (quoted key ++ 58 ∷ (s ++ members_text true (members_of items)))) (leaf_is first)
    ∙ ap (λ s. 123 ∷ (quoted key ++ 58 ∷ (leaf_text Json first ++ s))) (items_are items)
    ∙ simp append_assoc

-- ---- numbers, and how deep they nest

strings_have : (ts : List (List ℕ)) → ItemsHaveNumbers (items_outline (strings ts))
strings_have [] = tt
strings_have (t ∷ ts) = (tt, strings_have ts)

strings_depth : (ts : List (List ℕ)) → tree.items_depth (items_outline (strings ts)) ≤ 0
strings_depth [] = omega arith
strings_depth (t ∷ ts) = let d = strings_depth ts in omega arith

numbers_have : (ns : List ℕ) → AllFit ns → ItemsHaveNumbers (items_outline (integers ns))
numbers_have [] fit = tt
numbers_have (n ∷ ns) (one, more) = (IsNumber-decimal n one, numbers_have ns more)

numbers_depth : (ns : List ℕ) → tree.items_depth (items_outline (integers ns)) ≤ 0
numbers_depth [] = omega arith
numbers_depth (n ∷ ns) = let d = numbers_depth ns in omega arith

leaf_has : (l : Leaf) → Fits l → HasNumbers (outline (value_of l))
leaf_has (number n) fits = IsNumber-decimal n fits
leaf_has (truth b) fits = tt
leaf_has (text t) fits = tt
leaf_has (octets bytes) fits = tt
leaf_has (time n) fits = IsNumber-decimal n fits
leaf_has (texts ts) fits = strings_have ts
leaf_has (numbers ns) fits = numbers_have ns fits
leaf_has missing fits = tt

leaf_depth : (l : Leaf) → tree.depth (outline (value_of l)) ≤ 1
leaf_depth (number n) = omega arith
leaf_depth (truth b) = omega arith
leaf_depth (text t) = omega arith
leaf_depth (octets bytes) = omega arith
leaf_depth (time n) = omega arith
leaf_depth (texts ts) = let d = strings_depth ts in omega arith
leaf_depth (numbers ns) = let d = numbers_depth ns in omega arith
leaf_depth missing = omega arith

cells_have : (cs : List Cell) → CellsFit cs → MembersHaveNumbers (members_outline (cell_members cs))
cells_have [] fit = tt
cells_have (c ∷ cs) (one, more) = (leaf_has c.value one, cells_have cs more)

cells_depth : (cs : List Cell) → tree.members_depth (members_outline (cell_members cs)) ≤ 1
cells_depth [] = omega arith
cells_depth (c ∷ cs) =
    let one = leaf_depth c.value in
    let more = cells_depth cs in
    omega arith

entries_have : (es : List Entry) → EntriesFit es → ItemsHaveNumbers (items_outline (entry_values es))
entries_have [] fit = tt
entries_have (e ∷ es) (first, rest, more) =
    ((tt, (leaf_has e.first first, cells_have e.rest rest)), entries_have es more)

entries_depth : (es : List Entry) → tree.items_depth (items_outline (entry_values es)) ≤ 2
entries_depth [] = omega arith
entries_depth (e ∷ es) =
    let first = leaf_depth e.first in
    let rest = cells_depth e.rest in
    let more = entries_depth es in
    omega arith

name_has : (key : List ℕ) (name : Option (List ℕ)) (more : Members) → MembersHaveNumbers (members_outline more)
    → MembersHaveNumbers (members_outline (with_name key name more))
name_has key None more has = has
name_has key (Some name) more has = (tt, has)

name_depth : (key : List ℕ) (name : Option (List ℕ)) (more : Members) → tree.members_depth (members_outline more) ≤ 3
    → tree.members_depth (members_outline (with_name key name more)) ≤ 3
name_depth key None more is = is
name_depth key (Some name) more is = omega arith

items_have : (items : List Item) → ItemsFit items → MembersHaveNumbers (members_outline (members_of items))
items_have [] fit = tt
items_have (field key value ∷ rest) (one, more) = (leaf_has value one, items_have rest more)
items_have (named key n name ∷ rest) (one, more) =
    (IsNumber-decimal n one, name_has key name (members_of rest) (items_have rest more))
items_have (entries key es ∷ rest) (one, more) = (entries_have es one, items_have rest more)

items_depth : (items : List Item) → tree.members_depth (members_outline (members_of items)) ≤ 3
items_depth [] = omega arith
items_depth (field key value ∷ rest) =
    let one = leaf_depth value in
    let more = items_depth rest in
    omega arith
items_depth (named key n name ∷ rest) =
    let more = name_depth key name (members_of rest) (items_depth rest) in
    omega arith
items_depth (entries key es ∷ rest) =
    let one = entries_depth es in
    let more = items_depth rest in
    omega arith

-- ---- the object

pub reads_as_json : ReadsAsJson
reads_as_json key first items first_fits fit =
    let d = object_of key first items in
    let one = leaf_depth first in
    let more = items_depth items in
    ap document (sym (print-outline d ∙ object_is key first items))
    ∙ document-print (outline d) (leaf_has first first_fits, items_have items fit) (omega arith)
