-- Entries of objects that are printed one after another.
use Rattle.std.proofs.Common.{◌≡◌, ◌∙◌, [], ◌∷◌, ◌++◌, Bool, Err, List, None, Ok, OnOk, Option, Result, Some, ℕ}
use Rattle.std.proofs.Common.{append_assoc, false, refl, subst, sym}
use Rattle.std.proofs.lemmas.List.{append-nil}
use Rattle.std.specs.Option.{option_map}
use Rattle.std.specs.Prelude.{codes, map}
use Rattle.packet_fields.specs.Fields.{Entry, Item, entries, leaf_or_missing, list_after, list_before, text}
use Rattle.packet_fields.specs.Output.{Gains}
use Rattle.packet_fields.specs.Prints.{Prints, PrintsSome}
use Rattle.packet_fields.specs.Entries.{PrintsEntry}
use Rattle.packet_fields.specs.private.Entries.{PrintsEntries, PrintsSomeEntries, PrintsSomeEntry}
use Rattle.packet_fields.specs.declared.form.Form.{Form}
use Rattle.packet_fields.proofs.Fields.{prints_both}
use Rattle.packet_fields.proofs.EntryChains.{is_none, list_printed, one_more}
use Rattle.extension_wire.specs.Object.{ObjectValue}
use Rattle.extension_wire.specs.declared.mpls.LabelEntry.{LabelEntry}
use Rattle.icmp_fields.specs.Extensions.{AreObjectEntries, AreObjects, AreObjectsItems, label_entry}
use Rattle.icmp_fields.specs.private.Entries.{Continues, PrintsObject, are_none}

-- a value that may be missing
pub mapped_leaf : {A : Type 0} (f : A → List ℕ) (o : Option A)
    → leaf_or_missing (λ a. text (f a)) o ≡ leaf_or_missing text (option_map f o)
mapped_leaf f None = refl
mapped_leaf f (Some a) = refl

-- whether there are none yet
pub none_is : (es : List Entry) → are_none es ≡ is_none es
none_is [] = refl
none_is (e ∷ es) = refl

pub some_later : (done es : List Entry) → are_none es ≡ false → false ≡ are_none (done ++ es)
some_later [] es some = sym some
some_later (e ∷ done) es some = refl

some_still : (done es : List Entry) → false ≡ are_none done → false ≡ are_none (done ++ es)
some_still [] es some = cc
some_still (e ∷ done) es some = refl

module _ (form : Form) where
  -- an entry, and entries behind it
  pub continues_one : (is_first : Bool) (a b : Option (List ℕ)) (e : Entry) → PrintsEntry form is_first a b e
      → Continues form is_first a b (e ∷ [])
  continues_one is_first a b e printed start done first so_far =
      one_more form start a b done e so_far
      (subst (λ (x : Bool). PrintsEntry form x a b e) (first ∙ none_is done) printed)

  pub continues_none : (is_first : Bool) (a : Option (List ℕ)) → Continues form is_first a a []
  continues_none is_first a start done first so_far = subst (PrintsEntries form start a) (sym (append-nil done)) so_far

  pub continues_later : (a b c : Option (List ℕ)) (xs ys : List Entry) → Continues form false a b xs
      → Continues form false b c ys → Continues form false a c (xs ++ ys)
  continues_later a b c xs ys front back start done first so_far =
      subst (PrintsEntries form start c) (append_assoc done xs ys)
      (back start (done ++ xs) (some_still done xs first) (front start done first so_far))

  pub continues_both : (is_first : Bool) (a b c : Option (List ℕ)) (xs ys : List Entry) → are_none xs ≡ false
      → Continues form is_first a b xs → Continues form false b c ys → Continues form is_first a c (xs ++ ys)
  continues_both is_first a b c xs ys some front back start done first so_far =
      subst (PrintsEntries form start c) (append_assoc done xs ys)
      (back start (done ++ xs) (some_later done xs some) (front start done first so_far))

-- an object of one entry
pub object_printed : {E : Type 0} (form : Form) (is_first : Bool) (a b : Option (List ℕ)) (o : ObjectValue) (e : Entry)
    (r : Result (Unit {0}) E) → AreObjectEntries o (e ∷ []) → OnOk r (PrintsEntry form is_first a b e)
    → OnOk r (PrintsObject form is_first a b o)
object_printed form is_first a b o e (Ok u) are printed =
    record { es = e ∷ []; are = are; some = refl; prints = continues_one form is_first a b e printed }
object_printed form is_first a b o e (Err x) are printed = tt

pub some_object_printed : {E : Type 0} (form : Form) (is_first : Bool) (a b : Option (List ℕ)) (o : ObjectValue)
    (IsEntry : Entry → Type 0) (r : Result (Unit {0}) E)
    → ((e : Entry) → IsEntry e → AreObjectEntries o (e ∷ [])) → OnOk r (PrintsSomeEntry form is_first a b IsEntry)
    → OnOk r (PrintsObject form is_first a b o)
some_object_printed form is_first a b o IsEntry (Ok u) are (e, is, printed) =
    record { es = e ∷ []; are = are e is; some = refl; prints = continues_one form is_first a b e printed }
some_object_printed form is_first a b o IsEntry (Err x) are printed = tt

-- an object of an entry, and of others behind it
pub objects_printed : {E : Type 0} (form : Form) (is_first : Bool) (a b c : Option (List ℕ)) (o : ObjectValue)
    (e : Entry) (es : List Entry) (r : Result (Unit {0}) E) → AreObjectEntries o (e ∷ es)
    → PrintsEntry form is_first a b e → OnOk r (Continues form false b c es)
    → OnOk r (PrintsObject form is_first a c o)
objects_printed form is_first a b c o e es (Ok u) are first others = record {
  es = e ∷ es;
  are = are;
  some = refl;
  prints =
      continues_both form is_first a b c (e ∷ []) es refl (continues_one form is_first a b e first) others;
}
objects_printed form is_first a b c o e es (Err x) are first others = tt

-- an entry of a kind
pub some_printed : {E : Type 0} (form : Form) (is_first : Bool) (a b : Option (List ℕ)) (IsEntry : Entry → Type 0)
    (e : Entry) (r : Result (Unit {0}) E) → IsEntry e → OnOk r (PrintsEntry form is_first a b e)
    → OnOk r (PrintsSomeEntry form is_first a b IsEntry)
some_printed form is_first a b IsEntry e (Ok u) is printed = (e, is, printed)
some_printed form is_first a b IsEntry e (Err x) is printed = tt

-- entries, and a last one
pub last_printed : {E : Type 0} (form : Form) (is_first : Bool) (a b c : Option (List ℕ))
    (AreAll : List Entry → Type 0) (done : List Entry) (e : Entry) (r : Result (Unit {0}) E)
    → is_first ≡ are_none done → PrintsEntries form a b done → AreAll (done ++ (e ∷ []))
    → OnOk r (PrintsEntry form is_first b c e) → OnOk r (PrintsSomeEntries form a c AreAll)
last_printed form is_first a b c AreAll done e (Ok u) first so_far are printed =
    (done ++ (e ∷ []), are, continues_one form is_first b c e printed a done first so_far)
last_printed form is_first a b c AreAll done e (Err x) first so_far are printed = tt

-- labels by other words for them
pub continues_as : (form : Form) (is_first : Bool) (a b : Option (List ℕ)) (xs ys : List LabelEntry) → xs ≡ ys
    → Continues form is_first a b (map label_entry xs) → Continues form is_first a b (map label_entry ys)
continues_as form is_first a b xs ys same printed =
    subst (λ (these : List LabelEntry). Continues form is_first a b (map label_entry these)) same printed

-- the list of all objects
pub objects_listed : {E : Type 0} (form : Form) (a b c z : Option (List ℕ)) (octets : List ℕ) (r : Result (Unit {0}) E)
    → Gains a b (list_before form (codes "extensions")) → PrintsSomeEntries form b c (AreObjects octets)
    → OnOk r (Gains c z (list_after form)) → OnOk r (PrintsSome form a z (AreObjectsItems octets))
objects_listed {E} form a b c z octets (Ok u) before (es, are, printed) after = (
  entries (codes "extensions") es ∷ [],
  (es, are, refl),
  list_printed {E = E} form a b c z (codes "extensions") es (Ok u) before printed after,
)
objects_listed {E} form a b c z octets (Err x) before some after = tt

-- fields of one kind that are of another
pub some_as : {E : Type 0} (form : Form) (a b : Option (List ℕ)) (AreOne AreOther : List Item → Type 0)
    (r : Result (Unit {0}) E) → ((items : List Item) → AreOne items → AreOther items)
    → OnOk r (PrintsSome form a b AreOne) → OnOk r (PrintsSome form a b AreOther)
some_as form a b AreOne AreOther (Ok u) on (items, are, printed) = (items, on items are, printed)
some_as form a b AreOne AreOther (Err x) on printed = tt

-- fields, and others of a kind behind them
pub some_behind : {E : Type 0} (form : Form) (a b c : Option (List ℕ)) (xs : List Item)
    (AreBack AreAll : List Item → Type 0) (r : Result (Unit {0}) E) → Prints form a b xs
    → ((ys : List Item) → AreBack ys → AreAll (xs ++ ys)) → OnOk r (PrintsSome form b c AreBack)
    → OnOk r (PrintsSome form a c AreAll)
some_behind form a b c xs AreBack AreAll (Ok u) front on (ys, are, printed) =
    (xs ++ ys, on ys are, prints_both form a b c xs ys front printed)
some_behind form a b c xs AreBack AreAll (Err x) front on printed = tt
