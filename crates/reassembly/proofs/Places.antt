-- Loops over the fragments that are kept of a datagram, and over datagrams.
use Rattle.std.proofs.Common.{◌≡◌, ◌≢◌, ◌≤◌, ◌<◌, ◌+◌, ◌++◌, ◌∙◌, [], ◌∷◌, List, Bool, true, false, ℕ, ap, sym, subst}
use Rattle.std.proofs.Common.{IsTrue, None, append_assoc, arith, drop, get_or, if◌then◌else◌, inl, inr, length, map}
use Rattle.std.proofs.Common.{set, suc, take}
use Rattle.std.proofs.lemmas.Bool.{eq-eqb, le-ltb, lt-ltb, ne_eqb}
use Rattle.std.proofs.lemmas.List.{append-nil, drop_more, drop-map, drop-set-lt, map-append, map_more}
use Rattle.std.proofs.lemmas.List.{map_push, set-get_or, set_split, take-map, take-set}
use Rattle.std.proofs.lemmas.List.Concat.{flat_map-append}
use Rattle.std.specs.List.{insert, remove}
use Rattle.reassembly.specs.Fragment.{FragmentValue}
use Rattle.reassembly.specs.Partial.{PartialValue, partial_of}
use Rattle.reassembly.specs.Piece.{PieceValue, Stands, StandsToAll, TilesFrom, Tiles, end_of, kept_options, numbers_of}
use Rattle.reassembly.specs.Piece.{payload_of, piece_of, placed}
use Rattle.reassembly.specs.Reassembly.{IsUnknown}
use Rattle.reassembly.specs.Types.{Key, Partial, Piece, Standing}

-- ---- the element at a place of a list that is mapped

pub drop_at_map : {X Y : Type 0} (f : X → Y) (xs : List X) (i : ℕ) (x : X) → i < length xs → x ≡ get_or xs i x
    → drop i (map f xs) ≡ f x ∷ drop (i + 1) (map f xs)
drop_at_map f xs i x within at =
    drop-map f i xs ∙ ap (map f) (drop_more xs i x within) ∙ ap (λ y. f y ∷ map f (drop (i + 1) xs)) (sym at)
    ∙ ap (λ l. f x ∷ l) (sym (drop-map f (i + 1) xs))

pub take_at_map : {X Y : Type 0} (f : X → Y) (xs : List X) (i : ℕ) (x : X) → i < length xs → x ≡ get_or xs i x
    → take (i + 1) (map f xs) ≡ take i (map f xs) ++ (f x ∷ [])
take_at_map f xs i x within at =
    take-map f (i + 1) xs ∙ map_more f xs i x within ∙ ap (λ y. map f (take i xs) ++ (f y ∷ [])) (sym at)
    ∙ ap (λ l. l ++ (f x ∷ [])) (sym (take-map f i xs))

-- ---- the hop-by-hop options of a fragment

pub kept_first : (f : FragmentValue) → f.frag_offset ≡ 0 → kept_options f ≡ f.hop_by_hop
kept_first f is = ap (λ (b : Bool). if b then f.hop_by_hop else None) (eq-eqb f.frag_offset 0 is)

pub kept_none : (f : FragmentValue) → f.frag_offset ≢ 0 → kept_options f ≡ None
kept_none f other = ap (λ (b : Bool). if b then f.hop_by_hop else None) (ne_eqb f.frag_offset 0 other)

-- ---- a fragment in its place

pub placed_behind : (p q : PieceValue) (qs : List PieceValue) → q.offset < p.offset
    → placed p (q ∷ qs) ≡ q ∷ placed p qs
placed_behind p q qs h =
    ap (λ (b : Bool). if b then q ∷ placed p qs else p ∷ q ∷ qs) (lt-ltb q.offset p.offset h)

pub placed_before : (p q : PieceValue) (qs : List PieceValue) → p.offset ≤ q.offset → placed p (q ∷ qs) ≡ p ∷ q ∷ qs
placed_before p q qs h =
    ap (λ (b : Bool). if b then q ∷ placed p qs else p ∷ q ∷ qs) (le-ltb q.offset p.offset h)

-- its place is not among the first
pub record PlacedLater (p : PieceValue) (ps : List PieceValue) (i : ℕ) : Type 0 where
  pub later : placed p ps ≡ take i ps ++ placed p (drop i ps)

pub placed_more : (p q : PieceValue) (ps : List PieceValue) (i : ℕ) → drop i ps ≡ q ∷ drop (i + 1) ps
    → take (i + 1) ps ≡ take i ps ++ (q ∷ []) → q.offset < p.offset → PlacedLater p ps i → PlacedLater p ps (i + 1)
placed_more p q ps i split front behind so = record {
  later =
      so.later ∙ ap (λ l. take i ps ++ placed p l) split
      ∙ ap (λ l. take i ps ++ l) (placed_behind p q (drop (i + 1) ps) behind)
      ∙ sym (append_assoc (take i ps) (q ∷ []) (placed p (drop (i + 1) ps)))
      ∙ ap (λ l. l ++ placed p (drop (i + 1) ps)) (sym front);
}

pub placed_here : (p q : PieceValue) (ps : List PieceValue) (i : ℕ) → drop i ps ≡ q ∷ drop (i + 1) ps
    → p.offset ≤ q.offset → PlacedLater p ps i → insert ps i p ≡ placed p ps
placed_here p q ps i split before so =
    sym (so.later ∙ ap (λ l. take i ps ++ placed p l) split
    ∙ ap (λ l. take i ps ++ l) (placed_before p q (drop (i + 1) ps) before)
    ∙ ap (λ l. take i ps ++ (p ∷ l)) (sym split))

-- ---- how a fragment stands to those that are kept

pub record StandsLater (f : FragmentValue) (all rest : List PieceValue) : Type 0 where
  pub later : (s : Standing) → StandsToAll rest f s → StandsToAll all f s

pub stands_more : (f : FragmentValue) (all ps : List PieceValue) (i : ℕ) (q : PieceValue)
    → drop i ps ≡ q ∷ drop (i + 1) ps → Stands q f Standing.Apart → StandsLater f all (drop i ps)
    → StandsLater f all (drop (i + 1) ps)
stands_more f all ps i q split apart so = record {
  later = λ s h. so.later s (subst (λ l. StandsToAll l f s) (sym split) (inr (apart, h)));
}

pub stands_here : (f : FragmentValue) (all ps : List PieceValue) (i : ℕ) (q : PieceValue) (s : Standing)
    → drop i ps ≡ q ∷ drop (i + 1) ps → Stands q f s → s ≢ Standing.Apart → StandsLater f all (drop i ps)
    → StandsToAll all f s
stands_here f all ps i q s split stands other so =
    so.later s (subst (λ l. StandsToAll l f s) (sym split) (inl (stands, other)))

-- ---- whether they tile

pub record TilesLater (more : Bool) (start : ℕ) (rest all : List PieceValue) : Type 0 where
  pub forward : Tiles all → TilesFrom more start rest
  pub back : TilesFrom more start rest → Tiles all

pub tiles_more : (more next : Bool) (start end : ℕ) (ps all : List PieceValue) (i : ℕ) (q : PieceValue)
    → drop i ps ≡ q ∷ drop (i + 1) ps → more ≡ true → q.offset ≡ start → next ≡ q.more → end ≡ end_of q
    → TilesLater more start (drop i ps) all → TilesLater next end (drop (i + 1) ps) all
tiles_more more next start end ps all i q split goes begins e f so =
    subst (λ m. TilesLater m end (drop (i + 1) ps) all) (sym e)
    (subst (λ n. TilesLater q.more n (drop (i + 1) ps) all) (sym f) (record {
      forward = λ t. (subst (TilesFrom more start) split (so.forward t)).2;
      back = λ t. so.back (subst (TilesFrom more start) (sym split) (goes, begins, t));
    }))

pub tiles_here : (more : Bool) (start : ℕ) (ps all : List PieceValue) (i : ℕ) (q : PieceValue)
    → drop i ps ≡ q ∷ drop (i + 1) ps → TilesLater more start (drop i ps) all → Tiles all
    → (more ≡ true) × (q.offset ≡ start)
tiles_here more start ps all i q split so t =
    let k = subst (TilesFrom more start) split (so.forward t) in
    (k.0, k.1)

-- ---- what they are together

pub payload_more : (ps : List PieceValue) (i : ℕ) (q : PieceValue) → take (i + 1) ps ≡ take i ps ++ (q ∷ [])
    → payload_of (take i ps) ++ q.octets ≡ payload_of (take (i + 1) ps)
payload_more ps i q front =
    sym (ap payload_of front ∙ flat_map-append (λ (p : PieceValue). p.octets) (take i ps) (q ∷ [])
    ∙ ap (λ l. payload_of (take i ps) ++ l) (append-nil q.octets))

pub numbers_more : (ps : List PieceValue) (i : ℕ) (q : PieceValue) → take (i + 1) ps ≡ take i ps ++ (q ∷ [])
    → numbers_of (take i ps) ++ (q.number ∷ []) ≡ numbers_of (take (i + 1) ps)
numbers_more ps i q front =
    sym (ap numbers_of front ∙ map_push (λ (p : PieceValue). p.number) (take i ps) q)

-- ---- one more that is kept

map-insert : {X Y : Type 0} (f : X → Y) (xs : List X) (i : ℕ) (x : X)
    → map f (insert xs i x) ≡ insert (map f xs) i (f x)
map-insert f xs i x =
    map-append f (take i xs) (x ∷ drop i xs) ∙ ap (λ l. l ++ (f x ∷ map f (drop i xs))) (sym (take-map f i xs))
    ∙ ap (λ l. take i (map f xs) ++ (f x ∷ l)) (sym (drop-map f i xs))

pub inserted : (items new : List Piece) (i : ℕ) (piece : Piece) (p : PieceValue) → new ≡ insert items i piece
    → piece_of piece ≡ p → insert (map piece_of items) i p ≡ placed p (map piece_of items)
    → map piece_of new ≡ placed p (map piece_of items)
inserted items new i piece p e f g =
    ap (map piece_of) e ∙ map-insert piece_of items i piece ∙ ap (insert (map piece_of items) i) f ∙ g

-- ---- datagrams

unknown-push : (key : Key) (ds : List PartialValue) (d : PartialValue) → IsUnknown key ds → d.key ≢ key
    → IsUnknown key (ds ++ (d ∷ []))
unknown-push key [] d h other = (other, tt)
unknown-push key (x ∷ xs) d h other = (h.0, unknown-push key xs d h.1 other)

pub unknown_more : (key : Key) (ds : List Partial) (i : ℕ) (d : Partial) → i < length ds → d ≡ get_or ds i d
    → d.key ≢ key → IsUnknown key (map partial_of (take i ds)) → IsUnknown key (map partial_of (take (i + 1) ds))
unknown_more key ds i d within at other so =
    subst (IsUnknown key)
    (sym (map_more partial_of ds i d within
    ∙ ap (λ (x : Partial). map partial_of (take i ds) ++ (partial_of x ∷ [])) (sym at)))
    (unknown-push key (map partial_of (take i ds)) (partial_of d) so other)

-- the first one of these makes room for one more
pub record Dropped (items left : List Partial) (first d : Partial) : Type 0 where
  pub rest : List PartialValue
  pub old : map partial_of items ≡ partial_of first ∷ rest
  pub new : map partial_of left ≡ rest ++ (partial_of d ∷ [])

pub dropped : (items pushed left : List Partial) (first d : Partial) → pushed ≡ items ++ (d ∷ [])
    → 0 < length items → first ≡ get_or pushed 0 first → left ≡ remove pushed 0 → Dropped items left first d
dropped [] pushed left first d e some at rest = absurd (omega (arith, some))
dropped (x ∷ xs) pushed left first d e some at rest = record {
  rest = map partial_of xs;
  old =
      ap (λ (y : Partial). partial_of y ∷ map partial_of xs)
      (sym (at ∙ ap (λ (l : List Partial). get_or l 0 first) e));
  new = ap (map partial_of) (rest ∙ ap (λ (l : List Partial). remove l 0) e) ∙ map_push partial_of xs d;
}

-- a datagram in its place, which another takes, or none
pub at_its_place : (items : List Partial) (i : ℕ) (d : Partial) → i < length items → d ≡ get_or items i d
    → map partial_of items
    ≡ map partial_of (take i items) ++ (partial_of d ∷ map partial_of (drop (suc i) items))
at_its_place items i d within at =
    ap (map partial_of)
    (sym (set-get_or items i d) ∙ ap (set items i) (sym at) ∙ set_split items i d within)
    ∙ map-append partial_of (take i items) (d ∷ drop (suc i) items)

pub other_at_place : (items : List Partial) (i : ℕ) (d : Partial) → i < length items
    → map partial_of (set items i d)
    ≡ map partial_of (take i items) ++ (partial_of d ∷ map partial_of (drop (suc i) items))
other_at_place items i d within =
    ap (map partial_of) (set_split items i d within) ∙ map-append partial_of (take i items) (d ∷ drop (suc i) items)

pub none_at_place : (items left : List Partial) (i : ℕ) (d : Partial) → i < length items
    → left ≡ remove (set items i d) i
    → map partial_of left ≡ map partial_of (take i items) ++ map partial_of (drop (suc i) items)
none_at_place items left i d within e =
    ap (map partial_of)
    (e ∙ ap (λ l. l ++ drop (suc i) (set items i d)) (take-set items i d)
    ∙ ap (λ l. take i items ++ l) (drop-set-lt (suc i) items i d (omega arith)))
    ∙ map-append partial_of (take i items) (drop (suc i) items)

pub same_at_place : (items : List Partial) (i : ℕ) (d new : Partial) → i < length items → d ≡ get_or items i d
    → partial_of new ≡ partial_of d → map partial_of (set items i new) ≡ map partial_of items
same_at_place items i d new within at same =
    other_at_place items i new within
    ∙ ap (λ x. map partial_of (take i items) ++ (x ∷ map partial_of (drop (suc i) items))) same
    ∙ sym (at_its_place items i d within at)

-- ---- what a test tells

pub told : (b : Bool) (P : Type 0) → (IsTrue b → P) × (P → IsTrue b) → b ≡ true → P
told b P h e = h.0 e

pub told_not : (b : Bool) (P : Type 0) → (IsTrue b → P) × (P → IsTrue b) → b ≡ false → P → ⊥
told_not b P h e p = let k : b ≡ true = h.1 p in cc
