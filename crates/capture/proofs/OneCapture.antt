-- A file holds at most one list of packets: `one_capture`, at the end. Above it, the same bytes have at most one next
-- item, and what ends a capture excludes what goes on with it.
use Rattle.std.proofs.Common.{◌≡◌, ◌≢◌, ℕ, ◌≤◌, ◌⊎◌, inl, inr, Bool, true, false, List, [], ◌∷◌, ◌++◌, length, take}
use Rattle.std.proofs.Common.{drop, Option, None, Some, refl, ap, sym, subst, ◌∙◌, arith}
use Rattle.std.proofs.lemmas.List.{take-take, drop_at}
use Rattle.std.proofs.lemmas.Option.{same_Some, none-some}
use Rattle.wirebase.specs.Bytes.{part, bytes_of}
use Rattle.capture.specs.Capture.{State, state, most_octets, IsBlock, BlockEnds, BeginsSection, IsUnit, file, kept}
use Rattle.capture.specs.Capture.{first, block, Ends, ended, no_file, no_record, no_first, no_block, Holds, ends}
use Rattle.capture.specs.Capture.{passes, packet, IsCapture}
use Rattle.capture.specs.Order.{number}
use Rattle.capture.specs.Packet.{PacketValue}
use Rattle.capture.specs.Pcap.{magic_of, file_header_len, IsFileHeader, FileEnds, IsRecord}
use Rattle.capture.specs.Pcapng.{section_kind, IsSectionKind, kind_field}
use Rattle.capture.specs.Types.{Ending, FileHeader, Order, Precision, Stage}
use Rattle.capture.proofs.Units.{block_long}
use Rattle.capture.proofs.OneBlock.{one_block, no_block_ends}
use Rattle.capture.proofs.OneRecord.{front_take, front_is, one_file_header, one_record, no_record_ends}
use Rattle.capture.proofs.OneRecord.{one_record_front}

-- ---- the next item of a capture

-- a file's header does not begin as a section header does
begin_bytes : (front : List ℕ) → bytes_of kind_field (take 4 front) ≡ bytes_of kind_field front
unfolding part
begin_bytes front = take-take 4 4 front (omega arith)

not_section : (order : Order) (precision : Precision) → magic_of order precision ≢ section_kind
not_section Order.Big Precision.Micro e = absurd (omega (arith, e))
not_section Order.Big Precision.Nano e = absurd (omega (arith, e))
not_section Order.Little Precision.Micro e = absurd (omega (arith, e))
not_section Order.Little Precision.Nano e = absurd (omega (arith, e))

not_both : (bytes front rest : List ℕ) (h : FileHeader) → bytes ≡ front ++ rest → IsFileHeader front h
    → BeginsSection bytes → ⊥
not_both bytes front rest h split is begins =
    let long : 4 ≤ length front = omega (arith, is.whole) in
    let begins' = subst IsSectionKind (front_take 4 bytes front rest split long) begins in
    not_section h.order h.precision
    (sym is.magic.magic ∙ ap (number Order.Big 4) (sym (begin_bytes front)) ∙ begins'.kind)

no_file_ends : (bytes : List ℕ) (h : FileHeader) → length bytes ≡ file_header_len → IsFileHeader bytes h
    → (ending : Ending) → FileEnds bytes ending → ⊥
no_file_ends bytes h long is Ending.NotACapture none = none h.order h.precision is.magic
no_file_ends bytes h long is Ending.Cut short = omega (arith, long, short.0)
no_file_ends bytes h long is Ending.Version other = other.1 h is
no_file_ends bytes h long is Ending.Whole no' = no'
no_file_ends bytes h long is Ending.TooLarge no' = no'
no_file_ends bytes h long is Ending.TooManyInterfaces no' = no'
no_file_ends bytes h long is (Ending.Malformed refusal) no' = no'

-- an item by how far the capture is read
abbrev FromStart : State → List ℕ → State → Option PacketValue → Type 0
FromStart s front new p =
    ((h : FileHeader) × (length front ≡ file_header_len) × IsFileHeader front h × (new.stage ≡ Stage.File h)
    × (p ≡ None))
    ⊎ (BeginsSection front × IsBlock Order.Big s.interfaces front new p)

abbrev FromFile : FileHeader → List ℕ → State → Option PacketValue → Type 0
FromFile h front new p =
    (v : PacketValue) × IsRecord most_octets h front v × (new.stage ≡ Stage.File h) × (p ≡ Some v)

abbrev header_in : Stage → Option FileHeader
header_in (Stage.File h) = Some h
header_in _ = None

abbrev section_in : Stage → Option Order
section_in (Stage.Section order) = Some order
section_in _ = None

abbrev is_start : Stage → Bool
is_start Stage.Start = true
is_start _ = false

true_false : true ≡ false → ⊥
true_false e = cc

module _ (s : State) (front : List ℕ) (new : State) (p : Option PacketValue) where
  from_start : s.stage ≡ Stage.Start → IsUnit s front new p → FromStart s front new p
  from_start at (file h start long is stays none) = inl (h, long, is, stays, none)
  from_start at (kept h v at' is stays some) = absurd (none-some h (ap header_in (sym at ∙ at')))
  from_start at (first start begins is) = inr (begins, is)
  from_start at (block section at' is) = absurd (none-some section (ap section_in (sym at ∙ at')))

  from_file : (h : FileHeader) → s.stage ≡ Stage.File h → IsUnit s front new p → FromFile h front new p
  from_file h at (file k start long is stays none) = absurd (none-some h (ap header_in (sym start ∙ at)))
  from_file h at (kept k v at' is stays some) =
      subst (λ k. FromFile k front new p) (same_Some k h (ap header_in (sym at' ∙ at))) (v, is, stays, some)
  from_file h at (first start begins is) = absurd (none-some h (ap header_in (sym start ∙ at)))
  from_file h at (block section at' is) = absurd (none-some section (ap section_in (sym at ∙ at')))

  from_section : (section : Order) → s.stage ≡ Stage.Section section → IsUnit s front new p
      → IsBlock section s.interfaces front new p
  from_section section at (file k start long is stays none) =
      absurd (none-some section (ap section_in (sym start ∙ at)))
  from_section section at (kept k v at' is stays some) = absurd (none-some section (ap section_in (sym at' ∙ at)))
  from_section section at (first start begins is) = absurd (none-some section (ap section_in (sym start ∙ at)))
  from_section section at (block other at' is) =
      subst (λ o. IsBlock o s.interfaces front new p) (same_Some other section (ap section_in (sym at' ∙ at))) is

  not_ended : (ending : Ending) → s.stage ≡ Stage.End ending → IsUnit s front new p → ⊥
  not_ended ending at (file k start long is stays none) = true_false (ap is_start (sym start ∙ at))
  not_ended ending at (kept k v at' is stays some) = none-some k (ap header_in (sym at ∙ at'))
  not_ended ending at (first start begins is) = true_false (ap is_start (sym start ∙ at))
  not_ended ending at (block other at' is) = none-some other (ap section_in (sym at ∙ at'))

-- two states tell as much of what comes: in a pcap file there are no interfaces to look at
record Alike (s t : State) : Type 0 where
  stage_is : s.stage ≡ t.stage
  interfaces_are : header_in s.stage ≡ None → s.interfaces ≡ t.interfaces

alike : (s t : State) → s ≡ t → Alike s t
alike s t e = record { stage_is = ap (λ s. s.stage) e; interfaces_are = λ none. ap (λ s. s.interfaces) e }

alike_back : (s t : State) → Alike s t → Alike t s
alike_back s t a = record {
  stage_is = sym a.stage_is;
  interfaces_are = λ none. sym (a.interfaces_are (ap header_in a.stage_is ∙ none));
}

alike_files : (s t : State) (h k : FileHeader) → h ≡ k → s.stage ≡ Stage.File h → t.stage ≡ Stage.File k → Alike s t
alike_files s t h k e at at' = record {
  stage_is = at ∙ ap Stage.File e ∙ sym at';
  interfaces_are = λ none. absurd (none-some h (sym none ∙ ap header_in at));
}

-- where a capture ends, no item follows
no_unit : (s t : State) (bytes front rest : List ℕ) (new : State) (p : Option PacketValue) (ending : Ending)
    → Alike s t → bytes ≡ front ++ rest → Ends s bytes ending → IsUnit t front new p → ⊥
no_unit s t bytes front rest new p ending a split (ended at) is =
    not_ended t front new p ending (sym a.stage_is ∙ at) is
no_unit s t bytes front rest new p ending a split (no_file at other why) is =
    elim (from_start t front new p (sym a.stage_is ∙ at) is) [
      | inl f ↦
          no_file_ends front f.0 f.1 f.2 ending
          (subst (λ l. FileEnds l ending) (front_is file_header_len bytes front rest split f.1) why)
      | inr b ↦
          let long = block_long Order.Big t.interfaces front new p b.1 in
          other (subst IsSectionKind (sym (front_take 4 bytes front rest split (omega (arith, long)))) b.0)
    ]
no_unit s t bytes front rest new p ending a split (no_record h at why) is =
    let f = from_file t front new p h (sym a.stage_is ∙ at) is in
    no_record_ends most_octets h bytes front rest f.0 split f.1 ending why
no_unit s t bytes front rest new p ending a split (no_first at begins why) is =
    elim (from_start t front new p (sym a.stage_is ∙ at) is) [
      | inl f ↦ not_both bytes front rest f.0 split f.2 begins
      | inr b ↦
          no_block_ends Order.Big t.interfaces bytes front rest split new p b.1 ending
          (subst (λ i. BlockEnds Order.Big i bytes ending) (a.interfaces_are (ap header_in at)) why)
    ]
no_unit s t bytes front rest new p ending a split (no_block section at why) is =
    no_block_ends section t.interfaces bytes front rest split new p
    (from_section t front new p section (sym a.stage_is ∙ at) is) ending
    (subst (λ i. BlockEnds section i bytes ending) (a.interfaces_are (ap header_in at)) why)

-- two items of the same bytes: they leave as much, and hold the same packet if any
record Same (f g : List ℕ) (new now : State) (p q : Option PacketValue) : Type 0 where
  front : f ≡ g
  state_is : Alike new now
  packet_is : p ≡ q

module _ (s t : State) (bytes f r g u : List ℕ) (new now : State) (p q : Option PacketValue) (a : Alike s t)
    (e : bytes ≡ f ++ r) (e' : bytes ≡ g ++ u) where
  same_block : (section : Order) → s.interfaces ≡ t.interfaces → IsBlock section s.interfaces f new p
      → IsBlock section t.interfaces g now q → Same f g new now p q
  same_block section i is is' =
      let one =
      one_block section t.interfaces bytes f r g u new now p q e e'
      (subst (λ i. IsBlock section i f new p) i is) is' in
      record { front = one.0; state_is = alike new now one.1; packet_is = one.2 }

  one_unit : IsUnit s f new p → IsUnit t g now q → Same f g new now p q
  one_unit (file h at long is stays none) is' =
      elim (from_start t g now q (sym a.stage_is ∙ at) is') [
        | inl k ↦
            let front : f ≡ g =
            sym (front_is file_header_len bytes f r e long) ∙ front_is file_header_len bytes g u e' k.1 in
            let same = one_file_header g h k.0 (subst (λ l. IsFileHeader l h) front is) k.2 in
            record { front = front; state_is = alike_files new now h k.0 same stays k.3; packet_is = none ∙ sym k.4 }
        | inr b ↦
            let long' = block_long Order.Big t.interfaces g now q b.1 in
            absurd (not_both bytes f r h e is
            (subst IsSectionKind (sym (front_take 4 bytes g u e' (omega (arith, long')))) b.0))
      ]
  one_unit (kept h v at is stays some) is' =
      let k = from_file t g now q h (sym a.stage_is ∙ at) is' in
      let front = one_record_front most_octets h bytes f r g u v k.0 e e' is k.1 in
      let one = one_record most_octets h g v k.0 (subst (λ l. IsRecord most_octets h l v) front is) k.1 in
      record {
        front = front;
        state_is = alike_files new now h h refl stays k.2;
        packet_is = some ∙ ap Some one ∙ sym k.3;
      }
  one_unit (first at begins is) is' =
      elim (from_start t g now q (sym a.stage_is ∙ at) is') [
        | inl k ↦
            let long = block_long Order.Big s.interfaces f new p is in
            absurd (not_both bytes g u k.0 e' k.2
            (subst IsSectionKind (sym (front_take 4 bytes f r e (omega (arith, long)))) begins))
        | inr b ↦ same_block Order.Big (a.interfaces_are (ap header_in at)) is b.1
      ]
  one_unit (block section at is) is' =
      same_block section (a.interfaces_are (ap header_in at)) is
      (from_section t g now q section (sym a.stage_is ∙ at) is')

-- ---- the whole

rests : (bytes f r g u : List ℕ) → bytes ≡ f ++ r → bytes ≡ g ++ u → f ≡ g → r ≡ u
rests bytes f r g u e e' same =
    sym (drop_at f r (length f) refl) ∙ ap (drop (length f)) (sym e ∙ e')
    ∙ drop_at g u (length f) (ap length (sym same))

one_holds : (s t : State) (bytes : List ℕ) (ps qs : List PacketValue) (ending other : Ending) → Alike s t
    → Holds s bytes ps ending → Holds t bytes qs other → ps ≡ qs
one_holds s t bytes ps qs ending other a (ends is) (ends is') = refl
one_holds s t bytes ps qs ending other a (ends is) (passes f r new e unit h) =
    absurd (no_unit s t bytes f r new None ending a e is unit)
one_holds s t bytes ps qs ending other a (ends is) (packet f r new p e unit h) =
    absurd (no_unit s t bytes f r new (Some p) ending a e is unit)
one_holds s t bytes ps qs ending other a (passes f r new e unit h) (ends is) =
    absurd (no_unit t s bytes f r new None other (alike_back s t a) e is unit)
one_holds s t bytes ps qs ending other a (packet f r new p e unit h) (ends is) =
    absurd (no_unit t s bytes f r new (Some p) other (alike_back s t a) e is unit)
one_holds s t bytes ps qs ending other a (passes f r new e unit h) (packet g u now q e' unit' h') =
    let one = one_unit s t bytes f r g u new now None (Some q) a e e' unit unit' in
    absurd (none-some q one.packet_is)
one_holds s t bytes ps qs ending other a (packet f r new p e unit h) (passes g u now e' unit' h') =
    let one = one_unit s t bytes f r g u new now (Some p) None a e e' unit unit' in
    absurd (none-some p (sym one.packet_is))
one_holds s t bytes ps qs ending other a (passes f r new e unit h) (passes g u now e' unit' h') =
    let one = one_unit s t bytes f r g u new now None None a e e' unit unit' in
    one_holds new now r ps qs ending other one.state_is h
    (subst (λ l. Holds now l qs other) (sym (rests bytes f r g u e e' one.front)) h')
one_holds s t bytes (_ ∷ ps) (_ ∷ qs) ending other a (packet f r new p e unit h) (packet g u now q e' unit' h') =
    let one = one_unit s t bytes f r g u new now (Some p) (Some q) a e e' unit unit' in
    let same = same_Some p q one.packet_is in
    let more =
    one_holds new now r ps qs ending other one.state_is h
    (subst (λ l. Holds now l qs other) (sym (rests bytes f r g u e e' one.front)) h') in
    rw (same, more) refl

-- the bytes of a file have at most one list of packets
pub one_capture : (bytes : List ℕ) (packets others : List PacketValue) (ending other : Ending)
    → IsCapture bytes packets ending → IsCapture bytes others other → packets ≡ others
one_capture bytes packets others ending other =
    one_holds (state Stage.Start []) (state Stage.Start []) bytes packets others ending other
    (alike (state Stage.Start []) (state Stage.Start []) refl)
