-- Blocks of pcapng files: the same bytes have at most one, and what ends a capture excludes a block.
use Rattle.std.proofs.Common.{◌≡◌, ℕ, ◌+◌, ◌*◌, ◌<◌, ◌≤◌, ◌⊎◌, inl, inr, List, [], ◌∷◌, ◌++◌, length, take, Option}
use Rattle.std.proofs.Common.{None, Some, refl, ap, sym, subst, ◌∙◌, arith, length-append}
use Rattle.std.proofs.lemmas.List.{length-take}
use Rattle.std.proofs.lemmas.Bool.Decides.{eqb_tells}
use Rattle.std.proofs.lemmas.Option.{same_Some, none-some}
use Rattle.wirebase.specs.Bytes.{part}
use Rattle.capture.specs.Capture as capture
use Rattle.capture.specs.Capture.{State, state, most_octets, most_interfaces, IsBlock, passed, header, described, held}
use Rattle.capture.specs.Capture.{Refused, not_closed, no_section, no_interface, many, no_packet, large, BlockEnds}
use Rattle.capture.specs.Order.{number_in}
use Rattle.capture.specs.Packet.{PacketValue}
use Rattle.capture.specs.Pcapng as pcapng
use Rattle.capture.specs.Pcapng.{section_kind, interface_kind, head_len, IsRead, byte_order_of, HasOrder, kind_field}
use Rattle.capture.specs.Pcapng.{IsLength, IsHead, HeadEnds, IsClosed, IsSection, SectionEnds, IsInterface, IsTimed}
use Rattle.capture.specs.Pcapng.{IsSimple, kept_len, simple_len_field, IsPacket, obsolete, simple, enhanced}
use Rattle.capture.specs.Pcapng.{HoldsPacket, holds_obsolete, holds_simple, holds_enhanced, RefusesTimed, RefusesSimple}
use Rattle.capture.specs.Pcapng.{RefusesPacket, no_head, no_kind, no_obsolete, no_simple as no_simple', no_enhanced}
use Rattle.capture.specs.Time.{TimeValue, time_value, moved, nanoseconds_of, digits_of}
use Rattle.capture.specs.Types.{Ending, Head, Interface, Order, Refusal, Stage}
use Rattle.capture.proofs.Blocks.{one_interface}
use Rattle.capture.proofs.OneRecord.{front_take, front_is}

-- ---- the heads of blocks

one_order_number : (n : ℕ) (a b : Order) → n ≡ byte_order_of a → n ≡ byte_order_of b → a ≡ b
one_order_number n Order.Big Order.Big e f = refl
one_order_number n Order.Big Order.Little e f = absurd (omega (arith, e, f))
one_order_number n Order.Little Order.Big e f = absurd (omega (arith, e, f))
one_order_number n Order.Little Order.Little e f = refl

module _ (section : Order) (bytes : List ℕ) where
  one_order : (a b : Order) → HasOrder section bytes a → HasOrder section bytes b → a ≡ b
  one_order a b is is' = elim (eqb_tells (number_in section kind_field bytes) section_kind) [
    | inl same ↦ one_order_number _ a b (is.told same.1) (is'.told same.1)
    | inr other ↦ is.kept other.1 ∙ sym (is'.kept other.1)
  ]

  one_total : (a b : Order) → HasOrder section bytes a → HasOrder section bytes b
      → number_in a pcapng.total_len_field bytes ≡ number_in b pcapng.total_len_field bytes
  one_total a b is is' = ap (λ o. number_in o pcapng.total_len_field bytes) (one_order a b is is')

  one_head : (h k : Head) → IsHead section bytes h → IsHead section bytes k → h ≡ k
  one_head h k is is' =
      let order : h.order ≡ k.order = one_order h.order k.order is.order is'.order in
      let kind : h.kind ≡ k.kind = is.kind_is ∙ sym is'.kind_is in
      let total : h.total_len ≡ k.total_len =
      is.total_len ∙ one_total h.order k.order is.order is'.order ∙ sym is'.total_len in
      rw (order, kind, total) refl

  no_head_ends : (h : Head) → IsHead section bytes h → (ending : Ending) → HeadEnds section bytes ending → ⊥
  no_head_ends h is Ending.Whole none = omega (arith, is.whole, ap length none)
  no_head_ends h is Ending.Cut short = omega (arith, is.whole, short.1)
  no_head_ends h is Ending.TooLarge much =
      let total = one_total h.order much.2.0 is.order much.2.1 in
      omega (arith, is.small (subst IsRead (sym is.kind_is) much.1), is.total_len, total, much.2.3)
  no_head_ends h is (Ending.Malformed Refusal.ByteOrder) none = none.1 h.order is.order
  no_head_ends h is (Ending.Malformed (Refusal.Length n)) other =
      let total = one_total h.order other.1.0 is.order other.1.1 in
      other.1.3 (subst IsLength (is.total_len ∙ total ∙ sym other.1.2) is.length_is)
  no_head_ends h is (Ending.Malformed Refusal.ClosingLength) no' = no'.1
  no_head_ends h is (Ending.Malformed Refusal.Short) no' = no'.1
  no_head_ends h is (Ending.Malformed (Refusal.Kind n)) no' = no'.1
  no_head_ends h is (Ending.Malformed (Refusal.Interface n)) no' = no'.1
  no_head_ends h is (Ending.Malformed (Refusal.CapturedLength n)) no' = no'.1
  no_head_ends h is Ending.TooManyInterfaces no' = no'
  no_head_ends h is Ending.Version no' = no'
  no_head_ends h is Ending.NotACapture no' = no'

-- ---- packets of blocks

abbrev ticks : Order → List ℕ → ℕ
ticks order bytes =
    number_in order pcapng.ticks_high_field bytes * 4294967296 + number_in order pcapng.ticks_low_field bytes

abbrev interface_time : Order → List ℕ → Interface → TimeValue
interface_time order bytes i =
    time_value (moved i.offset (nanoseconds_of i.resolution (ticks order bytes))) (digits_of i.resolution)

abbrev simple_len : Order → List ℕ → Interface → ℕ
simple_len order bytes i = kept_len i.snap_len (number_in order simple_len_field bytes)

module _ (order : Order) (interfaces : List Interface) (bytes : List ℕ) where
  one_timed : (place : ℕ) (p q : PacketValue) → IsTimed order interfaces place bytes p
      → IsTimed order interfaces place bytes q → p ≡ q
  one_timed place p q is is' =
      let one = same_Some is.interface is'.interface (sym is.described ∙ is'.described) in
      let time : p.time ≡ q.time = is.time_is ∙ ap (λ i. Some (interface_time order bytes i)) one ∙ sym is'.time_is in
      let link : p.link_type ≡ q.link_type = is.link_type ∙ ap (λ i. i.link_type) one ∙ sym is'.link_type in
      let original : p.original_len ≡ q.original_len = is.original_len ∙ sym is'.original_len in
      let octets : p.octets ≡ q.octets = is.octets ∙ sym is'.octets in
      rw (time, link, original, octets) refl

  one_simple : (p q : PacketValue) → IsSimple order interfaces bytes p → IsSimple order interfaces bytes q → p ≡ q
  one_simple p q is is' =
      let one = same_Some is.interface is'.interface (sym is.described ∙ is'.described) in
      let time : p.time ≡ q.time = is.time_is ∙ sym is'.time_is in
      let link : p.link_type ≡ q.link_type = is.link_type ∙ ap (λ i. i.link_type) one ∙ sym is'.link_type in
      let original : p.original_len ≡ q.original_len = is.original_len ∙ sym is'.original_len in
      let octets : p.octets ≡ q.octets =
      is.octets ∙ ap (λ i. part bytes 12 (12 + simple_len order bytes i)) one ∙ sym is'.octets in
      rw (time, link, original, octets) refl

  one_packet : (kind : ℕ) (p q : PacketValue) → IsPacket order interfaces bytes p kind
      → IsPacket order interfaces bytes q kind → p ≡ q
  one_packet kind p q (obsolete k is) (obsolete k' is') = one_timed _ p q is is'
  one_packet kind p q (obsolete k is) (simple k' is') = absurd (omega (arith, k, k'))
  one_packet kind p q (obsolete k is) (enhanced k' is') = absurd (omega (arith, k, k'))
  one_packet kind p q (simple k is) (obsolete k' is') = absurd (omega (arith, k, k'))
  one_packet kind p q (simple k is) (simple k' is') = one_simple p q is is'
  one_packet kind p q (simple k is) (enhanced k' is') = absurd (omega (arith, k, k'))
  one_packet kind p q (enhanced k is) (obsolete k' is') = absurd (omega (arith, k, k'))
  one_packet kind p q (enhanced k is) (simple k' is') = absurd (omega (arith, k, k'))
  one_packet kind p q (enhanced k is) (enhanced k' is') = one_timed _ p q is is'

  no_timed : (place : ℕ) (p : PacketValue) → IsTimed order interfaces place bytes p → (r : Refusal)
      → RefusesTimed order interfaces place bytes r → ⊥
  no_timed place p is Refusal.Short short = omega (arith, is.whole, short)
  no_timed place p is (Refusal.Interface n) none = none-some is.interface (sym none.1 ∙ is.described)
  no_timed place p is (Refusal.CapturedLength n) long = omega (arith, is.fits, long.2, long.3)
  no_timed place p is Refusal.ByteOrder no' = no'
  no_timed place p is (Refusal.Length n) no' = no'
  no_timed place p is Refusal.ClosingLength no' = no'
  no_timed place p is (Refusal.Kind n) no' = no'

  no_simple : (p : PacketValue) → IsSimple order interfaces bytes p → (r : Refusal)
      → RefusesSimple order interfaces bytes r → ⊥
  no_simple p is Refusal.Short short = omega (arith, is.whole, short)
  no_simple p is (Refusal.Interface n) none = none-some is.interface (sym none.1 ∙ is.described)
  no_simple p is (Refusal.CapturedLength n) long =
      let one = same_Some is.interface long.1.0 (sym is.described ∙ long.1.1) in
      omega (arith, is.fits, long.1.2, long.2, ap (simple_len order bytes) one)
  no_simple p is Refusal.ByteOrder no' = no'
  no_simple p is (Refusal.Length n) no' = no'
  no_simple p is Refusal.ClosingLength no' = no'
  no_simple p is (Refusal.Kind n) no' = no'

  holds_packet : (kind : ℕ) (p : PacketValue) → IsPacket order interfaces bytes p kind → HoldsPacket kind
  holds_packet kind p (obsolete k is) = holds_obsolete k
  holds_packet kind p (simple k is) = holds_simple k
  holds_packet kind p (enhanced k is) = holds_enhanced k

  packet_long : (kind : ℕ) (p : PacketValue) → IsPacket order interfaces bytes p kind → 16 ≤ length bytes
  packet_long kind p (obsolete k is) = omega (arith, is.whole)
  packet_long kind p (simple k is) = is.whole
  packet_long kind p (enhanced k is) = omega (arith, is.whole)

  no_refusal : (kind : ℕ) (p : PacketValue) → IsPacket order interfaces bytes p kind → (r : Refusal)
      → RefusesPacket order interfaces bytes kind r → ⊥
  no_refusal kind p is r (no_head short e) = omega (arith, short, packet_long kind p is)
  no_refusal kind p is r (no_kind long other e) = other (holds_packet kind p is)
  no_refusal kind p (obsolete k is) r (no_obsolete long k' refuses) = no_timed _ p is r refuses
  no_refusal kind p (enhanced k is) r (no_enhanced long k' refuses) = no_timed _ p is r refuses
  no_refusal kind p (simple k is) r (no_simple' long k' refuses) = no_simple p is r refuses
  no_refusal kind p (obsolete k is) r (no_simple' long k' refuses) = omega (arith, k, k')
  no_refusal kind p (obsolete k is) r (no_enhanced long k' refuses) = omega (arith, k, k')
  no_refusal kind p (simple k is) r (no_obsolete long k' refuses) = omega (arith, k, k')
  no_refusal kind p (simple k is) r (no_enhanced long k' refuses) = omega (arith, k, k')
  no_refusal kind p (enhanced k is) r (no_obsolete long k' refuses) = omega (arith, k, k')
  no_refusal kind p (enhanced k is) r (no_simple' long k' refuses) = omega (arith, k, k')

-- ---- blocks

-- what a block with this head holds
data Body (section : Order) (interfaces : List Interface) (bytes : List ℕ) (new : State)
    (held_packet : Option PacketValue) (h : Head) : Type 0 where
  unread : (IsRead h.kind → ⊥) → new ≡ state (Stage.Section section) interfaces → held_packet ≡ None
      → Body section interfaces bytes new held_packet h
  section_header : IsClosed h.order bytes → h.kind ≡ section_kind → IsSection h.order bytes
      → new ≡ state (Stage.Section h.order) [] → held_packet ≡ None → Body section interfaces bytes new held_packet h
  interface : (i : Interface) → IsClosed h.order bytes → h.kind ≡ interface_kind → IsInterface h.order bytes i
      → length interfaces < most_interfaces → new ≡ state (Stage.Section section) (interfaces ++ (i ∷ []))
      → held_packet ≡ None → Body section interfaces bytes new held_packet h
  holds : (p : PacketValue) → IsClosed h.order bytes → IsPacket h.order interfaces bytes p h.kind
      → length p.octets ≤ most_octets → new ≡ state (Stage.Section section) interfaces → held_packet ≡ Some p
      → Body section interfaces bytes new held_packet h

record Parts (section : Order) (interfaces : List Interface) (bytes : List ℕ) (new : State)
    (held_packet : Option PacketValue) : Type 0 where
  head : Head
  is_head : IsHead section (take head_len bytes) head
  whole : length bytes ≡ head.total_len
  body : Body section interfaces bytes new held_packet head

parts : (section : Order) (interfaces : List Interface) (bytes : List ℕ) (new : State)
    (held_packet : Option PacketValue) → IsBlock section interfaces bytes new held_packet
    → Parts section interfaces bytes new held_packet
parts section interfaces bytes new held_packet (passed h is whole other e none) =
    record { head = h; is_head = is; whole = whole; body = unread other e none }
parts section interfaces bytes new held_packet (header h is whole closed kind good e none) =
    record { head = h; is_head = is; whole = whole; body = section_header closed kind good e none }
parts section interfaces bytes new held_packet (described h i is whole closed kind good few e none) =
    record { head = h; is_head = is; whole = whole; body = interface i closed kind good few e none }
parts section interfaces bytes new held_packet (held h p is whole closed good few e some) =
    record { head = h; is_head = is; whole = whole; body = holds p closed good few e some }

read_packet : (kind : ℕ) → HoldsPacket kind → IsRead kind
read_packet kind (holds_obsolete k) = pcapng.obsolete_packet k
read_packet kind (holds_simple k) = pcapng.simple_packet k
read_packet kind (holds_enhanced k) = pcapng.enhanced_packet k

not_packet : (kind n : ℕ) → kind ≡ n → HoldsPacket kind → (n ≡ section_kind) ⊎ (n ≡ interface_kind) → ⊥
not_packet kind n e (holds_obsolete k) (inl s) = omega (arith, e, k, s)
not_packet kind n e (holds_simple k) (inl s) = omega (arith, e, k, s)
not_packet kind n e (holds_enhanced k) (inl s) = omega (arith, e, k, s)
not_packet kind n e (holds_obsolete k) (inr s) = omega (arith, e, k, s)
not_packet kind n e (holds_simple k) (inr s) = omega (arith, e, k, s)
not_packet kind n e (holds_enhanced k) (inr s) = omega (arith, e, k, s)

no_section_ends : (order : Order) (bytes : List ℕ) → IsSection order bytes → (ending : Ending)
    → SectionEnds order bytes ending → ⊥
no_section_ends order bytes is (Ending.Malformed r) short = omega (arith, is.whole, short.0)
no_section_ends order bytes is Ending.Version other = other.1 is
no_section_ends order bytes is Ending.Whole no' = no'
no_section_ends order bytes is Ending.Cut no' = no'
no_section_ends order bytes is Ending.TooLarge no' = no'
no_section_ends order bytes is Ending.TooManyInterfaces no' = no'
no_section_ends order bytes is Ending.NotACapture no' = no'

module _ (section : Order) (interfaces : List Interface) (bytes : List ℕ) (h : Head) where
  one_body : (new now : State) (p q : Option PacketValue) → Body section interfaces bytes new p h
      → Body section interfaces bytes now q h → (new ≡ now) × (p ≡ q)
  one_body new now p q (unread other e none) (unread other' e' none') = (e ∙ sym e', none ∙ sym none')
  one_body new now p q (unread other e none) (section_header c kind is e' none') =
      absurd (other (pcapng.section_header kind))
  one_body new now p q (unread other e none) (interface i c kind is few e' none') =
      absurd (other (pcapng.interface_description kind))
  one_body new now p q (unread other e none) (holds v c is few e' some) =
      absurd (other (read_packet h.kind (holds_packet h.order interfaces bytes h.kind v is)))
  one_body new now p q (section_header c kind is e none) (unread other e' none') =
      absurd (other (pcapng.section_header kind))
  one_body new now p q (section_header c kind is e none) (section_header c' kind' is' e' none') =
      (e ∙ sym e', none ∙ sym none')
  one_body new now p q (section_header c kind is e none) (interface i c' kind' is' few e' none') =
      absurd (omega (arith, kind, kind'))
  one_body new now p q (section_header c kind is e none) (holds v c' is' few e' some) =
      absurd (not_packet h.kind _ kind (holds_packet h.order interfaces bytes h.kind v is') (inl refl))
  one_body new now p q (interface i c kind is few e none) (unread other e' none') =
      absurd (other (pcapng.interface_description kind))
  one_body new now p q (interface i c kind is few e none) (section_header c' kind' is' e' none') =
      absurd (omega (arith, kind, kind'))
  one_body new now p q (interface i c kind is few e none) (interface j c' kind' is' few' e' none') = (
    e ∙ ap (λ k. state (Stage.Section section) (interfaces ++ (k ∷ []))) (one_interface h.order bytes i j is is')
        ∙ sym e',
    none ∙ sym none',
  )
  one_body new now p q (interface i c kind is few e none) (holds v c' is' few' e' some) =
      absurd (not_packet h.kind _ kind (holds_packet h.order interfaces bytes h.kind v is') (inr refl))
  one_body new now p q (holds v c is few e some) (unread other e' none') =
      absurd (other (read_packet h.kind (holds_packet h.order interfaces bytes h.kind v is)))
  one_body new now p q (holds v c is few e some) (section_header c' kind is' e' none') =
      absurd (not_packet h.kind _ kind (holds_packet h.order interfaces bytes h.kind v is) (inl refl))
  one_body new now p q (holds v c is few e some) (interface i c' kind is' few' e' none') =
      absurd (not_packet h.kind _ kind (holds_packet h.order interfaces bytes h.kind v is) (inr refl))
  one_body new now p q (holds v c is few e some) (holds w c' is' few' e' some') =
      (e ∙ sym e', some ∙ ap Some (one_packet h.order interfaces bytes h.kind v w is is') ∙ sym some')

  not_refused : (new : State) (p : Option PacketValue) → Body section interfaces bytes new p h → IsRead h.kind
      → (ending : Ending) → Refused h interfaces bytes ending → ⊥
  not_refused new p (unread other e none) read ending is' = other read
  not_refused new p (section_header c kind is e none) read ending (not_closed other e') = other c
  not_refused new p (section_header c kind is e none) read ending (no_section c' kind' is') =
      no_section_ends h.order bytes is ending is'
  not_refused new p (section_header c kind is e none) read ending (no_interface c' kind' short e') =
      omega (arith, kind, kind')
  not_refused new p (section_header c kind is e none) read ending (many i c' kind' is' much e') =
      omega (arith, kind, kind')
  not_refused new p (section_header c kind is e none) read ending (no_packet r c' no' no'' is' e') = no' kind
  not_refused new p (section_header c kind is e none) read ending (large v c' is' much e') =
      not_packet h.kind _ kind (holds_packet h.order interfaces bytes h.kind v is') (inl refl)
  not_refused new p (interface i c kind is few e none) read ending (not_closed other e') = other c
  not_refused new p (interface i c kind is few e none) read ending (no_section c' kind' is') =
      omega (arith, kind, kind')
  not_refused new p (interface i c kind is few e none) read ending (no_interface c' kind' short e') =
      omega (arith, short, is.whole)
  not_refused new p (interface i c kind is few e none) read ending (many j c' kind' is' much e') =
      omega (arith, few, much)
  not_refused new p (interface i c kind is few e none) read ending (no_packet r c' no' no'' is' e') = no'' kind
  not_refused new p (interface i c kind is few e none) read ending (large v c' is' much e') =
      not_packet h.kind _ kind (holds_packet h.order interfaces bytes h.kind v is') (inr refl)
  not_refused new p (holds v c is few e some) read ending (not_closed other e') = other c
  not_refused new p (holds v c is few e some) read ending (no_section c' kind is') =
      not_packet h.kind _ kind (holds_packet h.order interfaces bytes h.kind v is) (inl refl)
  not_refused new p (holds v c is few e some) read ending (no_interface c' kind short e') =
      not_packet h.kind _ kind (holds_packet h.order interfaces bytes h.kind v is) (inr refl)
  not_refused new p (holds v c is few e some) read ending (many i c' kind is' much e') =
      not_packet h.kind _ kind (holds_packet h.order interfaces bytes h.kind v is) (inr refl)
  not_refused new p (holds v c is few e some) read ending (no_packet r c' no' no'' is' e') =
      no_refusal h.order interfaces bytes h.kind v is r is'
  not_refused new p (holds v c is few e some) read ending (large w c' is' much e') =
      omega (arith, few, much, ap (λ k. length k.octets) (one_packet h.order interfaces bytes h.kind v w is is'))

-- a block, from the bytes that it begins
module _ (section : Order) (interfaces : List Interface) (bytes front rest : List ℕ) (split : bytes ≡ front ++ rest)
    (new : State) (p : Option PacketValue) (is : Parts section interfaces front new p) where
  parts_begin : IsHead section (take head_len bytes) is.head
  parts_begin =
      subst (λ l. IsHead section l is.head)
      (sym (front_take head_len bytes front rest split (omega (arith, is.is_head.whole, length-take 12 front))))
      is.is_head

  parts_front : take is.head.total_len bytes ≡ front
  parts_front = front_is is.head.total_len bytes front rest split is.whole

  no_parts_end : (ending : Ending) → BlockEnds section interfaces bytes ending → ⊥
  no_parts_end ending (capture.no_head is') =
      no_head_ends section (take head_len bytes) is.head parts_begin ending is'
  no_parts_end ending (capture.cut h is' short e) =
      omega (
        arith,
        short,
        is.whole,
        ap length split,
        length-append front rest,
        ap (λ h. h.total_len) (one_head section (take head_len bytes) is.head h parts_begin is'),
      )
  no_parts_end ending (capture.refused h is' long read refuses) =
      let same = one_head section (take head_len bytes) is.head h parts_begin is' in
      let body = subst (Body section interfaces front new p) same is.body in
      not_refused section interfaces front h new p body read ending
      (subst (λ l. Refused h interfaces l ending) (ap (λ h. take h.total_len bytes) (sym same) ∙ parts_front) refuses)

pub one_block : (section : Order) (interfaces : List Interface) (bytes f r g s : List ℕ) (new now : State)
    (p q : Option PacketValue) → bytes ≡ f ++ r → bytes ≡ g ++ s → IsBlock section interfaces f new p
    → IsBlock section interfaces g now q → (f ≡ g) × (new ≡ now) × (p ≡ q)
one_block section interfaces bytes f r g s new now p q e e' is is' =
    let a = parts section interfaces f new p is in
    let b = parts section interfaces g now q is' in
    let same : a.head ≡ b.head =
    one_head section (take head_len bytes) a.head b.head (parts_begin section interfaces bytes f r e new p a)
    (parts_begin section interfaces bytes g s e' now q b) in
    let front : f ≡ g =
    sym (parts_front section interfaces bytes f r e new p a) ∙ ap (λ h. take h.total_len bytes) same
    ∙ parts_front section interfaces bytes g s e' now q b in
    let body =
    subst (λ l. Body section interfaces l new p b.head) front (subst (Body section interfaces f new p) same a.body) in
    let one = one_body section interfaces g b.head new now p q body b.body in
    (front, one.0, one.1)

-- where a block begins the bytes, no capture ends
pub no_block_ends : (section : Order) (interfaces : List Interface) (bytes front rest : List ℕ) → bytes ≡ front ++ rest
    → (new : State) (p : Option PacketValue) → IsBlock section interfaces front new p → (ending : Ending)
    → BlockEnds section interfaces bytes ending → ⊥
no_block_ends section interfaces bytes front rest split new p is =
    no_parts_end section interfaces bytes front rest split new p (parts section interfaces front new p is)
