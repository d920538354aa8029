-- A block of a pcapng file is read.
use Rattle.std.proofs.Common.{◌≡◌, ◌≢◌, ℕ, ◌+◌, ◌≤◌, inl, inr, true, false, List}
use Rattle.std.proofs.Common.{length, take, drop, Option, None, Some, refl, ap, sym, subst, ◌∙◌, arith}
use Rattle.std.proofs.Common.{Result, Ok, Err, IfOk, Bool, IsTrue, ◌↔◌}
use Rattle.std.proofs.lemmas.List.{length-take, take-take, take-append-drop}
use Rattle.wirebase.proofs.Pieces.{length-part}
use Rattle.capture.specs.Capture as block
use Rattle.capture.specs.Capture.{State, state, IsBlock, passed, header, described, held, BlockEnds}
use Rattle.capture.specs.Capture.{refused, Refused, no_section, no_interface, many, no_packet, large}
use Rattle.capture.specs.Packet.{packet_in}
use Rattle.capture.specs.Pcapng.{IsHead, HeadEnds, IsRead, IsClosed, section_kind, interface_kind}
use Rattle.capture.specs.private.Taken.{Splits, SectionTakes, InterfaceTakes, PacketTakes, BlockTakes, BlockGives}
use Rattle.capture.specs.private.Taken.{IsWholeBlock}
use Rattle.capture.specs.private.Unit as unit
use Rattle.capture.specs.Unit.{block_form}
use Rattle.capture.specs.private.Unit.{UnitEnds, none, no_head}
use Rattle.capture.specs.Types.{Stage, Step, Ending, Order, Head, Interface}

pub if_ok : {T E : Type 0} (P Q : T → Type 0) (r : Result T E) → ((x : T) → P x → Q x) → IfOk r P → IfOk r Q
if_ok P Q (Ok x) f h = f x h
if_ok P Q (Err e) f h = tt

pub told : {P : Type 0} (b : Bool) → (IsTrue b ↔ P) → b ≡ true → P
told b is yes' = is.0 yes'

pub told_not : {P : Type 0} (b : Bool) → (IsTrue b ↔ P) → b ≡ false → P → ⊥
told_not b is no' p = let both : true ≡ false = sym (is.1 p) ∙ no' in cc

-- ---- what ends a section at a block

pub block_ends : (section : Order) (interfaces : List Interface) (all : List ℕ) (ending : Ending)
    → UnitEnds 12 block_form section all ending → BlockEnds section interfaces all ending
block_ends section interfaces all ending (none e is) =
    block.no_head (subst (HeadEnds section (take 12 all)) (sym is) (ap (take 12) e))
block_ends section interfaces all ending (no_head ends) = block.no_head ends
block_ends section interfaces all ending (unit.cut h is short e) = block.cut h is short e

-- ---- what a block is

module _ (section : Order) (h : Head) (interfaces : List Interface) (octets : List ℕ)
    (w : IsWholeBlock section octets h) (closed : IsClosed h.order octets) where
  pub section_takes : h.kind ≡ section_kind → (s : Step) (new : State) → SectionTakes h.order octets s new
      → BlockTakes section h interfaces octets s new
  section_takes kind Step.Passed new t = header h w.head w.whole closed kind t.0 t.1 refl
  section_takes kind (Step.Packet k) new t = absurd t
  section_takes kind (Step.Ended e) new t = no_section closed kind t

  pub interface_takes : h.kind ≡ interface_kind → (s : Step) (new : State)
      → InterfaceTakes h.order (state (Stage.Section section) interfaces) octets s new
      → BlockTakes section h interfaces octets s new
  interface_takes kind Step.Passed new t = described h t.0 w.head w.whole closed kind t.1 t.2 t.3 refl
  interface_takes kind (Step.Packet k) new t = absurd t
  interface_takes kind (Step.Ended e) new (inl t) = no_interface closed kind t.0 t.1
  interface_takes kind (Step.Ended e) new (inr t) = many t.0 closed kind t.1 t.2 t.3

  pub packet_takes : h.kind ≢ section_kind → h.kind ≢ interface_kind → (s : Step)
      → PacketTakes h.order h.kind interfaces octets s
      → BlockTakes section h interfaces octets s (state (Stage.Section section) interfaces)
  packet_takes no_section' no_interface' Step.Passed t = absurd t
  packet_takes no_section' no_interface' (Step.Packet k) t =
      held h (packet_in k octets) w.head w.whole closed t.0
      (omega (arith, t.1, length-part octets k.start (k.start + k.captured_len) (omega arith) t.2.within)) refl refl
  packet_takes no_section' no_interface' (Step.Ended e) (inl t) =
      no_packet t.0 closed no_section' no_interface' t.1 t.2
  packet_takes no_section' no_interface' (Step.Ended e) (inr t) =
      large (packet_in t.0 octets) closed t.1
      (omega (arith, t.2, length-part octets t.0.start (t.0.start + t.0.captured_len) (omega arith) t.3.within)) t.4

-- ---- a block that was read, or passed over

module _ (section : Order) (interfaces : List Interface) (all : List ℕ) (left : Option (List ℕ)) (h : Head)
    (is : IsHead section (take 12 all) h) (fits : h.total_len ≤ length all)
    (behind : left ≡ Some (drop h.total_len all)) where
  front_length : length (take h.total_len all) ≡ h.total_len
  front_length = omega (arith, length-take h.total_len all, fits)

  pub front_splits : Splits all (take h.total_len all) left
  front_splits = record {
    rest = drop h.total_len all;
    split = sym (take-append-drop h.total_len all);
    left_is = behind;
  }

  front_head : IsHead section (take 12 (take h.total_len all)) h
  front_head = subst (λ l. IsHead section l h) (sym (take-take 12 h.total_len all is.length_is.least)) is

  pub block_whole : (octets : List ℕ) → octets ≡ take h.total_len all → IsRead h.kind
      → IsWholeBlock section octets h
  block_whole octets e read = record {
    head = subst (λ l. IsHead section (take 12 l) h) (sym e) front_head;
    whole = ap length e ∙ front_length;
    read = read;
  }

  pub block_passed : (IsRead h.kind → ⊥)
      → (front : List ℕ) × Splits all front left
      × IsBlock section interfaces front (state (Stage.Section section) interfaces) None
  block_passed other =
      (take h.total_len all, front_splits, passed h front_head front_length other refl refl)

  pub block_read : (octets : List ℕ) → octets ≡ take h.total_len all → IsRead h.kind → (s : Step) (new : State)
      → BlockTakes section h interfaces octets s new
      → BlockGives section interfaces all s (record { octets = octets; state = new; left = left })
  block_read octets e read Step.Passed new t = (octets, subst (λ l. Splits all l left) (sym e) front_splits, t)
  block_read octets e read (Step.Packet k) new t = (subst (λ l. Splits all l left) (sym e) front_splits, t)
  block_read octets e read (Step.Ended ending) new t =
      refused h is fits read (subst (λ l. Refused h interfaces l ending) e t)
