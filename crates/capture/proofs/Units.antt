-- A capture is read one header, record or block after another.
use Rattle.std.proofs.Common.{◌≡◌, ℕ, ◌-◌, ◌≤◌, min, inl, inr, List, [], ◌∷◌, length, take, drop, Option}
use Rattle.std.proofs.Common.{None, Some, IfSome, refl, ap, sym, subst, ◌∙◌, arith, length-drop}
use Rattle.std.proofs.lemmas.List.{length-take, take_all, take-append-le}
use Rattle.wirebase.specs.Bytes.{part}
use Rattle.capture.specs.Capture.{State, state, IsBlock, passed, header, described, held, IsUnit}
use Rattle.capture.specs.Capture.{file, kept, first, block, Ends, no_file, no_record, no_first, no_block, BeginsSection}
use Rattle.capture.specs.Capture.{Holds, ends, passes, packet, packet_of, GivesNext}
use Rattle.capture.specs.Packet.{PacketValue, packet_in}
use Rattle.capture.specs.Pcap.{IsFileHeader, FileEnds}
use Rattle.capture.specs.Pcapng.{IsHead, IsSectionKind}
use Rattle.capture.specs.private.Reader.{Reads}
use Rattle.capture.specs.private.Taken.{Splits, After, RecordGives, BlockGives, StepGives}
use Rattle.capture.specs.Types.{Next, Record, Stage, Step, Ending, Order, FileHeader, Head, Packet, Interface}
use Rattle.capture.proofs.Filling.{reads_splits, reads_fits, fits_or_not, no_byte}

-- a block has twelve bytes at least
head_long : (section : Order) (bytes : List ℕ) (h : Head) → IsHead section (take 12 bytes) h → 12 ≤ length bytes
head_long section bytes h is = omega (arith, is.whole, length-take 12 bytes)

pub block_long : (section : Order) (interfaces : List Interface) (bytes : List ℕ) (new : State) (p : Option PacketValue)
    → IsBlock section interfaces bytes new p → 12 ≤ length bytes
block_long section interfaces bytes new p (passed h is total other e none) = head_long section bytes h is
block_long section interfaces bytes new p (header h is total closed kind good e none) = head_long section bytes h is
block_long section interfaces bytes new p (described h i is total closed kind good few e none) =
    head_long section bytes h is
block_long section interfaces bytes new p (held h v is total closed good few e some) = head_long section bytes h is

front_begins : (all front : List ℕ) (left : Option (List ℕ)) → Splits all front left → 12 ≤ length front
    → BeginsSection all → BeginsSection front
front_begins all front left s long begins =
    let fits : 4 ≤ length front = omega (arith, long) in
    subst IsSectionKind (ap (take 4) s.split ∙ take-append-le 4 front s.rest fits) begins

-- ---- what was read, by how far the capture was read before

module _ (old : State) (all : List ℕ) (now : After) where
  pub first_gives : old.stage ≡ Stage.Start → BeginsSection all → (s : Step)
      → BlockGives Order.Big old.interfaces all s now → StepGives old all s now
  first_gives start begins Step.Passed t =
      (t.0, t.1, first start (front_begins all t.0 now.left t.1 (block_long _ _ _ _ _ t.2) begins) t.2)
  first_gives start begins (Step.Packet k) t =
      (t.0, first start (front_begins all now.octets now.left t.0 (block_long _ _ _ _ _ t.1) begins) t.1)
  first_gives start begins (Step.Ended ending) t = no_first start begins t

  pub block_gives : (section : Order) → old.stage ≡ Stage.Section section → (s : Step)
      → BlockGives section old.interfaces all s now → StepGives old all s now
  block_gives section at Step.Passed t = (t.0, t.1, block section at t.2)
  block_gives section at (Step.Packet k) t = (t.0, block section at t.1)
  block_gives section at (Step.Ended ending) t = no_block section at t

  pub record_gives : (h : FileHeader) → old.stage ≡ Stage.File h → now.state.stage ≡ Stage.File h → (s : Step)
      → RecordGives h all s now → StepGives old all s now
  record_gives h at still Step.Passed t = absurd t
  record_gives h at still (Step.Packet k) t = (t.0, kept h (packet_in k now.octets) at t.1 still refl)
  record_gives h at still (Step.Ended ending) t = no_record h at t

  pub file_gives : (h : FileHeader) → old.stage ≡ Stage.Start → now.state.stage ≡ Stage.File h
      → Reads all now.left now.octets 24 → IsFileHeader now.octets h
      → (front : List ℕ) × Splits all front now.left × IsUnit old front now.state None
  file_gives h start then reads is = (
    now.octets,
    reads_splits all now.octets now.left 24 reads,
    file h start ((reads_fits all now.octets now.left 24 reads is.whole).0) is then refl,
  )

pub file_ends : (old : State) (all octets front : List ℕ) (left : Option (List ℕ)) → old.stage ≡ Stage.Start
    → front ≡ take 4 all → (IsSectionKind front → ⊥) → Reads all left octets 24 → (ending : Ending)
    → FileEnds octets ending → Ends old all ending
file_ends old all octets front left start e other reads ending is =
    no_file start (λ begins. other (subst IsSectionKind (sym e) begins))
    (subst (λ l. FileEnds l ending) reads.front is)

-- ---- how far a call of `next` came

-- what is established from here on was established from the first on
pub record SoFar (before now : State) (all : List ℕ) (left : Option (List ℕ)) : Type 0 where
  pub rest : List ℕ
  pub left_is : left ≡ Some rest
  pub holds : (packets : List PacketValue) (ending : Ending) → Holds now rest packets ending
      → Holds before all packets ending

pub so_far-init : (s : State) (left : Option (List ℕ)) → IfSome left (λ all. SoFar s s all left)
so_far-init s None = tt
so_far-init s (Some all) = record { rest = all; left_is = refl; holds = λ packets ending h. h }

behind : (mid : Option (List ℕ)) (rest : List ℕ) → mid ≡ Some rest → Reads rest mid [] 0
behind mid rest e = record { front = refl; rest = e }

module _ (begin old : State) (mid : Option (List ℕ)) (after : After) (s : Step)
    (gives : (all : List ℕ) → Reads all mid [] 0 → StepGives old all s after) where
  given : (all : List ℕ) (t : Step) → s ≡ t → Reads all mid [] 0 → StepGives old all t after
  given all t e none = subst (λ x. StepGives old all x after) e (gives all none)

  pub so_far-more : s ≡ Step.Passed → (o : Option (List ℕ)) → IfSome o (λ all. SoFar begin old all mid)
      → IfSome o (λ all. SoFar begin after.state all after.left)
  so_far-more e None so = tt
  so_far-more e (Some all) so =
      let is = given so.rest Step.Passed e (behind mid so.rest so.left_is) in
      record {
        rest = is.1.rest;
        left_is = is.1.left_is;
        holds = λ packets ending h. so.holds packets ending (passes is.0 is.1.rest after.state is.1.split is.2 h);
      }

  pub so_far-ended : (ending : Ending) → s ≡ Step.Ended ending → (o : Option (List ℕ))
      → IfSome o (λ all. SoFar begin old all mid)
      → IfSome o (λ all. GivesNext begin all (Next.Ended ending) [] (state (Stage.End ending) []) after.left)
  so_far-ended ending e None so = tt
  so_far-ended ending e (Some all) so =
      (so.holds [] ending (ends (given so.rest (Step.Ended ending) e (behind mid so.rest so.left_is))), refl)

  pub so_far-packet : (k : Packet) → s ≡ Step.Packet k → (r : Record) (now : State) (stored : List ℕ)
      → packet_of r stored ≡ packet_in k after.octets → now ≡ after.state → (o : Option (List ℕ))
      → IfSome o (λ all. SoFar begin old all mid)
      → IfSome o (λ all. GivesNext begin all (Next.Record r) stored now after.left)
  so_far-packet k e r now stored same still None so = tt
  so_far-packet k e r now stored same still (Some all) so =
      let is = given so.rest (Step.Packet k) e (behind mid so.rest so.left_is) in (
        is.0.rest,
        is.0.left_is,
        λ packets ending h. so.holds (packet_of r stored ∷ packets) ending
            (packet after.octets is.0.rest after.state (packet_of r stored) is.0.split
            (subst (λ p. IsUnit old after.octets after.state (Some p)) (sym same) is.1)
            (subst (λ x. Holds x is.0.rest packets ending) still h)),
      )

-- ---- the bytes of a packet

pub clamped : (xs : List ℕ) (start end e s : ℕ) → e ≡ min end (length xs) → s ≡ min start e
    → take (e - s) (drop s xs) ≡ part xs start end
unfolding part
clamped xs start end e s is_end is_start = elim (fits_or_not start e) [
  | inl inside ↦
      let same : s ≡ start = omega (arith, is_start, inside) in
      elim (fits_or_not end (length xs)) [
        | inl within ↦
            let all : e ≡ end = omega (arith, is_end, within) in
            rw (same, all) refl
        | inr beyond ↦
            let long = length-drop start xs in
            rw same (take_all (e - start) (drop start xs) (omega (arith, is_end, beyond, long))
            ∙ sym (take_all (end - start) (drop start xs) (omega (arith, beyond, long))))
      ]
  | inr outside ↦
      no_byte _ (omega (arith, length-take (e - s) (drop s xs), is_start, outside))
      ∙ sym
      (no_byte _ (omega (arith, length-take (end - start) (drop start xs), length-drop start xs, is_end, outside)))
]
