-- The packets of a capture, one after another, and what they print.
use Rattle.std.proofs.Common.{◌≡◌, ℕ, List, [], ◌∷◌, ◌++◌, length, Option, None, Some, IfSome, append_assoc}
use Rattle.std.proofs.Common.{false, refl, true}
use Rattle.std.proofs.lemmas.List.{append-nil}
use Rattle.capture.specs.Capture.{State, state, Holds, GivesNext, IsInOrder, IsCapture, packet_of}
use Rattle.capture.specs.Packet.{PacketValue}
use Rattle.capture.specs.declared.capture.Next.TheVariants as next
use Rattle.capture.specs.declared.capture.Stage.TheVariants.{Start}
use Rattle.capture.specs.declared.capture.Record.{Record}
use Rattle.capture.specs.declared.ending.Ending.{Ending}
use Rattle.packet_fields.specs.Output.{Gains, GainsSome}
use Rattle.dump_captures.specs.Session.{SessionValue}
use Rattle.packet_fields.proofs.Printing.{gains_none, gains_both}
use Rattle.dump_captures.specs.Arrival.{arrival}
use Rattle.dump_captures.specs.Dump.{AreRead, InputPrints, IsFront, KeptValue, PacketPrints, PacketsPrint, ReadPrints}
use Rattle.dump_captures.specs.Dump.{StopsBy, nothing_kept}
use Rattle.dump_captures.specs.Progress.{ProgressValue, after, begin, is_enough, time_in}
use Rattle.dump_captures.specs.Tally.{TallyValue, counted}
use Rattle.dump_captures.specs.declared.options.Options.{Options}
use Rattle.dump_captures.specs.declared.stop.Stop.{Stop}
use Rattle.dump_captures.specs.declared.stop.Stop.TheVariants.{Ended, Enough, Unread}
use Rattle.dump_captures.specs.declared.tally.Counted.{Counted}

-- These packets were read, and are followed by those that `left`, the rest of the input, holds.
abbrev pub HasRead : List ℕ → Option (List ℕ) → State → List PacketValue → Type 0
HasRead all left s seen =
    (rest : List ℕ) × (left ≡ Some rest) × ((packets : List PacketValue) (ending : Ending)
    → Holds s rest packets ending → IsCapture all (seen ++ packets) ending)

read-none : (start : Option (List ℕ)) (s : State) → s ≡ state Start [] → IfSome start (λ all. HasRead all start s [])
read-none None s begins = tt
read-none (Some all) s begins = (all, refl, λ packets ending holds. rw begins at holds)

read-more : (start left remaining : Option (List ℕ)) (s new : State) (seen : List PacketValue) (r : Record)
    (octets : List ℕ) → IfSome start (λ all. HasRead all left s seen)
    → IfSome left (λ bytes. GivesNext s bytes (next.Record r) octets new remaining)
    → IfSome start (λ all. HasRead all remaining new (seen ++ packet_of r octets ∷ []))
read-more None left remaining s new seen r octets reads gives = tt
read-more (Some all) left remaining s new seen r octets reads gives =
    let given = rw reads.1 at gives in (
      given.0,
      given.1,
      λ packets ending holds.
          rw (append_assoc seen (packet_of r octets ∷ []) packets)
          (reads.2 (packet_of r octets ∷ packets) ending (given.2 packets ending holds)),
    )

read-all : (start left remaining : Option (List ℕ)) (s new : State) (seen : List PacketValue) (ending : Ending)
    (octets : List ℕ) → IfSome start (λ all. HasRead all left s seen)
    → IfSome left (λ bytes. GivesNext s bytes (next.Ended ending) octets new remaining)
    → IfSome start (λ all. IsCapture all seen ending)
read-all None left remaining s new seen ending octets reads gives = tt
read-all (Some all) left remaining s new seen ending octets reads gives =
    let given = rw reads.1 at gives in rw (append-nil seen) at (reads.2 [] ending given.0)

read-front : (start left : Option (List ℕ)) (s : State) (seen : List PacketValue)
    → IfSome start (λ all. HasRead all left s seen) → IfSome start (λ all. IsFront all seen)
read-front None left s seen reads = tt
read-front (Some all) left s seen reads = record { left = reads.0; reached = s; goes_on = reads.2 }

-- How far a run has come, with `left` of the input `start`: it has read packets, printed a text and kept fragments, and
-- what further packets print follows it.
pub record SoFar (options : Options) (file : Option (List ℕ)) (start left : Option (List ℕ)) (s : State) (n : ℕ)
    (b : ProgressValue) (kept : KeptValue) (first tally : TallyValue) (before now : Option (List ℕ)) : Type 0 where
  pub seen : List PacketValue
  pub text : List ℕ
  pub reads : IfSome start (λ all. HasRead all left s seen)
  pub gains : Gains before now text
  pub goes_on : (packets : List PacketValue) (more : List ℕ) (new : TallyValue) (last : ProgressValue)
      (session : SessionValue) → PacketsPrint options file n b kept tally packets more new last session
      → PacketsPrint options file 0 (begin options) nothing_kept first (seen ++ packets) (text ++ more) new last session

pub so_far-init : (options : Options) (file : Option (List ℕ)) (start : Option (List ℕ)) (s : State) (n : ℕ)
    (b : ProgressValue) (kept : KeptValue) (tally : TallyValue) (before : Option (List ℕ)) → s ≡ state Start []
    → n ≡ 0 → b ≡ begin options → kept ≡ nothing_kept
    → SoFar options file start start s n b kept tally tally before before
so_far-init options file start s n b kept tally before begins none new empty =
    record {
      seen = [];
      text = [];
      reads = read-none start s begins;
      gains = gains_none before;
      goes_on = λ packets more last end session prints. rw (none, new, empty) at prints;
    }

module _ (options : Options) (file : Option (List ℕ)) (start left : Option (List ℕ)) (s : State) (n : ℕ)
    (b : ProgressValue) (kept : KeptValue) (first tally : TallyValue) (before now : Option (List ℕ))
    (so_far : SoFar options file start left s n b kept first tally before now) where
  -- the packets that could be read, or were to be
  so_far-stop : (later : Option (List ℕ)) → Gains now later [] → (stop : Stop)
      → IfSome start (λ all. AreRead all so_far.seen stop) → StopsBy stop b
      → GainsSome before later (λ text. ReadPrints options file start first text tally kept.session stop)
  so_far-stop later wrote stop reads stops = (
    so_far.text,
    record {
      packets = so_far.seen;
      last = b;
      reads = reads;
      prints = rw (append-nil so_far.seen, append-nil so_far.text) at
          (so_far.goes_on [] [] tally b kept.session (refl, refl, refl, refl));
      stops = stops;
    },
    rw (append-nil so_far.text) at (gains_both before now later so_far.text [] so_far.gains wrote),
  )

  pub so_far-enough : is_enough b ≡ true
      → GainsSome before now (λ text. ReadPrints options file start first text tally kept.session Enough)
  so_far-enough enough =
      so_far-stop now (gains_none now) Enough (read-front start left s so_far.seen so_far.reads) enough

  pub so_far-unread : (later : Option (List ℕ)) → Gains now later []
      → GainsSome before later (λ text. ReadPrints options file start first text tally kept.session Unread)
  so_far-unread later wrote = so_far-stop later wrote Unread (read-front start left s so_far.seen so_far.reads) tt

  module _ (goes_on : is_enough b ≡ false) (flushed : Option (List ℕ)) (wrote : Gains now flushed []) where
    -- what was printed is written out, and then a packet more is read and printed
    pub so_far-more : (later remaining : Option (List ℕ)) (r : Record) (octets : List ℕ) (new : State) (count : ℕ)
        (time : Option (List ℕ)) (c : Counted) (later_kept : KeptValue) (new_tally : TallyValue)
        (new_progress : ProgressValue)
        → IfSome left (λ bytes. GivesNext s bytes (next.Record r) octets new remaining)
        → IsInOrder r octets n count → time ≡ time_in b (packet_of r octets).time
        → GainsSome flushed later (λ text.
        PacketPrints options (arrival file r.number time (packet_of r octets)) kept text c later_kept)
        → new_tally ≡ counted c r.link_type (length octets) tally
        → new_progress ≡ after c.outcome (packet_of r octets).time b
        → SoFar options file start remaining new count new_progress later_kept first new_tally before later
    so_far-more later remaining r octets new count time c later_kept new_tally new_progress gives order told shows
        counts passes =
        let p = packet_of r octets in
        record {
          seen = so_far.seen ++ p ∷ [];
          text = so_far.text ++ shows.0;
          reads = read-more start left remaining s new so_far.seen r octets so_far.reads gives;
          gains = gains_both before now later so_far.text shows.0 so_far.gains
              (gains_both now flushed later [] shows.0 wrote shows.2);
          goes_on = λ packets more last end session prints.
              rw (append_assoc so_far.seen (p ∷ []) packets, append_assoc so_far.text shows.0 more)
              (so_far.goes_on (p ∷ packets) (shows.0 ++ more) last end session (
                shows.0,
                more,
                c,
                later_kept,
                goes_on,
                rw (order.number, told) at shows.1,
                rw (counts, passes, order.count_is, order.number) at prints,
                refl,
              ));
        }

    pub so_far-end : (remaining : Option (List ℕ)) (ending : Ending) (octets : List ℕ) (new : State)
        → IfSome left (λ bytes. GivesNext s bytes (next.Ended ending) octets new remaining)
        → GainsSome before flushed (λ text. ReadPrints options file start first text tally kept.session (Ended ending))
    so_far-end remaining ending octets new gives =
        so_far-stop flushed wrote (Ended ending)
        (read-all start left remaining s new so_far.seen ending octets so_far.reads gives) goes_on

-- what is known of an input is known of the bytes that it has
pub known-input : (options : Options) (file : Option (List ℕ)) (known bytes : Option (List ℕ)) (old new : TallyValue)
    (text : List ℕ) (stop : Stop) → IfSome known (λ all. bytes ≡ Some all)
    → InputPrints options file bytes old text new stop → InputPrints options file known old text new stop
known-input options file None bytes old new text stop gives prints =
    let read = prints.packets in
    record {
      packets_text = prints.packets_text;
      session = prints.session;
      packets = record {
        packets = read.packets;
        last = read.last;
        reads = tt;
        prints = read.prints;
        stops = read.stops;
      };
      end_text = prints.end_text;
      ends = prints.ends;
      text_is = prints.text_is;
    }
known-input options file (Some all) bytes old new text stop gives prints = rw gives at prints
