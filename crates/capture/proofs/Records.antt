-- A record of a pcap file is read.
use Rattle.std.proofs.Common.{◌≡◌, ℕ, ◌+◌, ◌*◌, List, length, take, Option, None, Some, IsSomeAnd, refl, ap, sym}
use Rattle.std.proofs.Common.{subst, ◌∙◌, arith}
use Rattle.std.specs.Option.{option_map}
use Rattle.std.proofs.lemmas.List.{length-take, take-take}
use Rattle.capture.specs.Capture.{most_octets}
use Rattle.capture.specs.Packet.{packet_in}
use Rattle.capture.specs.Pcap.{IsRecord, IsRecordHeader, RecordEnds, ends_whole, head_cut, cut, large}
use Rattle.capture.specs.private.Reader.{Reads}
use Rattle.capture.specs.private.Taken.{Splits}
use Rattle.capture.specs.Time.{IsTime, value_of, time_value, fraction_of, digits_in}
use Rattle.capture.specs.private.Unit as unit
use Rattle.capture.specs.Unit.{record_form, RecordHeadEnds}
use Rattle.capture.specs.private.Unit.{UnitEnds, none, no_head, UnitReads}
use Rattle.capture.specs.Types.{Ending, Packet, FileHeader, RecordHeader, Time, Taken}
use Rattle.capture.proofs.Filling.{no_byte, reads_splits}

-- the content of a time that is there
told_time : (o : Option Time) (nanoseconds digits : ℕ) → IsSomeAnd o (λ time. IsTime time nanoseconds digits)
    → option_map value_of o ≡ Some (time_value nanoseconds digits)
told_time None nanoseconds digits is = absurd is
told_time (Some time) nanoseconds digits is = rw (is.sum, is.digits_are) refl

module _ (h : FileHeader) (all : List ℕ) where
  head_ends : (ending : Ending) → RecordHeadEnds h.order (take 16 all) ending → RecordEnds most_octets h all ending
  head_ends Ending.Whole none' = ends_whole (no_byte all (omega (arith, ap length none', length-take 16 all)))
  head_ends Ending.Cut short =
      head_cut (λ e. short.0 (ap (take 16) e)) (omega (arith, short.1, length-take 16 all))
  head_ends Ending.TooLarge many = large many.0 many.1 many.2
  head_ends Ending.TooManyInterfaces no' = absurd no'
  head_ends (Ending.Malformed refusal) no' = absurd no'
  head_ends Ending.Version no' = absurd no'
  head_ends Ending.NotACapture no' = absurd no'

  pub record_ends : (ending : Ending) → UnitEnds 16 record_form h.order all ending → RecordEnds most_octets h all ending
  record_ends ending (none e is) = subst (RecordEnds most_octets h all) (sym is) (ends_whole e)
  record_ends ending (no_head ends) = head_ends ending ends
  record_ends ending (unit.cut r is short e) =
      subst (RecordEnds most_octets h all) (sym e) (cut r is.0 is.1 short)

  pub record_read : (octets : List ℕ) (left : Option (List ℕ)) (r : RecordHeader) (k : Packet)
      → UnitReads 16 record_form h.order all (Taken.Read r) octets left → k.start ≡ 16 → k.captured_len ≡ r.captured_len
      → k.original_len ≡ r.original_len → k.link_type ≡ h.link_type
      → IsSomeAnd k.time (λ time. IsTime time (r.seconds * 1000000000 + fraction_of h.precision r.fraction)
      (digits_in h.precision))
      → Splits all octets left × IsRecord most_octets h octets (packet_in k octets)
  record_read octets left r k read start captured original link time =
      let reads : Reads all left octets (16 + r.captured_len) = record { front = read.3; rest = read.4 } in
      let front : take 16 all ≡ take 16 octets =
      sym (ap (take 16) reads.front ∙ take-take 16 (16 + r.captured_len) all (omega arith)) in (
        reads_splits all octets left (16 + r.captured_len) reads,
        record {
          head = r;
          is_head = subst (λ l. IsRecordHeader h.order l r) front read.0.0;
          whole = omega (arith, ap length reads.front, length-take (16 + r.captured_len) all, read.2);
          few = read.0.1;
          time_is = told_time k.time _ _ time;
          link_type = link;
          original_len = original;
          octets = rw (start, captured) refl;
        },
      )
