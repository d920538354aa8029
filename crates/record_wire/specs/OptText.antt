-- An OPT record as a line (RFC 6891 section 6.1): it belongs to no zone, so it is a comment in a zone file.
use Rattle.std.specs.Prelude.{◌/◌, ◌%◌, ◌==◌, [], ◌∷◌, ◌++◌, Err, List, Ok, ℕ, codes, decimal, flat_map, if◌then◌else◌}
use Rattle.std.specs.Prelude.{nat_le}
use Rattle.record_wire.specs.Words.{pieces}
use Rattle.record_wire.specs.Edns.{EdnsValue, Answer, answers_in}
use Rattle.record_wire.specs.RecordDisplay.{option_display, option_refusal_display}

-- the fields of an OPT record with this class, time to live and data
abbrev pub edns_by : ℕ → ℕ → List ℕ → EdnsValue
edns_by class ttl bytes = record {
  payload_size = class;
  extended_rcode = ttl / 0x1000000;
  version = ttl / 0x10000 % 0x100;
  dnssec_ok = nat_le 0x8000 (ttl % 0x10000);
  flags = ttl % 0x10000;
  options = bytes;
}

-- DO alone by its name, other flags as a number
abbrev pub edns_flags_text : ℕ → List ℕ
edns_flags_text flags = if flags == 0x8000 then codes "do" else decimal flags

-- an option by its name and its data, or why there is none
abbrev pub answer_text : Answer → List ℕ
answer_text (Ok option) = option_display option
answer_text (Err why) = option_refusal_display why

abbrev pub options_text : List Answer → List ℕ
options_text answers = flat_map (λ answer. codes "; " ++ answer_text answer) answers

abbrev pub opt_text : EdnsValue → List ℕ
opt_text edns =
    pieces (codes "; EDNS: version: " ∷ decimal edns.version
    ∷ codes ", flags: " ∷ edns_flags_text edns.flags
    ∷ codes "; udp: " ∷ decimal edns.payload_size
    ∷ codes "; extended_rcode: " ∷ decimal edns.extended_rcode
    ∷ options_text (answers_in edns.options) ∷ [])
