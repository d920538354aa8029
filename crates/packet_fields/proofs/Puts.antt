-- What is put into strings of JSON, and what is put as it is.
use Rattle.std.proofs.Common.{[], ◌∷◌, Err, List, Ok, OnOk, Option, Result, ℕ, codes, subst, sym}
use Rattle.std.proofs.lemmas.Grind.{flat_map-append}
use Rattle.std.proofs.KnownBytes.{Appends-nil, Appends-trans}
use Rattle.std.specs.Io.KnownBytes.{Appends}
use Rattle.std.specs.List.{FoldsTo, concat}
use Rattle.json.specs.Print.{escape, escape_byte, quoted}
use Rattle.wirebase.specs.Sink.{PutsText}
use Rattle.wirebase.proofs.Sinks.{put_one}
use Rattle.packet_fields.specs.Output.{Gains}
use Rattle.packet_fields.proofs.Printing.{◌then◌, gained, gained_on_ok, gains_last}
use Rattle.packet_fields.specs.Escapes.{Escaping}

-- texts that were put into a string, and one of one call
calls_escape : {W : Type 0} (contents : W → Option (List ℕ)) (a b : W) (parts : List (List ℕ))
    → FoldsTo (Escaping contents) a parts b → Appends (contents a) (contents b) (escape (concat parts))
unfolding Escaping
calls_escape contents a b [] calls = subst (λ w. Appends (contents a) (contents w) []) calls (Appends-nil (contents a))
calls_escape contents a b (part ∷ parts) (next, first, more) =
    subst (Appends (contents a) (contents b)) (sym (flat_map-append escape_byte part (concat parts)))
    (Appends-trans (contents a) (contents next) (contents b) (escape part) (escape (concat parts)) first
    (calls_escape contents next b parts more))

pub put_escaped : {W E : Type 0} (contents : W → Option (List ℕ)) (a b : W) (text : List ℕ)
    → PutsText {E = E} (Escaping contents) a text (Ok tt) b → Gains (contents a) (contents b) (escape text)
put_escaped contents a b text puts =
    record {
      appends = subst (λ t. Appends (contents a) (contents b) (escape t)) puts.calls.whole
          (calls_escape contents a b puts.calls.parts puts.calls.calls);
    }

pub escaped_once : {W E : Type 0} (contents : W → Option (List ℕ)) (a b : W) (text : List ℕ) (r : Result (Unit {0}) E)
    → OnOk r (Gains (contents a) (contents b) (escape text)) → PutsText (Escaping contents) a text r b
unfolding Escaping
escaped_once contents a b text (Ok x) gains = record { calls = put_one (Escaping contents) a b text gains.appends }
escaped_once contents a b text (Err e) gains = record { calls = tt }

-- a string between its quotation marks
pub in_quotes : {W E F : Type 0} (contents : W → Option (List ℕ)) (a b c d : W) (text : List ℕ)
    (r : Result (Unit {0}) F) → Appends (contents a) (contents b) (codes "\"")
    → PutsText {E = E} (Escaping contents) b text (Ok tt) c
    → OnOk r (Appends (contents c) (contents d) (codes "\"")) → OnOk r (Gains (contents a) (contents d) (quoted text))
in_quotes contents a b c d text r opened puts closed =
    gains_last _ _ r (gained _ _ _ opened then put_escaped contents b c text puts) (gained_on_ok _ _ _ r closed)
