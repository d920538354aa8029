-- What is printed behind the packets of a capture.
use Rattle.std.specs.Prelude.{◌≡◌, [], ◌++◌, ◌&&◌, Bool, List, Option, false, true, ℕ}
use Rattle.packet_pairs.specs.Pairs.{State as Questions}
use Rattle.dump_captures.specs.Pairing.{Unanswered}
use Rattle.dump_captures.specs.Session.{SessionValue}
use Rattle.dump_captures.specs.Statistics.{PageIf}
use Rattle.dump_captures.specs.declared.options.Options.{Options}

-- what got no answer, only where that is asked for
abbrev pub UnansweredIf : Bool → Options → Option (List ℕ) → Questions → List ℕ → Type 0
UnansweredIf true options file s shown = Unanswered options file s shown
UnansweredIf false options file s shown = shown ≡ []

-- What got no answer, and the page of statistics; where packets are only counted neither.
pub record EndPrints (options : Options) (file : Option (List ℕ)) (s : SessionValue) (shown : List ℕ) : Type 0 where
  pub unanswered : List ℕ
  pub page : List ℕ
  pub is_unanswered : UnansweredIf (options.pairs && options.prints) options file s.questions unanswered
  pub is_page : PageIf (options.stats && options.prints) options file s.counts page
  pub text_is : shown ≡ unanswered ++ page
