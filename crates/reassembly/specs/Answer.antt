-- What becomes of a fragment.
use Rattle.std.specs.Prelude.{Option}
use Rattle.std.specs.Option.{option_map}
use Rattle.reassembly.specs.Partial.{PartialValue, WholeValue, partial_of, whole_of}
use Rattle.reassembly.specs.Types.{Answer, Refusal}

-- by content
pub data AnswerValue : Type 0 where
  incomplete : Option PartialValue → AnswerValue
  whole : WholeValue → AnswerValue
  refused : Refusal → AnswerValue

abbrev pub answer_of : Answer → AnswerValue
answer_of (Answer.Incomplete dropped) = incomplete (option_map partial_of dropped)
answer_of (Answer.Whole w) = whole (whole_of w)
answer_of (Answer.Refused refusal) = refused refusal
