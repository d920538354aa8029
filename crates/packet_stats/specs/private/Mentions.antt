-- What a message says of a subject.
use Rattle.packet_stats.specs.Row.{MentionValue}
use Rattle.packet_stats.specs.Subject.{subject_of}
use Rattle.packet_stats.specs.Types.{Mention}

abbrev pub mention_of : Mention → MentionValue
mention_of m = record { subject = subject_of m.subject; after = m.after }
