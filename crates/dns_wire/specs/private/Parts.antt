-- What private functions and models need; no public clause rests on it.
use Rattle.std.specs.Prelude.{[], ◌∷◌, List, ℕ, if◌then◌else◌, length, ◌≡◌, ◌+◌, ◌<◌, drop, take}
use Rattle.dns_wire.specs.DnsDisplay.{CountsValue, HeaderValue}
use Rattle.dns_wire.specs.DnsNameAhead.{NamePart, whole, pointer, stop, torn}
use Rattle.dns_wire.specs.DnsNameWalk.{Coming, is_ending}
use Rattle.dns_wire.specs.DnsTables.{flag_bits}
use Rattle.dns_wire.specs.declared.dns.display.Counts.{Counts}
use Rattle.dns_wire.specs.declared.dns.display.Header.{Header}
use Rattle.dns_wire.specs.declared.dns.part.NamePart.{NamePart as FrontOf}

-- the contents of the values that the library prints
abbrev pub counts_value : Counts → CountsValue
counts_value counts = record {
  questions = counts.questions;
  answers = counts.answers;
  authorities = counts.authorities;
  additionals = counts.additionals;
}

abbrev pub header_value : Header → HeaderValue
header_value header = record {
  id = header.id;
  kind = header.opcode;
  flags = flag_bits header.flags;
  outcome = header.rcode;
  counts = counts_value header.counts;
}

-- how many answers come before the end
abbrev pub items_in : List Coming → ℕ
items_in [] = 0
items_in (c ∷ cs) = if is_ending c.answer then 0 else items_in cs + 1

-- what a text begins with, without its place in memory
abbrev pub shown : FrontOf → NamePart
shown (FrontOf.Label bytes rest) = whole bytes.now rest.now
shown (FrontOf.Pointer target) = pointer target
shown FrontOf.End = stop
shown FrontOf.Torn = torn

-- A pointer to this place leads to an open byte: what is left there, and the bytes before it, which are open then.
pub record LeadsTo (reach : List ℕ) (target : ℕ) (left front : List ℕ) : Type 0 where
  pub inside : target < length reach
  pub left_is : left ≡ drop target reach
  pub front_is : front ≡ take target reach
