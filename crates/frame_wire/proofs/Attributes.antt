-- The attributes of NFLOG follow one another.
use Rattle.frame_wire.proofs.Words.{◌≡◌, ◌≢◌, ◌≤◌, Bool, List, ℕ, length, subst, sym}
use Rattle.frame_wire.specs.Link.{HasAttribute, HasPacket, after_attribute, attribute_len, attribute_type}
use Rattle.frame_wire.specs.Link.{packet_here, packet_later}
use Rattle.frame_wire.specs.LinkRefusal.{RefusesAttributes, attribute_later}
use Rattle.frame_wire.specs.declared.link.refusal.Refusal.{Refusal}

-- the attributes in front of the rest are passed: what the rest has, all of them have
pub record SoFar (lowest_first : Bool) (bytes rest : List ℕ) : Type 0 where
  pub forth : (packet : List ℕ) → HasPacket lowest_first rest packet → HasPacket lowest_first bytes packet
  pub back : (packet : List ℕ) → HasPacket lowest_first bytes packet → HasPacket lowest_first rest packet
  pub refused : (refusal : Refusal) → RefusesAttributes lowest_first rest refusal
      → RefusesAttributes lowest_first bytes refusal

pub so_far-init : (lowest_first : Bool) (bytes : List ℕ) → SoFar lowest_first bytes bytes
so_far-init lowest_first bytes = record {
  forth = λ packet is. is;
  back = λ packet is. is;
  refused = λ refusal is. is;
}

one_back : (lowest_first : Bool) (bytes packet : List ℕ) → attribute_type lowest_first bytes ≢ 9
    → HasPacket lowest_first bytes packet → HasPacket lowest_first (after_attribute lowest_first bytes) packet
one_back lowest_first bytes packet other (packet_here whole nine e) = absurd (other nine)
one_back lowest_first bytes packet other (packet_later whole another is) = is

pub so_far-more : (lowest_first : Bool) (bytes rest next : List ℕ) → SoFar lowest_first bytes rest
    → HasAttribute lowest_first rest → attribute_type lowest_first rest ≢ 9
    → next ≡ after_attribute lowest_first rest → SoFar lowest_first bytes next
so_far-more lowest_first bytes rest next so whole other e =
    subst (λ l. SoFar lowest_first bytes l) (sym e)
    (record {
      forth = λ packet is. so.forth packet (packet_later whole other is);
      back = λ packet is. one_back lowest_first rest packet other (so.back packet is);
      refused = λ refusal is. so.refused refusal (attribute_later whole other is);
    })

-- by the length that is read
pub has_attribute : (lowest_first : Bool) (bytes : List ℕ) (len : ℕ) → len ≡ attribute_len lowest_first bytes
    → 4 ≤ length bytes → 4 ≤ len → len ≤ length bytes → HasAttribute lowest_first bytes
has_attribute lowest_first bytes len e header least whole = record {
  header = header;
  least = subst (λ n. 4 ≤ n) e least;
  whole = subst (λ n. n ≤ length bytes) e whole;
}
