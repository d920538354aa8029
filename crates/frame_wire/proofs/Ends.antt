-- Where a datagram of IPv6 ends, and what is cut before that.
use Rattle.frame_wire.proofs.Words.{◌≡◌, ◌+◌, ◌∙◌, ◌<◌, ◌≤◌, IpProtocol, List, ℕ, ap, inr, length, part, subst}
use Rattle.frame_wire.proofs.Words.{sym}
use Rattle.frame_wire.specs.Captured.{RefusesCaptured6}
use Rattle.frame_wire.specs.Datagram.{HasHeader6, rest6, behind6, IsJumbogram, EndsAt6, IsCut6, IsHead6, RefusesBehind6}
use Rattle.frame_wire.specs.Datagram.{RefusesWhole6, Refuses6, counted, jumbo, short, torn}
use Rattle.frame_wire.specs.DatagramHeaders.{HasExtension, extension_end}
use Rattle.frame_wire.specs.private.Parts.{told_of_cut}
use Rattle.frame_wire.proofs.Headers.{torn_leads, torn_unbroken}
use Rattle.frame_wire.proofs.Jumbograms.{jumbo_one}
use Rattle.frame_wire.specs.declared.datagram.Head.{Head}
use Rattle.frame_wire.specs.declared.datagram.Refusal.{Refusal}

end_one : (bytes : List ℕ) (a b : ℕ) → EndsAt6 bytes a → EndsAt6 bytes b → a ≡ b
end_one bytes a b (counted plain e) (counted plain' f) = e ∙ sym f
end_one bytes a b (counted plain e) (jumbo n is len f) = absurd (plain is)
end_one bytes a b (jumbo n is len e) (counted plain f) = absurd (plain is)
end_one bytes a b (jumbo m is len e) (jumbo n too len' f) =
    e ∙ ap (λ k. 40 + k) (jumbo_one (part (rest6 bytes) 2 (extension_end (rest6 bytes))) m n len.option len'.option)
    ∙ sym f

-- no end is known of a jumbogram whose hop-by-hop header is cut
torn_endless : (bytes : List ℕ) (end : ℕ) → IsJumbogram bytes → (HasExtension (rest6 bytes) → ⊥) → EndsAt6 bytes end
    → ⊥
torn_endless bytes end is cut (counted plain e) = plain is
torn_endless bytes end is cut (jumbo n too len e) = cut len.whole

-- what is cut is shorter than it is to be
pub cut_before : (bytes : List ℕ) (end : ℕ) → IsCut6 bytes → EndsAt6 bytes end → length bytes < end
cut_before bytes end (short other ends less) is = subst (λ e. length bytes < e) (end_one bytes other end ends is) less
cut_before bytes end (torn is cut) ends = absurd (torn_endless bytes end is cut ends)

-- where no end is known, the first header is cut
pub cut_torn : (bytes : List ℕ) → IsCut6 bytes → ((end : ℕ) → EndsAt6 bytes end → ⊥)
    → RefusesBehind6 bytes (rest6 bytes) (Refusal.Extension IpProtocol.HopByHop)
cut_torn bytes (short end ends less) endless = absurd (endless end ends)
cut_torn bytes (torn is cut) endless = (
  λ broken. torn_unbroken _ (rest6 bytes) is.header cut broken.1,
  torn_leads _ (rest6 bytes) _ is.header cut,
)

whole_by : (bytes behind : List ℕ) (end : ℕ) (r : Refusal) → HasHeader6 bytes → EndsAt6 bytes end
    → end ≤ length bytes → behind ≡ behind6 bytes end → RefusesBehind6 bytes behind r → RefusesWhole6 bytes r
whole_by bytes behind end r header ends room e is = record {
  header = header;
  end = end;
  ends = ends;
  total = room;
  refuses = subst (λ l. RefusesBehind6 bytes l r) e is;
}

-- the refusal by what follows the fixed header is that of the datagram
pub refuses_whole : (bytes behind : List ℕ) (end : ℕ) (r : Refusal) → HasHeader6 bytes → EndsAt6 bytes end
    → end ≤ length bytes → behind ≡ behind6 bytes end → RefusesBehind6 bytes behind r → Refuses6 bytes r
refuses_whole bytes behind end Refusal.Jumbogram header ends room e is =
    inr (whole_by bytes behind end Refusal.Jumbogram header ends room e is)
refuses_whole bytes behind end (Refusal.Extension p) header ends room e is =
    whole_by bytes behind end (Refusal.Extension p) header ends room e is
refuses_whole bytes behind end (Refusal.Fragment h) header ends room e is =
    whole_by bytes behind end (Refusal.Fragment h) header ends room e is
refuses_whole bytes behind end Refusal.Short header ends room e is = absurd is
refuses_whole bytes behind end (Refusal.Version n) header ends room e is = absurd is
refuses_whole bytes behind end (Refusal.HeaderLen n) header ends room e is = absurd is
refuses_whole bytes behind end (Refusal.TotalLen n) header ends room e is = absurd is
refuses_whole bytes behind end (Refusal.Cut h) header ends room e is = absurd is

-- the refusal by what is there is that of the datagram that is cut
pub refuses_cut : (bytes behind : List ℕ) (head : Head) (r : Refusal) → HasHeader6 bytes → IsCut6 bytes
    → IsHead6 bytes head → behind ≡ rest6 bytes → RefusesBehind6 bytes behind r
    → RefusesCaptured6 bytes (told_of_cut r head)
refuses_cut bytes behind head (Refusal.Extension p) header cut tells e is =
    (tells, (p, (header, cut, subst (λ l. RefusesBehind6 bytes l (Refusal.Extension p)) e is)))
refuses_cut bytes behind head Refusal.Jumbogram header cut tells e is =
    inr (header, cut, subst (λ l. RefusesBehind6 bytes l Refusal.Jumbogram) e is)
refuses_cut bytes behind head (Refusal.Fragment h) header cut tells e is =
    inr (header, cut, subst (λ l. RefusesBehind6 bytes l (Refusal.Fragment h)) e is)
refuses_cut bytes behind head Refusal.Short header cut tells e is = absurd is
refuses_cut bytes behind head (Refusal.Version n) header cut tells e is = absurd is
refuses_cut bytes behind head (Refusal.HeaderLen n) header cut tells e is = absurd is
refuses_cut bytes behind head (Refusal.TotalLen n) header cut tells e is = absurd is
refuses_cut bytes behind head (Refusal.Cut h) header cut tells e is = absurd is
