-- Lines as words of one, an octet after another.
use Rattle.std.proofs.Common.{◌≡◌, ◌∙◌, ◌==◌, ◌&&◌, ◌||◌, ◌++◌, ◌∷◌, [], Bool, List, append_assoc, false, if◌then◌else◌}
use Rattle.std.proofs.Common.{not}
use Rattle.std.proofs.Common.{true, ℕ}
use Rattle.std.proofs.lemmas.List.{append-nil}
use Rattle.dump_captures.specs.Pairing.{as_words}
use Rattle.dump_captures.specs.private.Objects.{octet_unless}

either : (done all : List ℕ) (ends : Bool) (octet : ℕ) (rest : List ℕ)
    → done ++ (if ends then as_words true rest else octet ∷ as_words false rest) ≡ all
    → (done ++ octet_unless octet ends) ++ as_words ends rest ≡ all
either done all true octet rest is = rw (append-nil done) is
either done all false octet rest is = append_assoc done (octet ∷ []) (as_words false rest) ∙ is

-- one octet more
pub one_octet : (done all : List ℕ) (begins : Bool) (octet : ℕ) (rest : List ℕ)
    → done ++ as_words begins (octet ∷ rest) ≡ all
    → (done ++ octet_unless octet (begins || (octet == 10))) ++ as_words (not begins && (octet == 10)) rest ≡ all
one_octet done all true octet rest is = rw (append-nil done) is
one_octet done all false octet rest is = either done all (octet == 10) octet rest is
