use Rattle.wirebase.proofs.Words.{◌++◌, [], ◌∷◌, HasWritten, IsPlainFormatter, codes, encode_lower, flat_map, take}
use Rattle.wirebase.proofs.text.hexadecimal.fmt_behind_colons.Given as goal

abbrev pub invariant-loop-octet : goal.invariant-loop-octet
invariant-loop-octet g l =
    IsPlainFormatter l.fn.f → HasWritten g.W.Write.write_str_gives l.fn.f
    (flat_map (λ next. codes ":" ++ encode_lower (next ∷ [])) (take l.octet-index l.octets)) l.f
