-- The first line of what is buffered.
use Rattle.std.proofs.Common.{◌≡◌, ◌≢◌, ℕ, ◌+◌, ◌<◌, List, [], ◌∷◌, ◌++◌, All, length, get_or, take, Option, None}
use Rattle.std.proofs.Common.{Some, IfSome, ap, sym, ◌∙◌, arith, append_assoc}
use Rattle.std.proofs.Common.{length-append}
use Rattle.std.proofs.lemmas.List.{take_more}
use Rattle.std.specs.Io.KnownBytes.{Consumes}
use Rattle.std.specs.Io.BufRead.{strip_last, take_through, drop_through}
use Rattle.dump_lines.specs.BufferedLines.{IsFirst}
use Rattle.dump_lines.specs.Listing.{Shape, line_shape}
use Rattle.dump_lines.proofs.Taking.{lf_ends}

-- a line and its LF
module _ (shown : List ℕ) (n : ℕ) (shape : Shape) (more : n < length shown) (lf : get_or shown n 0 ≡ 10)
    (free : All (λ octet. octet ≢ 10) (take n shown)) (is : shape ≡ line_shape (take n shown)) where
  first_is : (octets left : List ℕ) → octets ≡ take (n + 1) shown ++ left → IsFirst octets (Some left) shape
  first_is octets left consumed =
      let whole : take (n + 1) shown ≡ take n shown ++ (10 ∷ []) =
      take_more shown n 0 more ∙ ap (λ octet. take n shown ++ (octet ∷ [])) lf in
      let all : octets ≡ take n shown ++ (10 ∷ left) =
      consumed ∙ ap (λ l. l ++ left) whole ∙ append_assoc (take n shown) (10 ∷ []) left in
      let line = lf_ends (take n shown) left free in (
        λ none. omega (arith, ap length (sym all ∙ none), length-append (take n shown) (10 ∷ left)),
        is ∙ ap line_shape (sym line.0 ∙ ap (λ l. strip_last 10 (take_through 10 l)) (sym all)),
        ap Some (sym line.1 ∙ ap (drop_through 10) (sym all)),
      )

  pub line_seen : (a b : Option (List ℕ)) → Consumes a b (take (n + 1) shown)
      → IfSome a (λ octets. IsFirst octets b shape)
  line_seen None b consumed = tt
  line_seen (Some octets) None consumed = absurd consumed
  line_seen (Some octets) (Some left) consumed = first_is octets left consumed
