-- The text of an option: as it is read back, and what an emitter leaves.
use Rattle.opt_wire.proofs.Words.{[], ◌%◌, ◌*◌, ◌++◌, ◌+◌, ◌/◌, ◌∙◌, ◌∷◌, ◌≡◌, IsOption, IsProper, List, OptionValue}
use Rattle.opt_wire.proofs.Words.{RouterAlert, ℕ, ap, append-nil, arith, be16, be8, big_bytes, case_in-unnamed, fields}
use Rattle.opt_wire.proofs.Words.{length, length-replicate, length-take-le, pad1, pad_n, refl, replicate, router_alert}
use Rattle.opt_wire.proofs.Words.{subst, sym, take, take-take, unknown}
use Rattle.opt_wire.specs.declared.ipv6option.tables.Type.{«Type» as Kind}
use Rattle.opt_wire.specs.Ipv6OptionTables.{type_number, type_rows, type_of, alert_number, alert_rows, alert_of}
use Rattle.opt_wire.specs.Ipv6Option.{text, text_len, HasData, BeginsWith, IsCanonical, norm}

-- ---- byte by byte

bytes_in : OptionValue → List ℕ
bytes_in pad1 = 0 ∷ []
bytes_in (pad_n n) = 1 ∷ n ∷ replicate n 0
bytes_in (router_alert a) = 5 ∷ 2 ∷ big_bytes 2 (alert_number a)
bytes_in (unknown k n d) = type_number k ∷ n ∷ take n d

text-bytes : (v : OptionValue) → text v ≡ bytes_in v
unfolding bytes_in fields be8 be16
text-bytes pad1 = refl
text-bytes (pad_n n) = ap (λ (l : List ℕ). 1 ∷ n ∷ l) (append-nil (replicate n 0))
text-bytes (router_alert a) = refl
text-bytes (unknown k n d) = ap (λ (l : List ℕ). type_number k ∷ n ∷ l) (append-nil (take n d))

-- an option that holds its data takes the bytes that it counts
length-bytes : (v : OptionValue) → HasData v → length (bytes_in v) ≡ text_len v
unfolding bytes_in
length-bytes pad1 h = refl
length-bytes (pad_n n) h = omega (arith, length-replicate {A = ℕ} n 0)
length-bytes (router_alert a) h = refl
length-bytes (unknown k n d) h = omega (arith, length-take-le n d h)

pub length-text : (v : OptionValue) → HasData v → length (text v) ≡ text_len v
length-text v h = ap length (text-bytes v) ∙ length-bytes v h

-- ---- as it is read back

alert_of-number : (a : RouterAlert) → IsProper RouterAlert.Unknown alert_rows a → alert_of (alert_number a) ≡ a
alert_of-number RouterAlert.MulticastListenerDiscovery p = refl
alert_of-number RouterAlert.Rsvp p = refl
alert_of-number RouterAlert.ActiveNetworks p = refl
alert_of-number (RouterAlert.Unknown n) p = case_in-unnamed RouterAlert.Unknown alert_rows n (p n refl)

type_of-number : (k : Kind) → IsProper Kind.Unknown type_rows k → type_of (type_number k) ≡ k
type_of-number Kind.Pad1 p = refl
type_of-number Kind.PadN p = refl
type_of-number Kind.RouterAlert p = refl
type_of-number Kind.Rpl p = refl
type_of-number (Kind.Unknown n) p = case_in-unnamed Kind.Unknown type_rows n (p n refl)

-- its own text is an option of the normal form
option_bytes : (v : OptionValue) → IsCanonical v → IsOption (bytes_in v) (norm v)
unfolding bytes_in
option_bytes pad1 c = refl
option_bytes (pad_n n) c = (replicate n 0, refl, length-replicate n 0)
option_bytes (router_alert a) c =
    let m = alert_number a in
    let number : m ≡ 256 * (m / 256 % 256) + m % 256 = omega (arith, c.1) in
    (m / 256 % 256, m % 256, refl, sym (alert_of-number a c.0) ∙ ap alert_of number)
option_bytes (unknown k n d) c =
    let back : type_of (type_number k) ≡ k = type_of-number k c.0 in (
      type_number k,
      refl,
      length-take-le n d c.6,
      sym back,
      (λ z. c.1 (sym back ∙ ap type_of z)),
      (λ z. c.2 (sym back ∙ ap type_of z)),
      (λ z. c.3 (sym back ∙ ap type_of z)),
    )

pub option_text : (v : OptionValue) → IsCanonical v → IsOption (text v) (norm v)
option_text v c = subst (λ (w : List ℕ). IsOption w (norm v)) (sym (text-bytes v)) (option_bytes v c)

pub begins_with-text : (v : OptionValue) (rest : List ℕ) → IsCanonical v → BeginsWith (text v ++ rest) (norm v)
begins_with-text v rest c = record { front = text v; rest = rest; whole = refl; option = option_text v c }

-- ---- the normal form

pub norm-canonical : (v : OptionValue) → IsCanonical v → IsCanonical (norm v)
norm-canonical (unknown k n d) c = (c.0, c.1, c.2, c.3, c.4, c.5, omega (arith, length-take-le n d c.6))
norm-canonical _ c = c

pub norm-norm : (v : OptionValue) → norm (norm v) ≡ norm v
norm-norm (unknown k n d) = ap (unknown k n) (take-take n n d (omega arith))
norm-norm _ = refl

pub norm-text : (v : OptionValue) → text (norm v) ≡ text v
norm-text (unknown k n d) =
    ap (λ (l : List ℕ). fields (be8 (type_number k) ∷ be8 n ∷ l ∷ [])) (take-take n n d (omega arith))
norm-text _ = refl

pub ruleset texts = (length-text)
