-- Why octets are not laid out as data.
use Rattle.record_wire.proofs.Words.{◌≡◌, ◌<◌, ◌≤◌, [], ◌∷◌, ◌++◌, ◌∙◌, AreStrings, DataRefusal, IsSplit, Layout, List}
use Rattle.record_wire.proofs.Words.{ℕ, address6, ap, append_assoc, arith, cases_lt, drop, flat_map, inl, inr, length}
use Rattle.record_wire.proofs.Words.{length-drop, length-take-le, number_of, refl, subst, suc, sym, take}
use Rattle.record_wire.proofs.Words.{take-append-drop, written, zero}
use Rattle.wirebase.specs.declared.ipv4.Ipv4Address.{Ipv4Address}
use Rattle.wirebase.specs.declared.ipv6.address.Ipv6Address.{Ipv6Address}
use Rattle.record_wire.specs.RData.{RDataValue, address4, authority, IsLaidOut, IsAuthority, IsAddress4, IsAddress6}
use Rattle.record_wire.specs.RData.{serial_field, refresh_field, retry_field, expire_field, minimum_field}
use Rattle.record_wire.specs.RDataRefusal.{RefusesName, RefusesBehind, RefusesLayout}
use Rattle.record_wire.proofs.RDataParts.{no_strings, string_before}

-- after whole strings, one whose bytes are cut
abbrev pub HasCutString : List ℕ → Type 0
HasCutString bytes = (strings : List (List ℕ)) × (len : ℕ) × (rest : List ℕ)
    × (bytes ≡ flat_map written strings ++ len ∷ rest) × (length rest < len)

cut_before : (n : ℕ) (rest : List ℕ) → n ≤ length rest → HasCutString (drop n rest) → HasCutString (n ∷ rest)
cut_before n rest fits (strings, len, more, is, cut) =
    let same : length (take n rest) ≡ n = length-take-le n rest fits in (
      take n rest ∷ strings,
      len,
      more,
      ap (λ (m : ℕ). m ∷ rest) (sym same)
          ∙ (ap (λ (l : List ℕ). length (take n rest) ∷ l)
          (sym (take-append-drop n rest) ∙ ap (λ (l : List ℕ). take n rest ++ l) is)
          ∙ sym (append_assoc (written (take n rest)) (flat_map written strings) (len ∷ more))),
      cut,
    )

cut_within : (most : ℕ) (bytes : List ℕ) → length bytes ≤ most → (AreStrings bytes → ⊥) → HasCutString bytes
cut_within most [] h none = absurd (none no_strings)
cut_within zero (n ∷ rest) h none = absurd (omega (arith, h))
cut_within (suc most) (n ∷ rest) h none = elim (cases_lt (length rest) n) [
  | inl less ↦ ([], n, rest, refl, less)
  | inr fits ↦
      cut_before n rest fits
      (cut_within most (drop n rest) (omega (arith, h, length-drop n rest))
      (λ are. none (string_before n rest fits are)))
]

pub cut_string : (bytes : List ℕ) → (AreStrings bytes → ⊥) → HasCutString bytes
cut_string bytes none = cut_within (length bytes) bytes (omega arith) none

-- ---- addresses

-- octets of an address's length are one
pub some_address4 : (bytes : List ℕ) → length bytes ≡ 4 → (value : RDataValue) × IsAddress4 bytes value
some_address4 (a ∷ b ∷ c ∷ d ∷ []) e =
    let address : Ipv4Address = record { a = a; b = b; c = c; d = d } in
    (address4 address, record { address = address; len = refl; octets = refl; is = refl })
some_address4 [] e = cc e
some_address4 (a ∷ []) e = cc e
some_address4 (a ∷ b ∷ []) e = cc e
some_address4 (a ∷ b ∷ c ∷ []) e = cc e
some_address4 (a ∷ b ∷ c ∷ d ∷ f ∷ more) e = absurd (omega (arith, e))

pub some_address6 : (bytes : List ℕ) → length bytes ≡ 16 → (value : RDataValue) × IsAddress6 bytes value
some_address6 bytes e =
    let address : Ipv6Address = record { octets = bytes; whole = e } in
    (address6 address, record { address = address; len = e; octets = refl; is = refl })

-- ---- names

pub behind_refused : (len : ℕ) (bytes : List ℕ) (why : DataRefusal) → len ≤ length bytes
    → RefusesName (drop len bytes) why → RefusesBehind len bytes why
behind_refused len bytes (DataRefusal.Address n) fits is = absurd is
behind_refused len bytes DataRefusal.Numbers fits is = absurd is
behind_refused len bytes (DataRefusal.Name why) fits is = (fits, is)
behind_refused len bytes DataRefusal.BehindName fits is = (fits, is)
behind_refused len bytes (DataRefusal.SecondName why) fits is = absurd is
behind_refused len bytes DataRefusal.Times fits is = absurd is
behind_refused len bytes DataRefusal.NoString fits is = absurd is
behind_refused len bytes DataRefusal.String fits is = absurd is
behind_refused len bytes DataRefusal.Types fits is = absurd is

-- two names and twenty bytes are data of a zone
pub some_authority : (bytes primary behind mailbox after : List ℕ) → IsSplit bytes primary behind
    → IsSplit behind mailbox after → length after ≡ 20 → (value : RDataValue) × IsAuthority bytes value
some_authority bytes primary behind mailbox after first second len = (
  authority (record {
    primary = primary;
    mailbox = mailbox;
    serial = number_of serial_field after;
    refresh = number_of refresh_field after;
    retry = number_of retry_field after;
    expire = number_of expire_field after;
    minimum = number_of minimum_field after;
  }),
  record {
    primary = primary;
    mailbox = mailbox;
    after = after;
    primary_is = first.name_is;
    mailbox_is = second.name_is;
    whole = first.whole ∙ ap (λ (rest : List ℕ). primary ++ rest) second.whole;
    len = len;
    is = refl;
  },
)

-- ---- layouts

pub laid_out_at : (l m : Layout) (bytes : List ℕ) (value : RDataValue) → l ≡ m → IsLaidOut m bytes value
    → IsLaidOut l bytes value
laid_out_at l m bytes value e is = subst (λ (x : Layout). IsLaidOut x bytes value) (sym e) is

pub refused_at : (l m : Layout) (bytes : List ℕ) (why : DataRefusal) → l ≡ m → RefusesLayout m bytes why
    → RefusesLayout l bytes why
refused_at l m bytes why e is = subst (λ (x : Layout). RefusesLayout x bytes why) (sym e) is
