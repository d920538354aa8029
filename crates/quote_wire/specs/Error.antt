-- Errors of ICMPv4 (RFC 792) and of ICMPv6 (RFC 4443 section 3), with the bytes that they quote of the datagram that
-- they are about: from its header on, whole or cut short.
--
--  0                   1                   2                   3
--  0 1 2 3 4 5 6 7 8 9 0 1 2 3 4 5 6 7 8 9 0 1 2 3 4 5 6 7 8 9 0 1
-- +---------------+---------------+-------------------------------+
-- |     type      |     code      |           checksum            |
-- +---------------+---------------+-------------------------------+
-- |      by the type: zero, an address, a pointer or an MTU       |
-- +---------------------------------------------------------------+
-- | what is quoted
-- +- - - -
use Rattle.std.specs.Prelude.{◌≡◌, ◌≢◌, ◌⊎◌, ℕ, ◌+◌, ◌<◌, ◌^◌, true, min, List, [], ◌∷◌, length, take}
use Rattle.std.specs.Prelude.{Option, None, Some, codes, decimal}
use Rattle.wirebase.specs.declared.capabilities.Checksum.{Checksum}
use Rattle.wirebase.specs.Bytes.{Field, field, Reaches, byte_of, number_of, over}
use Rattle.wirebase.specs.ByteWriter.{be8, be16, be32, fields}
use Rattle.wirebase.specs.Capabilities.{is_verified, is_computed, sealed_where}
use Rattle.wirebase.specs.Checks.{Check, check, Passes, Fails}
use Rattle.wirebase.specs.Checksum.{IsGood}
use Rattle.wirebase.specs.Display.{pieces}
use Rattle.wirebase.specs.Format.{Format, RoundTrips}
use Rattle.wirebase.specs.Icmp.{type_field, code_field, checksum_field, header, data_in}
use Rattle.quote_wire.specs.declared.error.Refusal.{Refusal}
use Rattle.quote_wire.specs.declared.quote.refusal.Refusal.{Refusal as QuoteRefusal}
use Rattle.quote_wire.specs.Quote.{refusal_display as quote_display}

-- the errors of one protocol: the numbers of their types, what they may quote, why other octets are no quote, how many
-- bytes they quote, who takes care of the checksum, and the sum of the pseudo header of an error of this many bytes
pub record Protocol (K : Type 0) : Type 1 where
  pub number : K → ℕ
  pub IsQuoted : List ℕ → Type 0
  pub RefusesQuote : List ℕ → QuoteRefusal → Type 0
  pub most : ℕ
  pub checksum : Checksum
  pub extra : ℕ → ℕ

-- an error by its content
pub record ErrorValue (K : Type 0) : Type 0 where
  pub kind : K
  pub code : ℕ
  pub rest : ℕ
  pub quoted : List ℕ

-- the four bytes after the checksum
abbrev pub rest_field : Field
rest_field = field 4 8

-- the fields of an error of this type, with the checksum zero
abbrev pub error_fields : ℕ → ℕ → ℕ → List ℕ → List (List ℕ)
error_fields t code rest quoted = be8 t ∷ be8 code ∷ be16 0 ∷ be32 rest ∷ quoted ∷ []

-- the type is that of an error
module _ {K : Type 0} (number : K → ℕ) where
  abbrev pub HasErrorType : List ℕ → Type 0
  HasErrorType bytes = (kind : K) × (byte_of type_field bytes ≡ number kind)

module _ {K : Type 0} (p : Protocol K) where
  -- its text: it quotes as much as it may
  abbrev pub text : ErrorValue K → List ℕ
  text v = fields (error_fields (p.number v.kind) v.code v.rest (take p.most v.quoted))

  -- the bytes that it takes
  abbrev pub text_len : ErrorValue K → ℕ
  text_len v = 8 + min (length v.quoted) p.most

  -- the octets with their checksum, where it is computed
  abbrev pub seal : List ℕ → List ℕ
  seal bytes = sealed_where p.checksum checksum_field bytes (p.extra (length bytes))

  -- the packet of an error, and the octets that it was written over
  abbrev pub packet_text : ErrorValue K → List ℕ
  packet_text v = seal (text v)

  abbrev pub emitted : ErrorValue K → List ℕ → List ℕ
  emitted v old = seal (over old (text v))

  -- the checks of the header, in their order: it is there, its checksum is good where it is verified, and its type is
  -- that of an error
  abbrev pub header_checks : List ℕ → List (Check Refusal)
  header_checks bytes =
      check (Reaches header bytes) Refusal.Short
      ∷ check (is_verified p.checksum ≡ true → IsGood bytes (p.extra (length bytes))) Refusal.Checksum
      ∷ check (HasErrorType p.number bytes) (Refusal.UnknownType (byte_of type_field bytes))
      ∷ []

  -- The grammar: the header passes its checks, and what follows it is quoted.
  pub record IsError (bytes : List ℕ) (v : ErrorValue K) : Type 0 where
    pub passes : Passes (header_checks bytes)
    pub kind : byte_of type_field bytes ≡ p.number v.kind
    pub code : byte_of code_field bytes ≡ v.code
    pub rest : number_of rest_field bytes ≡ v.rest
    pub quoted : data_in bytes ≡ v.quoted
    pub quotes : p.IsQuoted v.quoted

  -- the octets are some error
  abbrev pub IsRead : List ℕ → Type 0
  IsRead bytes = (v : ErrorValue K) × IsError bytes v

  -- why octets are no error: a check of the header fails, or they all hold and what follows it is no quote
  abbrev pub Refuses : List ℕ → Refusal → Type 0
  Refuses bytes why =
      Fails (header_checks bytes) why
      ⊎ (Passes (header_checks bytes)
      × (reason : QuoteRefusal) × p.RefusesQuote (data_in bytes) reason × (why ≡ Refusal.Quote reason))

  -- a value that its own text gives back, in normal form
  pub record IsCanonical (v : ErrorValue K) : Type 0 where
    pub code : v.code < 2 ^ 8
    pub rest : v.rest < 2 ^ 32
    pub quotes : p.IsQuoted v.quoted

  -- the normal form: what is quoted is cut to what an error may quote
  abbrev pub norm : ErrorValue K → ErrorValue K
  norm v = record v { quoted = take p.most v.quoted }

  -- the checksum is filled where it is verified
  abbrev pub Fills : Type 0
  Fills = p.checksum ≢ Checksum.Rx

  -- the format; no value is an exception, and one that quotes more than it may is cut
  abbrev pub format : Format (ErrorValue K)
  format = record {
    Reads = IsError;
    Fills = Fills;
    text = packet_text;
    IsCanonical = IsCanonical;
    IsException = λ v. ⊥;
    norm = norm;
    IsCut = λ v. p.most < length v.quoted;
  }

  -- The octets after an error is written over `old`. Where they have just the error's length, its packet is all that is
  -- left, and a canonical value is read back in it as its normal form. Where the checksum is computed, it is good in
  -- octets of any length.
  pub record Emits (v : ErrorValue K) (old new : List ℕ) : Type 0 where
    pub written : new ≡ emitted v old
    pub exact : length old ≡ text_len v → new ≡ packet_text v
    pub good : is_computed p.checksum ≡ true → IsGood new (p.extra (length new))
    pub reads_back : length old ≡ text_len v → Fills → IsCanonical v → IsError new (norm v)
    pub round_trips : RoundTrips format v

-- what the next link's MTU and the place of what is wrong print where an error tells them: nothing where it does not
unfoldable pub mtu_display : Option ℕ → List ℕ
mtu_display None = []
mtu_display (Some mtu) = pieces (codes " mtu=" ∷ decimal mtu ∷ [])

unfoldable pub pointer_display : Option ℕ → List ℕ
pointer_display None = []
pointer_display (Some place) = pieces (codes " pointer=" ∷ decimal place ∷ [])

-- what a reason prints
abbrev pub refusal_display : Refusal → List ℕ
refusal_display Refusal.Short = codes "fewer than 8 bytes"
refusal_display Refusal.Checksum = codes "the checksum does not hold"
refusal_display (Refusal.UnknownType t) = pieces (codes "type " ∷ decimal t ∷ codes " is not that of an error" ∷ [])
refusal_display (Refusal.Quote why) = quote_display why
