-- Messages one after another, each behind its length in two bytes, as DNS has them over TCP (RFC 1035 section 4.2.2).
--
-- +-------------------------------+- - - - - - - - - - - - - - - -
-- |     length of the message     |  message
-- +-------------------------------+- - - - - - - - - - - - - - - -
use Rattle.std.specs.Prelude.{◌≡◌, ◌≢◌, ◌+◌, ◌*◌, ◌^◌, ◌<◌, ◌≤◌, [], ◌∷◌, ◌++◌, List, None, Option, Some, ℕ}
use Rattle.std.specs.Prelude.{if◌then◌else◌, length, nat_le, suc, take, zero}
use Rattle.std.specs.Borrow.{Bor}
use Rattle.std.specs.List.{AllByRecursion}
use Rattle.wirebase.specs.ByteWriter.{be16}
use Rattle.frame_wire.specs.declared.tcp.prefixed.Prefixed.{Prefixed}

-- the bytes are a message behind its length, and a rest
pub record IsMessage (bytes message rest : List ℕ) : Type 0 where
  pub fits : length message < 2 ^ 16
  pub whole : bytes ≡ be16 (length message) ++ (message ++ rest)

-- the bytes are these messages
abbrev pub AreMessages : List ℕ → List (List ℕ) → Type 0
AreMessages bytes [] = bytes ≡ []
AreMessages bytes (message ∷ messages) = (rest : List ℕ) × IsMessage bytes message rest × AreMessages rest messages

-- The grammar: the bytes are one or more messages, each of at least so many bytes.
pub record IsPrefixed (least : ℕ) (bytes : List ℕ) (messages : List (List ℕ)) : Type 0 where
  pub some : messages ≢ []
  pub each : AllByRecursion (λ message. least ≤ length message) messages
  pub are : AreMessages bytes messages

-- a call of `next` returns the first message and removes it; where none is left it returns None, and none is left after
-- it
abbrev pub GivesMessage : List (List ℕ) → Option (Bor (List ℕ)) → List (List ℕ) → Type 0
GivesMessage old None new = (old ≡ []) × (new ≡ [])
GivesMessage old (Some message) new = old ≡ message.now ∷ new

-- ---- as they are computed

-- the messages behind so many bytes, up to one that is not whole
unfoldable pub messages_behind : ℕ → List ℕ → List (List ℕ)
messages_behind (suc n) [] = []
messages_behind (suc n) (x ∷ bytes) = messages_behind n bytes
messages_behind zero [] = []
messages_behind zero (high ∷ []) = []
messages_behind zero (high ∷ low ∷ bytes) =
    if nat_le (256 * high + low) (length bytes)
    then take (256 * high + low) bytes ∷ messages_behind (256 * high + low) bytes
    else []

abbrev pub messages_in : List ℕ → List (List ℕ)
messages_in bytes = messages_behind 0 bytes

abbrev pub messages_of : Prefixed → List (List ℕ)
messages_of p = messages_in p.octets.now
