-- Messages one after another, each behind its length.
use Rattle.frame_wire.proofs.Words.{◌≡◌, ◌≢◌, ◌+◌, ◌*◌, ◌/◌, ◌%◌, ◌≤◌, ◌<◌, ◌∙◌, [], ◌∷◌, ◌++◌, List, Some, ℕ, ap}
use Rattle.frame_wire.proofs.Words.{arith, drop, drop_at, field, if◌then◌else◌, length, length-append}
use Rattle.frame_wire.proofs.Words.{number_of, part, refl, subst, suc, sym, take, take_at, zero}
use Rattle.std.proofs.lemmas.Bool.{le-leb, lt-leb}
use Rattle.std.proofs.lemmas.List.{append_cancel_left, length-take-le, take-append-drop}
use Rattle.std.specs.Borrow.{Bor}
use Rattle.std.specs.Iterator.{MakesProgress, at_most}
use Rattle.std.specs.List.{AllByRecursion}
use Rattle.std.specs.Prelude.{nat_le}
use Rattle.wirebase.specs.Bytes.{IsBytes}
unfoldable use Rattle.wirebase.specs.ByteWriter.{be16}
use Rattle.frame_wire.specs.TcpPrefixed.{AreMessages, IsMessage, IsPrefixed, messages_in}
unfoldable use Rattle.frame_wire.specs.TcpPrefixed.{messages_behind}

behind-drop : (n : ℕ) (bytes : List ℕ) → messages_behind n bytes ≡ messages_in (drop n bytes)
unfolding messages_behind
behind-drop zero bytes = refl
behind-drop (suc n) [] = refl
behind-drop (suc n) (x ∷ bytes) = behind-drop n bytes

-- ---- the message at the start

first_by : (n : ℕ) (message rest : List ℕ) → n ≡ length message
    → (if nat_le n (length (message ++ rest))
    then take n (message ++ rest) ∷ messages_behind n (message ++ rest) else [])
    ≡ message ∷ messages_in rest
first_by n message rest e = rw (
  le-leb n (length (message ++ rest)) (simp length-append (omega arith)),
  take_at message rest n (sym e),
  behind-drop n (message ++ rest),
  drop_at message rest n (sym e),
) refl

pub messages-first : (bytes message rest : List ℕ) → IsMessage bytes message rest
    → messages_in bytes ≡ message ∷ messages_in rest
unfolding messages_behind be16
messages-first bytes message rest is = rw is.whole (first_by _ message rest (omega (arith, is.fits)))

whole_by : (a b n : ℕ) (message rest bytes : List ℕ) → length message ≡ n → n / 256 % 256 ≡ a → n % 256 ≡ b
    → message ++ rest ≡ bytes → a ∷ b ∷ bytes ≡ be16 (length message) ++ (message ++ rest)
unfolding be16
whole_by a b n message rest bytes there high low both = rw (there, high, low, both) refl

-- the message that the length tells
pub message_here : (bytes : List ℕ) (n : ℕ) → IsBytes bytes → n ≡ number_of (field 0 2) bytes → 2 + n ≤ length bytes
    → IsMessage bytes (take n (drop 2 bytes)) (drop (2 + n) bytes)
unfolding be16 part
message_here [] n are e long = absurd (omega (arith, long))
message_here (a ∷ []) n are e long = absurd (omega (arith, long))
message_here (a ∷ b ∷ bytes) n are e long =
    let there : length (take n bytes) ≡ n = length-take-le n bytes (omega (arith, long)) in
    let high : n / 256 % 256 ≡ a = omega (arith, are 0, are 1, e) in
    let far : 2 + n ≡ suc (suc n) = omega arith in
    let low : n % 256 ≡ b = omega (arith, are 0, are 1, e) in
    record {
      fits = omega (arith, are 0, are 1, e, there);
      whole = rw far (whole_by a b n (take n bytes) (drop n bytes) bytes there high low (take-append-drop n bytes));
    }

pub messages-short : (bytes : List ℕ) → length bytes < 2 → messages_in bytes ≡ []
unfolding messages_behind
messages-short [] short = refl
messages-short (a ∷ []) short = refl
messages-short (a ∷ b ∷ bytes) short = absurd (omega (arith, short))

pub messages-cut : (bytes : List ℕ) → length bytes < 2 + number_of (field 0 2) bytes → messages_in bytes ≡ []
unfolding messages_behind part
messages-cut [] cut = refl
messages-cut (a ∷ []) cut = refl
messages-cut (a ∷ b ∷ bytes) cut = rw (lt-leb (256 * a + b) (length bytes) (omega (arith, cut))) refl

-- ---- all messages

pub messages-one : (bytes : List ℕ) (messages : List (List ℕ)) → AreMessages bytes messages
    → messages ≡ messages_in bytes
unfolding messages_behind
messages-one bytes [] none = ap messages_in (sym none)
messages-one bytes (message ∷ messages) (rest, is, more) =
    ap (λ those. message ∷ those) (messages-one rest messages more) ∙ sym (messages-first bytes message rest is)

-- the bytes are the messages that are computed, each of at least so many bytes
abbrev pub AreLong : ℕ → List ℕ → List (List ℕ) → Type 0
AreLong least bytes messages = AllByRecursion (λ message. least ≤ length message) messages × AreMessages bytes messages

abbrev pub IsLong : ℕ → List ℕ → Type 0
IsLong least bytes = AreLong least bytes (messages_in bytes)

-- all bytes are such messages where those that are left are
pub record SoFar (least : ℕ) (bytes left : List ℕ) : Type 0 where
  pub forth : IsLong least left → IsLong least bytes
  pub back : IsLong least bytes → IsLong least left

pub so_far-init : (least : ℕ) (bytes : List ℕ) → SoFar least bytes bytes
so_far-init least bytes = record { forth = λ is. is; back = λ is. is }

rest_one : (bytes message rest other : List ℕ) → IsMessage bytes message rest → IsMessage bytes message other
    → other ≡ rest
rest_one bytes message rest other is too =
    append_cancel_left message _ _ (append_cancel_left (be16 (length message)) _ _ (sym too.whole ∙ is.whole))

behind_first : (least : ℕ) (bytes message rest : List ℕ) → IsMessage bytes message rest
    → AreLong least bytes (message ∷ messages_in rest) → IsLong least rest
behind_first least bytes message rest is ((long, each), (other, too, more)) =
    (each, subst (λ l. AreMessages l (messages_in rest)) (rest_one bytes message rest other is too) more)

pub so_far-more : (least : ℕ) (bytes left message rest : List ℕ) → SoFar least bytes left
    → IsMessage left message rest → least ≤ length message → SoFar least bytes rest
so_far-more least bytes left message rest so is long =
    let first = messages-first left message rest is in
    record {
      forth = λ more. so.forth (subst (AreLong least left) (sym first) ((long, more.0), (rest, is, more.1)));
      back = λ all. behind_first least left message rest is (subst (AreLong least left) first (so.back all));
    }

none_are : (bytes : List ℕ) (messages : List (List ℕ)) → messages ≡ [] → AreMessages bytes messages → bytes ≡ []
none_are bytes [] none are = are
none_are bytes (message ∷ messages) none are = cc

are_long : (least : ℕ) (bytes : List ℕ) (messages : List (List ℕ)) → IsPrefixed least bytes messages
    → IsLong least bytes
are_long least bytes messages is =
    subst (AreLong least bytes) (messages-one bytes messages is.are) (is.each, is.are)

-- no bytes are left
pub so_far-last : (least : ℕ) (bytes left : List ℕ) → SoFar least bytes left → left ≡ [] → bytes ≢ []
    → IsPrefixed least bytes (messages_in bytes)
unfolding messages_behind
so_far-last least bytes left so none some =
    let all = so.forth (subst (IsLong least) (sym none) (tt, refl)) in
    record { some = λ nothing. some (none_are bytes (messages_in bytes) nothing all.1); each = all.0; are = all.1 }

-- no whole message is next
pub so_far-torn : (least : ℕ) (bytes left : List ℕ) (messages : List (List ℕ)) → SoFar least bytes left → left ≢ []
    → messages_in left ≡ [] → IsPrefixed least bytes messages → ⊥
so_far-torn least bytes left messages so some none is =
    some (none_are left (messages_in left) none (so.back (are_long least bytes messages is)).1)

-- the next message is too short
pub so_far-low : (least : ℕ) (bytes left message rest : List ℕ) (messages : List (List ℕ)) → SoFar least bytes left
    → IsMessage left message rest → length message < least → IsPrefixed least bytes messages → ⊥
so_far-low least bytes left message rest messages so is low all =
    let next = subst (AreLong least left) (messages-first left message rest is)
    (so.back (are_long least bytes messages all)) in
    omega (arith, next.0.0, low)

-- no messages are in no bytes
pub none_prefixed : (least : ℕ) (bytes : List ℕ) (messages : List (List ℕ)) → bytes ≡ []
    → IsPrefixed least bytes messages → ⊥
unfolding messages_behind
none_prefixed least bytes messages none is =
    is.some (messages-one bytes messages is.are ∙ ap messages_in none)

pub message_fewer : (bytes message rest : List ℕ) → IsMessage bytes message rest → length rest < length bytes
unfolding be16
message_fewer bytes message rest is = omega (arith, ap length is.whole, length-append message rest)

pub message-progress : (old new : List (List ℕ)) (message : Bor (List ℕ)) → old ≡ message.now ∷ new
    → MakesProgress {S = List (List ℕ)} {A = Bor (List ℕ)} (λ _. Unit {0}) (λ those. at_most (length those)) old
    (Some message) new
message-progress old new message e =
    let fewer : length new < length old = omega (arith, ap length e) in
    record { on = λ _. (tt, tt, fewer); keeps = tt; rests = λ _. tt }
