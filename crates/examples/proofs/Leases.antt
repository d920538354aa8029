-- A client's messages can be written, and what a server's message says is one answer at the most.
use Rattle.std.proofs.Common.{◌≡◌, ℕ, ◌+◌, ◌-◌, ◌≤◌, List, [], ◌∷◌, ◌++◌, length, take, drop, Option, None, Some}
use Rattle.std.proofs.Common.{refl, sym, ap, ◌∙◌, arith, length-append, length-drop}
use Rattle.std.proofs.lemmas.List.{length-take-le, take_at, drop_at, drop-drop, append_assoc}
use Rattle.std.specs.Option.{IfSome, option_map, option_or}
use Rattle.control_wire.specs.ByteWriter.{be8}
use Rattle.control_wire.specs.Dhcpv4.{options_of, of_slot}
use Rattle.control_wire.specs.Dhcpv4Format.{AllShort, data_len, text_len}
use Rattle.control_wire.specs.Ipv4.{octets_of}
use Rattle.control_wire.specs.Ipv4AddressType.{Ipv4Address}
use Rattle.examples.specs.Lease.{ClientValue, listed, message_of}
use Rattle.examples.specs.declared.lease.Message.{Message}
use Rattle.examples.specs.declared.lease.Message.TheVariants as message

-- ---- what a client sends

list-short : (kinds : List ℕ) → length kinds ≤ 255 → AllShort (of_slot 55 (listed kinds) [] ++ [])
list-short [] few = tt
list-short (k ∷ kinds) few = (few, tt)

pub message-short : (client : ClientValue) (id : ℕ) (m : Message) → length client.requested ≤ 255
    → AllShort (options_of (message_of client id m))
unfolding be8
message-short client id message.Discover few = (omega arith, (omega arith, list-short client.requested few))
message-short client id (message.Select server address) few =
    (omega arith, (omega arith, (omega arith, (omega arith, list-short client.requested few))))
message-short client id (message.Reboot address) few =
    (omega arith, (omega arith, (omega arith, list-short client.requested few)))
message-short client id (message.Renew address) few = (omega arith, (omega arith, list-short client.requested few))
message-short client id (message.Rebind address) few = (omega arith, (omega arith, list-short client.requested few))
message-short client id (message.Decline server address) few =
    (omega arith, (omega arith, (omega arith, (omega arith, tt))))
message-short client id (message.Release server address) few = (omega arith, (omega arith, (omega arith, tt)))

list-len : (kinds : List ℕ) → length kinds ≤ 255 → data_len (listed kinds) ≤ 257
list-len [] few = omega arith
list-len (k ∷ kinds) few = omega (arith, few)

pub message-len : (client : ClientValue) (id : ℕ) (m : Message) → length client.requested ≤ 255
    → text_len (message_of client id m) ≤ 600
unfolding be8
message-len client id message.Discover few = omega (arith, list-len client.requested few)
message-len client id (message.Select server address) few = omega (arith, list-len client.requested few)
message-len client id (message.Reboot address) few = omega (arith, list-len client.requested few)
message-len client id (message.Renew address) few = omega (arith, list-len client.requested few)
message-len client id (message.Rebind address) few = omega (arith, list-len client.requested few)
message-len client id (message.Decline server address) few = omega arith
message-len client id (message.Release server address) few = omega arith

-- a text and another one, written to the start of these bytes
pub laid : (a z old : List ℕ) (len n : ℕ) → length a ≡ len → len ≤ n
    → take len (a ++ drop len old) ++ (z ++ drop (n - len) (drop len (a ++ drop len old))) ≡ (a ++ z) ++ drop n old
laid a z old len n e room =
    let k : len + (n - len) ≡ n = omega (arith, room) in
    ap (λ (l : List ℕ). l ++ (z ++ drop (n - len) (drop len (a ++ drop len old)))) (take_at a (drop len old) len e)
    ∙ ap (λ (l : List ℕ). a ++ (z ++ drop (n - len) l)) (drop_at a (drop len old) len e)
    ∙ ap (λ (l : List ℕ). a ++ (z ++ l)) (drop-drop (n - len) len old ∙ ap (λ (m : ℕ). drop m old) k)
    ∙ sym (append_assoc a z (drop n old))

pub part-len : (a old : List ℕ) (len n : ℕ) → length a ≡ len → len ≤ n → n ≤ length old
    → length (take (n - len) (drop len (a ++ drop len old))) ≡ n - len
part-len a old len n e room fits =
    length-take-le (n - len) (drop len (a ++ drop len old))
    (omega (
      arith,
      length-drop len (a ++ drop len old),
      length-append a (drop len old),
      length-drop len old,
      e,
      room,
      fits,
    ))

-- ---- what a server's message says

pub or-assoc : {A : Type 0} (a b c : Option A) → option_or a (option_or b c) ≡ option_or (option_or a b) c
or-assoc None b c = refl
or-assoc (Some x) b c = refl

pub or-none : {A : Type 0} (a : Option A) → option_or a None ≡ a
or-none None = refl
or-none (Some x) = refl

same-address : (x y : Ipv4Address) → octets_of x ≡ octets_of y → x ≡ y
same-address x y e =
    let a : x.a ≡ y.a = cc in
    let b : x.b ≡ y.b = cc in
    let c : x.c ≡ y.c = cc in
    let d : x.d ≡ y.d = cc in
    let one : x ≡ record { a = y.a; b = x.b; c = x.c; d = x.d } =
    ap (λ n. record { a = n; b = x.b; c = x.c; d = x.d }) a in
    let two : x ≡ record { a = y.a; b = y.b; c = x.c; d = x.d } =
    one ∙ ap (λ n. record { a = y.a; b = n; c = x.c; d = x.d }) b in
    let three : x ≡ record { a = y.a; b = y.b; c = y.c; d = x.d } =
    two ∙ ap (λ n. record { a = y.a; b = y.b; c = n; d = x.d }) c in
    three ∙ ap (λ n. record { a = y.a; b = y.b; c = y.c; d = n }) d

-- routers with equal octets are equal
pub same-router : (x y : Option Ipv4Address) → option_map octets_of x ≡ option_map octets_of y → x ≡ y
same-router None None e = refl
same-router None (Some y) e = absurd (cc)
same-router (Some x) None e = absurd (cc)
same-router (Some x) (Some y) e = let same : octets_of x ≡ octets_of y = cc in ap Some (same-address x y same)

pub if_some : {A : Type 0} {P Q : A → Type 0} → ((x : A) → P x → Q x) → (o : Option A) → IfSome o P → IfSome o Q
if_some f None h = tt
if_some f (Some x) h = f x h
