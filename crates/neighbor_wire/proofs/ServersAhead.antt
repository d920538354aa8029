-- The addresses of DNS servers in turn: they are what is computed, and that alone; and addresses as they are written.
use Rattle.std.proofs.Common.{◌≡◌, ℕ, zero, suc, ◌+◌, ◌*◌, ◌/◌, ◌-◌, ◌≤◌, ◌<◌, List, [], ◌∷◌, ◌++◌, length, take, drop}
use Rattle.std.proofs.Common.{refl, sym, ap, ◌∙◌, arith, length-append}
use Rattle.std.specs.Prelude.{map}
use Rattle.std.specs.List.{AllByRecursion, concat}
use Rattle.std.proofs.Math.Seq.{take-add}
use Rattle.std.proofs.lemmas.List.{length-take-le, length-drop}
use Rattle.wirebase.specs.Bytes.{over}
use Rattle.wirebase.specs.ByteWriter.{fields}
use Rattle.wirebase.specs.Ipv6Address.{octets_of}
use Rattle.wirebase.specs.declared.ipv6.address.Ipv6Address.{Ipv6Address}
use Rattle.wirebase.proofs.Pieces.{over-exact}
use Rattle.neighbor_wire.specs.Servers.{AreServers, servers_ahead, servers_in}

length-servers : (n : ℕ) (bytes : List ℕ) → length (servers_ahead n bytes) ≡ n
unfolding servers_ahead
length-servers zero bytes = refl
length-servers (suc n) bytes = ap (λ (k : ℕ). suc k) (length-servers n (drop 16 bytes))

each_server : (n : ℕ) (bytes : List ℕ) → 16 * n ≤ length bytes
    → AllByRecursion (λ (server : List ℕ). length server ≡ 16) (servers_ahead n bytes)
unfolding servers_ahead
each_server zero bytes room = tt
each_server (suc n) bytes room = (
  length-take-le 16 bytes (omega (arith, room)),
  each_server n (drop 16 bytes) (omega (arith, room, length-drop 16 bytes)),
)

whole_servers : (n : ℕ) (bytes : List ℕ) → concat (servers_ahead n bytes) ≡ take (16 * n) bytes
unfolding servers_ahead
whole_servers zero bytes = refl
whole_servers (suc n) bytes =
    let more = ap (λ (l : List ℕ). take 16 bytes ++ l) (whole_servers n (drop 16 bytes)) in
    let count : 16 + 16 * n ≡ 16 * suc n = omega arith in
    more ∙ sym (take-add 16 (16 * n) bytes) ∙ ap (λ (k : ℕ). take k bytes) count

-- those of some bytes
pub servers_of : (bytes : List ℕ) → AreServers bytes (servers_in bytes)
servers_of bytes =
    let n : ℕ = length bytes / 16 in
    record {
      number = length-servers n bytes;
      each = each_server n bytes (omega arith);
      whole = whole_servers n bytes ∙ ap (λ (k : ℕ). take (16 * k) bytes) (sym (length-servers n bytes));
    }

-- what a call of `next` gives
pub server_ahead : (bytes rest : List ℕ) → 16 ≤ length bytes → rest ≡ drop 16 bytes
    → servers_in bytes ≡ take 16 bytes ∷ servers_in rest
unfolding servers_ahead
server_ahead bytes rest room e =
    let shorter : length rest ≡ length bytes - 16 = ap (λ (l : List ℕ). length l) e ∙ length-drop 16 bytes in
    let number : length bytes / 16 ≡ suc (length rest / 16) = omega (arith, room, shorter) in
    ap (λ (k : ℕ). servers_ahead k bytes) number
    ∙ ap (λ (l : List ℕ). take 16 bytes ∷ servers_ahead (length rest / 16) l) (sym e)

pub no_server_ahead : (bytes : List ℕ) → length bytes < 16 → servers_in bytes ≡ []
unfolding servers_ahead
no_server_ahead bytes few =
    let none : length bytes / 16 ≡ 0 = omega (arith, few) in ap (λ (k : ℕ). servers_ahead k bytes) none

-- ---- written

length-addresses : (xs : List Ipv6Address) → length (concat (map octets_of xs)) ≡ 16 * length xs
length-addresses [] = refl
length-addresses (x ∷ xs) =
    omega (arith, length-append (octets_of x) (concat (map octets_of xs)), x.whole, length-addresses xs)

fields-concat : (fs : List (List ℕ)) → fields fs ≡ concat fs
unfolding fields
fields-concat [] = refl
fields-concat (f ∷ fs) = ap (λ (l : List ℕ). f ++ l) (fields-concat fs)

-- addresses that are written into as many bytes
pub written_addresses : (xs : List Ipv6Address) (old : List ℕ) → length old ≡ 16 * length xs
    → over old (fields (map octets_of xs)) ≡ concat (map octets_of xs)
written_addresses xs old long =
    let same = fields-concat (map octets_of xs) in
    over-exact old (fields (map octets_of xs))
    (long ∙ sym (length-addresses xs) ∙ ap (λ (l : List ℕ). length l) (sym same))
    ∙ same
