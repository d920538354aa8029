-- The sums of keys. Keys that are equal have the same sum.
use Rattle.std.specs.Prelude.{◌+◌, ◌*◌, ◌%◌, ◌^◌, [], ◌∷◌, List, slice_index, ℕ}
use Rattle.std.specs.Int.{from_be_bytes, w32}
use Rattle.wirebase.specs.Ipv4.{octets_of}
use Rattle.wirebase.specs.Ipv6Address.{octets_of as octets_of6}
use Rattle.packet_pairs.specs.Key.{KeyValue, echo, key_of, lease, name, neighbor, netbios}
use Rattle.packet_pairs.specs.Types.{Addresses, Asked, Way}

-- one number more mixed into a sum
unfoldable pub mix : ℕ → ℕ → ℕ
mix sum number = (sum * 2654435761 % 2 ^ 32 + number) % 2 ^ 32

-- two numbers of 16 bits as one
unfoldable pub pair : ℕ → ℕ → ℕ
pair high low = high * 65536 + low

-- four octets as a number, and the last four of sixteen
unfoldable pub number_of : List ℕ → ℕ
number_of octets = from_be_bytes w32 octets

unfoldable pub tail_of : List ℕ → ℕ
tail_of octets =
    number_of
    (slice_index octets 12 ∷ slice_index octets 13 ∷ slice_index octets 14 ∷ slice_index octets 15 ∷ [])

abbrev pub mix_addresses : ℕ → Addresses → ℕ
mix_addresses sum (Addresses.V4 asker answerer) =
    mix (mix sum (number_of (octets_of asker))) (number_of (octets_of answerer))
mix_addresses sum (Addresses.V6 asker answerer) =
    mix (mix sum (tail_of (octets_of6 asker))) (tail_of (octets_of6 answerer))

abbrev pub mix_way : ℕ → Way → ℕ
mix_way sum w = mix_addresses (mix sum (pair w.asker_port w.answerer_port)) w.addresses

abbrev pub sum_of : KeyValue → ℕ
sum_of (name k) = mix_way k.id k.way
sum_of (netbios w id) = mix_way id w
sum_of (echo addresses ident seq_no) = mix_addresses (pair ident seq_no) addresses
sum_of (neighbor asker target) = mix (tail_of asker) (tail_of target)
sum_of (lease reply id client) = id

-- that of the key of a question
abbrev pub sum_in : Asked → ℕ
sum_in q = sum_of (key_of q.key)
