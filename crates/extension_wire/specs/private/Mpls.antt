-- The entries of a stack as they are computed, which the iterator's model needs.
use Rattle.std.specs.Prelude.{ℕ, zero, suc, ◌/◌, ◌%◌, ◌==◌, List, [], ◌∷◌, length, take, drop}
use Rattle.byteorder.specs.Endian.{big_number}
use Rattle.extension_wire.specs.declared.mpls.LabelEntry.{LabelEntry}

abbrev pub entry_of : ℕ → LabelEntry
entry_of n =
    record {
      label = n / 0x1000;
      traffic_class = n / 0x200 % 8;
      bottom = n / 0x100 % 2 == 1;
      ttl = n % 0x100;
    }

-- a given number of entries
unfoldable pub entries_ahead : ℕ → List ℕ → List LabelEntry
entries_ahead zero bytes = []
entries_ahead (suc n) bytes = entry_of (big_number 4 (take 4 bytes)) ∷ entries_ahead n (drop 4 bytes)

-- those that the bytes hold whole
abbrev pub entries_in : List ℕ → List LabelEntry
entries_in bytes = entries_ahead (length bytes / 4) bytes
