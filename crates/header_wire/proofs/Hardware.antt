-- Addresses of Ethernet are equal where their octets are.
use Rattle.std.proofs.Common.{◌≡◌, ℕ, List, ap}
use Rattle.std.specs.Prelude.{slice_index}
use Rattle.wirebase.specs.Ethernet.{Ethernet, octets_of}

address_at : List ℕ → Ethernet
address_at octets = record {
  a = slice_index octets 0;
  b = slice_index octets 1;
  c = slice_index octets 2;
  d = slice_index octets 3;
  e = slice_index octets 4;
  f = slice_index octets 5;
}

pub same_hardware : (x y : Ethernet) → octets_of x ≡ octets_of y → x ≡ y
unfolding address_at
same_hardware x y e = ap address_at e
