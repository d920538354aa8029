-- What is written, followed by the printed text of the addresses that are left, is the printed text of all.
use Rattle.dhcp_wire.proofs.Words.{◌++◌, ◌≡◌, HasWritten, IsPlainFormatter, List, ℕ, address_text, addresses_in, codes}
use Rattle.dhcp_wire.proofs.Words.{flat_map}
use Rattle.dhcp_wire.proofs.dhcpv4.option_printing.fmt_more_addresses.Given as goal

abbrev pub invariant-loop-address : goal.invariant-loop-address
invariant-loop-address g l =
    IsPlainFormatter l.fn.f → (done : List ℕ) × HasWritten g.W.Write.write_str_gives l.fn.f done l.f
    × (done ++ flat_map (λ next. codes "," ++ address_text next) l.address-iterator
    ≡ flat_map (λ next. codes "," ++ address_text next) (addresses_in l.octets))
