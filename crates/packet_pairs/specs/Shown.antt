-- What is printed of an answer, and of a question that has none.
use Rattle.std.specs.Prelude.{◌/◌, ◌%◌, [], ◌∷◌, ◌++◌, List, None, Option, Some, codes, decimal, ℕ}
use Rattle.dns_wire.specs.DnsDisplay.{type_display}
use Rattle.record_wire.specs.Name.{labels_of}
use Rattle.record_wire.specs.ZoneText.{whole_name}
use Rattle.wirebase.specs.Duration.{three_digits}
use Rattle.wirebase.specs.Ethernet.{octets_of}
use Rattle.wirebase.specs.HardwareAddress.{ethernet_of}
use Rattle.wirebase.specs.declared.ethernet.EthernetAddress.{EthernetAddress}
use Rattle.wirebase.specs.Hexadecimal.{hex_colons}
use Rattle.wirebase.specs.Ipv4.{address_text as address_text4}
use Rattle.wirebase.specs.Ipv6Address.{address_text}
use Rattle.packet_fields.specs.Fields.{Item, Leaf, field, number, text}
use Rattle.packet_fields.specs.declared.form.Form.{Form}
use Rattle.packet_fields.specs.declared.form.Form.TheVariants.{Lines, Json}
use Rattle.packet_pairs.specs.Pairs.{key_in}
use Rattle.packet_pairs.specs.Types.{Addresses, Answered, Asked, EchoKey, Key, LeaseKey, NameKey, NeighborKey}
use Rattle.packet_pairs.specs.Types.{NetbiosKey}
use Rattle.packet_pairs.specs.Types.{Reply, Service}

-- ---- an answer

-- nanoseconds as milliseconds, with three digits behind the dot
abbrev pub milliseconds_text : ℕ → List ℕ
milliseconds_text nanoseconds =
    decimal (nanoseconds / 1000000) ++ (codes "." ++ (three_digits (nanoseconds / 1000 % 1000) ++ codes "ms"))

-- the time from a question to its answer, where it is known; in JSON the nanoseconds
abbrev pub after_items : Form → Option ℕ → List Item
after_items form None = []
after_items Lines (Some nanoseconds) = field (codes "after") (text (milliseconds_text nanoseconds)) ∷ []
after_items Json (Some nanoseconds) = field (codes "after_ns") (number nanoseconds) ∷ []

-- the number of the question's packet, and that time
abbrev pub answered_items : Form → Answered → List Item
answered_items form a = field (codes "answers") (number a.number) ∷ after_items form a.after

-- ---- a question

abbrev pub one : List ℕ → Leaf → List Item
one key value = field key value ∷ []

abbrev pub kind_items : List ℕ → List Item
kind_items kind = one (codes "kind") (text kind)

-- the asker, and who is asked; only the asker where anyone may answer
abbrev pub asker_items : Addresses → List Item
asker_items (Addresses.V4 asker answerer) = one (codes "src_addr") (text (address_text4 asker))
asker_items (Addresses.V6 asker answerer) = one (codes "src_addr") (text (address_text asker))

abbrev pub answerer_items : Addresses → List Item
answerer_items (Addresses.V4 asker answerer) = one (codes "dst_addr") (text (address_text4 answerer))
answerer_items (Addresses.V6 asker answerer) = one (codes "dst_addr") (text (address_text answerer))

abbrev pub unless_many : Service → Addresses → List Item
unless_many Service.Dns addresses = answerer_items addresses
unless_many _ addresses = []

abbrev pub service_items : Service → List Item
service_items Service.Dns = kind_items (codes "dns")
service_items Service.Mdns = kind_items (codes "mdns")
service_items Service.Llmnr = kind_items (codes "llmnr")
service_items Service.Nbns = kind_items (codes "nbns")
service_items Service.Dhcp = kind_items (codes "dhcp")

abbrev pub name_items : NameKey → List Item
name_items k =
    service_items k.service ++ asker_items k.way.addresses ++ unless_many k.service k.way.addresses
    ++ one (codes "name") (text (whole_name (labels_of k.name)))
    ++ one (codes "type") (text (type_display k.type_))

abbrev pub netbios_items : NetbiosKey → List Item
netbios_items k =
    kind_items (codes "nbns") ++ asker_items k.way.addresses
    ++ one (codes "transaction_id") (number k.transaction_id)

abbrev pub echo_items : EchoKey → List Item
echo_items k =
    kind_items (codes "echo") ++ asker_items k.addresses ++ answerer_items k.addresses
    ++ one (codes "ident") (number k.ident)
    ++ one (codes "seq_no") (number k.seq_no)

abbrev pub neighbor_items : NeighborKey → List Item
neighbor_items k =
    kind_items (codes "neighbor") ++ one (codes "src_addr") (text (address_text k.asker))
    ++ one (codes "target_addr") (text (address_text k.target))

abbrev pub client_items : EthernetAddress → List Item
client_items client = one (codes "client_hardware_address") (text (hex_colons (octets_of (ethernet_of client))))

abbrev pub reply_items : Reply → List Item
reply_items Reply.Offer = one (codes "awaits") (text (codes "offer"))
reply_items Reply.Decision = one (codes "awaits") (text (codes "ack"))

abbrev pub lease_items : LeaseKey → List Item
lease_items k =
    kind_items (codes "dhcp") ++ client_items k.client ++ one (codes "transaction_id") (number k.transaction_id)
    ++ reply_items k.reply

abbrev pub key_items : Key → List Item
key_items (Key.Name k) = name_items k
key_items (Key.Netbios k) = netbios_items k
key_items (Key.Echo k) = echo_items k
key_items (Key.Neighbor k) = neighbor_items k
key_items (Key.Lease k) = lease_items k

-- the number of its packet, what it is, and how often it was asked
abbrev pub asked_items : Asked → List Item
asked_items q =
    one (codes "question") (number q.number) ++ key_items (key_in q) ++ one (codes "tries") (number q.tries)
