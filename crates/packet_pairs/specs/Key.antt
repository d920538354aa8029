-- Which question an answer is to: a question and its answers have the same key.
use Rattle.std.specs.Prelude.{Bool, List, ℕ}
use Rattle.dns_wire.specs.declared.dns.tables.Type.{«Type» as RecordType}
use Rattle.record_wire.specs.Name.{labels_of}
use Rattle.record_wire.specs.NameCase.{lower_labels}
use Rattle.wirebase.specs.Ethernet.{octets_of as ethernet_octets}
use Rattle.wirebase.specs.HardwareAddress.{ethernet_of}
use Rattle.wirebase.specs.Ipv6Address.{octets_of as octets_of6}
use Rattle.packet_pairs.specs.Types.{Addresses, Key, NameKey, Reply, Service, Way}

-- ---- who asks whom

-- the addresses and the ports of a datagram the other way round
abbrev pub reversed : Addresses → Addresses
reversed (Addresses.V4 source destination) = Addresses.V4 destination source
reversed (Addresses.V6 source destination) = Addresses.V6 destination source

abbrev pub back : Way → Way
back w = record {
  addresses = reversed w.addresses;
  asker_port = w.answerer_port;
  answerer_port = w.asker_port;
}

-- the asker alone, in both places, where anyone may answer
abbrev pub asker_alone : Addresses → Addresses
asker_alone (Addresses.V4 asker answerer) = Addresses.V4 asker asker
asker_alone (Addresses.V6 asker answerer) = Addresses.V6 asker asker

abbrev pub to_anyone : Way → Way
to_anyone w = record {
  addresses = asker_alone w.addresses;
  asker_port = w.asker_port;
  answerer_port = w.answerer_port;
}

-- ---- keys by content

-- that of a question for a name; the labels are without regard to the case of ASCII letters
pub record NameValue : Type 0 where
  pub service : Service
  pub over_tcp : Bool
  pub way : Way
  pub id : ℕ
  pub labels : List (List ℕ)
  pub kind : RecordType
  pub class : ℕ

abbrev pub name_of : NameKey → NameValue
name_of k = record {
  service = k.service;
  over_tcp = k.over_tcp;
  way = k.way;
  id = k.transaction_id;
  labels = lower_labels (labels_of k.name);
  kind = k.type_;
  class = k.class;
}

pub data KeyValue : Type 0 where
  name : NameValue → KeyValue
  netbios : Way → ℕ → KeyValue
  echo : Addresses → ℕ → ℕ → KeyValue
  neighbor : List ℕ → List ℕ → KeyValue
  lease : Reply → ℕ → List ℕ → KeyValue

abbrev pub key_of : Key → KeyValue
key_of (Key.Name k) = name (name_of k)
key_of (Key.Netbios k) = netbios k.way k.transaction_id
key_of (Key.Echo k) = echo k.addresses k.ident k.seq_no
key_of (Key.Neighbor k) = neighbor (octets_of6 k.asker) (octets_of6 k.target)
key_of (Key.Lease k) = lease k.reply k.transaction_id (ethernet_octets (ethernet_of k.client))
