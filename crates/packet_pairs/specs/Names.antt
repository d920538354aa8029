-- Questions for names: of DNS (RFC 1035 section 4.1), over UDP or TCP, of LLMNR (RFC 4795 section 2.1), of multicast
-- DNS where the asker is a resolver that has no port of multicast DNS (RFC 6762 section 6.7), and of the NetBIOS name
-- service (RFC 1002 section 4.2).
use Rattle.std.specs.Prelude.{◌≡◌, ◌≢◌, ◌==◌, Bool, List, if◌then◌else◌, ℕ}
use Rattle.std.specs.Int.Bits.{bit_and}
use Rattle.wirebase.specs.Bytes.{Reaches, number_of}
use Rattle.dns_wire.specs.DnsPacket.{flags_field, flags_in, header, id_field, opcode_in, payload_in}
use Rattle.dns_wire.specs.DnsPacket.{question_count_field}
use Rattle.dns_wire.specs.DnsTables.{opcode_of}
use Rattle.dns_wire.specs.declared.dns.tables.Opcode.{Opcode}
use Rattle.record_wire.specs.Multicast.{class_of}
use Rattle.record_wire.specs.NameCase.{lower_labels}
use Rattle.record_wire.specs.Names.{Names}
use Rattle.record_wire.specs.Record.{IsQuestion, QuestionValue}
use Rattle.packet_pairs.specs.Exchange.{ExchangeValue, way_of}
use Rattle.packet_pairs.specs.Key.{name, netbios, to_anyone}
use Rattle.packet_pairs.specs.Types.{Role, Service, Way}

-- a message is a response where its flag says so
abbrev pub responds : ℕ → Bool
responds flags = bit_and flags 0x8000 == 0x8000

abbrev pub role_in : List ℕ → Role
role_in message = if responds (flags_in (number_of flags_field message)) then Role.Answers else Role.Asks

-- ---- DNS, LLMNR and multicast DNS

-- What a response has of its query is the number, the question, and the addresses and ports, exchanged (RFC 5452
-- section 9.1). A question of LLMNR or multicast DNS goes to a group, and is answered from the address of a member.
abbrev pub name_way : Service → Way → Way
name_way Service.Dns w = w
name_way _ w = to_anyone w

-- in multicast DNS the top bit of a question's class is a flag (RFC 6762 section 5.4)
abbrev pub question_class : Service → ℕ → ℕ
question_class Service.Mdns class = class_of class
question_class _ class = class

abbrev pub multicast_port : ℕ
multicast_port = 5353

-- The services whose responses repeat the question. In multicast DNS those to one resolver do, and it asks from another
-- port.
abbrev pub Repeats : Service → Way → Type 0
Repeats Service.Dns w = Unit {0}
Repeats Service.Llmnr w = Unit {0}
Repeats Service.Mdns w = w.asker_port ≢ multicast_port
Repeats _ w = ⊥

-- the one question of a message, with the labels of its name
pub record Asks (message : List ℕ) (q : QuestionValue) (labels : List (List ℕ)) : Type 0 where
  pub rest : List ℕ
  pub one : number_of question_count_field message ≡ 1
  pub is : IsQuestion (payload_in message) q rest
  pub names : Names message q.name labels

-- a message of such a service is this question or answer; `w` is its way, from its source
pub record IsName (service : Service) (over_tcp : Bool) (w : Way) (message : List ℕ) (e : ExchangeValue) : Type 0 where
  pub whole : Reaches header message
  pub repeats : Repeats service (way_of (role_in message) w)
  pub question : QuestionValue
  pub labels : List (List ℕ)
  pub asks : Asks message question labels
  pub is : e ≡ record {
    role = role_in message;
    key = name (record {
      service = service;
      over_tcp = over_tcp;
      way = name_way service (way_of (role_in message) w);
      id = number_of id_field message;
      labels = lower_labels labels;
      kind = question.kind;
      class = question_class service question.class;
    });
  }

-- ---- the NetBIOS name service

-- A response to a query for a name or for the state of a node has its number alone (RFC 1002 sections 4.2.13 and
-- 4.2.18), and a query may go to all nodes. Registrations and releases are not answered where nobody objects.
pub record IsNetbios (w : Way) (message : List ℕ) (e : ExchangeValue) : Type 0 where
  pub whole : Reaches header message
  pub query : opcode_of (opcode_in (number_of flags_field message)) ≡ Opcode.Query
  pub is : e ≡ record {
    role = role_in message;
    key = netbios (to_anyone (way_of (role_in message) w)) (number_of id_field message);
  }
