-- What messages print: their checksums, and their fields as far as they can be read.
use Rattle.std.specs.Prelude.{◌≡◌, [], ◌∷◌, ◌++◌, Bool, List, None, Option, Some, ℕ, codes, false, true}
use Rattle.packet_fields.specs.Fields.{Item, field, text}
use Rattle.packet_fields.specs.declared.form.Form.{Form}
use Rattle.packet_fields.specs.declared.form.Form.TheVariants.{Lines, Json}
use Rattle.message_fields.specs.Checksums.{MessageValue, HasState, icmp4, icmp6, igmp, state_text, tcp, udp}
use Rattle.dns_fields.specs.declared.kind.Kind.{Kind}
use Rattle.neighbor_fields.specs.HopByHop as hop_by_hop
use Rattle.message_fields.specs.Icmp.{Icmp4Is, Icmp6Is, IgmpIs}
use Rattle.message_fields.specs.Refusals.{cut_items, refused_items}
use Rattle.message_fields.specs.Udp.{DnsIs, UdpIs}
use Rattle.message_fields.specs.declared.message.ChecksumState.{ChecksumState}
use Rattle.message_fields.specs.declared.message.ChecksumState.TheVariants as state
use Rattle.message_fields.specs.declared.refusal.Refusal.{Refusal}
use Rattle.message_fields.specs.declared.refusal.Refusal.TheVariants as refusal

-- what a checksum says; in lines only where it does not hold
abbrev pub state_items : Form → ChecksumState → List Item
state_items Lines state.Bad = field (codes "checksum") (text (codes "bad")) ∷ []
state_items Lines _ = []
state_items Json s = field (codes "checksum") (text (state_text s)) ∷ []

-- the first of two reasons: that of the checksum, and that of the message
abbrev pub first_of : ChecksumState → Option Refusal → Option Refusal
first_of state.Bad told = Some refusal.Checksum
first_of _ told = told

-- the fields of a message, whole or cut, and why it is refused or read in part
abbrev pub BodyIs : Bool → MessageValue → List Item → Option Refusal → Type 0
BodyIs is_whole (icmp4 octets) = Icmp4Is is_whole octets
BodyIs is_whole (igmp octets) = IgmpIs octets
BodyIs is_whole (icmp6 source destination octets) = Icmp6Is is_whole source destination octets
BodyIs is_whole (udp service addresses octets) = UdpIs is_whole service octets
BodyIs is_whole (tcp addresses segment octets) = DnsIs Kind.Dns octets

-- the hop-by-hop options of a packet, where it has any
abbrev pub options_items : Option (List ℕ) → List Item
options_items None = []
options_items (Some octets) = hop_by_hop.options_items octets

-- whether a message of this checksum is refused
abbrev pub is_refused : Bool → ChecksumState → Bool
is_refused true state.Bad = true
is_refused is_strict s = false

-- A whole message: what its checksum says, and its fields; one whose checksum does not hold may be refused for that.
pub data MessageIs (form : Form) (is_strict : Bool) (m : MessageValue) (items : List Item) (why : Option Refusal)
    : Type 0 where
  refused : (s : ChecksumState) → HasState m s → is_refused is_strict s ≡ true
      → items ≡ refused_items refusal.Checksum → why ≡ Some refusal.Checksum → MessageIs form is_strict m items why
  shown : (s : ChecksumState) (body : List Item) (told : Option Refusal) → HasState m s
      → is_refused is_strict s ≡ false → BodyIs true m body told → items ≡ state_items form s ++ body
      → why ≡ first_of s told → MessageIs form is_strict m items why

-- a message of whose datagram so many bytes are missing
pub record CutIs (form : Form) (missing : ℕ) (m : MessageValue) (items : List Item) : Type 0 where
  pub body : List Item
  pub told : Option Refusal
  pub is : BodyIs false m body told
  pub items_are : items ≡ state_items form state.Unverified ++ cut_items missing ++ body
