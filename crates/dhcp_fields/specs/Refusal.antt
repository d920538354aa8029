-- Why a packet can't be read whole.
use Rattle.std.specs.Prelude.{[], ◌∷◌, Err, List, None, Ok, Option, Some, ℕ, codes}
use Rattle.dhcp_wire.specs.Dhcpv4Refusal as packets
use Rattle.dhcp_wire.specs.declared.dhcpv4.refusal.Refusal.{Refusal as PacketRefusal}
use Rattle.dhcp_options.specs.Parts.{Answer}
use Rattle.dhcp_options.specs.PartsDisplay as options
use Rattle.packet_fields.specs.Fields.{Item, field, text}
use Rattle.dhcp_fields.specs.declared.refusal.Refusal.{Refusal}

-- what is wrong with the packet, in the words of the crates that read it
abbrev pub refusal_text : Refusal → List ℕ
refusal_text Refusal.Short = packets.refusal_display PacketRefusal.Short
refusal_text Refusal.MagicCookie = packets.refusal_display PacketRefusal.MagicCookie
refusal_text (Refusal.OptionCut cut) = options.refusal_display cut

-- the first option that is cut
abbrev pub first_cut : List Answer → Option Refusal
first_cut [] = None
first_cut (Ok part ∷ more) = first_cut more
first_cut (Err cut ∷ more) = Some (Refusal.OptionCut cut)

abbrev pub refused_items : Option Refusal → List Item
refused_items None = []
refused_items (Some why) = field (codes "refused") (text (refusal_text why)) ∷ []
