-- What a page shows.
use Rattle.std.specs.Prelude.{◌==◌, ◌*◌, [], ◌∷◌, ◌++◌, List, None, Option, Some, codes, if◌then◌else◌, length, map, ℕ}
use Rattle.dns_wire.specs.DnsDisplay.{type_display}
use Rattle.dns_wire.specs.DnsPacket.{rcode_in}
use Rattle.dns_fields.specs.Header.{rcode_rows}
use Rattle.dns_fields.specs.declared.kind.Kind.{Kind}
use Rattle.record_wire.specs.ZoneText.{whole_name}
use Rattle.wirebase.specs.Hexadecimal.{hex_colons}
use Rattle.neighbor_fields.specs.Ndisc.{prefix_text}
use Rattle.packet_fields.specs.Entries.{keyed_value}
use Rattle.packet_fields.specs.Fields.{Cell, Entry, Item, Leaf, entries, field, number, text, time}
use Rattle.packet_fields.specs.Labels.{label_text}
use Rattle.packet_fields.specs.Names.{name_in}
use Rattle.packet_fields.specs.Texts.{address_text}
use Rattle.packet_fields.specs.declared.form.Form.{Form}
use Rattle.packet_fields.specs.declared.form.Form.TheVariants.{Json, Lines}
use Rattle.packet_pairs.specs.Shown.{milliseconds_text}
use Rattle.packet_stats.specs.Row.{RowValue, percentile}
use Rattle.packet_stats.specs.Stats.{State}
use Rattle.packet_stats.specs.Subject.{SubjectValue, client, lease, member, neighbor, outcome, prefix, question, router}
use Rattle.packet_stats.specs.Subject.{server, source}
use Rattle.packet_stats.specs.Table.{TableValue}
use Rattle.packet_stats.specs.Types.{FilterMode}

-- ---- times

-- a time under its key; in JSON its nanoseconds under another
abbrev pub time_cells : Form → List ℕ → List ℕ → Option ℕ → List Cell
time_cells form key json_key None = []
time_cells Lines key json_key (Some t) = keyed_value key (text (milliseconds_text t))
time_cells Json key json_key (Some t) = keyed_value json_key (number t)

-- a number that is shown where it is not 0
abbrev pub some_cells : List ℕ → ℕ → List Cell
some_cells key n = if n == 0 then [] else keyed_value key (number n)

-- the number of the times that are kept, their median and 99th percentile, and how many more there were
abbrev pub times_cells : Form → RowValue → List Cell
times_cells form r =
    some_cells (codes "times") (length r.times)
    ++ time_cells form (codes "median") (codes "median_ns") (percentile 50 r.times)
    ++ time_cells form (codes "percentile_99") (codes "percentile_99_ns") (percentile 99 r.times)
    ++ some_cells (codes "times_not_kept") r.unkept

-- ---- rows

-- the name of an outcome, or where it has none its number
abbrev pub rcode_text : ℕ → List ℕ
rcode_text n = label_text (name_in (rcode_rows Kind.Dns) (rcode_in n)) (codes "rcode") (rcode_in n)

abbrev pub kind_entry : List ℕ → List ℕ → Leaf → List Cell → Entry
kind_entry kind key value cells =
    record { label_key = codes "kind"; label = kind; first_key = key; first = value; rest = cells }

-- how many messages there were, and their times
abbrev pub row_cells : Form → RowValue → List Cell
row_cells form r = keyed_value (codes "count") (number r.count) ++ times_cells form r

-- an address under its key, and a link-layer address under another
abbrev pub address_entry : List ℕ → List ℕ → List Cell → Entry
address_entry kind address cells = kind_entry kind (codes "addr") (text (address_text address)) cells

abbrev pub address_cells : List ℕ → List ℕ → List Cell
address_cells key address = keyed_value key (text (address_text address))

abbrev pub link_cells : List ℕ → List ℕ → List Cell
link_cells key octets = keyed_value key (text (hex_colons octets))

-- the time of a lease, where it is told
abbrev pub lease_cells : Option ℕ → List Cell
lease_cells None = []
lease_cells (Some seconds) = keyed_value (codes "time") (time (1000 * seconds))

-- a source that a member wants, or one that it excludes
abbrev pub mode_key : FilterMode → List ℕ
mode_key FilterMode.Include = codes "source"
mode_key FilterMode.Exclude = codes "excluded"

abbrev pub subject_entry : SubjectValue → List Cell → Entry
subject_entry (question labels kind) cells =
    kind_entry (codes "question") (codes "name") (text (whole_name labels))
    (keyed_value (codes "type") (text (type_display kind)) ++ cells)
subject_entry (outcome n) cells = kind_entry (codes "rcode") (codes "rcode") (text (rcode_text n)) cells
subject_entry (server address) cells = address_entry (codes "server") address cells
subject_entry (client hardware) cells =
    kind_entry (codes "client") (codes "hardware") (text (hex_colons hardware)) cells
subject_entry (lease address hardware seconds) cells =
    address_entry (codes "lease") address (link_cells (codes "client") hardware ++ lease_cells seconds ++ cells)
subject_entry (member group host) cells =
    address_entry (codes "group") group (address_cells (codes "member") host ++ cells)
subject_entry (source group host mode address) cells =
    address_entry (codes "group") group
    (address_cells (codes "member") host ++ address_cells (mode_key mode) address ++ cells)
subject_entry (neighbor address link) cells =
    address_entry (codes "neighbor") address (link_cells (codes "link") link ++ cells)
subject_entry (router address) cells = address_entry (codes "router") address cells
subject_entry (prefix address len sender) cells =
    kind_entry (codes "prefix") (codes "prefix") (text (prefix_text address len))
    (address_cells (codes "router") sender ++ cells)

abbrev pub row_entry : Form → RowValue → Entry
row_entry form r = subject_entry r.subject (row_cells form r)

-- ---- tables

-- how many messages speak of what the table has no row for, where there are such
abbrev pub overlooked_items : List ℕ → ℕ → List Item
overlooked_items key n = if n == 0 then [] else field key (number n) ∷ []

abbrev pub table_items : Form → List ℕ → List ℕ → TableValue → List Item
table_items form key overlooked_key t =
    (entries key (map (row_entry form) t.rows) ∷ []) ++ overlooked_items overlooked_key t.overlooked

-- names, outcomes and servers of DNS
abbrev pub dns_items : Form → State → List Item
dns_items form s =
    table_items form (codes "questions") (codes "questions_not_counted") s.questions
    ++ table_items form (codes "rcodes") (codes "rcodes_not_counted") s.rcodes
    ++ table_items form (codes "servers") (codes "servers_not_counted") s.servers

-- clients of DHCP, and their leases
abbrev pub dhcp_items : Form → State → List Item
dhcp_items form s =
    table_items form (codes "clients") (codes "clients_not_counted") s.clients
    ++ table_items form (codes "leases") (codes "leases_not_counted") s.leases

-- members of groups, and the sources that they want or exclude
abbrev pub group_items : Form → State → List Item
group_items form s =
    table_items form (codes "members") (codes "members_not_counted") s.members
    ++ table_items form (codes "sources") (codes "sources_not_counted") s.sources

-- neighbors, and routers with their prefixes
abbrev pub neighbor_items : Form → State → List Item
neighbor_items form s =
    table_items form (codes "neighbors") (codes "neighbors_not_counted") s.neighbors
    ++ table_items form (codes "routers") (codes "routers_not_counted") s.routers
    ++ table_items form (codes "prefixes") (codes "prefixes_not_counted") s.prefixes

-- a page: what is counted of DNS, of DHCP, of groups, and of neighbors
abbrev pub page_items : Form → State → List Item
page_items form s =
    dns_items form s
    ++ dhcp_items form s
    ++ group_items form s
    ++ neighbor_items form s
