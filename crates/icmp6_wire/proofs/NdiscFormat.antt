-- The format of messages of neighbor discovery: bytes have one value, and what was read is canonical and its own normal
-- form.
use Rattle.std.proofs.Common.{◌≡◌, ℕ, ◌*◌, ◌<◌, ◌≤◌, ◌^◌, List, [], ◌∷◌, ◌++◌, length, refl, sym, ap, subst, ◌∙◌, arith}
use Rattle.std.specs.Prelude.{Option, None, Some}
use Rattle.std.specs.List.{AllByRecursion}
use Rattle.std.specs.Option.{option_map, option_or}
use Rattle.std.proofs.lemmas.Nat.{and_assoc}
use Rattle.icmp6_wire.specs.Words.{IsBytes, over, byte_of, number_of, micros_of, millis_of, seconds_of, whole_millis}
use Rattle.icmp6_wire.specs.Words.{whole_seconds, SameText, type_field, last_of, OptionValue, source, target}
use Rattle.icmp6_wire.specs.Words.{prefix_information}
use Rattle.icmp6_wire.specs.Words.{redirected, mtu, filled, Duration, PrefixInformation, NeighborFlags, RouterFlags}
use Rattle.wirebase.proofs.ByteParts.{IsBytes-drop, IsBytes-front, IsBytes-rest, number_of-small}
use Rattle.wirebase.proofs.Durations.{same_duration, millis-times, seconds-times, whole_millis-read, whole_seconds-read}
use Rattle.wirebase.proofs.Format.{IsFormat, round_trips, same_text}
use Rattle.wirebase.proofs.Ipv6Header.{same_address}
use Rattle.wirebase.proofs.Pieces.{over-exact}
use Rattle.wirebase.proofs.WideParts.{number_of-small4}
use Rattle.opt_wire.specs.NdiscOptionRepr as option
use Rattle.opt_wire.proofs.NdiscOptionFormat.{ndisc_option_format}
use Rattle.icmp6_wire.specs.Icmpv6Packet.{header_len_in, payload_in}
use Rattle.icmp6_wire.specs.NdiscBlocks.{AreBlocks, ends, goes_on, skips, source_in, target_in, mtu_in}
use Rattle.icmp6_wire.specs.NdiscBlocks.{prefix_in, redirected_in}
use Rattle.icmp6_wire.specs.NdiscPacket.{router_flags_field, neighbor_flags_field, router_lifetime_field}
use Rattle.icmp6_wire.specs.NdiscPacket.{reachable_time_field, retrans_time_field}
use Rattle.icmp6_wire.specs.NdiscTables.{known_router, known_neighbor}
use Rattle.icmp6_wire.specs.Ndisc.{NdiscValue, router_solicit, router_advert, neighbor_solicit, neighbor_advert}
use Rattle.icmp6_wire.specs.Ndisc.{redirect}
use Rattle.icmp6_wire.specs.Ndisc.{sources, targets, mtus, prefixes, packets, option_text, text, text_len}
use Rattle.icmp6_wire.specs.Ndisc.{IfThere, IsContent, IsMessage, IsCanonicalHeader, IsCanonical}
use Rattle.icmp6_wire.specs.Ndisc.{whole_prefix, norm, format, Emits}
use Rattle.icmp6_wire.proofs.NdiscReading.{kind_of, message_text}
use Rattle.icmp6_wire.proofs.NdiscTexts.{length-text}
use Rattle.icmp6_wire.proofs.NdiscTiling.{blocks-unique}

-- ---- one message at most

router_flags_of : ℕ → RouterFlags
router_flags_of bits = record { 0 = bits }

same_router_flags : (f g : RouterFlags) → f.0 ≡ g.0 → f ≡ g
unfolding router_flags_of
same_router_flags f g e = ap router_flags_of e

neighbor_flags_of : ℕ → NeighborFlags
neighbor_flags_of bits = record { 0 = bits }

same_neighbor_flags : (f g : NeighborFlags) → f.0 ≡ g.0 → f ≡ g
unfolding neighbor_flags_of
same_neighbor_flags f g e = ap neighbor_flags_of e

kind-content : (bytes : List ℕ) (os : List OptionValue) (v : NdiscValue) → IsContent bytes os v
    → byte_of type_field bytes ≡ kind_of v
kind-content bytes os (router_advert v) a = a.kind
kind-content bytes os _ a = a.0

same_content : (bytes : List ℕ) (os : List OptionValue) (v w : NdiscValue) → IsContent bytes os v → IsContent bytes os w
    → kind_of v ≡ kind_of w → v ≡ w
same_content bytes os (router_solicit l) (router_solicit k) a b same = ap router_solicit (a.1 ∙ sym b.1)
same_content bytes os (router_advert v) (router_advert w) a b same =
    λ i. router_advert (record {
      hop_limit = (a.hop_limit ∙ sym b.hop_limit) i;
      flags = same_router_flags v.flags w.flags (a.flags ∙ sym b.flags) i;
      router_lifetime = same_duration v.router_lifetime w.router_lifetime (a.router_lifetime ∙ sym b.router_lifetime) i;
      reachable_time = same_duration v.reachable_time w.reachable_time (a.reachable_time ∙ sym b.reachable_time) i;
      retrans_time = same_duration v.retrans_time w.retrans_time (a.retrans_time ∙ sym b.retrans_time) i;
      lladdr = (a.lladdr ∙ sym b.lladdr) i;
      mtu = (a.mtu ∙ sym b.mtu) i;
      prefix_info = (a.prefix_info ∙ sym b.prefix_info) i;
    })
same_content bytes os (neighbor_solicit t l) (neighbor_solicit u k) a b same =
    cc (same_address t u (a.1 ∙ sym b.1), a.2 ∙ sym b.2)
same_content bytes os (neighbor_advert flags t l) (neighbor_advert marks u k) a b same =
    cc (same_neighbor_flags flags marks (a.1 ∙ sym b.1), same_address t u (a.2 ∙ sym b.2), a.3 ∙ sym b.3)
same_content bytes os (redirect t d l r) (redirect u e k s) a b same =
    cc (same_address t u (a.1 ∙ sym b.1), same_address d e (a.2 ∙ sym b.2), a.3 ∙ sym b.3, a.4 ∙ sym b.4)
same_content bytes os _ _ a b same = absurd (omega arith)

pub message-one : (bytes : List ℕ) (v w : NdiscValue) → IsMessage bytes v → IsMessage bytes w → v ≡ w
message-one bytes v w a b =
    let options = blocks-unique (payload_in bytes) b.options a.options b.tiling a.tiling in
    let other : IsContent bytes a.options w =
    subst (λ (os : List OptionValue). IsContent bytes os w) options b.content in
    same_content bytes a.options v w a.content other
    (sym (kind-content bytes a.options v a.content) ∙ kind-content bytes a.options w other)

-- ---- what was read

-- an option that is canonical and its own normal form
IsGood : OptionValue → Type 0
IsGood v = option.IsCanonical v × (option.norm v ≡ v)

good_blocks : (bytes : List ℕ) (os : List OptionValue) → IsBytes bytes → AreBlocks bytes os → AllByRecursion IsGood os
unfolding IsGood
good_blocks bytes os are ends = tt
good_blocks bytes os are (goes_on {options = more} b r v h k t e) =
    let there : IsBytes (b ++ r) = subst (λ (l : List ℕ). IsBytes l) e are in
    let front = IsBytes-front b r there in
    let canonical = ndisc_option_format.accepted b v front (omega (arith, h.exact, front 1)) k in (
      (canonical, ndisc_option_format.kept b v front canonical k (λ cut. cut)),
      good_blocks r more (IsBytes-rest b r there) t,
    )
good_blocks bytes os are (skips b r h k t e) =
    good_blocks r os (IsBytes-rest b r (subst (λ (l : List ℕ). IsBytes l) e are)) t

or_good : {A : Type 0} (kind : A → OptionValue) (a b : Option A) → IfThere IsGood (option_map kind a)
    → IfThere IsGood (option_map kind b) → IfThere IsGood (option_map kind (option_or a b))
or_good kind None b one two = two
or_good kind (Some a) b one two = one

last_good : {A : Type 0} (says : OptionValue → Option A) (kind : A → OptionValue)
    → ((v : OptionValue) → IsGood v → IfThere IsGood (option_map kind (says v))) → (os : List OptionValue)
    → AllByRecursion IsGood os → IfThere IsGood (option_map kind (last_of says os))
last_good says kind holds [] all = tt
last_good says kind holds (o ∷ os) all =
    or_good kind (last_of says os) (says o) (last_good says kind holds os all.1) (holds o all.0)

good_source : (v : OptionValue) → IsGood v → IfThere IsGood (sources (source_in v))
good_source (source address) g = g
good_source _ g = tt

good_target : (v : OptionValue) → IsGood v → IfThere IsGood (targets (target_in v))
good_target (target address) g = g
good_target _ g = tt

good_mtu : (v : OptionValue) → IsGood v → IfThere IsGood (mtus (mtu_in v))
good_mtu (mtu n) g = g
good_mtu _ g = tt

good_prefix : (v : OptionValue) → IsGood v → IfThere IsGood (prefixes (prefix_in v))
good_prefix (prefix_information p) g = g
good_prefix _ g = tt

good_packet : (v : OptionValue) → IsGood v → IfThere IsGood (packets (redirected_in v))
good_packet (redirected h d) g = g
good_packet _ g = tt

-- each option of a message that was read
AreGood : NdiscValue → Type 0
AreGood (router_solicit l) = IfThere IsGood (sources l)
AreGood (router_advert a) =
    IfThere IsGood (sources a.lladdr) × IfThere IsGood (mtus a.mtu) × IfThere IsGood (prefixes a.prefix_info)
AreGood (neighbor_solicit t l) = IfThere IsGood (sources l)
AreGood (neighbor_advert flags t l) = IfThere IsGood (targets l)
AreGood (redirect t d l r) = IfThere IsGood (targets l) × IfThere IsGood (packets r)

good_sources : (l : Option (List ℕ)) (os : List OptionValue) → AllByRecursion IsGood os → l ≡ last_of source_in os
    → IfThere IsGood (sources l)
good_sources l os all e = rw e (last_good source_in source good_source os all)

good_targets : (l : Option (List ℕ)) (os : List OptionValue) → AllByRecursion IsGood os → l ≡ last_of target_in os
    → IfThere IsGood (targets l)
good_targets l os all e = rw e (last_good target_in target good_target os all)

good_content : (bytes : List ℕ) (os : List OptionValue) (v : NdiscValue) → AllByRecursion IsGood os
    → IsContent bytes os v → AreGood v
unfolding AreGood
good_content bytes os (router_solicit l) all a = good_sources l os all a.1
good_content bytes os (router_advert v) all a = (
  good_sources v.lladdr os all a.lladdr,
  rw a.mtu (last_good mtu_in mtu good_mtu os all),
  rw a.prefix_info (last_good prefix_in prefix_information good_prefix os all),
)
good_content bytes os (neighbor_solicit t l) all a = good_sources l os all a.2
good_content bytes os (neighbor_advert flags t l) all a = good_targets l os all a.3
good_content bytes os (redirect t d l r) all a = (
  good_targets l os all a.3,
  rw a.4 (last_good redirected_in (λ packet. redirected packet.0 packet.1) good_packet os all),
)

good_message : (bytes : List ℕ) (v : NdiscValue) → IsBytes bytes → IsMessage bytes v → AreGood v
good_message bytes v are a =
    good_content bytes a.options v
    (good_blocks (payload_in bytes) a.options (IsBytes-drop (header_len_in bytes) bytes are) a.tiling) a.content

canonical_there : (o : Option OptionValue) → IfThere IsGood o → IfThere option.IsCanonical o
unfolding IsGood
canonical_there None g = tt
canonical_there (Some v) g = g.0

known-router : (bits : ℕ) → known_router (known_router bits) ≡ known_router bits
known-router bits = and_assoc 0xc0 bits 0xc0

known-neighbor : (bits : ℕ) → known_neighbor (known_neighbor bits) ≡ known_neighbor bits
known-neighbor bits = and_assoc 0xe0 bits 0xe0

few_seconds : (time : Duration) (n : ℕ) → micros_of time ≡ 1000000 * n → n < 2 ^ 16 → seconds_of time ≤ 65535
few_seconds time n e small = omega (arith, e, small)

few_millis : (time : Duration) (n : ℕ) → micros_of time ≡ 1000 * n → n < 2 ^ 32 → millis_of time ≤ 4294967295
few_millis time n e small = omega (arith, e, small)

canonical_header : (bytes : List ℕ) (os : List OptionValue) (v : NdiscValue) → IsBytes bytes → IsContent bytes os v
    → IsCanonicalHeader v
canonical_header bytes os (router_advert v) are a = (
  omega (arith, a.hop_limit, are 4),
  ap known_router a.flags ∙ known-router (byte_of router_flags_field bytes) ∙ sym a.flags,
  (
    few_seconds v.router_lifetime _ a.router_lifetime (number_of-small 6 8 bytes refl are),
    few_millis v.reachable_time _ a.reachable_time (number_of-small4 8 12 bytes refl are),
    few_millis v.retrans_time _ a.retrans_time (number_of-small4 12 16 bytes refl are),
  ),
)
canonical_header bytes os (neighbor_advert flags t l) are a =
    ap known_neighbor a.1 ∙ known-neighbor (byte_of neighbor_flags_field bytes) ∙ sym a.1
canonical_header bytes os _ are a = tt

canonical_options : (v : NdiscValue) → IsCanonicalHeader v → AreGood v → IsCanonical v
unfolding AreGood
canonical_options (router_solicit l) c g = (c, (canonical_there (sources l) g, tt))
canonical_options (router_advert v) c g = (
  c,
  (
    canonical_there (sources v.lladdr) g.0,
    (canonical_there (mtus v.mtu) g.1, (canonical_there (prefixes v.prefix_info) g.2, tt)),
  ),
)
canonical_options (neighbor_solicit t l) c g = (c, (canonical_there (sources l) g, tt))
canonical_options (neighbor_advert flags t l) c g = (c, (canonical_there (targets l) g, tt))
canonical_options (redirect t d l r) c g =
    (c, (canonical_there (targets l) g.0, (canonical_there (packets r) g.1, tt)))

pub message-canonical : (bytes : List ℕ) (v : NdiscValue) → IsBytes bytes → IsMessage bytes v → IsCanonical v
message-canonical bytes v are a =
    canonical_options v (canonical_header bytes a.options v are a.content) (good_message bytes v are a)

-- ---- what was read is its own normal form

kept_source : (l : Option (List ℕ)) → IfThere IsGood (sources l) → option_map filled l ≡ l
unfolding IsGood
kept_source None g = refl
kept_source (Some a) g = ap source_in g.1

kept_target : (l : Option (List ℕ)) → IfThere IsGood (targets l) → option_map filled l ≡ l
unfolding IsGood
kept_target None g = refl
kept_target (Some a) g = ap target_in g.1

kept_prefix : (p : Option PrefixInformation) → IfThere IsGood (prefixes p) → option_map whole_prefix p ≡ p
unfolding IsGood
kept_prefix None g = refl
kept_prefix (Some p) g = ap prefix_in g.1

norm-content : (bytes : List ℕ) (os : List OptionValue) (v : NdiscValue) → IsContent bytes os v → AreGood v → norm v ≡ v
unfolding AreGood
norm-content bytes os (router_solicit l) a g = ap router_solicit (kept_source l g)
norm-content bytes os (router_advert v) a g =
    λ i. router_advert (record v {
      router_lifetime =
          whole_seconds-read v.router_lifetime (number_of router_lifetime_field bytes) a.router_lifetime i;
      reachable_time = whole_millis-read v.reachable_time (number_of reachable_time_field bytes) a.reachable_time i;
      retrans_time = whole_millis-read v.retrans_time (number_of retrans_time_field bytes) a.retrans_time i;
      lladdr = kept_source v.lladdr g.0 i;
      prefix_info = kept_prefix v.prefix_info g.2 i;
    })
norm-content bytes os (neighbor_solicit t l) a g = ap (λ x. neighbor_solicit t x) (kept_source l g)
norm-content bytes os (neighbor_advert flags t l) a g = ap (λ x. neighbor_advert flags t x) (kept_target l g)
norm-content bytes os (redirect t d l r) a g = ap (λ x. redirect t d x r) (kept_target l g.0)

pub message-kept : (bytes : List ℕ) (v : NdiscValue) → IsBytes bytes → IsMessage bytes v → norm v ≡ v
message-kept bytes v are a = norm-content bytes a.options v a.content (good_message bytes v are a)

-- ---- the normal form

norm_source : (l : Option (List ℕ)) → IfThere option.IsCanonical (sources l)
    → IfThere option.IsCanonical (sources (option_map filled l))
norm_source None c = tt
norm_source (Some a) c = ndisc_option_format.norm_canonical (source a) c

norm_target : (l : Option (List ℕ)) → IfThere option.IsCanonical (targets l)
    → IfThere option.IsCanonical (targets (option_map filled l))
norm_target None c = tt
norm_target (Some a) c = ndisc_option_format.norm_canonical (target a) c

norm_prefix : (p : Option PrefixInformation) → IfThere option.IsCanonical (prefixes p)
    → IfThere option.IsCanonical (prefixes (option_map whole_prefix p))
norm_prefix None c = tt
norm_prefix (Some p) c = ndisc_option_format.norm_canonical (prefix_information p) c

pub norm-canonical : (v : NdiscValue) → IsCanonical v → IsCanonical (norm v)
norm-canonical (router_solicit l) c = (tt, (norm_source l c.1.0, tt))
norm-canonical (router_advert v) c = (
  (
    c.0.0,
    c.0.1,
    (
      omega (arith, seconds-times (seconds_of v.router_lifetime), c.0.2.0),
      omega (arith, millis-times (millis_of v.reachable_time), c.0.2.1),
      omega (arith, millis-times (millis_of v.retrans_time), c.0.2.2),
    ),
  ),
  (norm_source v.lladdr c.1.0, (c.1.1.0, (norm_prefix v.prefix_info c.1.1.1.0, tt))),
)
norm-canonical (neighbor_solicit t l) c = (tt, (norm_source l c.1.0, tt))
norm-canonical (neighbor_advert flags t l) c = (c.0, (norm_target l c.1.0, tt))
norm-canonical (redirect t d l r) c = (tt, (norm_target l c.1.0, c.1.1))

filled-filled : (l : Option (List ℕ)) → option_map filled (option_map filled l) ≡ option_map filled l
filled-filled None = refl
filled-filled (Some a) = ap source_in (ndisc_option_format.norm_norm (source a))

prefix-prefix : (p : Option PrefixInformation)
    → option_map whole_prefix (option_map whole_prefix p) ≡ option_map whole_prefix p
prefix-prefix None = refl
prefix-prefix (Some p) = ap prefix_in (ndisc_option_format.norm_norm (prefix_information p))

pub norm-norm : (v : NdiscValue) → norm (norm v) ≡ norm v
norm-norm (router_solicit l) = ap router_solicit (filled-filled l)
norm-norm (router_advert v) =
    let one : whole_seconds (whole_seconds v.router_lifetime) ≡ whole_seconds v.router_lifetime =
    whole_seconds-read (whole_seconds v.router_lifetime) (seconds_of v.router_lifetime) refl in
    let two : whole_millis (whole_millis v.reachable_time) ≡ whole_millis v.reachable_time =
    whole_millis-read (whole_millis v.reachable_time) (millis_of v.reachable_time) refl in
    let three : whole_millis (whole_millis v.retrans_time) ≡ whole_millis v.retrans_time =
    whole_millis-read (whole_millis v.retrans_time) (millis_of v.retrans_time) refl in
    let four = filled-filled v.lladdr in
    let five = prefix-prefix v.prefix_info in
    cc
norm-norm (neighbor_solicit t l) = ap (λ x. neighbor_solicit t x) (filled-filled l)
norm-norm (neighbor_advert flags t l) = ap (λ x. neighbor_advert flags t x) (filled-filled l)
norm-norm (redirect t d l r) = ap (λ x. redirect t d x r) (filled-filled l)

source-text : (l : Option (List ℕ)) → IfThere option.IsCanonical (sources l)
    → option_text (sources (option_map filled l)) ≡ option_text (sources l)
source-text None c = refl
source-text (Some a) c = ndisc_option_format.norm_text (source a) c (λ e. e)

target-text : (l : Option (List ℕ)) → IfThere option.IsCanonical (targets l)
    → option_text (targets (option_map filled l)) ≡ option_text (targets l)
target-text None c = refl
target-text (Some a) c = ndisc_option_format.norm_text (target a) c (λ e. e)

prefix-text : (p : Option PrefixInformation) → IfThere option.IsCanonical (prefixes p)
    → option_text (prefixes (option_map whole_prefix p)) ≡ option_text (prefixes p)
prefix-text None c = refl
prefix-text (Some p) c = ndisc_option_format.norm_text (prefix_information p) c (λ e. e)

pub norm-text : (v : NdiscValue) → IsCanonical v → text (norm v) ≡ text v
norm-text (router_solicit l) c = cc (source-text l c.1.0)
norm-text (router_advert v) c =
    cc (
      seconds-times (seconds_of v.router_lifetime),
      millis-times (millis_of v.reachable_time),
      millis-times (millis_of v.retrans_time),
      source-text v.lladdr c.1.0,
      prefix-text v.prefix_info c.1.1.1.0,
    )
norm-text (neighbor_solicit t l) c = cc (source-text l c.1.0)
norm-text (neighbor_advert flags t l) c = cc (target-text l c.1.0)
norm-text (redirect t d l r) c = cc (target-text l c.1.0)

-- ---- all of it

pub ndisc_format : IsFormat format
ndisc_format = record {
  one_value = message-one;
  reads_back = λ v fills c. message_text v c;
  norm_canonical = norm-canonical;
  norm_norm = norm-norm;
  norm_text = λ v c regular. norm-text v c;
  accepted = λ bytes v are small m. message-canonical bytes v are m;
  regular = λ bytes v m e. e;
  kept = λ bytes v are c m whole. message-kept bytes v are m;
}

pub ndisc_same_text : (a b : NdiscValue) → SameText format a b
ndisc_same_text a b = same_text format ndisc_format tt a b

-- ---- the result of writing

pub ndisc_emits : (v : NdiscValue) (old new : List ℕ) → new ≡ over old (text v) → Emits v old new
ndisc_emits v old new left =
    let exact : length old ≡ text_len v → new ≡ text v =
    λ long. left ∙ over-exact old (text v) (long ∙ sym (length-text v)) in
    record {
      written = left;
      exact = exact;
      reads_back =
          λ long c. rw (exact long) (message_text v c);
      round_trips = round_trips format ndisc_format v;
    }
