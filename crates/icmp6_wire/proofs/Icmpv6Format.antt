-- The format of messages: what was read is canonical, and a normal form has the text of its value.
use Rattle.std.proofs.Common.{◌≡◌, ℕ, ◌<◌, ◌≤◌, Bool, true, false, List, length, refl, ap, arith}
use Rattle.std.proofs.lemmas.List.{length-drop}
use Rattle.icmp6_wire.specs.Words.{IsBytes, byte_of, fields, SameText, code_field, data_in, next_header_field, IsHeader}
use Rattle.icmp6_wire.specs.Words.{ChecksumCapabilities, Ipv6Address, Ipv6Repr, DstUnreachable, ParamProblem}
use Rattle.icmp6_wire.specs.Words.{TimeExceeded}
use Rattle.wirebase.proofs.ByteParts.{IsBytes-drop, number_of-small}
use Rattle.wirebase.proofs.Format.{IsFormat, same_text-by}
use Rattle.wirebase.proofs.IpProtocols.{protocol-read}
use Rattle.wirebase.proofs.Numbered.{case-read}
use Rattle.wirebase.proofs.WideParts.{number_of-small4}
use Rattle.icmp6_wire.specs.Icmpv6Tables.{unreachable_number, unreachables}
use Rattle.icmp6_wire.specs.Icmpv6Tables.{param_problem_number, param_problems}
use Rattle.icmp6_wire.specs.Icmpv6Tables.{time_exceeded_number, time_exceededs}
use Rattle.icmp6_wire.specs.Icmpv6.{MessageValue, unreachable, too_big, time_exceeded, param_problem, echo_request}
use Rattle.icmp6_wire.specs.Icmpv6.{echo_reply, mld, ndisc, quoted_data, error_fields, text, seal, IsContent, CanQuote}
use Rattle.icmp6_wire.specs.Icmpv6.{IsCanonical, norm, IsCut, format}
use Rattle.icmp6_wire.proofs.MldFormat.{mld_format, norm-text as norm-mld, norm-read}
use Rattle.icmp6_wire.proofs.NdiscFormat.{ndisc_format, norm-text as norm-ndisc, message-kept}
use Rattle.icmp6_wire.proofs.Icmpv6Grammar.{content-one, message-unique}
use Rattle.icmp6_wire.proofs.Icmpv6Texts.{quoted-quoted, quoted-whole, message_text, content_read}

-- ---- what was read

is_unknown_reason : DstUnreachable → Bool
is_unknown_reason (DstUnreachable.Unknown n) = true
is_unknown_reason _ = false

is_unknown_problem : ParamProblem → Bool
is_unknown_problem (ParamProblem.Unknown n) = true
is_unknown_problem _ = false

is_unknown_time : TimeExceeded → Bool
is_unknown_time (TimeExceeded.Unknown n) = true
is_unknown_time _ = false

header-read_canonical : (bytes : List ℕ) (quoted : Ipv6Repr) → IsBytes bytes → IsHeader bytes quoted → CanQuote quoted
header-read_canonical bytes quoted are q =
    let read = protocol-read (byte_of next_header_field bytes) q.protocol in (
      read.0,
      omega (arith, read.1, are 6),
      omega (arith, q.hops, are 7),
      omega (arith, q.payload, number_of-small 4 6 bytes refl are),
    )

content-canonical : (bytes : List ℕ) (v : MessageValue) → IsBytes bytes → 8 ≤ length bytes → length bytes ≤ 65515
    → IsContent bytes v → IsCanonical v
unfolding is_unknown_reason is_unknown_problem is_unknown_time
content-canonical bytes (unreachable reason quoted d) are some small m =
    let read =
    case-read unreachable_number DstUnreachable.Unknown (λ k. refl) is_unknown_reason (λ k. refl) unreachables
    (byte_of code_field bytes) refl m.1 in (
      read.0,
      omega (arith, read.1, are 1),
      header-read_canonical (data_in bytes) quoted (IsBytes-drop 8 bytes are) m.0.header,
    )
content-canonical bytes (too_big mtu quoted d) are some small m = (
  omega (arith, m.1, number_of-small4 4 8 bytes refl are),
  header-read_canonical (data_in bytes) quoted (IsBytes-drop 8 bytes are) m.0.header,
)
content-canonical bytes (time_exceeded reason quoted d) are some small m =
    let read =
    case-read time_exceeded_number TimeExceeded.Unknown (λ k. refl) is_unknown_time (λ k. refl) time_exceededs
    (byte_of code_field bytes) refl m.1 in (
      read.0,
      omega (arith, read.1, are 1),
      header-read_canonical (data_in bytes) quoted (IsBytes-drop 8 bytes are) m.0.header,
    )
content-canonical bytes (param_problem reason pointer quoted d) are some small m =
    let read =
    case-read param_problem_number ParamProblem.Unknown (λ k. refl) is_unknown_problem (λ k. refl) param_problems
    (byte_of code_field bytes) refl m.1 in (
      read.0,
      omega (arith, read.1, are 1),
      omega (arith, m.2, number_of-small4 4 8 bytes refl are),
      header-read_canonical (data_in bytes) quoted (IsBytes-drop 8 bytes are) m.0.header,
    )
content-canonical bytes (echo_request ident seq_no d) are some small m = (
  omega (arith, m.identifier, number_of-small 4 6 bytes refl are),
  omega (arith, m.sequence, number_of-small 6 8 bytes refl are),
  omega (arith, ap (λ (l : List ℕ). length l) m.data_is, length-drop 8 bytes),
)
content-canonical bytes (echo_reply ident seq_no d) are some small m = (
  omega (arith, m.identifier, number_of-small 4 6 bytes refl are),
  omega (arith, m.sequence, number_of-small 6 8 bytes refl are),
  omega (arith, ap (λ (l : List ℕ). length l) m.data_is, length-drop 8 bytes),
)
content-canonical bytes (ndisc m) are some small c = ndisc_format.accepted bytes m are small c
content-canonical bytes (mld m) are some small c = mld_format.accepted bytes m are small c

-- ---- the normal form

norm-canonical : (v : MessageValue) → IsCanonical v → IsCanonical (norm v)
norm-canonical (ndisc m) c = ndisc_format.norm_canonical m c
norm-canonical (mld m) c = mld_format.norm_canonical m c
norm-canonical _ c = c

norm-norm : (v : MessageValue) → norm (norm v) ≡ norm v
norm-norm (unreachable reason quoted d) = cc (quoted-quoted d)
norm-norm (too_big mtu quoted d) = cc (quoted-quoted d)
norm-norm (time_exceeded reason quoted d) = cc (quoted-quoted d)
norm-norm (param_problem reason pointer quoted d) = cc (quoted-quoted d)
norm-norm (ndisc m) = cc (ndisc_format.norm_norm m)
norm-norm (mld m) = cc (mld_format.norm_norm m)
norm-norm _ = refl

quoted-fields : (t code word : ℕ) (quoted : Ipv6Repr) (d : List ℕ)
    → fields (error_fields t code word quoted (quoted_data d)) ≡ fields (error_fields t code word quoted d)
quoted-fields t code word quoted d = rw (quoted-quoted d) refl

norm-text : (v : MessageValue) → IsCanonical v → text (norm v) ≡ text v
norm-text (unreachable reason quoted d) c = quoted-fields 1 (unreachable_number reason) 0 quoted d
norm-text (too_big mtu quoted d) c = quoted-fields 2 0 mtu quoted d
norm-text (time_exceeded reason quoted d) c = quoted-fields 3 (time_exceeded_number reason) 0 quoted d
norm-text (param_problem reason pointer quoted d) c = quoted-fields 4 (param_problem_number reason) pointer quoted d
norm-text (ndisc m) c = norm-ndisc m c
norm-text (mld m) c = norm-mld m
norm-text _ c = refl

few : (d : List ℕ) → (1192 < length d → ⊥) → length d ≤ 1192
few d uncut = grind (arith, uncut)

norm-uncut : (bytes : List ℕ) (v : MessageValue) → IsBytes bytes → IsContent bytes v → (IsCut v → ⊥) → norm v ≡ v
norm-uncut bytes (unreachable reason quoted d) are c uncut = cc (quoted-whole d (few d uncut))
norm-uncut bytes (too_big mtu quoted d) are c uncut = cc (quoted-whole d (few d uncut))
norm-uncut bytes (time_exceeded reason quoted d) are c uncut = cc (quoted-whole d (few d uncut))
norm-uncut bytes (param_problem reason pointer quoted d) are c uncut = cc (quoted-whole d (few d uncut))
norm-uncut bytes (ndisc m) are c uncut = cc (message-kept bytes m are c)
norm-uncut bytes (mld m) are c uncut = cc (norm-read bytes m c)
norm-uncut bytes _ are c uncut = refl

-- ---- all of it

module _ (capabilities : ChecksumCapabilities) (source destination : Ipv6Address) where
  pub icmpv6_format : IsFormat (format capabilities source destination)
  icmpv6_format = record {
    one_value = message-unique capabilities source destination;
    reads_back = message_text capabilities source destination;
    norm_canonical = norm-canonical;
    norm_norm = norm-norm;
    norm_text = λ v c regular. ap (λ (bytes : List ℕ). seal capabilities source destination bytes) (norm-text v c);
    accepted = λ bytes v are small m. content-canonical bytes v are m.passes.0 small m.content;
    regular = λ bytes v m e. e;
    kept = λ bytes v are c m uncut. norm-uncut bytes v are m.content uncut;
  }

  -- also where the checksum is verified and not filled: the contents are read back by themselves
  pub icmpv6_same_text : (a b : MessageValue) → SameText (format capabilities source destination) a b
  icmpv6_same_text a b =
      same_text-by (format capabilities source destination) icmpv6_format IsContent content-one
      (content_read capabilities source destination) a b
