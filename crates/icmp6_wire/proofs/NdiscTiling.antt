-- The tiling of a payload by blocks: what it begins with, and that there is one only.
use Rattle.std.proofs.Common.{◌≡◌, ℕ, ◌*◌, List, [], ◌∷◌, ◌++◌, length, take, drop, refl}
use Rattle.std.proofs.Common.{sym, ap, subst, ◌∙◌, arith, length-append}
use Rattle.std.specs.Prelude.{Option, None}
use Rattle.std.specs.Option.{option_or}
use Rattle.std.proofs.Math.ListN.{get_or-append}
use Rattle.std.proofs.lemmas.List.{take_at, drop_at}
use Rattle.icmp6_wire.specs.Words.{byte_of, type_field, last_of, keep_all, units_in, OptionValue, BeginsWith, Message}
use Rattle.icmp6_wire.specs.Words.{Passes}
use Rattle.wirebase.proofs.LastOf.{kept}
use Rattle.wirebase.proofs.Numbered.{number-case_in}
use Rattle.opt_wire.proofs.NdiscOptionGrammar.{one_option}
use Rattle.icmp6_wire.specs.Icmpv6Packet.{message_in, payload_in}
use Rattle.icmp6_wire.specs.Icmpv6Tables.{message_number, messages}
use Rattle.icmp6_wire.specs.Ndisc.{NdiscValue, checks, IsContent, IsMessage}
use Rattle.icmp6_wire.specs.NdiscBlocks.{IsBlock, AreBlocks, ends, goes_on, skips, source_in, target_in}
use Rattle.icmp6_wire.specs.NdiscBlocks.{mtu_in, prefix_in, redirected_in}
use Rattle.icmp6_wire.specs.private.NdiscOptionsSeen.{Kept, nothing, keep, Says, HasBlocks, Notes, noted, passed}

-- ---- blocks

-- a front of one block tells how many units it has
units_at : (block rest : List ℕ) → IsBlock block → units_in (block ++ rest) ≡ units_in block
units_at block rest b = get_or-append block rest 0 1 (omega (arith, b.begins.whole.fixed))

record SameParts (a b c d : List ℕ) : Type 0 where
  fronts : a ≡ c
  rests : b ≡ d

-- so there is one such front
same_parts : (a b c d : List ℕ) → IsBlock a → IsBlock c → a ++ b ≡ c ++ d → SameParts a b c d
same_parts a b c d one two e =
    let units : units_in a ≡ units_in c =
    sym (units_at a b one) ∙ ap (λ (l : List ℕ). units_in l) e ∙ units_at c d two in
    let n : ℕ = 8 * units_in c in
    let left : length a ≡ n = omega (arith, one.exact, units) in
    let right : length c ≡ n = two.exact in
    record {
      fronts = sym (take_at a b n left) ∙ ap (λ (l : List ℕ). take n l) e ∙ take_at c d n right;
      rests = sym (drop_at a b n left) ∙ ap (λ (l : List ℕ). drop n l) e ∙ drop_at c d n right;
    }

-- no block is nothing
some_block : (block rest : List ℕ) → IsBlock block → [] ≡ block ++ rest → ⊥
some_block block rest b e =
    omega (arith, ap (λ (l : List ℕ). length l) e, length-append block rest, b.begins.whole.fixed)

pub blocks-unique : (bytes : List ℕ) (options others : List OptionValue) → AreBlocks bytes options
    → AreBlocks bytes others → options ≡ others
blocks-unique bytes options others ends ends = refl
blocks-unique bytes options others ends (goes_on c s w g l u i) = absurd (some_block c s g i)
blocks-unique bytes options others ends (skips c s g l u i) = absurd (some_block c s g i)
blocks-unique bytes options others (goes_on b r v h k t e) ends = absurd (some_block b r h e)
blocks-unique bytes options others (goes_on {options = os} b r v h k t e) (goes_on {options = ps} c s w g l u i) =
    let same = same_parts b r c s h g (sym e ∙ i) in
    let first : v ≡ w = one_option c v w (subst (λ (x : List ℕ). BeginsWith x v) same.fronts k) l in
    let more : os ≡ ps = blocks-unique s os ps (subst (λ (x : List ℕ). AreBlocks x os) same.rests t) u in
    ap (λ (x : OptionValue). x ∷ os) first ∙ ap (λ (x : List OptionValue). w ∷ x) more
blocks-unique bytes options others (goes_on b r v h k t e) (skips c s g l u i) =
    let same = same_parts b r c s h g (sym e ∙ i) in
    absurd (l v (subst (λ (x : List ℕ). BeginsWith x v) same.fronts k))
blocks-unique bytes options others (skips b r h k t e) ends = absurd (some_block b r h e)
blocks-unique bytes options others (skips b r h k t e) (goes_on c s w g l u i) =
    let same = same_parts b r c s h g (sym e ∙ i) in
    absurd (k w (subst (λ (x : List ℕ). BeginsWith x w) (sym same.fronts) l))
blocks-unique bytes options others (skips {options = os} b r h k t e) (skips {options = ps} c s g l u i) =
    let same = same_parts b r c s h g (sym e ∙ i) in
    blocks-unique s os ps (subst (λ (x : List ℕ). AreBlocks x os) same.rests t) u

-- ---- a pass over them

-- what follows a block is blocks, where all is
pub blocks_behind : (bytes block rest : List ℕ) (options : List OptionValue) → IsBlock block → bytes ≡ block ++ rest
    → AreBlocks bytes options → HasBlocks rest
blocks_behind bytes block rest options b e ends = absurd (some_block block rest b e)
blocks_behind bytes block rest options b e (goes_on {options = os} c s v g l u i) =
    let same = same_parts c s block rest g b (sym i ∙ e) in
    record { options = os; tiling = subst (λ (x : List ℕ). AreBlocks x os) same.rests u }
blocks_behind bytes block rest options b e (skips {options = os} c s g l u i) =
    let same = same_parts c s block rest g b (sym i ∙ e) in
    record { options = os; tiling = subst (λ (x : List ℕ). AreBlocks x os) same.rests u }

-- bytes that are blocks, and not none, have a block at their front
pub front_lacks : (bytes : List ℕ) (options : List OptionValue) → (length bytes ≡ 0 → ⊥)
    → ((block rest : List ℕ) → IsBlock block → bytes ≡ block ++ rest → ⊥) → AreBlocks bytes options → ⊥
front_lacks bytes options some none ends = some refl
front_lacks bytes options some none (goes_on b r v h k t e) = none b r h e
front_lacks bytes options some none (skips b r h k t e) = none b r h e

-- one more block is noted
pub says_more : (bytes text block rest : List ℕ) (old new : Kept) → IsBlock block → text ≡ block ++ rest
    → Notes block old new
    → ((more : List OptionValue) → AreBlocks text more → Says bytes (keep_all keep old more))
    → (more : List OptionValue) → AreBlocks rest more → Says bytes (keep_all keep new more)
unfolding keep_all
says_more bytes text block rest old new b e (noted v reads is) so_far more blocks =
    rw is (so_far (v ∷ more) (goes_on block rest v b reads blocks e))
says_more bytes text block rest old new b e (passed none is) so_far more blocks =
    rw is (so_far more (skips block rest b none blocks e))

-- at the end
pub says_all : (bytes : List ℕ) (k : Kept)
    → ((more : List OptionValue) → AreBlocks [] more → Says bytes (keep_all keep k more)) → Says bytes k
unfolding keep_all
says_all bytes k so_far = so_far [] ends

-- ---- the last option of each kind is kept

said : {A : Type 0} (field : Kept → Option A) (says : OptionValue → Option A)
    → ((k : Kept) (o : OptionValue) → field (keep k o) ≡ option_or (says o) (field k)) → field nothing ≡ None
    → {bytes : List ℕ} {k : Kept} (s : Says bytes k) → field k ≡ last_of says s.options
said field says h none s = ap field (sym s.kept) ∙ kept keep field says h nothing none s.options

pub said_source : {bytes : List ℕ} {k : Kept} (s : Says bytes k) → k.source ≡ last_of source_in s.options
said_source s = said (λ j. j.source) source_in (λ j o. refl) refl s

pub said_target : {bytes : List ℕ} {k : Kept} (s : Says bytes k) → k.target ≡ last_of target_in s.options
said_target s = said (λ j. j.target) target_in (λ j o. refl) refl s

pub said_mtu : {bytes : List ℕ} {k : Kept} (s : Says bytes k) → k.mtu ≡ last_of mtu_in s.options
said_mtu s = said (λ j. j.mtu) mtu_in (λ j o. refl) refl s

pub said_prefix : {bytes : List ℕ} {k : Kept} (s : Says bytes k) → k.prefix_info ≡ last_of prefix_in s.options
said_prefix s = said (λ j. j.prefix_info) prefix_in (λ j o. refl) refl s

pub said_packet : {bytes : List ℕ} {k : Kept} (s : Says bytes k) → k.redirected_hdr ≡ last_of redirected_in s.options
said_packet s = said (λ j. j.redirected_hdr) redirected_in (λ j o. refl) refl s

-- the number of the type that was read
pub kind_read : (bytes : List ℕ) (m : Message) → message_in bytes ≡ m → byte_of type_field bytes ≡ message_number m
kind_read bytes m is =
    sym (number-case_in message_number Message.Unknown (λ k. refl) messages (byte_of type_field bytes))
    ∙ ap message_number is

-- a message, of which this was kept of the blocks after its header
pub message_said : {octets bytes : List ℕ} {k : Kept} {v : NdiscValue} → Passes (checks octets)
    → bytes ≡ payload_in octets
    → (s : Says bytes k) → IsContent octets s.options v → IsMessage octets v
message_said passes payload s content = record {
  options = s.options;
  passes = passes;
  tiling = subst (λ (l : List ℕ). AreBlocks l s.options) payload s.tiling;
  content = content;
}
