-- What options tell, interfaces, and what a buffer shows.
use Rattle.std.proofs.Common.{◌≡◌, ◌≢◌, ℕ, ◌-◌, ◌≤◌, List, length, take, drop, take_all, ◌↔◌, ℤ, slice_index, refl, ap}
use Rattle.std.proofs.Common.{sym, subst, ◌∙◌}
use Rattle.wirebase.specs.Bytes.{field, part}
use Rattle.capture.specs.Order.{signed_number, number_in}
use Rattle.capture.specs.Pcapng.{IsOption, option_end, TellsOption, here, later, HasResolution, told, microseconds}
use Rattle.capture.specs.Pcapng.{HasOffset, moved_by, not_moved, link_type_field, snap_len_field, IsInterface, IsHead}
use Rattle.capture.specs.Pcapng.{BeginsPacket, ShowsPacket, first, behind}
use Rattle.capture.specs.Types.{Order, Head, Interface}

-- ---- options

module _ (order : Order) (code n : ℕ) where
  abbrev pub Tells : List ℕ → List ℕ → Type 0
  Tells bytes value = TellsOption order code n bytes value

  -- after another option, what the options after it tell
  tells_later : (bytes value : List ℕ) (other m : ℕ) → IsOption order bytes other m
      → ((other ≡ code) × (m ≡ n) → ⊥) → Tells bytes value → Tells (drop (option_end m) bytes) value
  tells_later bytes value other m is differs (here found e) =
      absurd (differs (sym is.code_is ∙ found.code_is, sym is.length_is ∙ found.length_is))
  tells_later bytes value other m is differs (later other' m' is' some differs' rest) =
      subst (λ k. Tells (drop (option_end k) bytes) value) (sym is'.length_is ∙ is.length_is) rest

  -- what the code reads from the bytes after an option
  pub tells_behind : (bytes value : List ℕ) (other m most : ℕ) → IsOption order bytes other m → other ≢ 0
      → ((other ≡ code) × (m ≡ n) → ⊥) → length (drop (option_end m) bytes) ≤ most
      → Tells (take most (drop (option_end m) bytes)) value ↔ Tells bytes value
  tells_behind bytes value other m most is some differs long =
      let all = take_all most (drop (option_end m) bytes) long in (
        λ tells. later other m is some differs (subst (λ l. Tells l value) all tells),
        λ tells. subst (λ l. Tells l value) (sym all) (tells_later bytes value other m is differs tells),
      )

  pub option_of : (bytes : List ℕ) (other m : ℕ) → 4 ≤ length bytes → other ≡ number_in order (field 0 2) bytes
      → m ≡ number_in order (field 2 4) bytes → option_end m ≤ length bytes → IsOption order bytes other m
  option_of bytes other m there c l whole = record { there = there; code_is = sym c; length_is = sym l; whole = whole }

  one_told : (bytes v w : List ℕ) → Tells bytes v → Tells bytes w → v ≡ w
  one_told bytes v w (here found e) (here found' e') = e ∙ sym e'
  one_told bytes v w (here found e) (later other m is some differs rest) =
      absurd (differs (sym is.code_is ∙ found.code_is, sym is.length_is ∙ found.length_is))
  one_told bytes v w (later other m is some differs rest) tells =
      one_told (drop (option_end m) bytes) v w rest (tells_later bytes w other m is differs tells)

-- ---- interfaces

module _ (order : Order) (bytes : List ℕ) where
  one_resolution : (r s : ℕ) → HasResolution order bytes r → HasResolution order bytes s → r ≡ s
  one_resolution r s (told v t e) (told w u e') =
      e ∙ ap (λ l. slice_index l 0) (one_told order 9 1 bytes v w t u) ∙ sym e'
  one_resolution r s (told v t e) (microseconds none e') = absurd (none v t)
  one_resolution r s (microseconds none e) (told w u e') = absurd (none w u)
  one_resolution r s (microseconds none e) (microseconds none' e') = e ∙ sym e'

  one_offset : (r s : ℤ) → HasOffset order bytes r → HasOffset order bytes s → r ≡ s
  one_offset r s (moved_by v t e) (moved_by w u e') =
      e ∙ ap (signed_number order) (one_told order 14 8 bytes v w t u) ∙ sym e'
  one_offset r s (moved_by v t e) (not_moved none e') = absurd (none v t)
  one_offset r s (not_moved none e) (moved_by w u e') = absurd (none w u)
  one_offset r s (not_moved none e) (not_moved none' e') = e ∙ sym e'

pub is_interface : (order : Order) (bytes options : List ℕ) (link_type snap_len resolution : ℕ) (offset said : ℤ)
    → 20 ≤ length bytes → link_type ≡ number_in order link_type_field bytes
    → snap_len ≡ number_in order snap_len_field bytes → options ≡ part bytes 16 (length bytes - 4)
    → HasResolution order options resolution → HasOffset order options said → offset ≡ said
    → IsInterface order bytes
    (record { link_type = link_type; snap_len = snap_len; resolution = resolution; offset = offset })
is_interface order bytes options link_type snap_len resolution offset said whole l s e r o same = record {
  whole = whole;
  link_type = l;
  snap_len = s;
  resolution = subst (λ l. HasResolution order l resolution) e r;
  offset = subst (λ l. HasOffset order l offset) e (subst (HasOffset order options) (sym same) o);
}

pub one_interface : (order : Order) (bytes : List ℕ) (i j : Interface) → IsInterface order bytes i
    → IsInterface order bytes j → i ≡ j
one_interface order bytes i j is is' =
    let options = part bytes 16 (length bytes - 4) in
    let link : i.link_type ≡ j.link_type = is.link_type ∙ sym is'.link_type in
    let snap : i.snap_len ≡ j.snap_len = is.snap_len ∙ sym is'.snap_len in
    let same : i.resolution ≡ j.resolution =
    one_resolution order options i.resolution j.resolution is.resolution is'.resolution in
    let moves : i.offset ≡ j.offset = one_offset order options i.offset j.offset is.offset is'.offset in
    rw (link, snap, same, moves) refl

-- ---- what a buffer shows

module _ (section : Order) (bytes : List ℕ) where
  abbrev pub ShowsBehind : Head → List ℕ → Type 0
  ShowsBehind h octets = ShowsPacket h.order (drop h.total_len octets)

  shown_behind : (h : Head) → ((k : Head) → IsHead section bytes k → h ≡ k) → (BeginsPacket section bytes → ⊥)
      → ShowsPacket section bytes → ShowsBehind h bytes
  shown_behind h one none (first begins) = absurd (none begins)
  shown_behind h one none (behind k is whole shows) = subst (λ j. ShowsBehind j bytes) (sym (one k is)) shows

  -- after a block that is there as a whole, what the bytes show that do not begin with a packet
  pub shows_behind : (h : Head) (most : ℕ) → IsHead section bytes h → ((k : Head) → IsHead section bytes k → h ≡ k)
      → h.total_len ≤ length bytes → (BeginsPacket section bytes → ⊥) → length (drop h.total_len bytes) ≤ most
      → ShowsPacket h.order (take most (drop h.total_len bytes)) ↔ ShowsPacket section bytes
  shows_behind h most is one whole none long =
      let all = take_all most (drop h.total_len bytes) long in (
        λ shows. behind h is whole (subst (ShowsPacket h.order) all shows),
        λ shows. subst (ShowsPacket h.order) (sym all) (shown_behind h one none shows),
      )
