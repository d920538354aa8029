-- The format of frames of Ethernet: what is read in their texts, and what was read.
use Rattle.std.proofs.Common.{◌≡◌, ℕ, ◌<◌, ◌^◌, List, [], length, refl, sym, ap, ◌∙◌, arith}
use Rattle.std.specs.Prelude.{Result}
use Rattle.std.specs.Borrow.{Bor}
use Rattle.std.specs.Result.{IfOk}
use Rattle.std.proofs.lemmas.Result.{IfOk-weaker}
use Rattle.byteorder.specs.Numbers.{big_number-reads_back}
use Rattle.wirebase.specs.Bytes.{IsBytes, part, over, number_of}
use Rattle.wirebase.specs.ByteWriter.{be16, fields}
use Rattle.wirebase.specs.Ethernet.{Ethernet}
use Rattle.wirebase.specs.Format.{Rewrites}
use Rattle.wirebase.proofs.ByteParts.{number_of-small}
use Rattle.wirebase.proofs.Format.{IsFormat, round_trips}
use Rattle.wirebase.proofs.Pieces.{over-exact}
use Rattle.header_wire.specs.Ethernet.{Value, Frame, frame, text_len, text, ether_type_field, Says, IsFrame}
use Rattle.header_wire.specs.Ethernet.{IsCanonical, frame_of, frame_text, format, Emits}
use Rattle.header_wire.specs.declared.ethernet.Header.{Header}
use Rattle.header_wire.specs.declared.ethernet.Refusal.{Refusal}
use Rattle.header_wire.proofs.Hardware.{same_hardware}

-- ---- reading what was written

length-text : (v : Value) → length (text v) ≡ text_len
unfolding fields be16
length-text v = refl

frame_read : (f : Frame) → IsCanonical f → IsFrame (frame_text f) f
unfolding fields be16 part
frame_read f c = record {
  passes = (omega arith, tt);
  says = record {
    src_addr = refl;
    dst_addr = refl;
    ether_type = sym (big_number-reads_back 2 f.header.ether_type [] c);
  };
  payload = refl;
}

-- ---- what was read

abbrev value : Ethernet → Ethernet → ℕ → Value
value src_addr dst_addr ether_type = record { src_addr = src_addr; dst_addr = dst_addr; ether_type = ether_type }

says-one : (bytes : List ℕ) (v w : Value) → Says bytes v → Says bytes w → v ≡ w
says-one bytes v w a b =
    let src_addr = same_hardware v.src_addr w.src_addr (a.src_addr ∙ sym b.src_addr) in
    let dst_addr = same_hardware v.dst_addr w.dst_addr (a.dst_addr ∙ sym b.dst_addr) in
    let ether_type = a.ether_type ∙ sym b.ether_type in
    let same : value v.src_addr v.dst_addr v.ether_type ≡ value w.src_addr w.dst_addr w.ether_type =
    rw (src_addr, dst_addr, ether_type) refl in
    same

frame-one : (bytes : List ℕ) (f g : Frame) → IsFrame bytes f → IsFrame bytes g → f ≡ g
frame-one bytes f g a b =
    ap (λ (v : Value). frame v f.payload) (says-one bytes f.header g.header a.says b.says)
    ∙ ap (λ (l : List ℕ). frame g.header l) (a.payload ∙ sym b.payload)

accepted : (bytes : List ℕ) (f : Frame) → IsBytes bytes → IsFrame bytes f → IsCanonical f
accepted bytes f are m =
    let small : number_of ether_type_field bytes < 2 ^ 16 = number_of-small 12 14 bytes refl are in
    omega (arith, m.says.ether_type, small)

-- ---- the format

pub frame_format : IsFormat format
frame_format = record {
  one_value = frame-one;
  reads_back = λ f fills c. frame_read f c;
  norm_canonical = λ f c. c;
  norm_norm = λ f. refl;
  norm_text = λ f c regular. refl;
  accepted = λ bytes f are few m. accepted bytes f are m;
  regular = λ bytes f m e. e;
  kept = λ bytes f are c m uncut. refl;
}

-- what was read can be written, whatever its length
frame_rewrites : (bytes : List ℕ) (f : Frame) → IsBytes bytes → IsFrame bytes f → Rewrites format f
frame_rewrites bytes f are m = record {
  canonical = accepted bytes f are m;
  regular = λ e. e;
  reads_back = λ fills. frame_read f (accepted bytes f are m);
  same_text = refl;
  same_value = λ uncut. refl;
}

pub all_rewrite : (bytes : List ℕ) (result : Result (Header × Bor (List ℕ)) Refusal) → IsBytes bytes
    → IfOk result (λ both. IsFrame bytes (frame_of both)) → IfOk result (λ both. Rewrites format (frame_of both))
all_rewrite bytes result are sound =
    IfOk-weaker result (λ both. IsFrame bytes (frame_of both)) (λ both. Rewrites format (frame_of both))
    (λ both m. frame_rewrites bytes (frame_of both) are m) sound

-- what is left where a header was written
pub header_emits : (v : Value) (old new : List ℕ) → new ≡ over old (text v) → Emits v old new
header_emits v old new e = record {
  written = e;
  exact = λ whole. e ∙ over-exact old (text v) (whole ∙ sym (length-text v));
  round_trips = λ payload. round_trips format frame_format (frame v payload);
}
