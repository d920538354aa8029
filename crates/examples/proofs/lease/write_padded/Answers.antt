use Rattle.std.proofs.Common.{◌≡◌, ℕ, ◌-◌, ◌≤◌, List, ◌++◌, length, take, drop, replicate, ap, sym}
use Rattle.std.proofs.Common.{◌∙◌, arith, length-append}
use Rattle.std.proofs.lemmas.List.{length-replicate, take_at, drop_at}
use Rattle.control_wire.specs.Dhcpv4.{text, value_of}
use Rattle.control_wire.specs.Dhcpv4Format.{text_len}
use Rattle.examples.proofs.Leases.{laid, part-len}
use Rattle.examples.proofs.lease.write_padded.Goals as goal

pub returns-clause-written : goal.returns-clause-written
returns-clause-written c =
    let len = c.buffer_len-len.result in
    let n = c.max-padded.result in
    let v = value_of c.args.repr.now in
    let old = c.args.out.now in
    let packet = c.write_whole.new.out in
    let long : length packet ≡ len = ap length c.write_whole.ensures ∙ sym c.buffer_len-len.ensures.exact in
    let room : len ≤ n = omega (arith, c.max-padded.ensures) in
    let fits : n ≤ length old = c.if-out-padded.false in
    let count : n - len ≡ c.args.min_len - text_len v =
    omega (arith, c.max-padded.ensures, c.buffer_len-len.ensures.value) in
    let zeros : c.fill.new.self ≡ replicate (n - len) 0 =
    c.fill.ensures.after (λ y e. e) ∙ ap (λ (k : ℕ). replicate k 0) (part-len packet old len n long room fits) in
    let whole : length (packet ++ c.fill.new.self) ≡ n =
    omega (
      arith,
      length-append packet c.fill.new.self,
      long,
      ap length zeros,
      length-replicate {A = ℕ} (n - len) 0,
      room,
    ) in
    ap (λ (l : List ℕ). take n l) (laid packet c.fill.new.self old len n long room)
    ∙ take_at (packet ++ c.fill.new.self) (drop n old) n whole
    ∙ ap (λ (l : List ℕ). l ++ c.fill.new.self) c.write_whole.ensures
    ∙ ap (λ (l : List ℕ). text v ++ l) (zeros ∙ ap (λ (k : ℕ). replicate k 0) count)

pub returns-clause-rest : goal.returns-clause-rest
returns-clause-rest c =
    let len = c.buffer_len-len.result in
    let n = c.max-padded.result in
    let old = c.args.out.now in
    let packet = c.write_whole.new.out in
    let long : length packet ≡ len = ap length c.write_whole.ensures ∙ sym c.buffer_len-len.ensures.exact in
    let room : len ≤ n = omega (arith, c.max-padded.ensures) in
    let fits : n ≤ length old = c.if-out-padded.false in
    let zeros : c.fill.new.self ≡ replicate (n - len) 0 =
    c.fill.ensures.after (λ y e. e) ∙ ap (λ (k : ℕ). replicate k 0) (part-len packet old len n long room fits) in
    let whole : length (packet ++ c.fill.new.self) ≡ n =
    omega (
      arith,
      length-append packet c.fill.new.self,
      long,
      ap length zeros,
      length-replicate {A = ℕ} (n - len) 0,
      room,
    ) in
    ap (λ (l : List ℕ). drop n l) (laid packet c.fill.new.self old len n long room)
    ∙ drop_at (packet ++ c.fill.new.self) (drop n old) n whole
