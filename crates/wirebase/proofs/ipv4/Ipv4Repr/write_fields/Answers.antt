-- The numbers that are written for adjacent fields have the bytes of these fields.
use Rattle.wirebase.proofs.Words.{◌≡◌, ◌+◌, [], ◌∷◌, ◌∙◌, Ipv4Repr, List, Puts, ℕ, ap, be16, be32, be8, fields}
use Rattle.wirebase.proofs.Words.{header_fields, octets_of, over, protocol_number, refl, rules}
use Rattle.wirebase.proofs.Chains.{over-puts}
use Rattle.wirebase.proofs.ipv4.Ipv4Repr.write_fields.Goals as goal

-- the fields, with those written together that have one number
abbrev wide_fields : Ipv4Repr → List (List ℕ)
wide_fields r =
    be16 0x4500 ∷ be16 (20 + r.payload_len)
    ∷ be32 0x4000
    ∷ be8 r.hop_limit ∷ be8 (protocol_number r.next_header) ∷ be16 0
    ∷ octets_of r.src_addr
    ∷ octets_of r.dst_addr ∷ []

same_fields : (r : Ipv4Repr) → fields (wide_fields r) ≡ fields (header_fields r)
unfolding header_fields fields be8 be16 be32
same_fields r = refl

pub returns : goal.returns
unfolding header_fields over fields
returns c =
    let r = c.args.self.now in
    let puts : Puts c.new-w.result c.put_bytes-2.new.self (wide_fields r) = search rules in
    let left =
    over-puts c.args.header.now _ _ _ c.new-w.ensures.blank puts ∙ ap (over c.args.header.now) (same_fields r) in
    search rules
