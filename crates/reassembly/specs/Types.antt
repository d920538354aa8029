-- The types that definitions and proofs speak of; a constructor is written behind its type, as `Type.Constructor`.
pub use Rattle.frame_wire.specs.declared.datagram.Addresses.{Addresses}
pub use Rattle.frame_wire.specs.declared.datagram.Head.{Head}
pub use Rattle.wirebase.specs.declared.ip.IpProtocol.{IpProtocol}
pub use Rattle.reassembly.specs.declared.answer.Answer.{Answer}
pub use Rattle.reassembly.specs.declared.answer.Fault.{Fault}
pub use Rattle.reassembly.specs.declared.answer.Refusal.{Refusal}
pub use Rattle.reassembly.specs.declared.answer.Whole.{Whole}
pub use Rattle.reassembly.specs.declared.fragment.Fragment.{Fragment}
pub use Rattle.reassembly.specs.declared.key.Key.{Key}
pub use Rattle.reassembly.specs.declared.partial.Partial.{Partial}
pub use Rattle.reassembly.specs.declared.partial.Taken.{Taken}
pub use Rattle.reassembly.specs.declared.piece.Piece.{Piece}
pub use Rattle.reassembly.specs.declared.reassembly.Reassembly.{Reassembly}
pub use Rattle.reassembly.specs.declared.piece.Standing.{Standing}
