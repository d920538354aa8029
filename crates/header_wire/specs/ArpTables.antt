-- The operations of packets of ARP (RFC 826).
use Rattle.std.specs.Prelude.{ℕ, List, [], ◌∷◌, codes, decimal}
use Rattle.wirebase.specs.Display.{pieces}
use Rattle.wirebase.specs.Numbered.{rows_of, case_in}
use Rattle.header_wire.specs.declared.arp.tables.Operation.{Operation}

-- operations by their numbers
abbrev pub operation_number : Operation → ℕ
operation_number Operation.Request = 1
operation_number Operation.Reply = 2
operation_number (Operation.Unknown n) = n

abbrev pub operations : List Operation
operations = Operation.Request ∷ Operation.Reply ∷ []

abbrev pub operation_rows : List (Operation × ℕ)
operation_rows = rows_of operation_number operations

abbrev pub operation_of : ℕ → Operation
operation_of n = case_in Operation.Unknown operation_rows n

-- the printed text of an operation
abbrev pub operation_display : Operation → List ℕ
operation_display Operation.Request = codes "request"
operation_display Operation.Reply = codes "reply"
operation_display (Operation.Unknown n) = pieces (codes "operation " ∷ decimal n ∷ [])
