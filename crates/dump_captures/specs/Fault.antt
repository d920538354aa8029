-- The fault for an error.
use Rattle.capture.specs.declared.ending.Fault.{Fault as CaptureFault}
use Rattle.capture.specs.declared.ending.Fault.TheVariants as capture
use Rattle.std.specs.declared.io.ErrorKind.{ErrorKind}
use Rattle.std.specs.declared.io.ErrorKind.TheVariants.{BrokenPipe, OutOfMemory}
use Rattle.dump_captures.specs.declared.fault.Fault.{Fault}
use Rattle.dump_captures.specs.declared.fault.Fault.TheVariants as fault

-- for an error of the output, or of memory that is written to
unfoldable pub fault_of : ErrorKind → Fault
fault_of BrokenPipe = fault.Closed
fault_of OutOfMemory = fault.Memory
fault_of _ = fault.Write

-- for a fault of the input
abbrev pub fault_of_capture : CaptureFault → Fault
fault_of_capture capture.Read = fault.Read
fault_of_capture capture.Memory = fault.Memory
