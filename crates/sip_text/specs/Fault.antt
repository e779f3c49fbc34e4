-- What a call answered against what reading gives, unless memory ran out.
use Rattle.std.specs.Prelude.{◌≡◌, Option, Some, None, Result, Ok, Err}
use Rattle.sip_text.specs.declared.fault.ReadFault.{ReadFault}
use Rattle.sip_text.specs.declared.fault.ReadFault.TheVariants as read
use Rattle.sip_text.specs.Reading.{Fault, BadStart, BadHeader, Lacks, BadVersion, BadStatus, Short, BadCSeq, BadLength}

-- the fault of a call; None where memory ran out
abbrev pub fault_seen : {A : Type 0} → ReadFault A → Option Fault
fault_seen read.StartLine = Some BadStart
fault_seen read.HeaderLine = Some BadHeader
fault_seen (read.Missing name) = Some (Lacks name)
fault_seen read.Version = Some BadVersion
fault_seen read.Status = Some BadStatus
fault_seen (read.ShortBody m) = Some (Short m)
fault_seen read.CSeq = Some BadCSeq
fault_seen read.Length = Some BadLength
fault_seen read.NoMemory = None

abbrev pub FailsAs : {Y : Type 0} → Option Fault → Result Y Fault → Type 0
FailsAs None read = Unit {0}
FailsAs (Some f) read = read ≡ Err f

abbrev pub Fails : {A Y : Type 0} → ReadFault A → Result Y Fault → Type 0
Fails e read = FailsAs (fault_seen e) read

-- the value, as view shows it, or the fault, is what reading gives
abbrev pub Gives : {A X Y : Type 0} → (X → Y) → Result X (ReadFault A) → Result Y Fault → Type 0
Gives view (Ok x) read = read ≡ Ok (view x)
Gives view (Err e) read = Fails e read
