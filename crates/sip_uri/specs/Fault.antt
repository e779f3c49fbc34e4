-- What a call answered against what reading gives, unless memory ran out.
use Rattle.std.specs.Prelude.{◌≡◌, Option, Some, None, Result, Ok, Err}
use Rattle.sip_uri.specs.declared.fault.UriFault.{UriFault}
use Rattle.sip_uri.specs.declared.fault.UriFault.TheVariants.{NoMemory}

abbrev pub Fails : {Y : Type 0} → UriFault → Result Y UriFault → Type 0
Fails NoMemory read = Unit {0}
Fails f read = read ≡ Err f

-- the value, as view shows it, or the fault, is what reading gives
abbrev pub Gives : {X Y : Type 0} → (X → Y) → Result X UriFault → Result Y UriFault → Type 0
Gives view (Ok x) read = read ≡ Ok (view x)
Gives view (Err e) read = Fails e read

-- the fault that reading names, if it names one
abbrev pub fault_if_refused : {Y : Type 0} → Result Y UriFault → Option UriFault
fault_if_refused (Ok y) = None
fault_if_refused (Err f) = Some f

-- why a call that asks for memory last gives nothing: the fault that reading names, else want of memory
abbrev pub refusal : {Y : Type 0} → Result Y UriFault → UriFault
refusal (Ok y) = NoMemory
refusal (Err f) = f
