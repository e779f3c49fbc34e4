-- What a call answered against what its definition gives, unless memory ran out.
use Rattle.std.specs.Prelude.{◌≡◌, Result, Ok, Err}
use Rattle.sip_via.specs.declared.own.ViaFault.{ViaFault}
use Rattle.sip_via.specs.declared.own.ViaFault.TheVariants as via

abbrev pub Fails : {Y : Type 0} → ViaFault → Result Y ViaFault → Type 0
Fails via.NoMemory read = Unit {0}
Fails f read = read ≡ Err f

-- the value, as view shows it, or the fault, is what reading gives
abbrev pub Gives : {X Y : Type 0} → (X → Y) → Result X ViaFault → Result Y ViaFault → Type 0
Gives view (Ok x) read = read ≡ Ok (view x)
Gives view (Err e) read = Fails e read

-- why nothing was given: the fault, and want of memory only where there is none
abbrev pub refusal : {Y : Type 0} → Result Y ViaFault → ViaFault
refusal (Ok y) = via.NoMemory
refusal (Err f) = f
