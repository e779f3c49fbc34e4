-- What a call that builds a message answered against what its definition gives, unless memory ran out.
use Rattle.std.specs.Prelude.{◌≡◌, Result, Ok, Err}
use Rattle.sip_via.specs.declared.own.BuildFault.{BuildFault}
use Rattle.sip_via.specs.declared.own.BuildFault.TheVariants as build

abbrev pub FailsToBuild : {Y : Type 0} → BuildFault → Result Y BuildFault → Type 0
FailsToBuild build.NoMemory built = Unit {0}
FailsToBuild f built = built ≡ Err f

-- the message, or the fault, is what building gives
abbrev pub Builds : {X Y : Type 0} → (X → Y) → Result X BuildFault → Result Y BuildFault → Type 0
Builds view (Ok x) built = built ≡ Ok (view x)
Builds view (Err e) built = FailsToBuild e built
