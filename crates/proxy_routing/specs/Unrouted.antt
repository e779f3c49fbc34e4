-- What a request that is not routed is given back as (RFC 3261 sections 16.3, 16.4 and 18.2.1).
use Rattle.std.specs.Prelude.{◌≡◌, Ok}
use Rattle.sip_text.specs.Text.{MessageText}
use Rattle.sip_uri.specs.declared.hop.Hop.{Hop}
use Rattle.sip_via.specs.Received.{marked}
use Rattle.proxy_config.specs.Setup.{Setup}
use Rattle.proxy_routing.specs.declared.fault.RequestRejection.{RequestRejection}
use Rattle.proxy_routing.specs.declared.fault.RequestRejection.TheVariants.{BadRequest, Scheme, Hops, Loop, Extension, NoTarget, NoHop, NoMemory}
use Rattle.proxy_routing.specs.declared.unrouted.Unrouted.{Unrouted}
use Rattle.proxy_routing.specs.declared.unrouted.Unrouted.TheVariants as unrouted
use Rattle.proxy_routing.specs.Admission.{IsPrepared}
use Rattle.proxy_routing.specs.Refusing.{IsTurnedAway}

-- as it came where it is not well formed, with its source where one of the next two steps stops it, and else as it was prepared
abbrev pub IsGivenBack : Setup → MessageText → Hop → RequestRejection → MessageText → Type 0
IsGivenBack setup m source BadRequest back = back ≡ m
IsGivenBack setup m source Scheme back = marked m source ≡ Ok back
IsGivenBack setup m source Hops back = marked m source ≡ Ok back
IsGivenBack setup m source Loop back = IsPrepared setup m source back
IsGivenBack setup m source Extension back = IsPrepared setup m source back
IsGivenBack setup m source NoTarget back = IsPrepared setup m source back
IsGivenBack setup m source NoHop back = IsPrepared setup m source back
-- want of memory gives nothing back
IsGivenBack setup m source NoMemory back = ⊥

abbrev pub fault_of : {A : Type 0} → Unrouted A → RequestRejection
fault_of (unrouted.Rejected fault back) = fault
fault_of unrouted.NoMemory = NoMemory

-- what holds of the cause and of what is given back, unless memory ran out
abbrev pub IfRejected : {A : Type 0} → (RequestRejection → MessageText → Type 0) → Unrouted A → Type 0
IfRejected P (unrouted.Rejected fault back) = P fault back
IfRejected P unrouted.NoMemory = Unit {0}

-- by one of the first four steps of section 16.3
abbrev pub IsTurnedBack : Setup → MessageText → Hop → RequestRejection → MessageText → Type 0
IsTurnedBack setup m source fault back = IsTurnedAway setup m source fault × IsGivenBack setup m source fault back
