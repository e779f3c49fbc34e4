-- What is given back of a request that is not routed.
use Rattle.proxy_routing.proofs.Common.{MessageText}
use Rattle.std.specs.Prelude.{IfErr}
use Rattle.std.proofs.Common.{Result, Ok, Err}
use Rattle.sip_uri.specs.declared.hop.Hop.{Hop}
use Rattle.proxy_config.specs.Setup.{Setup}
use Rattle.proxy_routing.specs.declared.fault.RequestRejection.{RequestRejection}
use Rattle.proxy_routing.specs.declared.fault.RequestRejection.TheVariants.{BadRequest, Scheme, Hops, Loop, Extension, NoTarget, NoHop, NoMemory}
use Rattle.proxy_routing.specs.declared.unrouted.Unrouted.{Unrouted}
use Rattle.proxy_routing.specs.declared.unrouted.Unrouted.TheVariants as unrouted
use Rattle.proxy_routing.specs.Unrouted.{IfRejected, IsTurnedBack}
use Rattle.proxy_routing.specs.inner.Unrouted.{IsUnroutableAs}

turned_back : (setup : Setup) (m : MessageText) (source : Hop) (fault : RequestRejection) (back : MessageText) → IsUnroutableAs m source fault back → IsTurnedBack setup m source fault back
turned_back setup m source BadRequest back h = h
turned_back setup m source Scheme back h = h
turned_back setup m source Hops back h = h
turned_back setup m source Loop back h = absurd h
turned_back setup m source Extension back h = absurd h
turned_back setup m source NoTarget back h = absurd h
turned_back setup m source NoHop back h = absurd h
turned_back setup m source NoMemory back h = absurd h

pub turned_back_if : {A : Type 0} (setup : Setup) (m : MessageText) (source : Hop) (why : Unrouted A) → IfRejected (IsUnroutableAs m source) why → IfRejected (IsTurnedBack setup m source) why
turned_back_if setup m source (unrouted.Rejected fault back) h = turned_back setup m source fault back h
turned_back_if setup m source unrouted.NoMemory h = tt
