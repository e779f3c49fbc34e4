-- Why a request opens no call: where a fault holds that has a name, no call opens, and no other such fault holds. So what is
-- answered then is that fault, or want of memory (RFC 3261 sections 16.3 to 16.6).
use Rattle.std.specs.Prelude.{◌≡◌, ◌≢◌, ℕ}
use Rattle.sip_text.specs.Text.{MessageText}
use Rattle.sip_uri.specs.declared.hop.Hop.{Hop}
use Rattle.proxy_config.specs.Setup.{Setup}
use Rattle.proxy_routing.specs.declared.fault.RequestRejection.{RequestRejection}
use Rattle.proxy_routing.specs.declared.fault.RequestRejection.TheVariants.{NoMemory}
use Rattle.call_model.specs.Call.{Call}
use Rattle.fork_call.specs.Opening.{Opens, Refuses}

pub record HoldsAlone (setup : Setup) (m : MessageText) (source : Hop) (fault : RequestRejection) : Type 0 where
  pub unopened : (number : ℕ) (call : Call) → Opens setup number m source call → ⊥
  pub only : (other : RequestRejection) → other ≢ NoMemory → Refuses setup m source other → other ≡ fault

abbrev pub OneFaultHolds : Type 0
OneFaultHolds =
    (setup : Setup) (m : MessageText) (source : Hop) (fault : RequestRejection) → fault ≢ NoMemory → Refuses setup m source fault → HoldsAlone setup m source fault
