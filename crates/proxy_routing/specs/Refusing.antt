-- Why a proxy answers a request itself and opens no call for it (RFC 3261 section 16.3).
use Rattle.std.specs.Prelude.{◌≡◌, ◌≢◌, ℕ, true, false, Option, Some, None, Err}
use Rattle.sip_text.specs.Text.{MessageText}
use Rattle.sip_uri.specs.declared.fault.UriFault.TheVariants as uris
use Rattle.sip_uri.specs.declared.hop.Hop.{Hop}
use Rattle.sip_route.specs.LoopTest.{IsLoop}
use Rattle.proxy_config.specs.Setup.{Setup}
use Rattle.proxy_routing.specs.declared.fault.RequestRejection.{RequestRejection}
use Rattle.proxy_routing.specs.declared.fault.RequestRejection.TheVariants.{BadRequest, Scheme, Hops, Loop, Extension, NoTarget, NoHop, NoMemory}
use Rattle.proxy_routing.specs.Admission.{IsPrepared, IsRoutable, is_at_its_end, is_well_formed, target_uri}

-- what it answers (section 21)
abbrev pub status_of_fault : RequestRejection → Option ℕ
status_of_fault BadRequest = Some 400
status_of_fault Scheme = Some 416
status_of_fault Hops = Some 483
status_of_fault Loop = Some 482
status_of_fault Extension = Some 420
status_of_fault NoTarget = Some 480
status_of_fault NoHop = Some 500
status_of_fault NoMemory = None

-- the first of the first three steps that it fails
abbrev pub IsUnroutable : MessageText → RequestRejection → Type 0
IsUnroutable m BadRequest = is_well_formed m ≡ false
IsUnroutable m Scheme = (is_well_formed m ≡ true) × (target_uri m ≡ Err uris.NotSip)
IsUnroutable m Hops = (is_well_formed m ≡ true) × (target_uri m ≢ Err uris.NotSip) × (is_at_its_end m ≡ true)
-- want of memory is told apart
IsUnroutable m NoMemory = ⊥
-- the others come behind these steps
IsUnroutable m Loop = ⊥
IsUnroutable m Extension = ⊥
IsUnroutable m NoTarget = ⊥
IsUnroutable m NoHop = ⊥

-- the first of the first four that it fails
abbrev pub IsTurnedAway : Setup → MessageText → Hop → RequestRejection → Type 0
IsTurnedAway setup m source BadRequest = IsUnroutable m BadRequest
IsTurnedAway setup m source Scheme = IsUnroutable m Scheme
IsTurnedAway setup m source Hops = IsUnroutable m Hops
IsTurnedAway setup m source Loop =
    IsRoutable m × (request : MessageText) × IsPrepared setup m source request × IsLoop request setup.own
IsTurnedAway setup m source NoMemory = ⊥
IsTurnedAway setup m source Extension = ⊥
IsTurnedAway setup m source NoTarget = ⊥
IsTurnedAway setup m source NoHop = ⊥
