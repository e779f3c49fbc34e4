-- What becomes of a datagram that a proxy receives, and what is sent for it at once (RFC 3261 sections 16.2, 16.7 step 1,
-- 16.10, 16.11, 17.1.3, 17.2.3 and 18).
-- Here: what no public contract reaches.
use Rattle.std.specs.Prelude.{◌≡◌, Bool, true, false, List, Option, Some, None}
use Rattle.sip_text.specs.Reading.{Fault}
use Rattle.sip_text.specs.Text.{MessageText}
use Rattle.sip_uri.specs.declared.hop.Hop.{Hop}
use Rattle.proxy_config.specs.Setup.{Setup}
use Rattle.call_model.specs.Built.{Datagram}
use Rattle.proxy_routing.specs.declared.fault.RequestRejection.{RequestRejection}
use Rattle.proxy_dispatch.specs.declared.admission.Opener.{Opener}
use Rattle.proxy_dispatch.specs.declared.admission.Opener.TheVariants.{OutsideDialog, Registering, WithinDialog}
use Rattle.proxy_dispatch.specs.declared.datagrams.Handled.{Handled}
use Rattle.proxy_dispatch.specs.declared.datagrams.Handled.TheVariants.{Opened}
use Rattle.proxy_dispatch.specs.Becomes.{FaultBecomes, IsRejected}
use Rattle.proxy_dispatch.specs.Looks.{Look}

-- of one that was told; want of memory is no fault of the text
abbrev pub ToldBecomes : Option Fault → Hop → Handled → Option Datagram → Type 0
ToldBecomes None source handled sent = ⊥
ToldBecomes (Some fault) source handled sent = FaultBecomes fault source handled sent

-- a call was opened
abbrev pub is_opened : Handled → Bool
is_opened (Opened number) = true
is_opened _ = false

-- it is a REGISTER for the domain
abbrev pub is_registering : Opener → Bool
is_registering Registering = true
is_registering OutsideDialog = false
is_registering WithinDialog = false

-- by this reason
abbrev pub IsRejectedBy : Setup → MessageText → Hop → RequestRejection → List Look → Handled → Option Datagram → Type 0
IsRejectedBy setup m source fault looks handled sent = (is : IsRejected setup m source looks handled sent) × (is.fault ≡ fault)
