-- A call as it opens.
use Rattle.fork_call.proofs.Common.{◌≡◌, ℕ, ap, sym, refl, subst, arith, [], List, Option, MessageText, Hop, Call, scheduled, IsTimed}
use Rattle.sip_uri.specs.Uri.{Uri}
use Rattle.proxy_config.specs.Setup.{Setup}
use Rattle.call_model.specs.Call.{numbered}
use Rattle.call_model.specs.Sound.{BegunIsSound}
use Rattle.call_laws.specs.Right.{BegunStands}
use Rattle.fork_call.specs.Opening.{Reaches, candidates_for, opened_of}
use Rattle.proxy_routing.specs.Targets.{targets_of}

pub reached_timed : (begun : BegunIsSound) (stand : BegunStands) (setup : Setup) (number : ℕ) (request : MessageText) (source : Hop) (uri : Uri) (call : Call) (moments : List (Option ℕ))
    → Reaches setup number request source uri call → moments ≡ scheduled call → IsTimed call moments
reached_timed begun stand setup number request source uri call moments reaches times =
    let begins = reaches.begins in
    let P : Call → Type 0 = λ x. IsTimed x (scheduled x) in
    let Q : List (Option ℕ) → Type 0 = λ ms. IsTimed call ms in
    let opened = opened_of setup number request source uri in
    subst Q (sym times) (subst P (sym begins.2) (record {
      sound = begun opened setup.rules (targets_of (candidates_for setup request uri)) begins.0;
      right = ([], [], stand opened setup.rules (targets_of (candidates_for setup request uri)) begins.0);
      times = refl;
      within = omega arith;
    }))

-- what opens under one number opens under any
pub reaches_numbered : (setup : Setup) (first number : ℕ) (request : MessageText) (source : Hop) (uri : Uri) (call : Call)
    → Reaches setup first request source uri call → Reaches setup number request source uri (numbered number call)
reaches_numbered setup first number request source uri call reaches =
    let begins = reaches.begins in
    record { some = reaches.some; hops = reaches.hops; begins = (begins.0, begins.1, ap (numbered number) begins.2) }
