-- A CANCEL with the key of a call is marked: its top Via value can be read.
use Rattle.fork_call.proofs.Common.{◌≡◌, ap, refl, true, false, Bool, None, MessageText, Hop}
use Rattle.std.specs.Prelude.{◌≢◌, Result, Ok, Err, IsOk}
use Rattle.std.proofs.lemmas.Bool.{cond-false}
use Rattle.sip_route.specs.RequestKey.{key_if_read, request_key}
use Rattle.sip_via.specs.Received.{marked}
use Rattle.sip_via.specs.ViaFaults.{refusal}
use Rattle.sip_via.specs.TopVia.{top_value}
use Rattle.sip_via.specs.ViaParts.{is_via}
use Rattle.sip_via.specs.declared.own.ViaFault.{ViaFault}
use Rattle.sip_via.specs.declared.own.ViaFault.TheVariants.{BadVia}

keyed_reads : (m : MessageText) → request_key m ≢ None → is_via (top_value m) ≡ true
keyed_reads m keyed = by (is_via (top_value m)) refl
  where
    by : (b : Bool) → is_via (top_value m) ≡ b → is_via (top_value m) ≡ true
    by true e = e
    by false e = absurd (keyed (ap key_if_read (cond-false _ _ _ e)))

ok_kept : {Y : Type 0} (r : Result Y ViaFault) → IsOk r → refusal r ≡ BadVia → ⊥
ok_kept (Ok y) is e = absurd cc
ok_kept (Err fault) is e = absurd cc

pub keyed_is_marked : (m : MessageText) (source : Hop) → request_key m ≢ None → (is_via (top_value m) ≡ true → IsOk (marked m source))
    → refusal (marked m source) ≡ BadVia → ⊥
keyed_is_marked m source keyed law e = ok_kept (marked m source) (law (keyed_reads m keyed)) e
