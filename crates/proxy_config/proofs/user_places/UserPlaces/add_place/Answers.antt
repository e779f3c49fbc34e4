use Rattle.std.proofs.Common.{sym}
use Rattle.std.specs.Prelude.{OnErr, Result, Ok, Err}
use Rattle.proxy_config.proofs.UserPlaces.{place_added, places_same}
use Rattle.proxy_config.proofs.user_places.UserPlaces.add_place.Goals as goal

on_err : {X Y : Type 0} (r : Result X Y) (P : Type 0) → P → OnErr r P
on_err (Ok x) P p = tt
on_err (Err y) P p = p

pub returns-in_err-push-clause-err : goal.returns-in_err-push-clause-err
returns-in_err-push-clause-err g c =
    let map = c.get_mut.follows.lender c.push.new.self in
    let written = (c.get_mut.follows.holds c.push.new.self).3 c.requires in
    on_err c.from_residual.result _ (places_same c.args.self.now (record { places = map }) c.args.user.now c.in-Some.places.now c.push.new.self (sym c.in-Some.ensures.value) written.1 c.in_err-push.ensures.items written.3)

pub returns-clause-ok : goal.returns-clause-ok
returns-clause-ok g c =
    let map = c.get_mut.follows.lender c.push.new.self in
    let written = (c.get_mut.follows.holds c.push.new.self).3 c.requires in
    place_added c.args.self.now (record { places = map }) c.args.user.now c.in-Some.places.now c.push.new.self c.args.place (sym c.in-Some.ensures.value) written.1 c.in_ok-push.ensures.items written.3
