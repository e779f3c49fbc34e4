use Rattle.proxy_routing.proofs.Common.{arith}
use Rattle.std.proofs.Common.{◌≤◌, length}
use Rattle.proxy_routing.proofs.TakenOff.{all_taken}
use Rattle.proxy_routing.proofs.own_credentials.without_credentials.Goals as goal

pub loop-place-smaller : goal.loop-place-smaller
loop-place-smaller g c = (c.in_ok-left.ensures c.args.message c.loop-place.invariant).1

pub loop-place-preserved : goal.loop-place-preserved
loop-place-preserved g c = (c.in_ok-left.ensures c.args.message c.loop-place.invariant).0

pub returns : goal.returns
returns g c =
    let few : length c.loop-place.message.headers ≤ c.loop-place.place = grind arith in
    all_taken c.args.realm.now c.args.message c.loop-place.message c.loop-place.place few c.loop-place.invariant
