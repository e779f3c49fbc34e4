use Rattle.authentication.proofs.Values.{challenge_is_header}
use Rattle.authentication.proofs.refusal.add_challenge.Goals as goal

pub push-requires : goal.push-requires
push-requires g c =
    challenge_is_header c.args.challenger c.challenge_name.result.now c.in_ok-value.value.items c.args.realm.now.name.now c.args.nonce.now c.args.stale c.args.algorithm
    c.challenge_name.ensures c.in_ok-value.ensures c.args.realm.now.visible c.requires
