use Rattle.sip_digest.proofs.Common.{◌≡◌, ℕ, List, ◌++◌, ap, subst, append-nil}
use Rattle.std.specs.Prelude.{OnOk}
use Rattle.sip_digest.specs.Challenge.{parts_text}
use Rattle.sip_digest.proofs.challenge.append_parts.Goals as goal

pub returns-clause-ok : goal.returns-clause-ok
returns-clause-ok g c =
    subst (λ (t : List ℕ). OnOk c.append_pieces.result (c.append_pieces.new.out.items ≡ c.args.out.now.items ++ t))
    (ap (parts_text c.args.realm.now c.args.nonce.now c.args.algorithm.now) (append-nil c.args.stale.now))
    c.append_pieces.ensures.ok
