use Rattle.std.proofs.Common.{◌≡◌, ◌∙◌, List, ℕ, Option, ap, sym}
use Rattle.sip_digest.specs.declared.secrets.Secrets.{Secrets}
use Rattle.sip_digest.specs.SeenCredentials.{seen_credentials}
use Rattle.authentication.specs.SeenRealm.{seen_realm}
use Rattle.authentication.proofs.Verdicts.{are_right, were_right}
use Rattle.authentication.proofs.standing.verdict.Goals as goal

pub returns-in-Right : goal.returns-in-Right
returns-in-Right g c =
    let realm = seen_realm c.args.realm.now in
    let credentials = seen_credentials c.args.credentials.now in
    let same : c.secrets-secrets.result ≡ realm.secrets credentials.username = c.secrets-secrets.ensures ∙ ap (λ (name : List ℕ). realm.secrets name) c.as_slice.ensures in
    are_right realm c.args.asked.now credentials c.secrets-secrets.result same (c.in_ok-verdict.ensures.right.0 c.in-Right.is)

pub returns-in-Wrong : goal.returns-in-Wrong
returns-in-Wrong g c =
    let realm = seen_realm c.args.realm.now in
    let credentials = seen_credentials c.args.credentials.now in
    let same : c.secrets-secrets.result ≡ realm.secrets credentials.username = c.secrets-secrets.ensures ∙ ap (λ (name : List ℕ). realm.secrets name) c.as_slice.ensures in (
      λ stale. let bad = c.in_ok-verdict.ensures.stale.1 stale in absurd (cc (bad, c.in-Wrong.is)),
      λ right. let bad = c.in_ok-verdict.ensures.right.1 (were_right realm c.args.asked.now credentials c.secrets-secrets.result same right) in absurd (cc (bad, c.in-Wrong.is)),
    )
