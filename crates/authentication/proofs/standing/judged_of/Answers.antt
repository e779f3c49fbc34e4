use Rattle.std.proofs.Common.{List, ℕ, refl, sym, subst}
use Rattle.sip_digest.specs.declared.verdict.CredentialsVerdict.{CredentialsVerdict}
use Rattle.sip_digest.specs.Right.{IsUriOf}
use Rattle.sip_digest.specs.SeenCredentials.{seen_credentials}
use Rattle.authentication.specs.SeenRealm.{seen_realm}
use Rattle.authentication.specs.Standing.{IsVerdictOn, asked_as}
use Rattle.authentication.proofs.standing.judged_of.Goals as goal

pub returns-then-not-is_uri : goal.returns-then-not-is_uri
returns-then-not-is_uri g c = λ is.
    let yes = c.in_ok-is_uri.ensures.1 (subst (λ (uri : List ℕ). IsUriOf uri c.args.asked.now.uri.now) (sym c.as_slice.ensures) is) in
    absurd (cc (yes, c.if-not-is_uri.true))

pub returns-in-Stale : goal.returns-in-Stale
returns-in-Stale g c = (
  subst (λ (uri : List ℕ). IsUriOf uri c.args.asked.now.uri.now) c.as_slice.ensures (c.in_ok-is_uri.ensures.0 c.if-not-is_uri.false),
  subst (λ (v : CredentialsVerdict). IsVerdictOn (seen_realm c.args.realm.now) (asked_as c.args.asked.now) (seen_credentials c.args.credentials) v) c.in-Stale.is c.in_ok-verdict.ensures,
)

pub returns : goal.returns
returns g c = (
  refl,
  subst (λ (uri : List ℕ). IsUriOf uri c.args.asked.now.uri.now) c.as_slice.ensures (c.in_ok-is_uri.ensures.0 c.if-not-is_uri.false),
  subst (λ (v : CredentialsVerdict). IsVerdictOn (seen_realm c.args.realm.now) (asked_as c.args.asked.now) (seen_credentials c.args.credentials) v) c.in-Wrong.is c.in_ok-verdict.ensures,
)
