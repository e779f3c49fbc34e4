use Rattle.proxy_config.proofs.Common.{◌≡◌, Setup, subst, sym}
use Rattle.proxy_config.specs.Setup.{IsKeptWith}
use Rattle.proxy_config.proofs.parts.SetupParts.into_setup.Goals as goal

kept_at : (s t : Setup) → s ≡ t → IsKeptWith s.streams s.own s.domain s.locations → IsKeptWith t.streams t.own t.domain t.locations
kept_at s t same kept =
    let P : Setup → Type 0 = λ u. IsKeptWith u.streams u.own u.domain u.locations in
    subst P same kept

pub invariant_of-result : goal.invariant_of-result
invariant_of-result g c = kept_at c.args.self _ (λ k. (sym c.self.view_is k)) c.requires
