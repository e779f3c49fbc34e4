-- Locations that are added where they may follow the others.
use Rattle.proxy_config.proofs.Common.{◌≡◌, ◌≤◌, Bool, true, false, List, [], ◌∷◌, ◌++◌, sym, ap, subst, ◌∙◌, Location, most_q}
use Rattle.std.specs.Prelude.{fold}
use Rattle.std.proofs.lemmas.Bool.{cond-false, cond-true}
use Rattle.proxy_config.specs.Moment.{with_next}
use Rattle.proxy_config.specs.Parts.{may_follow}
use Rattle.proxy_config.specs.Setup.{KeepsRulesWith}
use Rattle.proxy_config.proofs.DraftedLines.{keeps_more, may_is}

module _ (streams : Bool) (locations : List Location) (location : Location) (may : Bool) (is : may ≡ may_follow streams locations location) where
  -- one that may not follow them
  pub left_out : may ≡ false → locations ≡ with_next streams locations location
  left_out none = sym (cond-false (may_follow streams locations location) (locations ++ location ∷ []) locations (sym is ∙ none))

  -- and one that may
  pub put_behind : may ≡ true → (new : List Location) → new ≡ locations ++ location ∷ [] → new ≡ with_next streams locations location
  put_behind some new e = e ∙ sym (cond-true (may_follow streams locations location) (locations ++ location ∷ []) locations (sym is ∙ some))

  pub still_keep : may ≡ true → location.q ≤ most_q → (new : List Location) → new ≡ locations ++ location ∷ [] → KeepsRulesWith streams locations → KeepsRulesWith streams new
  still_keep some within new e kept =
      subst (λ (ls : List Location). KeepsRulesWith streams ls) (sym e) (keeps_more streams [] locations location kept (may_is streams locations location within (sym is ∙ some)))

-- the first of those that are left
pub one_further : (streams : Bool) (listed new : List Location) (location copy : Location) (all rest whole : List Location) → all ≡ location ∷ rest → copy ≡ location
    → new ≡ with_next streams listed copy → fold (with_next streams) listed all ≡ whole → fold (with_next streams) new rest ≡ whole
one_further streams listed new location copy all rest whole split same next so_far =
    ap (λ (ls : List Location). fold (with_next streams) ls rest) (next ∙ ap (with_next streams listed) same)
    ∙ ap (λ (ls : List Location). fold (with_next streams) listed ls) (sym split)
    ∙ so_far
