-- A line that a text of a setup has, too.
use Rattle.service_config.proofs.Common.{◌≡◌, ℕ, ◌≤◌, true, List, Option, Some, None, ap, refl, sym, subst, ◌∙◌, same_Some, option_and_then, cut, is, most_q, Line, SetupLine}
use Rattle.proxy_config.specs.Line as setup
use Rattle.service_config.specs.Configuration.{Draft, with_draft}
use Rattle.service_config.specs.inner.LineReading.{location_cut, location_in, of_setup}

abbrev Located : Type 0
Located = List ℕ × ℕ × List ℕ

-- it is a location
pub location_read_as : (line : setup.Line) (p : Located) → location_in line ≡ Some p → of_setup line ≡ location_cut p.0 p.1 (cut (is 32) p.2)
location_read_as (setup.LocationLine user q rest) p e = let same : (user, q, rest) ≡ p = same_Some _ _ e in ap (λ (x : Located). location_cut x.0 x.1 (cut (is 32) x.2)) same
location_read_as (setup.OwnLine own) p e = absurd cc
location_read_as (setup.InstanceLine n) p e = absurd cc
location_read_as (setup.DomainLine host) p e = absurd cc
location_read_as (setup.PreferLine statuses) p e = absurd cc
location_read_as (setup.DepthLine depth) p e = absurd cc

pub location_parts : (line : setup.Line) (p : Located) → location_in line ≡ Some p → setup.IsLine line → (setup.is_user p.0 ≡ true) × (p.1 ≤ most_q)
location_parts (setup.LocationLine user q rest) p e h =
    let same : (user, q, rest) ≡ p = same_Some _ _ e in
    subst (λ (x : Located). (setup.is_user x.0 ≡ true) × (x.1 ≤ most_q)) same h
location_parts (setup.OwnLine own) p e h = absurd cc
location_parts (setup.InstanceLine n) p e h = absurd cc
location_parts (setup.DomainLine host) p e h = absurd cc
location_parts (setup.PreferLine statuses) p e h = absurd cc
location_parts (setup.DepthLine depth) p e h = absurd cc

-- it is another line
pub other_read_as : (line : setup.Line) → location_in line ≡ None → of_setup line ≡ Some (SetupLine line)
other_read_as (setup.LocationLine user q rest) e = absurd cc
other_read_as (setup.OwnLine own) e = refl
other_read_as (setup.InstanceLine n) e = refl
other_read_as (setup.DomainLine host) e = refl
other_read_as (setup.PreferLine statuses) e = refl
other_read_as (setup.DepthLine depth) e = refl

pub read_as : (draft : Draft) (found : Option setup.Line) (line : setup.Line) (made : Option Line) → Some line ≡ found → of_setup line ≡ made
    → option_and_then (with_draft draft) (option_and_then of_setup found) ≡ option_and_then (with_draft draft) made
read_as draft found line made at is =
    ap (λ (o : Option setup.Line). option_and_then (with_draft draft) (option_and_then of_setup o)) (sym at) ∙ ap (option_and_then (with_draft draft)) is
