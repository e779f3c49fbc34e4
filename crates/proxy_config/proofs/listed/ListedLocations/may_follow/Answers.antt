use Rattle.proxy_config.proofs.Common.{◌≡◌, ◌∙◌, List, Location, ap, next_hop, is_reached_by, length, list_any, refl, true}
use Rattle.std.proofs.Common.{rules}
use Rattle.std.specs.Prelude.{slice_get}
use Rattle.proxy_config.specs.Setup.{location_key}
use Rattle.proxy_config.specs.Parts.{may_follow}
use Rattle.proxy_config.specs.inner.UserPlaces.{has_key}
use Rattle.proxy_config.proofs.UserPlaces.{may_follow_by}
use Rattle.proxy_config.proofs.listed.ListedLocations.may_follow.Goals as goal

pub returns : goal.returns
returns g c =
    let locations = c.self.inside.locations.items in
    let location = c.args.location.now in
    let hop : is_reached_by c.args.streams (next_hop c.args.location.now) ≡ true = search rules in
    let user : c.user.result.now ≡ c.args.location.now.user = search rules in
    let key : c.key.result.now ≡ location_key c.args.location.now = search rules in
    let has : c.has_key-is_there.result ≡ list_any (λ place. has_key c.key.result.now (slice_get c.self.inside.locations.items place)) c.of-places.result.now =
    c.has_key-is_there.ensures ∙ ap (λ (ls : List Location). list_any (λ place. has_key c.key.result.now (slice_get ls place)) c.of-places.result.now) c.as_slice.ensures.value in
    may_follow_by c.args.streams locations location c.self.inside.places c.self.invariant hop c.user.result.now c.key.result.now user key c.of-places.result.now
    c.of-places.ensures
    c.has_key-is_there.result has (length c.of-places.result.now) refl c.may_get.result c.may_get.ensures
    ∙ ap (λ (ls : List Location). may_follow c.args.streams ls location) c.self.view_is
