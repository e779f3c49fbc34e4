use Rattle.sip_build.proofs.Common.{◌∙◌, ◌++◌, ◌∷◌, [], List, ℕ, ap, map, sym, codes, line, own_via, or_empty, view_lines}
use Rattle.sip_build.proofs.HeaderRunTexts.{renamed-lines}
use Rattle.sip_build.proofs.hop_by_hop.runs_behind_via.Goals as goal

pub returns : goal.returns
returns g c target proxy branch =
    let routes = renamed-lines (codes "route") (codes "Route") _ ∙ ap (λ (vs : List (List ℕ)). map (line (codes "Route")) vs) c.with_routes.ensures in
    let call = sym (ap or_empty c.call_id.ensures) in
    λ i. line (codes "Via") (own_via proxy branch) ∷ line (codes "Max-Forwards") (codes "70") ∷ (routes i ++ line (codes "From") (c.first_value.ensures i) ∷ line (codes "To") c.args.to.now ∷ line (codes "Call-ID") (call i) ∷ line (codes "CSeq") (c.requires i ++ 32 ∷ c.args.method.now) ∷ (view_lines c.args.more.now ++ line (codes "Content-Length") (codes "0") ∷ []))
