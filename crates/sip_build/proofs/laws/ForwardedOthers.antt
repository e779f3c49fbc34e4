-- The header lines of a request that goes to a target, but for its Via, its Record-Route and its hops.
use Rattle.sip_build.proofs.Common.{◌≡◌, ℕ, List, ◌∷◌, ◌++◌, Option, Some, None, refl, arith, codes, HeaderText, line, hops_lowered, record_route_lines, SameOthers, values-replaced}
use Rattle.sip_text.specs.Name.{full_name, values_of}

pub hops-others : (hs : List HeaderText) (o : Option (List ℕ)) → SameOthers (hops_lowered hs o) hs
unfolding full_name values_of
hops-others hs o = grind (arith, values-replaced)

pub via-others : (v : List ℕ) (hs ks : List HeaderText) → SameOthers hs ks → SameOthers (line (codes "Via") v ∷ hs) ks
unfolding full_name values_of
via-others v hs ks same = record { from = same.from; to = same.to; call_id = same.call_id; cseq = same.cseq; length = same.length }

-- ---- behind a Record-Route line

pub recorded-others : (recorded : Option (List ℕ)) (hs ks : List HeaderText) → SameOthers hs ks → SameOthers (record_route_lines recorded ++ hs) ks
unfolding full_name values_of
recorded-others None hs ks same = same
recorded-others (Some v) hs ks same = record { from = same.from; to = same.to; call_id = same.call_id; cseq = same.cseq; length = same.length }

pub recorded-vias : (recorded : Option (List ℕ)) (hs : List HeaderText) → values_of (codes "via") (record_route_lines recorded ++ hs) ≡ values_of (codes "via") hs
unfolding full_name values_of
recorded-vias None hs = refl
recorded-vias (Some v) hs = refl

pub recorded-routes : (recorded : Option (List ℕ)) (hs : List HeaderText) → values_of (codes "route") (record_route_lines recorded ++ hs) ≡ values_of (codes "route") hs
unfolding full_name values_of
recorded-routes None hs = refl
recorded-routes (Some v) hs = refl
