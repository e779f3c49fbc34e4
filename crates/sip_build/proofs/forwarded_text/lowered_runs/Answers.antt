use Rattle.sip_build.proofs.Common.{◌∷◌, ◌∙◌, [], ◌++◌, List, ℕ, Option, ap, sym, Some, codes, decimal, append-nil, view_line, views, HeaderText, line, hops_name, replaced-split, hops_lowered, common_steps, arith}
use Rattle.sip_build.specs.inner.Forwarding.{hops_left}
use Rattle.sip_build.proofs.FirstHops.{first-nowhere, first-there, seventy-text}
use Rattle.sip_build.proofs.forwarded_text.lowered_runs.Goals as goal

pub returns-in_default : goal.returns-in_default
returns-in_default g c =
    let hs = views c.args.headers in
    let none = first-nowhere hops_name hs c.args.place c.requires.place (sym c.in_default.ensures.none ∙ c.split_at.ensures.back) in
    let seventy = c.requires.hops ∙ ap (λ (o : Option (List ℕ)). decimal (hops_left o)) none ∙ seventy-text in
    let lines =
    ap (λ (v : List ℕ). line (codes "Max-Forwards") v ∷ (hs ++ [])) seventy
    ∙ ap (λ (xs : List HeaderText). line (codes "Max-Forwards") (codes "70") ∷ xs) (append-nil hs)
    ∙ sym (ap (λ (o : Option (List ℕ)). hops_lowered hs o) none) in
    let kept = ap (λ (xs : List HeaderText). line (codes "Max-Forwards") c.args.hops.now ∷ (xs ++ [])) c.kept_run-headers.ensures in
    λ i. c.run_if_any-record_route.ensures i ++ (kept ∙ lines) i

pub returns : goal.returns
returns g c =
    let hs = views c.args.headers in
    let front = views c.split_at.result.0 in
    let header = view_line c.in-Some.header in
    let after = views c.in-Some.after in
    let back = sym c.in-Some.ensures.some ∙ c.split_at.ensures.back in
    let some = first-there hops_name hs after header c.args.place c.requires.place back in
    let hops = c.requires.hops ∙ ap (λ (o : Option (List ℕ)). decimal (hops_left o)) some in
    let fewer = decimal (hops_left (Some header.value)) in
    let split = replaced-split hops_name (Some fewer) hs front (header ∷ after) c.args.place c.requires.place c.split_at.ensures.front back in
    grind (arith, common_steps, append-nil after)
