use Rattle.sip_build.proofs.Common.{◌∷◌, ◌∙◌, [], ◌++◌, List, ap, map, sym, codes, option_copied, HeaderText, replaced, challenge_line, lines_of, replaced-split, view_line, views}
use Rattle.sip_build.proofs.UpwardTexts.{row-one, row-three}
use Rattle.sip_build.proofs.upward_text.replaced_runs.Goals as goal

pub returns-in_default : goal.returns-in_default
returns-in_default g c =
    let hs = views c.args.headers in
    let o = option_copied c.args.others in
    let front = views c.split_at.result.0 in
    row-one (lines_of c.kept_run-front.result) (map challenge_line c.args.challenges.now) (replaced (codes "via") o hs)
    (ap (λ (x : List HeaderText). x ++ []) c.kept_run-front.ensures ∙ replaced-split (codes "via") o hs front [] c.header_index.result c.header_index.ensures.value c.split_at.ensures.front (sym c.in_default.ensures.none ∙ c.split_at.ensures.back))

pub returns : goal.returns
returns g c =
    let hs = views c.args.headers in
    let o = option_copied c.args.others in
    let front = views c.split_at.result.0 in
    let top = view_line c.in-Some.top in
    let after = views c.in-Some.after in
    let split = replaced-split (codes "via") o hs front (top ∷ after) c.header_index.result c.header_index.ensures.value c.split_at.ensures.front (sym c.in-Some.ensures.some ∙ c.split_at.ensures.back) in
    let top_run = lines_of c.run_if_any-top.result in
    let after_run = lines_of c.kept_run.result in
    row-three (lines_of c.kept_run-front.result) top_run after_run (map challenge_line c.args.challenges.now) (replaced (codes "via") o hs)
    (ap (λ (x : List HeaderText). x ++ (top_run ++ after_run)) c.kept_run-front.ensures
    ∙ ap (λ (x : List HeaderText). front ++ (top_run ++ x)) c.kept_run.ensures
    ∙ ap (λ (x : List HeaderText). front ++ (x ++ after)) c.run_if_any-top.ensures
    ∙ split)
