use Rattle.sip_build.proofs.Common.{◌∙◌, ◌++◌, List, None, Some, ap, codes, flat_map, if◌then◌else◌, same_name, under, HeaderText, texts, contact_lines, views}
use Rattle.sip_build.proofs.laws.Exchanged.{exchanged-split}
use Rattle.sip_build.proofs.HeaderRunTexts.{other-lines}
use Rattle.sip_build.proofs.upward_text.exchanged_runs.Goals as goal

pub returns : goal.returns
returns g c =
    let lines = contact_lines (texts c.args.kept.now) in
    let back = views c.split_at.result.1 in
    let rest = flat_map (λ h. under h.value (if same_name (codes "contact") h.name then None else Some h.name)) back in
    ap (λ (xs : List HeaderText). xs ++ (lines ++ rest)) c.kept_run.ensures
    ∙ ap (λ (xs : List HeaderText). (views c.split_at.result.0) ++ (lines ++ xs)) (other-lines (codes "contact") back)
    ∙ exchanged-split (codes "contact") lines (views c.args.headers) (views c.split_at.result.0) (views c.split_at.result.1) c.header_index.result c.header_index.ensures.value c.split_at.ensures.front c.split_at.ensures.back
