use Rattle.sip_build.proofs.Common.{◌∙◌, ◌++◌, ◌∷◌, [], List, ap, codes, HeaderText, line, lines_among, view_lines}
use Rattle.sip_build.proofs.HeaderRunTexts.{named-lines}
use Rattle.sip_build.proofs.generated_text.generated_runs.Goals as goal

pub returns : goal.returns
returns g c =
    let vias = named-lines (codes "via") _ ∙ ap (λ (hs : List HeaderText). lines_among (codes "via") hs) c.headers.ensures in
    λ i. vias i ++ (c.first_run.ensures i ++ (c.to_run.ensures i ++ (c.first_run-2.ensures i ++ (c.first_run-3.ensures i ++ (c.unsupported_run.ensures i ++ (view_lines c.args.further.now ++ line (codes "Content-Length") (codes "0") ∷ []))))))
