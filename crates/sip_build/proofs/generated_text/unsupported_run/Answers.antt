use Rattle.sip_build.proofs.Common.{◌∙◌, List, ap, map, sym, codes, values_of, HeaderText, line, unsupported_lines}
use Rattle.sip_build.proofs.HeaderRunTexts.{renamed-lines}
use Rattle.sip_build.proofs.generated_text.unsupported_run.Goals as goal

pub returns-in-BadExtension : goal.returns-in-BadExtension
returns-in-BadExtension g c =
    renamed-lines (codes "proxy-require") (codes "Unsupported") _
    ∙ ap (λ (hs : List HeaderText). map (line (codes "Unsupported")) (values_of (codes "proxy-require") hs)) c.headers.ensures
    ∙ ap (λ status. unsupported_lines status c.args.message.now) (sym c.in-BadExtension.is)
