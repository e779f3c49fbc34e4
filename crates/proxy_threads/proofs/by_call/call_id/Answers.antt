use Rattle.std.proofs.Common.{◌∙◌, Some, ap, sym}
use Rattle.std.specs.Option.{option_copied}
use Rattle.proxy_threads.proofs.CallIds.{goes_on, in_line, is_found, is_other}
use Rattle.proxy_threads.proofs.by_call.call_id.Goals as goal

pub returns-in_default : goal.returns-in_default
returns-in_default c =
    sym (goes_on c.loop-line.rest.now c.args.text.now c.loop-line.invariant _ c.cut_at.ensures.value ∙ ap (λ o. in_line (option_copied o)) c.in_default.is)

pub returns-in-Some-value_at : goal.returns-in-Some-value_at
returns-in-Some-value_at c =
    sym (goes_on c.loop-line.rest.now c.args.text.now c.loop-line.invariant _ c.cut_at.ensures.value
    ∙ ap (λ o. in_line (option_copied o)) c.in-Some.is
    ∙ is_found c.in-Some.line.now c.in-Some-value_at.value.now (sym c.in-Some-value_at.ensures)
    ∙ ap (λ word. Some word) (sym c.first_word.ensures))

pub loop-line-preserved : goal.loop-line-preserved
loop-line-preserved c =
    sym (goes_on c.loop-line.rest.now c.args.text.now c.loop-line.invariant _ c.cut_at.ensures.value
    ∙ ap (λ o. in_line (option_copied o)) c.in-Some.is
    ∙ is_other c.in-Some.line.now (sym c.in_default-value_at.ensures))
