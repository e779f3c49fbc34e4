use Rattle.sip_text.proofs.Common.{◌∙◌, List, ℕ, ap, length, sym, take, trim_end}
use Rattle.sip_text.proofs.HeaderPlaces.{header_is_at, name_place, trimmed_end, trimmed_front}
use Rattle.sip_text.proofs.head.places_of.Goals as goal

pub place_at_end-value-requires-clause-end : goal.place_at_end-value-requires-clause-end
place_at_end-value-requires-clause-end c =
    let named = c.in-Some.ensures.found in
    trimmed_end c.args.line.now named.front c.in-Some.raw.now c.trim_start-rest.result.now named.whole c.trim_start-rest.ensures

pub returns-clause-value : goal.returns-clause-value
returns-clause-value c =
    let line = c.args.line.now in
    let named = c.in-Some.ensures.found in
    let raw = c.in-Some.raw.now in
    let rest = c.trim_start-rest.result.now in
    header_is_at line named.front raw _ _ (sym named.cuts)
    (rw named.trimmed (name_place line named.front raw named.whole))
    (c.place_at_end-value.ensures.part ∙ ap (λ n. take n rest) (ap (λ (xs : List ℕ). length xs) c.trim_end.ensures) ∙ trimmed_front rest ∙ ap trim_end c.trim_start-rest.ensures)
    named.token
