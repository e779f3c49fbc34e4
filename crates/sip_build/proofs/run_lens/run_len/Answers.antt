use Rattle.sip_build.proofs.Common.{◌∙◌, ap, length, sym, saturated, lines_of, picked, views, lines_text, arith}
use Rattle.sip_build.proofs.HeaderRunTexts.{challenges-text, contacts-text, further-text, texts-of-lines}
use Rattle.sip_build.proofs.run_lens.run_len.Goals as goal

pub returns-in-Picked : goal.returns-in-Picked
returns-in-Picked g c =
    c.picked_len.ensures ∙ ap (λ x. saturated (length x)) (texts-of-lines (picked c.in-Picked.pick) (views c.in-Picked.headers) ∙ ap (λ x. lines_text (lines_of x)) (sym c.in-Picked.is))

pub returns-in-Contacts : goal.returns-in-Contacts
returns-in-Contacts g c = grind (arith, contacts-text)

pub returns-in-Challenges : goal.returns-in-Challenges
returns-in-Challenges g c = grind (arith, challenges-text)

pub returns-in-Further : goal.returns-in-Further
returns-in-Further g c = grind (arith, further-text)
