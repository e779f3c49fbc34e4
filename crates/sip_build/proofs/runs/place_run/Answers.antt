use Rattle.sip_build.proofs.Common.{◌∙◌, ap, sym, lines_of, picked, views, lines_text, arith}
use Rattle.sip_build.proofs.HeaderRunTexts.{challenges-text, contacts-text, further-text, texts-of-lines}
use Rattle.sip_build.proofs.Placed.{fits-as, placed-as}
use Rattle.sip_build.proofs.runs.place_run.Goals as goal

pub place_picked-requires : goal.place_picked-requires
place_picked-requires g c =
    fits-as c.args.at _ _ _ c.requires (texts-of-lines (picked c.in-Picked.pick) (views c.in-Picked.headers) ∙ ap (λ x. lines_text (lines_of x)) (sym c.in-Picked.is))

pub returns-in-Picked : goal.returns-in-Picked
returns-in-Picked g c =
    placed-as _ _ _ _ _ _ c.place_picked.ensures (texts-of-lines (picked c.in-Picked.pick) (views c.in-Picked.headers) ∙ ap (λ x. lines_text (lines_of x)) (sym c.in-Picked.is))

pub place_contacts-requires : goal.place_contacts-requires
place_contacts-requires g c = grind (arith, contacts-text)

pub returns-in-Contacts : goal.returns-in-Contacts
returns-in-Contacts g c = grind (arith, placed-as, contacts-text)

pub place_challenges-requires : goal.place_challenges-requires
place_challenges-requires g c = grind (arith, challenges-text)

pub returns-in-Challenges : goal.returns-in-Challenges
returns-in-Challenges g c = grind (arith, placed-as, challenges-text)

pub place_further-requires : goal.place_further-requires
place_further-requires g c = grind (arith, further-text)

pub returns-in-Further : goal.returns-in-Further
returns-in-Further g c = grind (arith, placed-as, further-text)
