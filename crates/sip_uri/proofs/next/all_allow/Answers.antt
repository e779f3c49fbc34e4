use Rattle.sip_uri.proofs.Common.{rules, is}
use Rattle.std.proofs.Common.{tests}
use Rattle.std.proofs.lemmas.Iterator.Search.{all_from_yields_List}
use Rattle.std.proofs.lemmas.Iterator.Splits.{YieldsList-from_slice_split}
use Rattle.sip_uri.specs.Hop.{allows}
use Rattle.sip_uri.proofs.next.all_allow.Goals as goal

pub returns : goal.returns
returns c =
    all_from_yields_List (allows c.args.transport) _ _ _ c.all.ensures.ran
    (YieldsList-from_slice_split _ (is 59) c.args.params.now c.split.ensures.rest c.split.ensures.done c.split.ensures.closure (λ x b q k. search (rules, tests)))
    (λ x b q k. search (rules, tests))
