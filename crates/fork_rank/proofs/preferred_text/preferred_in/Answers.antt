use Rattle.fork_rank.proofs.TextCommon.{◌≡◌, [], List, ℕ, Option, option_and_then, slice_split, is, numbers_onto, preferred_if, arith}
use Rattle.fork_rank.proofs.PreferredLists.{preferred_if_is}
use Rattle.fork_rank.proofs.preferred_text.preferred_in.Goals as goal

pub returns-in-Some : goal.returns-in-Some
returns-in-Some c =
    let text = c.args.text.now in
    let rest : Option (List ℕ) = option_and_then preferred_if (numbers_onto [] (slice_split (is 44) text)) in
    let made : c.of-in-Some.result ≡ preferred_if c.as_slice-in-Some.result.now = preferred_if_is c.of-in-Some.result c.as_slice-in-Some.result.now c.of-in-Some.ensures.valid c.of-in-Some.ensures.value in
    grind arith
