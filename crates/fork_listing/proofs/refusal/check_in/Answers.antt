use Rattle.fork_listing.proofs.Formed.{few_read}
use Rattle.fork_listing.proofs.refusal.check_in.Goals as goal

pub check_listing-requires : goal.check_listing-requires
check_listing-requires g c = record { few = few_read c.args.text.now c.in-Ok.listing c.in-Ok.ensures }
