-- What the proofs of the crates above may cite: each new row goes to the destination of its contact.
pub use Rattle.call_caller.proofs.NewDestinations.{each_goes, destinations_are}
