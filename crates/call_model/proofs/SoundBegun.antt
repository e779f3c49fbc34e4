-- A call begins sound.
use Rattle.call_model.proofs.Common.{◌≡◌, ℕ, refl, List, [], Some, None, HasStored, StoredAnswersCame, Kind, Rules, StoredAnswer, table_of, kind_of, first_owed, IsSoundOwed, AllByRecursion}
use Rattle.fork_model.specs.History.{Target}
use Rattle.fork_model.specs.Table.{Invite, Other}
use Rattle.fork_model.specs.Log.{opening_log}
use Rattle.call_model.specs.Sound.{BegunIsSound}
use Rattle.call_model.proofs.KeptBuilt.{at_more}
use Rattle.fork_model.specs.Table as table

module _ (came : StoredAnswersCame) where
  nothing_stored : (kind : Kind) (rules : Rules) (targets : List Target) (n : ℕ) (stored : StoredAnswer) → HasStored (table_of (opening_log kind rules targets)) n stored → ⊥
  nothing_stored kind rules targets n stored has = let event = came kind rules targets [] n stored has in absurd (let h : None ≡ Some event.0 = event.1 in cc)

  first_sound : (t : table.Table) (kind : Kind) → AllByRecursion (IsSoundOwed t) (first_owed kind)
  first_sound t Invite = (tt, tt)
  first_sound t Other = tt

  pub begun_sound : BegunIsSound
  begun_sound opened rules targets destinations = record {
    kind = refl;
    stored = λ n stored has. absurd (nothing_stored (kind_of opened) rules targets n stored has);
    owed = first_sound (table_of (opening_log (kind_of opened) rules targets)) (kind_of opened);
    branches = λ n l e. absurd (let nothing : None ≡ Some l = at_more [] _ n l e in cc);
  }
