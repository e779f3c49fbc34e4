-- What is noted of a call.
use Rattle.std.specs.Prelude.{ℕ, Option}
use Rattle.fork_model.specs.Log.{Posted}
use Rattle.call_journal.specs.declared.notes.Note.{Note}
use Rattle.call_journal.specs.Notes.{note_of}

-- of an event that was posted, at this moment
abbrev pub noted_at : ℕ → Posted → Option Note
noted_at at posted = note_of at posted.event
