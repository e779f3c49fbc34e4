-- What a thread of a proxy sees of the table of its calls, look by look.
use Rattle.std.specs.Prelude.{◌≡◌, ℕ, List, [], ◌∷◌, Option, Result, Ok, Err}
use Rattle.sip_text.specs.Text.{MessageText}
use Rattle.sip_uri.specs.declared.hop.Hop.{Hop}
use Rattle.call_model.specs.Call.{Call}
use Rattle.call_model.specs.SeenTaken.{seen_taken}
use Rattle.call_model.specs.Take.{Full}
use Rattle.call_model.specs.declared.taken.Taken as memory
use Rattle.call_state.specs.Matching.{BelongsToNone}
use Rattle.fork_call.specs.declared.fault.TakeFault.{TakeFault}
use Rattle.fork_call.specs.declared.fault.TakeFault.TheVariants as fault
use Rattle.fork_call.specs.Takes.{Takes}

pub data Look : Type 0 where
  -- the key has this number, or none
  Found : (key : List ℕ) → Option ℕ → Look
  -- the call of this number was so, and is so behind the look
  Seen : (number : ℕ) → (before after : Call) → Look
  -- there was no call of this number to look at
  Missed : (number : ℕ) → Look
  -- this call was put under the key, with this number
  Put : (key : List ℕ) → (number : ℕ) → Call → Look
  -- none was put, as no number is left
  Spent : Look

-- which looks a table may show: the table before, the look, the table behind it
abbrev pub Shows : Type 0 → Type 1
Shows T = T → Look → T → Type 0

module _ {T : Type 0} where
  -- one look after another, and no other
  abbrev pub ShowsAll : Shows T → T → List Look → T → Type 0
  ShowsAll shows table [] new = new ≡ table
  ShowsAll shows table (look ∷ looks) new = (mid : T) × shows table look mid × ShowsAll shows mid looks new

-- of a table that the threads of a proxy share no more is known than what the lock of a call says: the call has its number
abbrev pub HasItsNumber : Look → Type 0
HasItsNumber (Seen number before after) = (before.opened.number ≡ number) × (after.opened.number ≡ number)
HasItsNumber (Put key number call) = call.opened.number ≡ number
HasItsNumber _ = Unit {0}

-- nothing but the methods of the table may say that it showed a look
unfoldable pub shown : {T : Type 0} → Shows T
shown before look after = HasItsNumber look

-- what a call answers to a message that it is given, and how it goes on
abbrev pub AnswersTake : Call → MessageText → Hop → ℕ → Result memory.Taken TakeFault → Call → Type 0
AnswersTake call m source now (Ok taken) new = Takes call now m source (seen_taken taken) new
AnswersTake call m source now (Err fault.Stray) new = BelongsToNone call m × (new ≡ call)
AnswersTake call m source now (Err fault.Full) new = Takes call now m source Full call × (new ≡ call)
AnswersTake call m source now (Err fault.NoMemory) new = new ≡ call
