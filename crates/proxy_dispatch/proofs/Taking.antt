-- What a call does with a message that it is given.
use Rattle.proxy_dispatch.proofs.Common.{◌≡◌, ◌∙◌, [], ◌∷◌, ℕ, List, Option, None, Result, Ok, Err, ap, inl, inr, refl, sym, subst, MessageText, Hop, Call, Look, Datagram}
use Rattle.std.specs.Prelude.{IfOk, IsErrOf, OnErr}
use Rattle.call_model.specs.SeenTaken.{seen_taken}
use Rattle.call_model.specs.Take.{MatchedTransaction, Server, ServerAck, ServerCancel, Client, CancelClient, Taken, Absorbed, Posted, Full, TakesAs, TakesCancel, Responds, RespondsOn, CancelledBy}
use Rattle.call_model.specs.declared.taken.Taken as memory
use Rattle.call_state.specs.Matching.{BelongsToNone}
use Rattle.fork_call.specs.declared.fault.TakeFault.{TakeFault}
use Rattle.fork_call.specs.declared.fault.TakeFault.TheVariants as fault
use Rattle.fork_call.specs.Takes.{Takes}
use Rattle.proxy_dispatch.specs.declared.datagrams.Handled.TheVariants.{Dropped, Delivered}
use Rattle.proxy_dispatch.specs.Becomes.{IsGiven, IsLeft}
use Rattle.proxy_dispatch.specs.Looks.{AnswersTake, Seen}

abbrev number_of : Call → ℕ
number_of call = call.opened.number

cancel_keeps : (call new : Call) (cancel : MessageText) (to : Hop) (taken : Taken) → CancelledBy call cancel to taken new → new.opened.number ≡ call.opened.number
cancel_keeps call new cancel to Absorbed (open_no, is) = ap number_of is
cancel_keeps call new cancel to (Posted at) (open_yes, reply, at_is, posts) = ap number_of posts.follows
cancel_keeps call new cancel to Full h = absurd h

response_keeps : (call new : Call) (n now : ℕ) (m : MessageText) (taken : Taken) → RespondsOn call n now m taken new → new.opened.number ≡ call.opened.number
response_keeps call new n now m Absorbed (branch, destination, b, d, (kept, is)) = ap number_of is
response_keeps call new n now m (Posted at) (branch, destination, b, d, (passed, reply, at_is, first, is_first, posts)) = ap number_of posts.follows
response_keeps call new n now m Full (branch, destination, b, d, (passed, full, is)) = ap number_of is

keeps : (call new : Call) (now : ℕ) (m : MessageText) (source : Hop) (to : MatchedTransaction) (taken : Taken) → TakesAs call now m source to taken new → new.opened.number ≡ call.opened.number
keeps call new now m source Server Absorbed is = ap number_of is
keeps call new now m source Server (Posted at) h = absurd h
keeps call new now m source Server Full h = absurd h
keeps call new now m source ServerAck Absorbed is = ap number_of is
keeps call new now m source ServerAck (Posted at) h = absurd h
keeps call new now m source ServerAck Full h = absurd h
keeps call new now m source ServerCancel taken (cancel, marked, by) = cancel_keeps call new cancel _ taken by
keeps call new now m source (Client n) taken on = response_keeps call new n now m taken on
keeps call new now m source (CancelClient n) Absorbed (branch, cancelling, b, c, is) = ap number_of is
keeps call new now m source (CancelClient n) (Posted at) h = absurd h
keeps call new now m source (CancelClient n) Full h = absurd h

-- a call that is given a message keeps its number
pub number_kept : (r : Result memory.Taken TakeFault) (call new : Call) (m : MessageText) (source : Hop) (now : ℕ) → AnswersTake call m source now r new
    → new.opened.number ≡ call.opened.number
number_kept (Ok taken) call new m source now (to, belongs, takes) = keeps call new now m source to (seen_taken taken) takes
number_kept (Err fault.Stray) call new m source now h = ap number_of h.1
number_kept (Err fault.Full) call new m source now h = ap number_of h.1
number_kept (Err fault.NoMemory) call new m source now h = ap number_of h

pub answers_so : (r : Result memory.Taken TakeFault) (call new : Call) (m : MessageText) (source : Hop) (now : ℕ)
    → IfOk r (λ taken. Takes call now m source (seen_taken taken) new) → (IsErrOf r fault.Stray → BelongsToNone call m)
    → (IsErrOf r fault.Full → Takes call now m source Full call) → OnErr r (new ≡ call) → AnswersTake call m source now r new
answers_so (Ok taken) call new m source now takes stray full same = takes
answers_so (Err fault.Stray) call new m source now takes stray full same = (stray refl, same)
answers_so (Err fault.Full) call new m source now takes stray full same = (full refl, same)
answers_so (Err fault.NoMemory) call new m source now takes stray full same = same

-- what becomes of the message, by what the call answers
module _ (number : ℕ) (answer : Result memory.Taken TakeFault) (call new : Call) (m : MessageText) (source : Hop) (now : ℕ) (is : call.opened.number ≡ number) (takes : AnswersTake call m source now answer new) where
  answers_as : (a : Result memory.Taken TakeFault) → answer ≡ a → AnswersTake call m source now a new
  answers_as a e =
      let P : Result memory.Taken TakeFault → Type 0 = λ x. AnswersTake call m source now x new in
      subst P e takes

  left_given : new ≡ call → IsLeft number m source now (Seen number call call ∷ []) → IsGiven number m source now (Seen number call new ∷ []) Dropped None
  left_given same left =
      let P : Call → Type 0 = λ x. IsGiven number m source now (Seen number call x ∷ []) Dropped None in
      subst P (sym same) (inr left, refl)

  pub taken_given : (taken : memory.Taken) → answer ≡ Ok taken → IsGiven number m source now (Seen number call new ∷ []) (Delivered number) None
  taken_given taken e =
      (refl, record { before = call; after = new; taken = taken; seen = refl; number_is = is; takes = answers_as (Ok taken) e }, refl)

  pub stray_given : (why : TakeFault) → answer ≡ Err why → why ≡ fault.Stray → IsGiven number m source now (Seen number call new ∷ []) Dropped None
  stray_given why e f =
      let h = answers_as (Err fault.Stray) (e ∙ ap Err f) in
      left_given h.1 (record { call = call; seen = refl; number_is = is; why = inl h.0 })

  pub full_given : (why : TakeFault) → answer ≡ Err why → why ≡ fault.Full → IsGiven number m source now (Seen number call new ∷ []) Dropped None
  full_given why e f =
      let h = answers_as (Err fault.Full) (e ∙ ap Err f) in
      left_given h.1 (record { call = call; seen = refl; number_is = is; why = inr h.0 })
