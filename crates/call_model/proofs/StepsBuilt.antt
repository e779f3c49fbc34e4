use Rattle.call_model.proofs.Common.{◌≡◌, ◌∙◌, ℕ, refl, sym, subst, true, false, Bool, List, [], ◌∷◌, Option, Some, None, slice_get, IfSome, MessageText, Hop, Cause, Destination, Branch, CancelTransaction, Server, Owed, Passed, Final, Again, CancelOk}
use Rattle.call_model.proofs.Common.{answer_of, Call, nth_branch, IsBuilt, IsBuiltBranch, Action, SendRequest, SendCancel, SendAck, SendAnswer, TickServer, TickClient, TickCancel, FireTimerC, GiveUp, Fails, FaultsBy, FaultsClient}
use Rattle.call_model.proofs.Common.{cancel_faulted, faulted_cancel, Pumped, Send, Did, Does, Pumps, SendsAnswer, AnswersBy, AnswersWith, TicksClientBy, FiresTimerC, Taken, Absorbed, Posted, Full, TakesAs, Responds}
use Rattle.call_model.specs.declared.cause.Cause.TheVariants as cause
use Rattle.call_model.specs.Call.{closed_by}
use Rattle.call_model.specs.Closing.{Closing}
use Rattle.call_model.specs.Server.{Trying}
use Rattle.call_model.specs.Datagrams.{IsCancel, StepsKeepBuilt, BegunIsBuilt}
use Rattle.call_model.specs.Take as to
use Rattle.call_model.specs.Pump.{Idle, reasons_of}
use Rattle.call_model.specs.Step as step
use Rattle.call_model.proofs.KeptBuilt.{built_branch, built_posts, at_more}
use Rattle.call_model.proofs.laws.RightDatagrams.{built_by, some_as}

built_server : (call : Call) (s : Server) → IsBuilt call → IsBuilt (record call { server = s })
built_server call s built = record { branches = λ n l e. let f = built.branches n l e in (f.0, f.1, record { request = f.2.request; cancel = f.2.cancel }) }

built_closed : (call : Call) (closing : Closing) → IsBuilt call → IsBuilt (closed_by closing call)
built_closed call closing built = record { branches = λ n l e. let f = built.branches n l e in (f.0, f.1, record { request = f.2.request; cancel = f.2.cancel }) }

same_as : (new call : Call) → new ≡ call → IsBuilt call → IsBuilt new
same_as new call e built = subst IsBuilt (sym e) built

-- ---- an action of the pump

answered : (call : Call) (now : ℕ) (rest : List Owed) (m : MessageText) (b : Bool) (p : Pumped) (new : Call) → IsBuilt call → AnswersBy call now rest m b p new → IsBuilt new
answered call now rest m true p new built step = same_as new _ step.1 (built_server call _ built)
answered call now rest m false p new built step = same_as new _ step.1 (built_server call _ built)

answered_with : (call : Call) (now : ℕ) (rest : List Owed) (o : Option MessageText) (p : Pumped) (new : Call) → IsBuilt call → AnswersWith call now rest o p new → IsBuilt new
answered_with call now rest None p new built step = absurd step
answered_with call now rest (Some m) p new built step = answered call now rest m _ p new built step

paid : (call : Call) (now : ℕ) (owed : List Owed) (p : Pumped) (new : Call) → IsBuilt call → SendsAnswer call now owed p new → IsBuilt new
paid call now [] p new built step = absurd step
paid call now (Again ∷ rest) p new built step = same_as new _ step.1 (built_server call _ built)
paid call now (CancelOk cancel to ∷ rest) p new built step = same_as new _ step.1 (built_server call _ built)
paid call now (Trying ∷ rest) p new built step = answered_with call now rest (answer_of call Trying) p new built step
paid call now (Passed m ∷ rest) p new built step = answered_with call now rest (answer_of call (Passed m)) p new built step
paid call now (Final choice ∷ rest) p new built step = answered_with call now rest (answer_of call (Final choice)) p new built step

-- the part with another client machine or other timers
kept : (call : Call) (n : ℕ) (destination : Destination) (branch l : Branch) → IsBuiltBranch call n destination branch → l.sent ≡ branch.sent → l.cancelling ≡ branch.cancelling → IsBuiltBranch call n destination l
kept call n destination branch l b s c = record {
  request = s ∙ b.request;
  cancel = let P : Option CancelTransaction → Type 0 = λ x. IfSome x (λ k. IsCancel call n destination k.sent) in subst P (sym c) b.cancel;
}

ticked : (call : Call) (now n : ℕ) (destination : Destination) (branch : Branch) (b : Bool) (p : Pumped) (new : Call) → IsBuilt call → slice_get call.destinations n ≡ Some destination → IsBuiltBranch call n destination branch
    → TicksClientBy call now n destination branch b p new → IsBuilt new
ticked call now n destination branch true p new built goes b (did, reply, posts) =
    built_posts _ new _ _ _ reply (built_branch call n _ built destination goes (kept call n destination branch _ b refl refl)) posts
ticked call now n destination branch false p new built goes b step = same_as new _ step.1 (built_branch call n _ built destination goes (kept call n destination branch _ b refl refl))

fired : (call : Call) (now n : ℕ) (destination : Destination) (branch : Branch) (x : Bool) (p : Pumped) (new : Call) → IsBuilt call → slice_get call.destinations n ≡ Some destination → IsBuiltBranch call n destination branch
    → FiresTimerC call now n branch x p new → IsBuilt new
fired call now n destination branch true p new built goes b (did, reply, posts) = built_posts _ new _ _ _ reply (built_branch call n _ built destination goes (kept call n destination branch _ b refl refl)) posts
fired call now n destination branch false p new built goes b (did, reply, posts) = built_posts _ new _ _ _ reply (built_branch call n _ built destination goes (kept call n destination branch _ b refl refl)) posts

done : (call : Call) (now : ℕ) (action : Action) (p : Pumped) (new : Call) → IsBuilt call → Does call now action p new → IsBuilt new
done call now (SendRequest n) p new built (destination, goes, out) = same_as new _ out.1 (built_branch call n _ built destination goes (record { request = refl; cancel = tt }))
done call now (SendCancel n) p new built (destination, branch, goes, there, out) =
    let b = built_by call n destination branch built goes there in
    same_as new _ out.1 (built_branch call n _ built destination goes (record { request = b.request; cancel = (reasons_of call n, refl) }))
done call now (SendAck n) p new built (destination, branch, goes, there, (ack, owed, out, same)) =
    let b = built_by call n destination branch built goes there in
    same_as new _ same (built_branch call n _ built destination goes (record { request = b.request; cancel = b.cancel }))
done call now SendAnswer p new built out = paid call now call.server.owed p new built out
done call now TickServer p new built out = same_as new _ out.1 (built_server call _ built)
done call now (TickClient n) p new built (destination, branch, goes, there, out) = ticked call now n destination branch _ p new built goes (built_by call n destination branch built goes there) out
done call now (TickCancel n) p new built (destination, branch, goes, there, (cancelling, is, out, same)) =
    let b = built_by call n destination branch built goes there in
    same_as new _ same (built_branch call n _ built destination goes (record { request = b.request; cancel = some_as _ branch.cancelling cancelling is b.cancel }))
done call now (FireTimerC n) p new built (branch, there, out) = let f = built.branches n branch there in fired call now n f.0 branch _ p new built f.1 f.2 out
done call now (GiveUp n) p new built (branch, there, (did, reply, posts)) =
    let f = built.branches n branch there in
    built_posts _ new _ _ _ reply (built_branch call n _ built f.0 f.1 (kept call n f.0 branch _ f.2 refl refl)) posts

pumped : (call : Call) (now : ℕ) (p : Pumped) (new : Call) → IsBuilt call → Pumps call now p new → IsBuilt new
pumped call now Idle new built out = same_as new _ out.1 built
pumped call now (Send d) new built (action, due, out) = done call now action (Send d) new built out
pumped call now Did new built (action, due, out) = done call now action Did new built out

-- ---- a message

responded : (call : Call) (n : ℕ) (branch : Branch) (destination : Destination) (now : ℕ) (m : MessageText) (t : Taken) (new : Call) → IsBuilt call → slice_get call.destinations n ≡ Some destination → IsBuiltBranch call n destination branch
    → Responds call n branch destination now m t new → IsBuilt new
responded call n branch destination now m Absorbed new built goes b out =
    same_as new _ out.1 (built_branch call n _ built destination goes (record { request = b.request; cancel = b.cancel }))
responded call n branch destination now m (Posted at) new built goes b (passed, reply, at_is, first, leads, posts) =
    built_posts _ new _ _ _ reply (built_closed _ _ (built_branch call n _ built destination goes (record { request = b.request; cancel = b.cancel }))) posts
responded call n branch destination now m Full new built goes b (passed, full, same) = same_as new _ same built

took_as : (call : Call) (now : ℕ) (m : MessageText) (source : Hop) (r : to.MatchedTransaction) (t : Taken) (new : Call) → IsBuilt call → TakesAs call now m source r t new → IsBuilt new
took_as call now m source to.Server Absorbed new built out = same_as new _ out (built_server call _ built)
took_as call now m source to.Server (Posted at) new built out = absurd out
took_as call now m source to.Server Full new built out = absurd out
took_as call now m source to.ServerAck Absorbed new built out = same_as new _ out (built_server call _ built)
took_as call now m source to.ServerAck (Posted at) new built out = absurd out
took_as call now m source to.ServerAck Full new built out = absurd out
took_as call now m source to.ServerCancel Absorbed new built (cancel, marked, (kept_open, same)) = same_as new _ same (built_server call _ built)
took_as call now m source to.ServerCancel (Posted at) new built (cancel, marked, (open_yet, reply, at_is, posts)) =
    built_posts _ new _ _ _ reply (built_closed _ _ (built_server call _ built)) posts
took_as call now m source to.ServerCancel Full new built (cancel, marked, out) = absurd out
took_as call now m source (to.Client n) t new built (branch, destination, there, goes, out) = responded call n branch destination now m t new built goes (built_by call n destination branch built goes there) out
took_as call now m source (to.CancelClient n) Absorbed new built (branch, cancelling, there, is, same) =
    let f = built.branches n branch there in
    same_as new _ same (built_branch call n _ built f.0 f.1 (record { request = f.2.request; cancel = some_as _ branch.cancelling cancelling is f.2.cancel }))
took_as call now m source (to.CancelClient n) (Posted at) new built out = absurd out
took_as call now m source (to.CancelClient n) Full new built out = absurd out

-- ---- a datagram that could not be sent

faults : (call : Call) (now n : ℕ) (destination : Destination) (branch : Branch) (b : Bool) (new : Call) → IsBuilt call → slice_get call.destinations n ≡ Some destination → IsBuiltBranch call n destination branch
    → FaultsBy call now n branch b new → IsBuilt new
faults call now n destination branch true new built goes b (reply, posts) = built_posts _ new _ _ _ reply (built_branch call n _ built destination goes (kept call n destination branch _ b refl refl)) posts
faults call now n destination branch false new built goes b same = same_as new _ same (built_branch call n _ built destination goes (kept call n destination branch _ b refl refl))

faults_client : (call : Call) (now n : ℕ) (l : Option Branch) (new : Call) → IsBuilt call → nth_branch call n ≡ l → FaultsClient call now n l new → IsBuilt new
faults_client call now n None new built e same = same_as new _ same built
faults_client call now n (Some branch) new built e out = let f = built.branches n branch e in faults call now n f.0 branch _ new built f.1 f.2 out

faults_cancel : (call : Call) (now n : ℕ) (l : Option Branch) → IsBuilt call → nth_branch call n ≡ l → IsBuilt (cancel_faulted call now n l)
faults_cancel call now n None built e = built
faults_cancel call now n (Some branch) built e =
    let f = built.branches n branch e in
    built_branch call n _ built f.0 f.1 (faulted_is branch.cancelling f.2 refl)
  where
    faulted_is : {destination : Destination} (c : Option CancelTransaction) → IsBuiltBranch call n destination branch → branch.cancelling ≡ c → IsBuiltBranch call n destination (faulted_cancel branch now c)
    faulted_is None b same = b
    faulted_is (Some cancelling) b same = record { request = b.request; cancel = some_as _ branch.cancelling cancelling same b.cancel }

failed : (call : Call) (now : ℕ) (c : Cause) (new : Call) → IsBuilt call → Fails call now c new → IsBuilt new
failed call now (cause.Request n) new built out = faults_client call now n (nth_branch call n) new built refl out
failed call now (cause.Ack n) new built out = faults_client call now n (nth_branch call n) new built refl out
failed call now (cause.Cancel n) new built out = same_as new _ out (faults_cancel call now n (nth_branch call n) built refl)
failed call now cause.Answer new built out = same_as new _ out (built_server call _ built)
failed call now cause.CancelOk new built out = same_as new _ out built

-- ---- a step

stepped : (now : ℕ) (call : Call) (input : step.Input) (new : Call) (output : step.Output) → IsBuilt call → step.Step now call input new output → IsBuilt new
stepped now call (step.Take r m source) new (step.Took t) built out = took_as call now m source r t new built out
stepped now call (step.Take r m source) new (step.Did p) built out = absurd out
stepped now call (step.Take r m source) new step.Told built out = absurd out
stepped now call step.Pump new (step.Took t) built out = absurd out
stepped now call step.Pump new (step.Did p) built out = pumped call now p new built out
stepped now call step.Pump new step.Told built out = absurd out
stepped now call (step.Failed c) new (step.Took t) built out = absurd out
stepped now call (step.Failed c) new (step.Did p) built out = absurd out
stepped now call (step.Failed c) new step.Told built out = failed call now c new built out

pub steps_keep : StepsKeepBuilt
steps_keep turn call new built out = stepped turn.now call turn.input new turn.output built out

-- ---- before anything was sent

pub begun_built : BegunIsBuilt
begun_built opened log destinations = record { branches = λ n l e. absurd (let nothing : None ≡ Some l = at_more [] _ n l e in cc) }
