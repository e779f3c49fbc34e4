-- What a call that opened answers its caller, and sends.
use Rattle.std.specs.Prelude.{◌≢◌}
use Rattle.fork_call.proofs.Common.{◌≡◌, ◌∙◌, true, false, ℕ, List, [], ◌∷◌, ◌++◌, Option, Some, refl, sym, ap, subst, slice_get, MessageText, Hop, Datagram, Call, Destination, rows_of}
use Rattle.fork_model.specs.Table.{is_finished, is_succeeded}
use Rattle.sip_text.specs.Text.{spelling}
use Rattle.call_model.specs.declared.cause.Cause.{Cause}
use Rattle.call_model.specs.declared.cause.Cause.TheVariants as cause
use Rattle.call_model.specs.Built.{request_to}
use Rattle.call_model.specs.Pump.{Send}
use Rattle.call_model.specs.Step.{Did}
use Rattle.call_laws.specs.Answers.{AnswersOnce, CallsPayInOrder, PaysInOrder}
use Rattle.call_laws.specs.EachDatagram.{IsRightAfter, IsSentAfter}
use Rattle.call_laws.specs.EachDatagram as datagrams
use Rattle.call_laws.specs.Answers as laws
use Rattle.call_laws.specs.Successes.{GoesUp, PostsSuccess}
use Rattle.call_laws.specs.Successes as successes
use Rattle.call_model.specs.OpenedRequest.{is_invite}
use Rattle.call_laws.specs.Stages.{Leads, Stage, end_of}
use Rattle.fork_call.specs.Opening.{Opens, candidates_for, opened_of}
use Rattle.proxy_routing.specs.Targets.{CandidateTarget, targets_of}
use Rattle.proxy_config.specs.Setup.{Setup}
use Rattle.fork_call.specs.Answered.{EachDatagramIsRight, EachSuccessGoesUp, OneFinalAnswerGoesUp, OpenedCallsPayInOrder}
use Rattle.fork_call.specs.Naming.{DestinationsLeadToTargets, GoesToTarget, IsRequestTo}

-- ---- what opened

some_targets : (cs : List CandidateTarget) → cs ≢ [] → targets_of cs ≢ []
some_targets [] some e = some refl
some_targets (c ∷ cs) some e = absurd cc

pub opened_pay : CallsPayInOrder → OpenedCallsPayInOrder
opened_pay pays setup number m source call stages opens given leads =
    let request = opens.0 in
    let uri = opens.2.1 in
    let reaches = opens.2.3 in
    let begins = reaches.begins in
    let cs = candidates_for setup request uri in
    let P : Call → Type 0 = λ x. Leads x stages → PaysInOrder x stages in
    subst P (sym begins.2) (pays (opened_of setup number request source uri) setup.rules (targets_of cs) begins.0 stages (some_targets cs reaches.some) given) leads

pub opened_answer_once : laws.OneFinalAnswerGoesUp → OneFinalAnswerGoesUp
opened_answer_once once setup number m source call stages opens given leads =
    let request = opens.0 in
    let uri = opens.2.1 in
    let reaches = opens.2.3 in
    let begins = reaches.begins in
    let cs = candidates_for setup request uri in
    let P : Call → Type 0 = λ x.
    Leads x stages → is_finished (rows_of (end_of x stages)) ≡ true → is_succeeded (rows_of (end_of x stages)) ≡ false → (end_of x stages).server.owed ≡ []
    → AnswersOnce x stages in
    subst P (sym begins.2) (once (opened_of setup number request source uri) setup.rules (targets_of cs) begins.0 stages (some_targets cs reaches.some) given) leads

pub opened_success : successes.EachSuccessGoesUp → EachSuccessGoesUp
opened_success goes setup number m source call before stage later answer opens invited given leads posts =
    let request = opens.0 in
    let uri = opens.2.1 in
    let reaches = opens.2.3 in
    let begins = reaches.begins in
    let cs = candidates_for setup request uri in
    let P : Call → Type 0 = λ x. is_invite x.opened ≡ true → Leads x (before ++ stage ∷ later) → GoesUp x before stage later answer in
    subst P (sym begins.2)
    (λ is l. goes (opened_of setup number request source uri) setup.rules (targets_of cs) begins.0 before stage later answer (some_targets cs reaches.some) is given l posts)
    invited leads

-- ---- what is sent

same_inside : {X : Type 0} → (o : Option X) (x y : X) → o ≡ Some x → o ≡ Some y → x ≡ y
same_inside o x y a b = let e : Some x ≡ Some y = sym a ∙ b in cc

goes_to_target : DestinationsLeadToTargets → (setup : Setup) (number : ℕ) (m : MessageText) (source : Hop) (call : Call) (before : List Stage) (d : Datagram)
    → Opens setup number m source call → IsRightAfter call before d → GoesToTarget setup call d
goes_to_target leads setup number m source call before d opens right = λ n destination is at.
    let S : Cause → Type 0 = λ c. IsSentAfter call before d c in
    let sent = subst S is right.is in
    let same : sent.0 ≡ destination = same_inside (slice_get (end_of call before).destinations n) sent.0 destination sent.1 (right.targets n destination at) in
    record {
      leads = leads setup number m source call n destination opens at;
      hop = sent.2 ∙ ap (λ (x : Destination). x.hop) same;
      bytes = sent.3 ∙ ap (λ (x : Destination). spelling (request_to call.opened x n)) same;
    }

pub opened_datagrams : datagrams.EachDatagramIsRight → DestinationsLeadToTargets → EachDatagramIsRight
opened_datagrams each leads_to setup number m source call before stage later d opens given leads sends =
    let request = opens.0 in
    let uri = opens.2.1 in
    let reaches = opens.2.3 in
    let begins = reaches.begins in
    let cs = candidates_for setup request uri in
    let P : Call → Type 0 = λ x. Leads x (before ++ stage ∷ later) → IsRightAfter x before d in
    let right : IsRightAfter call before d =
    subst P (sym begins.2)
    (λ l. each (opened_of setup number request source uri) setup.rules (targets_of cs) begins.0 before stage later d (some_targets cs reaches.some) given l sends)
    leads in
    record { is = right; names = goes_to_target leads_to setup number m source call before d opens right }
