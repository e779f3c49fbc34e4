-- What becomes of a message, put together.
use Rattle.proxy_dispatch.proofs.Common.{◌≡◌, ◌∙◌, [], ◌∷◌, ℕ, List, Option, Some, None, Result, Ok, Err, refl, sym, subst, ap, inl, inr, Serving, MessageText, Hop, Own, ViaFault, request_key, Setup, IsAdmitted, RequestKind, Passes, Look, Handled, Datagram, Call}
use Rattle.std.proofs.Common.{Bool, true, false, ◌++◌}
use Rattle.std.specs.Prelude.{IfOk, option_map}
use Rattle.std.proofs.lemmas.Bool.{false≢true}
use Rattle.sip_via.specs.OwnVia.{over}
use Rattle.sip_text.specs.Fault.{FailsAs}
use Rattle.sip_text.specs.Refusal.{IsRefused}
use Rattle.sip_text.specs.Message.{read_at}
use Rattle.sip_text.specs.Reading.{Fault}
use Rattle.sip_text.specs.Text.{HeaderText, spelling}
use Rattle.sip_uri.specs.Uri.{Uri}
use Rattle.sip_branch.specs.declared.branch.BranchName.{BranchName}
use Rattle.sip_via.specs.declared.own.ViaFault.TheVariants.{BadVia}
use Rattle.sip_via.specs.ViaFaults.{refusal}
use Rattle.sip_build.specs.declared.responses.OwnStatus.{OwnStatus}
use Rattle.sip_build.specs.declared.responses.OwnStatus.TheVariants as own
use Rattle.sip_build.specs.Forwarding.{forwarded}
use Rattle.sip_build.specs.Generated.{code_of}
use Rattle.authentication.specs.Answer.{Answer}
use Rattle.call_model.specs.Call.{numbered}
use Rattle.proxy_routing.specs.declared.fault.RequestRejection.{RequestRejection}
use Rattle.proxy_routing.specs.declared.unrouted.Unrouted.{Unrouted}
use Rattle.proxy_routing.specs.declared.unrouted.Unrouted.TheVariants as unrouted
use Rattle.proxy_routing.specs.Admission.{IsPrepared}
use Rattle.proxy_routing.specs.Refusing.{status_of_fault}
use Rattle.proxy_routing.specs.Unrouted.{IfRejected, IsTurnedBack, fault_of}
use Rattle.fork_call.specs.Opening.{Opens, with_token}
use Rattle.fork_call.proofs.laws.WithToken.{admitted_with}
use Rattle.proxy_config.specs.declared.dialog_token.DialogToken.{DialogToken}
use Rattle.proxy_dispatch.specs.Asking.{asks_service}
use Rattle.proxy_dispatch.specs.Admitting.{Decision, opener_of}
use Rattle.proxy_dispatch.specs.Becomes.{AckBecomes, AckDecided, AdmittedBecomes, AskedBecomes, Becomes, BecomesBy, DecidedBecomes, KeyBecomes, LooksFor, MarkedBecomes, MessageBecomes, NewBecomes, OpenerBecomes, RegisteredBecomes, RegisteringBecomes, RequestBecomes, UnknownBecomes}
use Rattle.proxy_dispatch.specs.Looks.{Found, Shows, ShowsAll}
use Rattle.proxy_dispatch.specs.declared.admission.Opener.{Opener}
use Rattle.proxy_dispatch.specs.declared.admission.Opener.TheVariants as openers
use Rattle.proxy_dispatch.specs.inner.Becomes.{ToldBecomes, is_registering}
use Rattle.proxy_dispatch.specs.Passing.{GoesOn, HasOwnTag}
use Rattle.proxy_dispatch.specs.Purpose.{purpose_of}
use Rattle.proxy_dispatch.specs.declared.purpose.RequestKind.TheVariants as purposes
use Rattle.proxy_dispatch.specs.Sent.{answer_made, answer_of, answer_to, passed_text, passing_branch}
use Rattle.proxy_dispatch.specs.declared.datagrams.Handled.TheVariants.{Dropped, Absorbed, Answered, TurnedAway, Forwarded, Left, Opened, Delivered}

-- ---- ACKs

pub passes_if : (setup : Setup) (m : MessageText) (source : Hop) (request : MessageText) → IsAdmitted setup m source request
    → (sent : Option Datagram) → GoesOn setup request sent → Passes setup m source sent
passes_if setup m source request a None h = inr (request, a, h)
passes_if setup m source request a (Some datagram) h = (request, a, h)

-- an ACK that one of the first four steps of section 16.3 stops
pub stopped : {A : Type 0} (setup : Setup) (m : MessageText) (source : Hop) (why : Unrouted A) → IfRejected (IsTurnedBack setup m source) why
    → (fault : RequestRejection) → fault ≡ fault_of why → (status : Option ℕ) → status ≡ status_of_fault fault → (n : ℕ) → status ≡ Some n → Passes setup m source None
stopped setup m source (unrouted.Rejected f back) h fault e status s n is = inl (f, n, h.0, sym (ap status_of_fault e) ∙ sym s ∙ is)
stopped setup m source unrouted.NoMemory h fault e status s n is = absurd (let none : None ≡ Some n = sym (ap status_of_fault e) ∙ sym s ∙ is in cc)

-- by a setup with another token as by this one
passes_with : (token : DialogToken) (setup : Setup) (m : MessageText) (source : Hop) (sent : Option Datagram)
    → Passes setup m source sent → Passes (with_token (Some token) setup) m source sent
passes_with token setup m source None (inl h) = inl h
passes_with token setup m source None (inr h) = inr (h.0, admitted_with (Some token) setup m source h.0 h.1, h.2)
passes_with token setup m source (Some datagram) h = (h.0, admitted_with (Some token) setup m source h.0 h.1, h.2)

pub ack_with : (token : DialogToken) (setup : Setup) (m : MessageText) (source : Hop) (handled : Handled) (sent : Option Datagram)
    → AckBecomes setup m source handled sent → AckBecomes (with_token (Some token) setup) m source handled sent
ack_with token setup m source Dropped sent h = (h.0, passes_with token setup m source None h.1, h.2)
ack_with token setup m source Absorbed sent h = h
ack_with token setup m source (Answered status) sent h = absurd h
ack_with token setup m source TurnedAway sent h = absurd h
ack_with token setup m source Forwarded sent h = (h.0, h.1, h.2, passes_with token setup m source (Some h.1) h.3)
ack_with token setup m source Left sent h = absurd h
ack_with token setup m source (Opened number) sent h = absurd h
ack_with token setup m source (Delivered number) sent h = absurd h

pub passed_text_so : (setup : Setup) (request : MessageText) (uri : Uri) (hop : Hop) (own : Own) (branch : BranchName) (old text : List ℕ)
    → text ≡ old ++ spelling (forwarded request uri own branch None) → old ≡ [] → own ≡ over setup.own hop.transport → branch ≡ passing_branch setup request
    → text ≡ passed_text setup request uri hop
passed_text_so setup request uri hop own branch old text e f p q =
    e ∙ ap (λ (x : List ℕ). x ++ spelling (forwarded request uri own branch None)) f ∙ (λ k. spelling (forwarded request uri (p k) (q k) None))

-- ---- answers

pub unmarked_answer : (source : Hop) (status : OwnStatus) (further : List HeaderText) (m n : MessageText) (r : Result MessageText ViaFault) → refusal r ≡ BadVia → n ≡ m
    → answer_to n status further source ≡ answer_made source status further m r
unmarked_answer source status further m n (Ok x) e f = absurd cc
unmarked_answer source status further m n (Err fault) e f = ap (λ (x : MessageText). answer_to x status further source) f

-- ---- what is seen

-- looks at a table that lead from one to the other, with what holds of them
abbrev pub Sees : {T : Type 0} → Shows T → T → T → (List Look → Type 0) → Type 0
Sees shows table new P = (looks : List Look) × ShowsAll shows table looks new × P looks

-- ---- what opens

-- the request that a call would have opened with is the one as it was prepared
pub prepared_so : (setup : Setup) (m : MessageText) (source : Hop) (pending : Call) → ((number : ℕ) → Opens setup number m source (numbered number pending))
    → IsPrepared setup m source pending.opened.request
prepared_so setup m source pending opens =
    let so = opens 0 in
    let P : MessageText → Type 0 = λ x. IsPrepared setup m source x in
    subst P (sym (ap (λ (x : Call). x.opened.request) so.2.3.begins.2)) so.1.prepared

-- ---- a request that is admitted

pub told_so : (asks : Bool) (serving : Serving) (setup : Setup) (m : MessageText) (source : Hop) (now : ℕ) (key : List ℕ) (looks : List Look) (handled : Handled) (sent : Option Datagram) (b : Bool)
    → asks ≡ b → AdmittedBecomes b serving setup m source now key looks handled sent → AdmittedBecomes asks serving setup m source now key looks handled sent
told_so asks serving setup m source now key looks handled sent b e h =
    let P : Bool → Type 0 = λ x. AdmittedBecomes x serving setup m source now key looks handled sent in
    subst P (sym e) h

-- by which request it is
pub opener_at : (serving : Serving) (setup : Setup) (m : MessageText) (source : Hop) (now : ℕ) (key : List ℕ) (looks : List Look) (handled : Handled) (sent : Option Datagram) (opener other : Opener)
    → opener ≡ other → OpenerBecomes opener serving setup m source now key looks handled sent → OpenerBecomes other serving setup m source now key looks handled sent
opener_at serving setup m source now key looks handled sent opener other e h =
    let P : Opener → Type 0 = λ x. OpenerBecomes x serving setup m source now key looks handled sent in
    subst P e h

-- whether it is a REGISTER for the domain
pub registering_is : (opener : Opener) → is_registering opener ≡ true → openers.Registering ≡ opener
registering_is openers.Registering e = refl
registering_is openers.OutsideDialog e = absurd (false≢true e)
registering_is openers.WithinDialog e = absurd (false≢true e)

pub other_is : (opener : Opener) → is_registering opener ≡ false → opener ≡ openers.Registering → ⊥
other_is opener e is = false≢true (sym e ∙ ap is_registering is)

-- any but a REGISTER for the domain
pub not_registering : (serving : Serving) (setup : Setup) (m : MessageText) (source : Hop) (now : ℕ) (key : List ℕ) (looks : List Look) (handled : Handled) (sent : Option Datagram) (opener : Opener)
    → (opener ≡ openers.Registering → ⊥) → AdmittedBecomes (asks_service setup m) serving setup m source now key looks handled sent
    → OpenerBecomes opener serving setup m source now key looks handled sent
not_registering serving setup m source now key looks handled sent openers.OutsideDialog other h = h
not_registering serving setup m source now key looks handled sent openers.WithinDialog other h = h
not_registering serving setup m source now key looks handled sent openers.Registering other h = absurd (other refl)

-- by what is decided
pub decided_at : (setup : Setup) (m : MessageText) (source : Hop) (now : ℕ) (key : List ℕ) (looks : List Look) (handled : Handled) (sent : Option Datagram) (decision other : Decision)
    → decision ≡ other → DecidedBecomes other setup m source now key looks handled sent → DecidedBecomes decision setup m source now key looks handled sent
decided_at setup m source now key looks handled sent decision other e h =
    let P : Decision → Type 0 = λ x. DecidedBecomes x setup m source now key looks handled sent in
    subst P (sym e) h

-- an ACK by what is decided
pub ack_at : (serving : Serving) (setup : Setup) (m : MessageText) (source : Hop) (now : ℕ) (handled : Handled) (sent : Option Datagram) (decision other : Decision) → (HasOwnTag m → ⊥)
    → serving.decides setup m source now decision → decision ≡ other → AckDecided other setup m source handled sent → UnknownBecomes serving setup m source now purposes.Ack [] handled sent
ack_at serving setup m source now handled sent decision other own decides e h =
    let P : Decision → Type 0 = λ x. AckDecided x setup m source handled sent in
    (refl, inr (own, decision, decides, subst P (sym e) h))

-- a REGISTER by its top Via value and by what it asks for
pub registering_so : (serving : Serving) (setup : Setup) (m : MessageText) (source : Hop) (now : ℕ) (handled : Handled) (sent : Option Datagram) (via v asks a : Bool)
    → via ≡ v → asks ≡ a → RegisteringBecomes v a serving setup m source now [] handled sent → RegisteringBecomes via asks serving setup m source now [] handled sent
registering_so serving setup m source now handled sent via v asks a e f h =
    let P : Bool → Type 0 = λ x. RegisteringBecomes x asks serving setup m source now [] handled sent in
    let Q : Bool → Type 0 = λ x. RegisteringBecomes v x serving setup m source now [] handled sent in
    subst P (sym e) (subst Q (sym f) h)

-- by what it is with its source
pub marked_at : (serving : Serving) (setup : Setup) (m : MessageText) (source : Hop) (now : ℕ) (handled : Handled) (sent : Option Datagram) (r other : Result MessageText ViaFault)
    → r ≡ other → MarkedBecomes other serving setup m source now [] handled sent → MarkedBecomes r serving setup m source now [] handled sent
marked_at serving setup m source now handled sent r other e h =
    let P : Result MessageText ViaFault → Type 0 = λ x. MarkedBecomes x serving setup m source now [] handled sent in
    subst P (sym e) h

pub unmarked_at : (serving : Serving) (setup : Setup) (m back : MessageText) (source : Hop) (now : ℕ) (handled : Handled) (sent : Option Datagram) (r : Result MessageText ViaFault)
    → refusal r ≡ BadVia → back ≡ m → handled ≡ Answered (code_of own.BadRequest) → sent ≡ Some (answer_of back source own.BadRequest []) → MarkedBecomes r serving setup m source now [] handled sent
unmarked_at serving setup m back source now handled sent (Ok x) e f h s = absurd cc
unmarked_at serving setup m back source now handled sent (Err fault) e f h s = (refl, (h, s ∙ ap (λ (x : MessageText). Some (answer_of x source own.BadRequest [])) f))

-- by what the registrar answers
pub answered_by : (serving : Serving) (setup : Setup) (m with_source : MessageText) (source : Hop) (now : ℕ) (handled : Handled) (sent : Option Datagram) (answer other : Option Answer)
    → serving.registers setup with_source source now answer → answer ≡ other → RegisteredBecomes other m source [] handled sent
    → MarkedBecomes (Ok with_source) serving setup m source now [] handled sent
answered_by serving setup m with_source source now handled sent answer other registers e h =
    let P : Option Answer → Type 0 = λ x. RegisteredBecomes x m source [] handled sent in
    (answer, registers, subst P (sym e) h)

pub asked_so : (serving : Serving) (setup : Setup) (m : MessageText) (source : Hop) (now : ℕ) (key : List ℕ) (opener : Opener) (said b : Bool) (looks : List Look) (handled : Handled) (sent : Option Datagram)
    → serving.admits opener said → opener ≡ opener_of serving.registrar setup m → said ≡ b → AskedBecomes b serving setup m source now key looks handled sent
    → NewBecomes serving setup m source now (Some key) looks handled sent
asked_so serving setup m source now key opener said b looks handled sent h e f becomes =
    let P : Opener → Type 0 = λ x. serving.admits x said in
    let Q : Bool → Type 0 = λ x. serving.admits (opener_of serving.registrar setup m) x in
    (b, subst Q f (subst P e h), becomes)

-- ---- a request

pub purpose_at : (serving : Serving) (setup : Setup) (m : MessageText) (source : Hop) (now : ℕ) (purpose p : RequestKind) (looks : List Look) (handled : Handled) (sent : Option Datagram)
    → purpose ≡ p → UnknownBecomes serving setup m source now p looks handled sent → UnknownBecomes serving setup m source now purpose looks handled sent
purpose_at serving setup m source now purpose p looks handled sent e h =
    let P : RequestKind → Type 0 = λ x. UnknownBecomes serving setup m source now x looks handled sent in
    subst P (sym e) h

-- of a request whose key is this one
pub new_at : (serving : Serving) (setup : Setup) (m : MessageText) (source : Hop) (now : ℕ) (key other : Option (List ℕ)) (looks : List Look) (handled : Handled) (sent : Option Datagram)
    → key ≡ other → NewBecomes serving setup m source now key looks handled sent → NewBecomes serving setup m source now other looks handled sent
new_at serving setup m source now key other looks handled sent e h =
    let P : Option (List ℕ) → Type 0 = λ x. NewBecomes serving setup m source now x looks handled sent in
    subst P e h

-- the text of a key that there is
pub key_so : {V : Type 0} (items : V → List ℕ) (key : Option V) (text : V) (own : Option (List ℕ)) (now : List ℕ) → option_map items key ≡ own → key ≡ Some text → now ≡ items text → own ≡ Some now
key_so items key text own now e f g = sym e ∙ ap (option_map items) f ∙ ap Some (sym g)

unlooked : (key : Option (List ℕ)) → key ≡ None → (looks : List Look) → LooksFor key None looks looks
unlooked key e looks =
    let P : Option (List ℕ) → Type 0 = λ x. LooksFor x None looks looks in
    subst P (sym e) (refl, refl)

looked : (own : Option (List ℕ)) (key : List ℕ) → own ≡ Some key → (number : Option ℕ) (looks : List Look) → LooksFor own number (Found key number ∷ looks) looks
looked own key e number looks =
    let P : Option (List ℕ) → Type 0 = λ x. LooksFor x number (Found key number ∷ looks) looks in
    subst P (sym e) refl

module _ {T : Type 0} (shows : Shows T) (serving : Serving) (setup : Setup) (m : MessageText) (source : Hop) (now : ℕ) (purpose : RequestKind) (handled : Handled) (sent : Option Datagram) where
  -- a request without a key
  pub unkeyed : (old new : T) → request_key m ≡ None → Sees shows old new (λ looks. UnknownBecomes serving setup m source now purpose looks handled sent)
      → Sees shows old new (λ looks. RequestBecomes serving setup m source now purpose looks handled sent)
  unkeyed old new e (looks, seen, h) = (looks, seen, (None, looks, unlooked (request_key m) e looks, h))

  -- one that is looked for
  pub keyed : (old mid new : T) (key : List ℕ) (found number : Option ℕ) → request_key m ≡ Some key → shows old (Found key found) mid → found ≡ number
      → Sees shows mid new (λ looks. KeyBecomes serving setup m source now purpose number looks handled sent)
      → Sees shows old new (λ looks. RequestBecomes serving setup m source now purpose looks handled sent)
  keyed old mid new key found number e show f (looks, seen, h) =
      let P : Option ℕ → Type 0 = λ x. shows old (Found key x) mid in
      (Found key number ∷ looks, (mid, subst P f show, seen), (number, looks, looked (request_key m) key e number looks, h))

pub message_so : (serving : Serving) (setup : Setup) (m : MessageText) (source : Hop) (now : ℕ) (looks : List Look) (handled : Handled) (sent : Option Datagram) (p : Option RequestKind)
    → purpose_of m.start ≡ p → BecomesBy serving setup m source now p looks handled sent → MessageBecomes serving setup m source now looks handled sent
message_so serving setup m source now looks handled sent p e h =
    let P : Option RequestKind → Type 0 = λ x. BecomesBy serving setup m source now x looks handled sent in
    subst P (sym e) h

-- ---- a text that is no message

pub unread_becomes : (serving : Serving) (setup : Setup) (text : List ℕ) (source : Hop) (now : ℕ) (handled : Handled) (sent : Option Datagram)
    → ((t : List ℕ) (f : Fault) → read_at t ≡ Err f → IsRefused t f) → (seen : Option Fault) → FailsAs seen (read_at text)
    → ToldBecomes seen source handled sent → Becomes serving setup text source now [] handled sent
unread_becomes serving setup text source now handled sent law None h b = absurd b
unread_becomes serving setup text source now handled sent law (Some f) h b = inr (f, law text f h, refl, b)
