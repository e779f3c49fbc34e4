-- The answer to a request that opens no call is that to the request as it came, though it is made of what was given back.
use Rattle.proxy_dispatch.proofs.Common.{◌≡◌, ◌∙◌, [], ℕ, List, Option, Some, Ok, ap, refl, sym, subst, MessageText, Hop, Own, Setup, Datagram, Handled}
use Rattle.std.proofs.Common.{Bool, false, true, codes}
use Rattle.std.specs.List.{flat_map}
use Rattle.sip_text.specs.Name.{full_name, same_name, values_of}
use Rattle.sip_text.specs.Text.{HeaderText, spelling}
use Rattle.sip_via.specs.ReadTop.{IsTopOf, ReadTop, reply_if_read}
use Rattle.sip_via.specs.Received.{marked, reply_of}
use Rattle.sip_via.specs.TopVia.{first_or_empty, top_value, values_in}
use Rattle.sip_via.specs.ViaParts.{via_of}
use Rattle.sip_route.specs.Routes.{route_name, stripped}
use Rattle.sip_build.specs.declared.responses.OwnStatus.{OwnStatus}
use Rattle.sip_build.specs.Generated.{code_of, generated_of}
use Rattle.call_model.specs.declared.cause.Cause.TheVariants as cause
use Rattle.proxy_routing.specs.declared.fault.RequestRejection.{RequestRejection}
use Rattle.proxy_routing.specs.declared.fault.RequestRejection.TheVariants.{BadRequest, Scheme, Hops, Loop, Extension, NoTarget, NoHop, NoMemory}
use Rattle.proxy_routing.specs.declared.unrouted.Unrouted.{Unrouted}
use Rattle.proxy_routing.specs.declared.unrouted.Unrouted.TheVariants as unrouted
use Rattle.proxy_routing.specs.Admission.{IsPrepared}
use Rattle.proxy_routing.specs.Unrouted.{IfRejected, IsGivenBack}
use Rattle.proxy_routing.specs.Refusing.{status_of_fault}
use Rattle.sip_via.specs.Edits.{with_headers}
use Rattle.proxy_routing.specs.OwnCredentials.{AreSameBut}
use Rattle.proxy_routing.proofs.laws.LineValues.{same_values}
use Rattle.proxy_routing.specs.OwnRoutes.{without_own_routes}
use Rattle.proxy_routing.proofs.laws.OwnCredentials.{credentials, kept_without}
use Rattle.proxy_routing.proofs.laws.OwnRoutes.{kept}
use Rattle.fork_call.specs.Opening.{IsRefusedFor}
use Rattle.fork_call.specs.Prepared.{is_found_first}
use Rattle.fork_call.proofs.laws.AnswersWithout.{answers_without}
use Rattle.proxy_dispatch.specs.declared.datagrams.Handled.TheVariants.{Answered}
use Rattle.proxy_dispatch.specs.Becomes.{IsRejected, IsStopped}
use Rattle.proxy_dispatch.specs.inner.Becomes.{IsRejectedBy}
use Rattle.proxy_dispatch.specs.Sent.{answer_made, answer_of, answer_to}

-- want of memory gives no request back
pub no_memory : (setup : Setup) (m : MessageText) (source : Hop) (fault : RequestRejection) (back : MessageText) → IsRefusedFor setup m source fault back → fault ≡ NoMemory → ⊥
no_memory setup m source fault back h e =
    let P : RequestRejection → Type 0 = λ f. IsRefusedFor setup m source f back in
    (subst P e h).1

abbrev KeepsAnswers : Type 0
KeepsAnswers = (m : MessageText) (own : Own) (status : OwnStatus) (further : List HeaderText) → generated_of (stripped m own) status further ≡ generated_of m status further

abbrev KeepsOthers : Type 0
KeepsOthers = (m : MessageText) (own : Own) (name : List ℕ) → same_name route_name name ≡ false → values_of name (stripped m own).headers ≡ values_of name m.headers

not_credentials : same_name credentials (codes "via") ≡ false
unfolding full_name
not_credentials = refl

not_route : same_name route_name (codes "via") ≡ false
unfolding full_name
not_route = refl

module _ (answers : KeepsAnswers) (others : KeepsOthers) (source : Hop) (status : OwnStatus) (further : List HeaderText) where
  answer_with : MessageText → Datagram
  answer_with x = answer_to x status further (reply_of (via_of (top_value x)) source)

  same_top : (x : MessageText) (own : Own) → top_value (stripped x own) ≡ top_value x
  same_top x own = ap (λ (lines : List (List ℕ)). first_or_empty (flat_map values_in lines)) (others x own (codes "via") not_route)

  stripped_answer : (x : MessageText) (own : Own) → answer_to (stripped x own) status further (reply_of (via_of (top_value (stripped x own))) source) ≡ answer_to x status further (reply_of (via_of (top_value x)) source)
  stripped_answer x own =
      λ k. record { to = reply_of (via_of (same_top x own k)) source; bytes = spelling (answers x own status further k); cause = cause.Answer }

  pub with_source_answer : (m back : MessageText) → marked m source ≡ Ok back → answer_to back status further (reply_of (via_of (top_value back)) source) ≡ answer_of m source status further
  with_source_answer m back e = sym (ap (answer_made source status further m) e)

  same_top_without : (x : MessageText) (lines : List HeaderText) → AreSameBut credentials lines x.headers → top_value (with_headers x lines) ≡ top_value x
  same_top_without x lines same =
      ap (λ (values : List (List ℕ)). first_or_empty (flat_map values_in values)) (same_values credentials lines x.headers same (codes "via") not_credentials)

  answer_without : (x : MessageText) (lines : List HeaderText) → AreSameBut credentials lines x.headers
      → answer_to (with_headers x lines) status further (reply_of (via_of (top_value (with_headers x lines))) source) ≡ answer_to x status further (reply_of (via_of (top_value x)) source)
  answer_without x lines same =
      λ k. record { to = reply_of (via_of (same_top_without x lines same k)) source; bytes = spelling (answers_without x lines status further same k); cause = cause.Answer }

  pub prepared_answer : (setup : Setup) (m back : MessageText) → IsPrepared setup m source back → answer_to back status further (reply_of (via_of (top_value back)) source) ≡ answer_of m source status further
  prepared_answer setup m back (with_source, is, left) =
      kept_without (λ (x : MessageText). answer_to x status further (reply_of (via_of (top_value x)) source)) answer_without setup.realm (without_own_routes setup with_source) back left
      ∙ kept (λ (x : MessageText). answer_to x status further (reply_of (via_of (top_value x)) source)) stripped_answer setup with_source
      ∙ with_source_answer m with_source is

module _ (answers : KeepsAnswers) (others : KeepsOthers) (source : Hop) (status : OwnStatus) where
  pub rejection : (setup : Setup) (m : MessageText) (fault : RequestRejection) (back : MessageText) (d : Datagram) → IsRefusedFor setup m source fault back
      → (fault ≡ BadRequest → d ≡ answer_of back source status [])
      → ((fault ≡ BadRequest → ⊥) → d ≡ answer_to back status [] (reply_of (via_of (top_value back)) source)) → d ≡ answer_of m source status []
  rejection setup m BadRequest back d h plain with_source = plain refl ∙ ap (λ (x : MessageText). answer_of x source status []) h.1
  rejection setup m Scheme back d h plain with_source = with_source (λ e. absurd cc) ∙ with_source_answer answers others source status [] m back h.1
  rejection setup m Hops back d h plain with_source = with_source (λ e. absurd cc) ∙ with_source_answer answers others source status [] m back h.1
  rejection setup m Loop back d h plain with_source = with_source (λ e. absurd cc) ∙ prepared_answer answers others source status [] setup m back h.1
  rejection setup m Extension back d h plain with_source = with_source (λ e. absurd cc) ∙ prepared_answer answers others source status [] setup m back h.1
  rejection setup m NoTarget back d h plain with_source = with_source (λ e. absurd cc) ∙ prepared_answer answers others source status [] setup m back h.1
  rejection setup m NoHop back d h plain with_source = with_source (λ e. absurd cc) ∙ prepared_answer answers others source status [] setup m back h.1
  rejection setup m NoMemory back d h plain with_source = absurd h.1

  pub rejected_so : (setup : Setup) (m : MessageText) (fault : RequestRejection) (back : MessageText) (d : Datagram) (code : ℕ) (handled : Handled) (sent : Option Datagram)
      → IsRefusedFor setup m source fault back → status_of_fault fault ≡ Some (code_of status) → code ≡ code_of status
      → (fault ≡ BadRequest → d ≡ answer_of back source status [])
      → ((fault ≡ BadRequest → ⊥) → d ≡ answer_to back status [] (reply_of (via_of (top_value back)) source))
      → handled ≡ Answered code → sent ≡ Some d → IsRejectedBy setup m source fault [] handled sent
  rejected_so setup m fault back d code handled sent h s e plain with_source f g = (
    record {
      fault = fault;
      status = status;
      refuses = h.0;
      status_is = s;
      unseen = refl;
      answered = (f ∙ ap Answered e, g ∙ ap Some (rejection setup m fault back d h plain with_source));
    },
    refl,
  )

-- where it goes, by what was read of the top Via value as it came
abbrev TellsMarked : Type 0
TellsMarked = (m with_source : MessageText) (source : Hop) (top : Option ReadTop) → IsTopOf m source top → marked m source ≡ Ok with_source
    → reply_if_read top source ≡ reply_of (via_of (top_value with_source)) source

abbrev TellsPrepared : Type 0
TellsPrepared = (setup : Setup) (m request : MessageText) (source : Hop) (top : Option ReadTop) → IsTopOf m source top → IsPrepared setup m source request
    → reply_if_read top source ≡ reply_of (via_of (top_value request)) source

pub told_back : TellsMarked → TellsPrepared → (setup : Setup) (m : MessageText) (source : Hop) (top : Option ReadTop) → IsTopOf m source top
    → (fault : RequestRejection) (back : MessageText) → IsRefusedFor setup m source fault back → (fault ≡ BadRequest → ⊥)
    → reply_if_read top source ≡ reply_of (via_of (top_value back)) source
told_back tells prepared setup m source top is BadRequest back h other = absurd (other refl)
told_back tells prepared setup m source top is Scheme back h other = tells m back source top is h.1
told_back tells prepared setup m source top is Hops back h other = tells m back source top is h.1
told_back tells prepared setup m source top is Loop back h other = prepared setup m back source top is h.1
told_back tells prepared setup m source top is Extension back h other = prepared setup m back source top is h.1
told_back tells prepared setup m source top is NoTarget back h other = prepared setup m back source top is h.1
told_back tells prepared setup m source top is NoHop back h other = prepared setup m back source top is h.1
told_back tells prepared setup m source top is NoMemory back h other = absurd h.1

-- what is given back as it came
pub came_back : (setup : Setup) (m : MessageText) (source : Hop) (top : Option ReadTop) (fault : RequestRejection) (back : MessageText)
    → IsTopOf m source top → IsGivenBack setup m source fault back → fault ≡ BadRequest → IsTopOf back source top
came_back setup m source top fault back is h e =
    let P : RequestRejection → Type 0 = λ f. IsGivenBack setup m source f back in
    let Q : MessageText → Type 0 = λ x. IsTopOf x source top in
    subst Q (sym (subst P e h)) is

-- by one of the first five steps
pub stopped_by : (setup : Setup) (m : MessageText) (source : Hop) (fault : RequestRejection) (handled : Handled) (sent : Option Datagram)
    → is_found_first fault ≡ true → IsRejectedBy setup m source fault [] handled sent → IsStopped setup m source [] handled sent
stopped_by setup m source fault handled sent first h = (h.0, ap is_found_first h.1 ∙ first)

-- by why it is not routed
pub rejected_at : {A : Type 0} (P : RequestRejection → MessageText → Type 0) (why : Unrouted A) (fault : RequestRejection) (back : MessageText) → why ≡ unrouted.Rejected fault back
    → IfRejected P why → P fault back
rejected_at {A = A} P why fault back e h =
    let Q : Unrouted A → Type 0 = λ w. IfRejected P w in
    subst Q e h
