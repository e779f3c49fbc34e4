-- A request is decided in one way alone.
use Rattle.std.proofs.Common.{◌≡◌, Bool, true, false, Option, Some, None, inl, inr, sym, ap, ◌∙◌}
use Rattle.std.specs.Prelude.{codes}
use Rattle.sip_text.specs.Text.{MessageText}
use Rattle.sip_via.specs.Address.{address_text}
use Rattle.sip_build.specs.declared.responses.OwnStatus.{OwnStatus}
use Rattle.authentication.specs.declared.challenge.Challenger.TheVariants.{Proxy}
use Rattle.authentication.specs.Party.{uri_in}
use Rattle.authentication.specs.Standing.{Standing, arrival_of}
use Rattle.authentication.proofs.laws.Once.{stands_once}
use Rattle.authentication.specs.declared.decision.Arrival.{Arrival}
use Rattle.authentication.specs.Sender.{claims_domain}
use Rattle.authentication.specs.Decision.{Admission, Decision, IsDecision, IsOfChecked, IsOfRequest, IsOfSender, IsOfSource, IsOfUntrusted, claimed, is_for_registrar}

module _ (a : Admission) (r : Arrival) (m : MessageText) (d e : Decision) where
  of_sender : (claims : Bool) → IsOfSender claims a r m d → IsOfSender claims a r m e → d ≡ e
  of_sender true (standing, stands, h) (other, stands_too, k) =
      let same = stands_once true Proxy a.realm m (arrival_of m (address_text r.source.addr) r.second) standing other stands stands_too in
      h ∙ ap (λ (s : Standing). claimed a r (uri_in (codes "from") m) s) same ∙ sym k
  of_sender false h k = h ∙ sym k

  of_untrusted : IsOfUntrusted a r m d → IsOfUntrusted a r m e → d ≡ e
  of_untrusted (inl h) (inl k) = h.1 ∙ sym k.1
  of_untrusted (inl h) (inr k) = absurd (k.0 h.0)
  of_untrusted (inr h) (inl k) = absurd (h.0 k.0)
  of_untrusted (inr h) (inr k) = of_sender (claims_domain a.domain (uri_in (codes "from") m)) h.1 k.1

  of_source : (trusted : Bool) → IsOfSource trusted a r m d → IsOfSource trusted a r m e → d ≡ e
  of_source true h k = h ∙ sym k
  of_source false h k = of_untrusted h k

  of_checked : (refusal : Option OwnStatus) → IsOfChecked refusal a r m d → IsOfChecked refusal a r m e → d ≡ e
  of_checked (Some status) h k = h ∙ sym k
  of_checked None h k = of_source r.trusted h k

  of_request : (registers : Bool) → IsOfRequest registers a r m d → IsOfRequest registers a r m e → d ≡ e
  of_request true h k = h ∙ sym k
  of_request false h k = of_checked r.refusal h k

  pub decided_once : IsDecision a r m d → IsDecision a r m e → d ≡ e
  decided_once h k = of_request (is_for_registrar a.domain m) h k
