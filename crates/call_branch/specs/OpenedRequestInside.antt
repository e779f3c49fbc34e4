-- What a call keeps of its request beside it, and what holds of it.
use Rattle.std.specs.Prelude.{◌≡◌, ℕ, true, IsTrue, List, IfSome, option_map}
use Rattle.sip_text.specs.Message.{is_value}
use Rattle.sip_text.specs.Name.{first_value}
use Rattle.sip_build.specs.Forwarding.{is_request}
use Rattle.sip_route.specs.Hops.{IsHops, hops_name}
use Rattle.sip_route.specs.Loop.{loop_key}
use Rattle.call_model.specs.OpenedRequest.{OpenedRequest, is_invite}
use Rattle.call_branch.specs.declared.opened.Opening.{Opening}
use Rattle.std.specs.Prelude.{Bool}

-- what a call is opened with, by all its parts in memory
abbrev pub opened_with : {A : Type 0} → Opening A → OpenedRequest
opened_with o = record {
  number = o.number;
  own = o.own;
  instance = o.instance;
  request = o.request;
  caller = o.caller;
  route = o.route;
  tried = o.tried;
  record_route = option_map (λ v. v.items) o.record_route;
  stream_record_route = option_map (λ v. v.items) o.stream_record_route;
  stamps = o.stamps;
  reasons = o.reasons;
  ring = o.ring;
  large = o.large;
}

-- it can be forwarded, and its key and its kind are known
pub record IsOpenedRequest (opened : OpenedRequest) (key : List ℕ) (invite : Bool) : Type 0 where
  pub request : is_request opened.request.start ≡ true
  pub hops : IfSome (first_value hops_name opened.request.headers) IsHops
  pub record_route : IfSome opened.record_route (λ value. IsTrue (is_value value))
  pub stream_record_route : IfSome opened.stream_record_route (λ value. IsTrue (is_value value))
  pub key_is : key ≡ loop_key opened.request
  pub invite_is : invite ≡ is_invite opened
