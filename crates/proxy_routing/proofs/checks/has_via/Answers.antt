use Rattle.proxy_routing.proofs.Common.{◌∙◌, List, ℕ, ap, top_value}
use Rattle.std.specs.Option.{option_map}
use Rattle.sip_via.specs.Sender.{seen_sender, sender_if_read}
use Rattle.sip_via.specs.ViaParts.{read_via}
use Rattle.proxy_routing.proofs.Cookies.{cookie_none, cookie_some}
use Rattle.proxy_routing.proofs.checks.has_via.Goals as goal

pub returns-in-None : goal.returns-in-None
returns-in-None g c =
    cookie_none (read_via (top_value c.args.message.now)) (option_map seen_sender c.sender_of.result)
    (c.sender_of.ensures.exact ∙ ap (λ (value : List ℕ). sender_if_read (read_via value)) c.top_via.ensures) (ap (option_map seen_sender) c.in-None.is)

pub returns-in-Some : goal.returns-in-Some
returns-in-Some g c =
    c.begins_with_cookie.ensures
    ∙ cookie_some (read_via (top_value c.args.message.now)) (option_map seen_sender c.sender_of.result) (seen_sender c.in-Some.sender)
    (c.sender_of.ensures.exact ∙ ap (λ (value : List ℕ). sender_if_read (read_via value)) c.top_via.ensures) (ap (option_map seen_sender) c.in-Some.is)
