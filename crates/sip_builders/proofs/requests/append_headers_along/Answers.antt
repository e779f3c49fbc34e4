use Rattle.sip_builders.proofs.Common.{◌∙◌, ◌++◌, ◌∷◌, [], List, ℕ, ap, sym, codes, flat_map, line, lines_as, or_empty}
use Rattle.sip_text.specs.Text.{header_text}
use Rattle.sip_route.specs.Loop.{cseq_number}
use Rattle.sip_build.proofs.Grown.{on_ok}
use Rattle.sip_builders.proofs.WrittenTexts.{eight, lines_text}
use Rattle.sip_builders.proofs.requests.append_headers_along.Goals as goal

pub returns : goal.returns
returns g c =
    let sent = c.args.sent.now in
    let seventy = line (codes "Max-Forwards") (codes "70") in
    let routes = lines_as (codes "Route") (codes "route") sent in
    let to = line (codes "To") c.args.to.now in
    let spoken = line (codes "CSeq") (cseq_number sent ++ 32 ∷ c.args.method.now) in
    let none = line (codes "Content-Length") (codes "0") in
    let call = sym (ap or_empty c.call_id.ensures) in
    on_ok c.append_line-6.result (λ end.
    eight c.args.out.now.items _ _ _ _ _ _ _ _ _ _ _ _ _ _ _ _ c.in_ok-append_line.ensures c.in_ok-append_line-2.ensures c.in_ok-append_routes.ensures c.in_ok-append_line-3.ensures c.in_ok-append_line-4.ensures c.in_ok-append_line-5.ensures c.in_ok-append_cseq.ensures end
    ∙ ap (λ (x : List ℕ). c.args.out.now.items ++ x) (lines_text (line (codes "Via") c.top_via.result.now) seventy (line (codes "From") c.first_value.result.now) to (line (codes "Call-ID") c.call_id.result.now) spoken none routes ∙ (λ i. flat_map header_text (line (codes "Via") (c.top_via.ensures i) ∷ seventy ∷ (routes ++ line (codes "From") (c.first_value.ensures i) ∷ to ∷ line (codes "Call-ID") (call i) ∷ spoken ∷ none ∷ [])))))
    c.append_line-6.ensures
