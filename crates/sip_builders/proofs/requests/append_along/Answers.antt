use Rattle.sip_builders.proofs.Common.{[], ◌++◌, codes, flat_map, Request, along}
use Rattle.sip_lex.specs.Line.{ended}
use Rattle.sip_text.specs.Text.{header_text, start_line}
use Rattle.sip_build.proofs.Grown.{on_ok}
use Rattle.sip_build.proofs.Pieces.{three}
use Rattle.sip_builders.proofs.requests.append_along.Goals as goal

pub returns : goal.returns
returns g c =
    let headers = flat_map header_text (along c.args.method.now c.args.sent.now c.args.to.now []).headers in
    on_ok c.append_pieces.result (λ end.
    three c.args.out.now.items _ _ _ _ _ _ _ c.in_ok-append_request_line.ensures.ok c.in_ok-append_headers_along.ensures end
    (λ i. ended (start_line (Request c.args.method.now (c.request_uri.ensures i))) ++ (headers ++ codes "\r\n")))
    c.append_pieces.ensures.ok
