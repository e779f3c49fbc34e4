-- A request as it goes to a target (RFC 3261 section 16.6).
use Rattle.std.specs.Prelude.{ℕ, ◌-◌, Bool, true, false, List, ◌∷◌, ◌++◌, Option, Some, None, codes}
use Rattle.std.specs.Fmt.{decimal}
use Rattle.sip_lex.specs.Number.{number}
use Rattle.sip_text.specs.Name.{first_value}
use Rattle.sip_text.specs.Text.{HeaderText, MessageText, Request, Response, StartText}
use Rattle.sip_uri.specs.Uri.{Uri, request_uri}
use Rattle.sip_route.specs.Hops.{hops_name}
use Rattle.sip_via.specs.declared.own.Own.{Own}
use Rattle.sip_branch.specs.declared.branch.BranchName.{BranchName}
use Rattle.sip_via.specs.Edits.{line, line_if_any, replaced}
use Rattle.sip_via.specs.OwnVia.{own_via}

-- one hop fewer, or seventy
abbrev pub hops_lowered : List HeaderText → Option (List ℕ) → List HeaderText
hops_lowered hs None = line (codes "Max-Forwards") (codes "70") ∷ hs
hops_lowered hs (Some value) = replaced hops_name (Some (decimal (number value - 1))) hs

abbrev pub to_target : StartText → Uri → StartText
to_target (Request method uri) target = Request method (request_uri target)
to_target (Response status reason) target = Response status reason

abbrev pub is_request : StartText → Bool
is_request (Request method uri) = true
is_request (Response status reason) = false

-- a Record-Route line of that value, where the proxy stays on the path (section 20.30)
abbrev pub record_route_lines : Option (List ℕ) → List HeaderText
record_route_lines value = line_if_any (codes "Record-Route") value

-- the target's URI, the proxy's own Via first, a Record-Route line behind it where one is asked for (step 4), and one hop fewer
abbrev pub forwarded : MessageText → Uri → Own → BranchName → (recorded : Option (List ℕ)) → MessageText
forwarded m target own branch recorded = record {
  start = to_target m.start target;
  headers =
      line (codes "Via") (own_via own branch)
      ∷ (record_route_lines recorded
      ++ hops_lowered m.headers (first_value hops_name m.headers));
  body = m.body;
}
