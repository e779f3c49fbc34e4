-- A request that is written for a target.
use Rattle.std.specs.Prelude.{ℕ, List, ◌∷◌, codes}
use Rattle.sip_text.specs.Text.{MessageText, Request}
use Rattle.sip_uri.specs.Uri.{Uri, request_uri}
use Rattle.sip_branch.specs.declared.branch.BranchName.{BranchName}
use Rattle.sip_via.specs.declared.own.Own.{Own}
use Rattle.sip_via.specs.Edits.{line}
use Rattle.sip_via.specs.OwnVia.{own_via}
use Rattle.sip_build.specs.declared.runs.HeaderRun.{HeaderRun}
use Rattle.sip_build.specs.inner.HeaderRuns.{all_lines}

-- of that method, with the target's URI, the proxy's own Via line with that branch before the header lines, and a body
abbrev pub request_to : {A : Type 0} → List ℕ → Uri → Own → BranchName → List (HeaderRun A) → List ℕ → MessageText
request_to method target own branch runs body = record {
  start = Request method (request_uri target);
  headers = line (codes "Via") (own_via own branch) ∷ all_lines runs;
  body = body;
}
