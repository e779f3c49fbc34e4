-- A call before anything was sent or answered (RFC 3261 sections 16.2 and 17.2.1).
use Rattle.std.specs.Prelude.{List, map}
use Rattle.fork_model.specs.Log.{Log, table_of}
use Rattle.call_model.specs.Closing.{NotClosed}
use Rattle.call_model.specs.OpenedRequest.{OpenedRequest, Destination, kind_of}
use Rattle.call_model.specs.Reliability.{reliability_of}
use Rattle.call_model.specs.Server.{server_start}
use Rattle.call_model.specs.Call.{Call}
use Rattle.call_model.specs.Posting.{no_branch}

-- no request was sent yet; a 100 is owed to an INVITE
abbrev pub begun : OpenedRequest → Log → List Destination → Call
begun opened log destinations = record {
  opened = opened;
  log = log;
  closing = NotClosed;
  destinations = destinations;
  branches = map no_branch (table_of log).rows;
  server = server_start (kind_of opened) (reliability_of opened.caller.transport);
}
