use Rattle.call_state.proofs.Common.{◌≡◌, refl, List, [], ℕ, map, Option, Log, table_of, OpenedRequest, Destination, kind_of, Branch, no_branch, Owed, ServerTransaction, first_owed, served_start, NotClosed, reliability_of}
use Rattle.call_model.specs.Begun.{begun}

pub begun_is : (opened : OpenedRequest) (log : Log) (destinations : List Destination) (branches : List (Option Branch)) (served : ServerTransaction) (owed : List Owed) (last : List ℕ)
    → branches ≡ map no_branch (table_of log).rows
    → served ≡ served_start (kind_of opened) (reliability_of opened.caller.transport)
    → owed ≡ first_owed (kind_of opened)
    → last ≡ []
    → record { opened = opened; log = log; closing = NotClosed; destinations = destinations; branches = branches; server = record { machine = served; owed = owed; last = last } } ≡ begun opened log destinations
begun_is opened log destinations branches served owed last branches_are served_is owed_are last_is = rw (branches_are, served_is, owed_are, last_is) refl
