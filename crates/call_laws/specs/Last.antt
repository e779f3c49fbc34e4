-- What is sent to the caller again was sent before (RFC 3261 section 17.2).
use Rattle.std.specs.Prelude.{◌≡◌, Bool, true, false, List, [], ◌∷◌}
use Rattle.std.specs.List.{AllByRecursion}
use Rattle.sip_txn.specs.declared.invite_server.InviteServerState.TheVariants as invite
use Rattle.sip_txn.specs.declared.other_server.OtherServerState.TheVariants as other
use Rattle.call_model.specs.Call.{Call}
use Rattle.call_model.specs.Server.{Owed, Trying, Passed, Final, Again, CancelOk, ServerTransaction, InviteServer, OtherServer}

abbrev pub is_again : Owed → Bool
is_again Trying = false
is_again (Passed response) = false
is_again (Final choice) = false
is_again Again = true
is_again (CancelOk cancel to) = false

-- the transaction and what is owed before anything was sent to the caller: the 100 to an INVITE is owed first; of an answer to
-- another request nothing is owed again
abbrev pub IsUnsent : ServerTransaction → List Owed → Type 0
IsUnsent (InviteServer m) owed = (m.state ≡ invite.Proceeding) × (rest : List Owed) × (owed ≡ Trying ∷ rest)
IsUnsent (OtherServer m) owed = (m.state ≡ other.Trying) × AllByRecursion (λ (o : Owed). is_again o ≡ false) owed

-- so the answer that was sent last is there as soon as one may be sent again
abbrev pub KeepsLast : Call → Type 0
KeepsLast call = call.server.last ≡ [] → IsUnsent call.server.machine call.server.owed
