-- What a verdict on credentials says.
use Rattle.std.proofs.Common.{◌≡◌, Option, subst, sym}
use Rattle.sip_digest.specs.declared.secrets.Secrets.{Secrets}
use Rattle.sip_digest.specs.declared.verdict.JudgedRequest.{JudgedRequest}
use Rattle.sip_digest.specs.Credentials.{Credentials}
use Rattle.sip_digest.specs.Right as digest
use Rattle.authentication.specs.Realm.{Realm}
use Rattle.authentication.specs.Standing.{AreRight, asked_as}

pub are_right : (realm : Realm) (asked : JudgedRequest) (c : Credentials) (secrets : Option Secrets) → secrets ≡ realm.secrets c.username
    → digest.AreRight realm.secret realm.algorithms secrets asked c → AreRight realm (asked_as asked) c
are_right realm asked c secrets e h =
    record { nonce = h.nonce; uri = h.uri; answered = subst (λ (s : Option Secrets). digest.IsAnswered realm.algorithms s asked.method.now c) e h.answered }

pub were_right : (realm : Realm) (asked : JudgedRequest) (c : Credentials) (secrets : Option Secrets) → secrets ≡ realm.secrets c.username
    → AreRight realm (asked_as asked) c → digest.AreRight realm.secret realm.algorithms secrets asked c
were_right realm asked c secrets e h =
    record { nonce = h.nonce; uri = h.uri; answered = subst (λ (s : Option Secrets). digest.IsAnswered realm.algorithms s asked.method.now c) (sym e) h.answered }
