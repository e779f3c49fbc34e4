-- Answers that a server makes of its own: a status, and the header lines beside those that each answer has (RFC 3261 section 8.2.6).
use Rattle.std.specs.Prelude.{ℕ, Bool, true, false, List, [], ◌∷◌, ◌++◌, Option, Some, None}
use Rattle.sip_text.specs.Text.{HeaderText}
use Rattle.sip_build.specs.declared.responses.OwnStatus.{OwnStatus}
use Rattle.sip_build.specs.declared.responses.OwnStatus.TheVariants.{BadRequest, Forbidden}
use Rattle.sip_digest.specs.Stamp.{nonce_text}
use Rattle.authentication.specs.declared.challenge.Challenger.{Challenger}
use Rattle.authentication.specs.Challenge.{challenge_lines, status_of}
use Rattle.authentication.specs.Realm.{Realm}
use Rattle.authentication.specs.Standing.{Arrival, Standing, Unasked, Anonymous, Unusable, Stale, Wrong, Right}

pub record Answer : Type 0 where
  pub status : OwnStatus
  pub lines : List HeaderText

abbrev pub plain : OwnStatus → Answer
plain status = record { status = status; lines = [] }

abbrev pub with_line : Answer → HeaderText → Answer
with_line answer header = record { status = answer.status; lines = answer.lines ++ header ∷ [] }

-- a challenge by each algorithm of the realm, with a nonce for the address that the request came from
abbrev pub challenged : Challenger → Realm → (address : List ℕ) → (second : ℕ) → (stale : Bool) → Answer
challenged challenger realm address second stale = record {
  status = status_of challenger;
  lines = challenge_lines challenger realm.name (nonce_text realm.secret address second) stale realm.algorithms;
}

abbrev pub turned_by : Challenger → Realm → (address : List ℕ) → (second : ℕ) → Standing → Answer
turned_by challenger realm address second Unasked = challenged challenger realm address second false
turned_by challenger realm address second Anonymous = challenged challenger realm address second false
turned_by challenger realm address second Unusable = plain BadRequest
turned_by challenger realm address second Stale = challenged challenger realm address second true
turned_by challenger realm address second (Wrong name) = challenged challenger realm address second false
turned_by challenger realm address second (Right name) = plain Forbidden

-- what the sender of a request gets whose credentials do not do; without a realm nobody has a password
abbrev pub turned_away : Challenger → Option Realm → (address : List ℕ) → (second : ℕ) → Standing → Answer
turned_away challenger None address second standing = plain Forbidden
turned_away challenger (Some realm) address second standing = turned_by challenger realm address second standing
