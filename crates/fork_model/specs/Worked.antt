-- Worked histories: a small fork each, every event with all that is answered to it, and how the rows stand at the
-- end (RFC 3261 sections 16.5 to 16.10).
use Rattle.std.specs.Prelude.{◌≡◌, ℕ, suc, true, false, List, [], ◌∷◌, map, Some, None}
use Rattle.fork_model.specs.Table.{Kind, Invite, Other, Offer, Challenge, Stored, Taken, Silent, Never, Accepted, State, Rung, Ended, Rules, Table, most_targets}
use Rattle.fork_model.specs.Event.{Event, Ring, Answer, Timeout, Fault, TimerC, GiveUp, Cancel}
use Rattle.fork_model.specs.Choice.{Best, Only503, NoAnswer408, status_sent}
use Rattle.fork_model.specs.Reply.{Up, Nothing, Provisional, Success, Final, Reply}
use Rattle.fork_model.specs.History.{Target, opening, after, AreReplies}
use Rattle.fork_model.specs.Challenges.{challenge_list}
use Rattle.fork_model.specs.Core.{Core, is_full}

-- an event, the rows that the request is sent to, those that a CANCEL is sent to, what goes up
pub record Line : Type 0 where
  pub event : Event
  pub started : List ℕ
  pub cancelled : List ℕ
  pub up : Up

-- a fork, the lines of its history, the states of its rows after them
pub record Script : Type 0 where
  pub kind : Kind
  pub rules : Rules
  pub targets : List Target
  pub lines : List Line
  pub states : List State

abbrev pub events_of : Script → List Event
events_of script = map (λ line. line.event) script.lines

abbrev pub replies_from : ℕ → List Line → List Reply
replies_from at [] = []
replies_from at (line ∷ lines) =
    record { at = at; started = line.started; cancelled = line.cancelled; up = line.up } ∷ replies_from (suc at) lines

abbrev pub opening_of : Script → Table
opening_of script = opening script.kind script.rules script.targets

abbrev pub end_of : Script → Table
end_of script = after (opening_of script) 0 (events_of script)

-- each event is answered as its line says, and the rows then stand as the script says
abbrev pub Goes : Script → Type 0
Goes script =
    AreReplies (opening_of script) 0 (events_of script) (replies_from 0 script.lines)
    × (map (λ row. row.state) (end_of script).rows ≡ script.states)

-- the statuses that a caller can act on go first, and contacts are tried to any depth
abbrev pub usual : Rules
usual = record { preferred = 401 ∷ 407 ∷ 415 ∷ 420 ∷ 484 ∷ []; depth = most_targets }

abbrev pub target : (q name : ℕ) → Target
target q name = record { key = name ∷ []; q = q }

abbrev pub contact : (q name : ℕ) → Offer
contact q name = record { text = name ∷ []; q = q; key = Some (name ∷ []) }

-- a contact that the proxy may not try, as a telephone number
abbrev pub foreign : (q name : ℕ) → Offer
foreign q name = record { text = name ∷ []; q = q; key = None }

abbrev pub answer : (n status : ℕ) → Event
answer n status = Answer n (record { status = status; offers = []; challenges = [] })

abbrev pub redirect : (n status : ℕ) → List Offer → Event
redirect n status offers = Answer n (record { status = status; offers = offers; challenges = [] })

abbrev pub challenge : (n status : ℕ) → List Challenge → Event
challenge n status challenges = Answer n (record { status = status; offers = []; challenges = challenges })

abbrev pub line : Event → List ℕ → List ℕ → Up → Line
line event started cancelled up = record { event = event; started = started; cancelled = cancelled; up = up }

abbrev pub assumed : (status arrival : ℕ) → State
assumed status arrival =
    Ended (Stored (record { status = status; arrival = arrival; received = false; left = []; challenges = [] }))

abbrev pub received : (status arrival : ℕ) → State
received status arrival =
    Ended (Stored (record { status = status; arrival = arrival; received = true; left = []; challenges = [] }))

abbrev pub received_with : (status arrival : ℕ) → List Offer → List Challenge → State
received_with status arrival left challenges =
    Ended (Stored (record { status = status; arrival = arrival; received = true; left = left; challenges = challenges }))

-- four branches fail, each in its own way: the 407, which the caller can act on, goes up rather than the 404, and
-- a 4xx rather than the 501 and the 503
abbrev pub preferred_status_first : Script
preferred_status_first = record {
  kind = Invite;
  rules = usual;
  targets = target 1000 1 ∷ target 1000 2 ∷ target 1000 3 ∷ target 1000 4 ∷ [];
  lines =
      line (answer 0 503) [] [] Nothing
      ∷ line (answer 1 407) [] [] Nothing
      ∷ line (answer 2 501) [] [] Nothing
      ∷ line (answer 3 404) [] [] (Final (Best 1))
      ∷ [];
  states = received 503 0 ∷ received 407 1 ∷ received 501 2 ∷ received 404 3 ∷ [];
}

-- where the operator prefers 404 and 486, a 407 that came first goes behind a 404
abbrev pub operators_preferred_first : Script
operators_preferred_first = record {
  kind = Invite;
  rules = record { preferred = 404 ∷ 486 ∷ []; depth = most_targets };
  targets = target 1000 1 ∷ target 1000 2 ∷ [];
  lines =
      line (answer 0 407) [] [] Nothing
      ∷ line (answer 1 404) [] [] (Final (Best 1))
      ∷ [];
  states = received 407 0 ∷ received 404 1 ∷ [];
}

-- of two answers that rank alike the earlier goes up, though its status is the greater
abbrev pub earliest_of_equals : Script
earliest_of_equals = record {
  kind = Invite;
  rules = usual;
  targets = target 1000 1 ∷ target 1000 2 ∷ [];
  lines =
      line (answer 0 486) [] [] Nothing
      ∷ line (answer 1 404) [] [] (Final (Best 0))
      ∷ [];
  states = received 486 0 ∷ received 404 1 ∷ [];
}

-- a 503 goes behind each other 5xx
abbrev pub unavailable_last : Script
unavailable_last = record {
  kind = Invite;
  rules = usual;
  targets = target 1000 1 ∷ target 1000 2 ∷ [];
  lines =
      line (answer 0 503) [] [] Nothing
      ∷ line (answer 1 501) [] [] (Final (Best 1))
      ∷ [];
  states = received 503 0 ∷ received 501 1 ∷ [];
}

-- where nothing but 503 is stored, a transport error counting as one, none of them goes up
abbrev pub unavailable_alone : Script
unavailable_alone = record {
  kind = Invite;
  rules = usual;
  targets = target 1000 1 ∷ target 1000 2 ∷ [];
  lines =
      line (Fault 0) [] [] Nothing
      ∷ line (answer 1 503) [] [] (Final (Only503 0))
      ∷ [];
  states = assumed 503 0 ∷ received 503 1 ∷ [];
}

-- but a 500
abbrev pub ServerErrorForUnavailable : Type 0
ServerErrorForUnavailable = status_sent (end_of unavailable_alone).rows (Only503 0) ≡ 500

abbrev pub realm_a : Challenge
realm_a = record { proxy = false; value = 97 ∷ [] }

abbrev pub realm_b : Challenge
realm_b = record { proxy = true; value = 98 ∷ [] }

-- a 401 of one branch and a 407 of another: the earlier goes up
abbrev pub asked_twice : Script
asked_twice = record {
  kind = Invite;
  rules = usual;
  targets = target 1000 1 ∷ target 1000 2 ∷ target 1000 3 ∷ [];
  lines =
      line (answer 0 486) [] [] Nothing
      ∷ line (challenge 1 401 (realm_a ∷ [])) [] [] Nothing
      ∷ line (challenge 2 407 (realm_b ∷ [])) [] [] (Final (Best 1))
      ∷ [];
  states = received 486 0 ∷ received_with 401 1 [] (realm_a ∷ []) ∷ received_with 407 2 [] (realm_b ∷ []) ∷ [];
}

-- with what the other challenges with
abbrev pub ChallengesOfOthersAdded : Type 0
ChallengesOfOthersAdded = challenge_list (end_of asked_twice).rows (Best 1) ≡ realm_b ∷ []

-- a 6xx cancels the branch that has rung, and goes up once that one has answered
abbrev pub decline_waits_for_branches : Script
decline_waits_for_branches = record {
  kind = Invite;
  rules = usual;
  targets = target 1000 1 ∷ target 1000 2 ∷ target 1000 3 ∷ [];
  lines =
      line (Ring 2 180) [] [] (Provisional 2)
      ∷ line (answer 0 401) [] [] Nothing
      ∷ line (answer 1 603) [] (2 ∷ []) Nothing
      ∷ line (answer 2 487) [] [] (Final (Best 1))
      ∷ [];
  states = received 401 1 ∷ received 603 2 ∷ received 487 3 ∷ [];
}

-- a 2xx that comes after a 6xx goes up, and nothing final does
abbrev pub success_after_decline : Script
success_after_decline = record {
  kind = Invite;
  rules = usual;
  targets = target 1000 1 ∷ target 1000 2 ∷ [];
  lines =
      line (Ring 1 180) [] [] (Provisional 1)
      ∷ line (answer 0 603) [] (1 ∷ []) Nothing
      ∷ line (answer 1 200) [] [] (Success 1)
      ∷ [];
  states = received 603 1 ∷ Ended (Accepted 2) ∷ [];
}

-- of an INVITE each 2xx goes up, a repeated one again
abbrev pub each_success_of_invite : Script
each_success_of_invite = record {
  kind = Invite;
  rules = usual;
  targets = target 1000 1 ∷ target 1000 2 ∷ [];
  lines =
      line (answer 0 200) [] [] (Success 0)
      ∷ line (answer 1 200) [] [] (Success 1)
      ∷ line (answer 1 200) [] [] (Success 1)
      ∷ [];
  states = Ended (Accepted 0) ∷ Ended (Accepted 1) ∷ [];
}

-- of another request the first 2xx alone goes up, and a CANCEL does nothing
abbrev pub first_success_of_other : Script
first_success_of_other = record {
  kind = Other;
  rules = usual;
  targets = target 1000 1 ∷ target 1000 2 ∷ [];
  lines =
      line Cancel [] [] Nothing
      ∷ line (answer 0 200) [] [] (Success 0)
      ∷ line (answer 1 200) [] [] Nothing
      ∷ [];
  states = Ended (Accepted 1) ∷ Ended (Accepted 2) ∷ [];
}

-- a 100 goes no further, each other provisional answer goes up, and none once a 2xx has
abbrev pub provisional_until_success : Script
provisional_until_success = record {
  kind = Invite;
  rules = usual;
  targets = target 1000 1 ∷ target 1000 2 ∷ [];
  lines =
      line (Ring 0 100) [] [] Nothing
      ∷ line (Ring 0 180) [] [] (Provisional 0)
      ∷ line (answer 1 200) [] (0 ∷ []) (Success 1)
      ∷ line (Ring 0 183) [] [] Nothing
      ∷ [];
  states = Rung true ∷ Ended (Accepted 2) ∷ [];
}

-- a branch that was cancelled and stays silent is given up, and with no answer at all the caller gets a 408
abbrev pub cancelled_and_silent : Script
cancelled_and_silent = record {
  kind = Invite;
  rules = usual;
  targets = target 1000 1 ∷ [];
  lines =
      line (Ring 0 180) [] [] (Provisional 0)
      ∷ line Cancel [] (0 ∷ []) Nothing
      ∷ line (GiveUp 0) [] [] (Final NoAnswer408)
      ∷ [];
  states = Ended (Silent 2) ∷ [];
}

-- a branch gets its CANCEL no sooner than it has rung
abbrev pub ring_after_cancel : Script
ring_after_cancel = record {
  kind = Invite;
  rules = usual;
  targets = target 1000 1 ∷ [];
  lines =
      line Cancel [] [] Nothing
      ∷ line (Ring 0 180) [] (0 ∷ []) (Provisional 0)
      ∷ line (answer 0 487) [] [] (Final (Best 0))
      ∷ [];
  states = received 487 2 ∷ [];
}

-- timer C ends a branch that never rang
abbrev pub timer_ends_silent_branch : Script
timer_ends_silent_branch = record {
  kind = Invite;
  rules = usual;
  targets = target 1000 1 ∷ [];
  lines = line (TimerC 0) [] [] (Final (Best 0)) ∷ [];
  states = assumed 408 0 ∷ [];
}

-- and cancels one that has, which is then waited for
abbrev pub timer_cancels_rung_branch : Script
timer_cancels_rung_branch = record {
  kind = Invite;
  rules = usual;
  targets = target 1000 1 ∷ [];
  lines =
      line (Ring 0 180) [] [] (Provisional 0)
      ∷ line (TimerC 0) [] (0 ∷ []) Nothing
      ∷ [];
  states = Rung true ∷ [];
}

-- a target of lower q is tried once those of higher q have failed
abbrev pub lower_q_waits : Script
lower_q_waits = record {
  kind = Invite;
  rules = usual;
  targets = target 500 2 ∷ target 1000 1 ∷ [];
  lines =
      line (answer 0 404) (1 ∷ []) [] Nothing
      ∷ line (Timeout 1) [] [] (Final (Best 0))
      ∷ [];
  states = received 404 0 ∷ assumed 408 1 ∷ [];
}

-- after a 6xx it never is
abbrev pub lower_q_never_tried : Script
lower_q_never_tried = record {
  kind = Invite;
  rules = usual;
  targets = target 1000 1 ∷ target 500 2 ∷ [];
  lines = line (answer 0 603) [] [] (Final (Best 0)) ∷ [];
  states = received 603 0 ∷ Ended Never ∷ [];
}

-- the contacts of a redirected branch are tried before the target of lower q
abbrev pub contacts_before_lower_q : Script
contacts_before_lower_q = record {
  kind = Invite;
  rules = usual;
  targets = target 1000 1 ∷ target 500 2 ∷ [];
  lines =
      line (redirect 0 302 (contact 1000 3 ∷ [])) (2 ∷ []) [] Nothing
      ∷ line (answer 2 404) (1 ∷ []) [] Nothing
      ∷ line (Timeout 1) [] [] (Final (Best 2))
      ∷ [];
  states = Ended (Taken 0) ∷ assumed 408 2 ∷ received 404 1 ∷ [];
}

-- each contact of a 302 becomes a target, and the 302 itself is spent
abbrev pub contacts_are_tried : Script
contacts_are_tried = record {
  kind = Invite;
  rules = usual;
  targets = target 1000 1 ∷ [];
  lines =
      line (redirect 0 302 (contact 1000 2 ∷ contact 1000 3 ∷ [])) (1 ∷ 2 ∷ []) [] Nothing
      ∷ line (answer 1 404) [] [] Nothing
      ∷ line (Timeout 2) [] [] (Final (Best 1))
      ∷ [];
  states = Ended (Taken 0) ∷ received 404 1 ∷ assumed 408 2 ∷ [];
}

-- where a contact cannot be tried the 302 stays, with that contact, and goes up before a 486
abbrev pub contact_left_to_caller : Script
contact_left_to_caller = record {
  kind = Invite;
  rules = usual;
  targets = target 1000 1 ∷ [];
  lines =
      line (redirect 0 302 (contact 1000 2 ∷ foreign 1000 3 ∷ [])) (1 ∷ []) [] Nothing
      ∷ line (answer 1 486) [] [] (Final (Best 0))
      ∷ [];
  states = received_with 302 0 (foreign 1000 3 ∷ []) [] ∷ received 486 1 ∷ [];
}

-- a contact that is a target already is not tried again
abbrev pub contact_known_already : Script
contact_known_already = record {
  kind = Invite;
  rules = usual;
  targets = target 1000 1 ∷ [];
  lines = line (redirect 0 302 (contact 1000 1 ∷ [])) [] [] (Final NoAnswer408) ∷ [];
  states = Ended (Taken 0) ∷ [];
}

-- a redirection that names no contact is stored as any other answer
abbrev pub redirection_without_contact : Script
redirection_without_contact = record {
  kind = Invite;
  rules = usual;
  targets = target 1000 1 ∷ [];
  lines = line (redirect 0 302 []) [] [] (Final (Best 0)) ∷ [];
  states = received 302 0 ∷ [];
}

-- with depth 0 no contact is tried
abbrev pub no_contact_at_depth_zero : Script
no_contact_at_depth_zero = record {
  kind = Invite;
  rules = record { preferred = []; depth = 0 };
  targets = target 1000 1 ∷ [];
  lines = line (redirect 0 302 (contact 1000 2 ∷ [])) [] [] (Final (Best 0)) ∷ [];
  states = received_with 302 0 (contact 1000 2 ∷ []) [] ∷ [];
}

-- with depth 1 those of the initial targets alone
abbrev pub one_step_at_depth_one : Script
one_step_at_depth_one = record {
  kind = Invite;
  rules = record { preferred = []; depth = 1 };
  targets = target 1000 1 ∷ [];
  lines =
      line (redirect 0 302 (contact 1000 2 ∷ [])) (1 ∷ []) [] Nothing
      ∷ line (redirect 1 302 (contact 1000 3 ∷ [])) [] [] (Final (Best 1))
      ∷ [];
  states = Ended (Taken 0) ∷ received_with 302 1 (contact 1000 3 ∷ []) [] ∷ [];
}

-- an event that fits no case changes nothing, and those after it stand one place further
abbrev pub strays_take_positions : Script
strays_take_positions = record {
  kind = Invite;
  rules = usual;
  targets = target 1000 1 ∷ target 500 2 ∷ [];
  lines =
      line (answer 1 404) [] [] Nothing
      ∷ line (GiveUp 0) [] [] Nothing
      ∷ line (answer 9 404) [] [] Nothing
      ∷ line (answer 0 404) (1 ∷ []) [] Nothing
      ∷ line (answer 0 486) [] [] Nothing
      ∷ line (answer 1 486) [] [] (Final (Best 0))
      ∷ [];
  states = received 404 3 ∷ received 486 5 ∷ [];
}

-- one branch that has rung, after so many events
abbrev pub rung_after : (taken : ℕ) → Core
rung_after taken = record { table = after (opening Invite usual (target 1000 1 ∷ [])) 0 (Ring 0 180 ∷ []); taken = taken }

-- the 4,097th event may still change the table, but is refused where it would not
abbrev pub FullForStrays : Type 0
FullForStrays =
    (is_full (rung_after 4095) (Ring 0 180) ≡ false)
    × (is_full (rung_after 4096) (Ring 0 180) ≡ true)
    × (is_full (rung_after 4096) (answer 0 404) ≡ false)
