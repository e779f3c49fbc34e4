-- What an operator is told of bindings, and of requests that were refused: words with one space between them.
use Rattle.std.specs.Prelude.{ℕ, ◌-◌, List, [], ◌∷◌, ◌++◌, codes, Option, Some, None}
use Rattle.std.specs.Fmt.{decimal}
use Rattle.bindings.specs.Bindings.{Binding, Contact}
use Rattle.call_journal.specs.Head.{shown}
use Rattle.service_users.specs.declared.last_refused.Refused.{Refused}
use Rattle.sip_uri.specs.declared.hop.Hop.{Hop}
use Rattle.sip_via.specs.Address.{address_text}

abbrev pub place_text : Hop → List ℕ
place_text hop = address_text hop.addr ++ (58 ∷ decimal hop.port)

-- the URI of a contact, its q in thousandths, and where a request to it goes
abbrev pub contact_text : Contact → List ℕ
contact_text c = c.uri ++ (codes " q " ++ (decimal c.q ++ (codes " at " ++ place_text c.hop)))

-- a binding of a user, and for how many milliseconds it is there from this moment on
abbrev pub binding_line : List ℕ → ℕ → Binding → List ℕ
binding_line user moment b = codes "user " ++ (user ++ (32 ∷ (contact_text b.contact ++ (codes " left " ++ (decimal (b.ends - moment) ++ (10 ∷ []))))))

-- where a request came from, and what it asked for
abbrev pub asked_text : Refused → List ℕ
asked_text r = place_text r.source ++ (32 ∷ (shown r.method.now ++ (32 ∷ shown r.uri.now)))

abbrev pub answered_text : Option ℕ → List ℕ
answered_text (Some status) = decimal status
answered_text None = 45 ∷ []

abbrev pub refused_text : Refused → List ℕ
refused_text r = asked_text r ++ (32 ∷ (answered_text r.status ++ (32 ∷ r.why.now)))
