use Rattle.sip_via.proofs.Common.{◌≡◌, ℕ, ◌<◌, ◌≤◌, List, length, codes, ap, sym, subst, arith, IsMessage, HeaderText, MessageText, place_of, with_value_at, with_via_line}
use Rattle.sip_via.specs.Edits.{with_headers}
use Rattle.sip_via.proofs.laws.Places.{replaced-nowhere, set-replaced}
use Rattle.sip_via.proofs.received.with_via_line.Goals as goal

-- the line is put where it stands
put : (m : MessageText) (v : List ℕ) (hs : List HeaderText) (n : ℕ) → hs ≡ m.headers → n ≡ place_of (codes "via") hs → n < length hs → with_value_at n v m ≡ with_via_line m v
put m v hs n is at lt = grind (arith, set-replaced)

-- or nowhere
none : (m : MessageText) (v : List ℕ) (hs : List HeaderText) (n : ℕ) → hs ≡ m.headers → n ≡ place_of (codes "via") hs → length hs ≤ n → m ≡ with_via_line m v
none m v hs n is at le = grind (arith, replaced-nowhere)

pub set_value-requires-clause-message : goal.set_value-requires-clause-message
set_value-requires-clause-message g c = grind (arith, put)

pub returns-then-place-len-clause-ok : goal.returns-then-place-len-clause-ok
returns-then-place-len-clause-ok g c = grind (arith, none)

pub returns-in-Ok-clause-ok : goal.returns-in-Ok-clause-ok
returns-in-Ok-clause-ok g c = grind (arith, put)
