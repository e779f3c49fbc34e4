-- Which REGISTER requests change the bindings of a user, and why the others do not (RFC 3261 section 10.3 steps 6 to 8).
use Rattle.std.specs.Prelude.{◌≡◌, ℕ, Bool, true, false, ◌&&◌, not, nat_lt, nat_le, List, [], ◌∷◌, find, length, Option, Some, None, Result, Ok, Err, is_some, ◌==◌, if◌then◌else◌}
use Rattle.std.specs.List.{list_any}
use Rattle.std.specs.Str.{bytes_eq}
use Rattle.bindings.specs.declared.refusal.RegisterRefusal.{RegisterRefusal}
use Rattle.bindings.specs.declared.refusal.RegisterRefusal.TheVariants.{Star, TooMany, Twice, TooBrief, OutOfOrder, NoMemory}
use Rattle.bindings.specs.Bindings.{Asked, Binding, Register, RequestId, changed, is_by, is_there, most, names, same_binding, there}

-- it is there, and the request made it: the request comes again
abbrev pub has_made : RequestId → ℕ → Binding → Bool
has_made id moment binding = is_there moment binding && is_by id binding

abbrev pub is_repeat : Register → List Binding → Bool
is_repeat r bindings = list_any (has_made r.id r.at) bindings

abbrev pub is_empty : List Asked → Bool
is_empty [] = true
is_empty (asked ∷ contacts) = false

-- `*` stands alone, with an Expires of 0 (section 10.2.2)
abbrev pub star_is_wrong : Option ℕ → List Asked → Bool
star_is_wrong None contacts = false
star_is_wrong (Some time) contacts = not (time == 0 && is_empty contacts)

abbrev pub asks_the_same : Asked → Asked → Bool
asks_the_same a b = same_binding a.contact b.contact

-- no two of them name the same binding
abbrev pub are_apart : List Asked → Bool
are_apart [] = true
are_apart (asked ∷ contacts) = not (list_any (asks_the_same asked) contacts) && are_apart contacts

abbrev pub is_brief : ℕ → Asked → Bool
is_brief least asked = not (asked.time == 0) && nat_lt asked.time least

-- a request of the same Call-ID made it, with the same CSeq number or a higher one
abbrev pub is_as_new : RequestId → Binding → Bool
is_as_new id binding = bytes_eq binding.by.call_id id.call_id && nat_le id.cseq binding.by.cseq

abbrev pub is_as_new_if_any : RequestId → Option Binding → Bool
is_as_new_if_any id None = false
is_as_new_if_any id (Some binding) = is_as_new id binding

-- the first binding that it names is as new as the request
abbrev pub comes_late : RequestId → List Binding → Asked → Bool
comes_late id bindings asked = is_as_new_if_any id (find (names asked.contact) bindings)

abbrev pub is_late : Register → List Binding → Bool
is_late r bindings = if is_some r.star then list_any (is_as_new r.id) bindings else list_any (comes_late r.id bindings) r.contacts

-- why a request changes nothing, where these are there
abbrev pub refusal : Register → List Binding → Option RegisterRefusal
refusal r bindings =
    if star_is_wrong r.star r.contacts then Some Star
    else (if nat_lt most (length r.contacts) then Some TooMany
    else (if not (are_apart r.contacts) then Some Twice
    else (if list_any (is_brief r.least) r.contacts then Some TooBrief
    else (if is_late r bindings then Some OutOfOrder
    else None))))

abbrev pub unless : Option RegisterRefusal → List Binding → Result (List Binding) RegisterRefusal
unless None bindings = Ok bindings
unless (Some why) bindings = Err why

-- what a request makes of the bindings: nothing where it comes again, and else of those that are there, all that it asks for or nothing
abbrev pub registered : Register → List Binding → Result (List Binding) RegisterRefusal
registered r bindings =
    if is_repeat r bindings then Ok bindings else unless (refusal r (there r.at bindings)) (changed r (there r.at bindings))

-- a call that registers: where memory is refused, nothing else refuses
abbrev pub Registers : Register → List Binding → List Binding → Result (Unit {0}) RegisterRefusal → Type 0
Registers r old new (Ok _) = registered r old ≡ Ok new
Registers r old new (Err NoMemory) = (registered r old ≡ Ok (changed r (there r.at old))) × (new ≡ old)
Registers r old new (Err why) = (registered r old ≡ Err why) × (new ≡ old)

-- a call that says what registering would make of the bindings: nothing where the request comes again
abbrev pub Prepares : Register → List Binding → Result (Option (List Binding)) RegisterRefusal → Type 0
Prepares r old (Ok None) = is_repeat r old ≡ true
Prepares r old (Ok (Some new)) = (is_repeat r old ≡ false) × (refusal r (there r.at old) ≡ None) × (new ≡ changed r (there r.at old))
Prepares r old (Err NoMemory) = (is_repeat r old ≡ false) × (refusal r (there r.at old) ≡ None)
Prepares r old (Err why) = (is_repeat r old ≡ false) × (refusal r (there r.at old) ≡ Some why)
