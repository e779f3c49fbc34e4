-- Why a request is refused, by the tests in their order.
use Rattle.std.proofs.Common.{◌≡◌, ◌≤◌, ℕ, Bool, false, cond, List, [], ◌∷◌, suc, length, Option, Some, None, refl, sym, ap, ◌∙◌, arith}
use Rattle.std.specs.Prelude.{nat_lt, not}
use Rattle.std.specs.List.{list_any}
use Rattle.std.proofs.lemmas.Bool.Decides.{nat_tests}
use Rattle.bindings.specs.declared.refusal.RegisterRefusal.{RegisterRefusal}
use Rattle.bindings.specs.declared.refusal.RegisterRefusal.TheVariants.{Star, TooMany, Twice, TooBrief, OutOfOrder}
use Rattle.bindings.specs.declared.request.RegisterContact.{RegisterContact}
use Rattle.bindings.specs.declared.request.RegisterRequest.{RegisterRequest}
use Rattle.bindings.specs.Bindings.{Binding, most}
use Rattle.bindings.specs.Registering.{are_apart, is_brief, is_late, refusal, star_is_wrong}
use Rattle.bindings.specs.Seen.{all_asked_of, asked_of, register_of}
use Rattle.bindings.proofs.Steps.{any_mapped}

abbrev pub pick : (star many twice brief late : Bool) → Option RegisterRefusal
pick star many twice brief late =
    cond star (Some Star) (cond many (Some TooMany) (cond twice (Some Twice) (cond brief (Some TooBrief) (cond late (Some OutOfOrder) None))))

few : (n m : ℕ) → m ≡ n → n ≤ most → nat_lt most m ≡ false
few n m e h = grind (arith, nat_tests, e, h)

as_many : (contacts : List RegisterContact) → length (all_asked_of contacts) ≡ length contacts
as_many [] = refl
as_many (c ∷ contacts) = ap suc (as_many contacts)

-- the first three tests pass
pub picked : (r : RegisterRequest) (bindings : List Binding) (brief late : Bool) → star_is_wrong r.star (all_asked_of r.contacts.now) ≡ false → length r.contacts.now ≤ most
    → not (are_apart (all_asked_of r.contacts.now)) ≡ false → list_any (λ asked. is_brief r.least (asked_of asked)) r.contacts.now ≡ brief → is_late (register_of r) bindings ≡ late
    → pick false false false brief late ≡ refusal (register_of r) bindings
picked r bindings brief late star many twice is_brief_is is_late_is =
    let contacts = all_asked_of r.contacts.now in
    let all_brief = list_any (is_brief r.least) contacts in
    let is = is_late (register_of r) bindings in
    sym (
    ap (λ (v : Bool). pick v (nat_lt most (length contacts)) (not (are_apart contacts)) all_brief is) star
    ∙ ap (λ (v : Bool). pick false v (not (are_apart contacts)) all_brief is) (few (length r.contacts.now) (length contacts) (as_many r.contacts.now) many)
    ∙ ap (λ (v : Bool). pick false false v all_brief is) twice
    ∙ ap (λ (v : Bool). pick false false false v is) (any_mapped (is_brief r.least) asked_of r.contacts.now ∙ is_brief_is)
    ∙ ap (λ (v : Bool). pick false false false brief v) is_late_is
    )
