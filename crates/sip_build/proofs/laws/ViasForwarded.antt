-- The Via values of a request that was forwarded, and what an ACK or a CANCEL takes of it.
use Rattle.sip_build.proofs.Common.{◌≡◌, ℕ, ◌<◌, ◌^◌, true, List, [], ◌∷◌, ◌++◌, Option, refl, ap, ◌∙◌, codes, decimal, list_all, and_parts, list_all-append, trim_end, trim_start, trim_end-reverse, is_value, first_of, first_value, HeaderText}
use Rattle.sip_build.proofs.Common.{MessageText, StartText, and_both, Uri, Own, BranchName, line, own_via, values_in, via_values, or_empty, SameOthers, values-replaced, all_pass, is-not, hops_name, forwarded, hops_lowered, record_route_lines, is_request, to_target, along, along_to}
use Rattle.sip_build.proofs.Common.{common_steps, arith}
use Rattle.std.proofs.lemmas.List.{reverse-reverse}
use Rattle.sip_lex.specs.Bytes.{is_token_byte}
use Rattle.sip_text.specs.Name.{full_name, values_of}
use Rattle.sip_uri.specs.Uri as uri
use Rattle.sip_branch.specs.BranchText.{IsBranch}
use Rattle.sip_via.specs.OwnVia.{IsOwn}
use Rattle.sip_via.proofs.laws.OwnVia.{own_via-good}
use Rattle.sip_branch.proofs.laws.Tokens.{branch_token, dotted}
use Rattle.sip_via.proofs.laws.PlainVia.{no-front}
use Rattle.sip_route.specs.Loop.{request_uri}
use Rattle.sip_build.proofs.laws.ForwardedOthers.{hops-others, recorded-others, recorded-routes, recorded-vias, via-others}
use Rattle.sip_build.proofs.laws.ViaPieces.{no_mark-class, is_no_mark, one-piece}

abbrev Values : Type 0
Values = List (List ℕ)

-- ---- the own Via value is one value

token-no_mark : (bs : List ℕ) → list_all is_token_byte bs ≡ true → list_all is_no_mark bs ≡ true
token-no_mark bs h = all_pass is_token_byte is_no_mark bs (no_mark-class is_token_byte refl refl) h

both-no_mark : (xs ys : List ℕ) → list_all is_no_mark xs ≡ true → list_all is_no_mark ys ≡ true → list_all is_no_mark (xs ++ ys) ≡ true
both-no_mark xs ys h k = list_all-append is_no_mark xs ys ∙ and_both (list_all is_no_mark xs) (list_all is_no_mark ys) h k

dotted-no_mark : (n : ℕ) → n < 2 ^ 64 → list_all is_no_mark (46 ∷ decimal n) ≡ true
dotted-no_mark n small = token-no_mark (46 ∷ decimal n) (dotted n small)

number-no_mark : (n : ℕ) → n < 2 ^ 64 → list_all is_no_mark (decimal n) ≡ true
number-no_mark n small = (and_parts (is_no_mark 46) (list_all is_no_mark (decimal n)) (dotted-no_mark n small)).1

own-no_mark : (proxy : Own) (b : BranchName) → IsOwn proxy → IsBranch b → list_all is_no_mark (own_via proxy b) ≡ true
own-no_mark proxy b is named = grind (arith, common_steps, both-no_mark, token-no_mark, branch_token, number-no_mark)

pub own-trimmed : (proxy : Own) (b : BranchName) → is_value (own_via proxy b) ≡ true → trim_end (trim_start (own_via proxy b)) ≡ own_via proxy b
own-trimmed proxy b h = grind (arith, common_steps, and_parts, no-front, is-not, trim_end-reverse, reverse-reverse)

own-value : (proxy : Own) (b : BranchName) → IsOwn proxy → IsBranch b → values_in (own_via proxy b) ≡ own_via proxy b ∷ []
own-value proxy b is named = grind (arith, common_steps, one-piece (own_via proxy b) (own-no_mark proxy b is named), own-trimmed proxy b (own_via-good proxy b is (branch_token b named)), own-no_mark, own_via-good, branch_token)

-- ---- and the first

vias-lowered : (hs : List HeaderText) (o : Option (List ℕ)) → values_of (codes "via") (hops_lowered hs o) ≡ values_of (codes "via") hs
unfolding full_name values_of
vias-lowered hs o = grind (arith, values-replaced)

via-line : (v : List ℕ) (hs : List HeaderText) → values_of (codes "via") (line (codes "Via") v ∷ hs) ≡ v ∷ values_of (codes "via") hs
unfolding full_name values_of
via-line v hs = refl

pub vias-forwarded : (m : MessageText) (target : Uri) (proxy : Own) (b : BranchName) (recorded : Option (List ℕ)) → IsOwn proxy → IsBranch b → via_values (forwarded m target proxy b recorded) ≡ own_via proxy b ∷ via_values m
vias-forwarded m target proxy b recorded is named = grind (arith, via-line, recorded-vias, vias-lowered, own-value)

-- ---- the rest

routes-lowered : (hs : List HeaderText) (o : Option (List ℕ)) → values_of (codes "route") (hops_lowered hs o) ≡ values_of (codes "route") hs
unfolding full_name values_of
routes-lowered hs o = grind (arith, values-replaced)

via-route : (v : List ℕ) (hs : List HeaderText) → values_of (codes "route") (line (codes "Via") v ∷ hs) ≡ values_of (codes "route") hs
unfolding full_name values_of
via-route v hs = refl

routes-forwarded : (v : List ℕ) (hs : List HeaderText) (o recorded : Option (List ℕ)) → values_of (codes "route") (line (codes "Via") v ∷ (record_route_lines recorded ++ hops_lowered hs o)) ≡ values_of (codes "route") hs
routes-forwarded v hs o recorded = via-route v (record_route_lines recorded ++ hops_lowered hs o) ∙ recorded-routes recorded (hops_lowered hs o) ∙ routes-lowered hs o

-- the lines that an ACK and a CANCEL take values of
others-forwarded : (v : List ℕ) (hs : List HeaderText) (o recorded : Option (List ℕ)) → SameOthers (line (codes "Via") v ∷ (record_route_lines recorded ++ hops_lowered hs o)) hs
others-forwarded v hs o recorded = via-others v (record_route_lines recorded ++ hops_lowered hs o) hs (recorded-others recorded (hops_lowered hs o) hs (hops-others hs o))

uri-target : (s : StartText) (target : Uri) → is_request s ≡ true → request_uri (to_target s target) ≡ uri.request_uri target
uri-target s target h = grind arith

pub along-forwarded : (method : List ℕ) (m : MessageText) (target : Uri) (proxy : Own) (b : BranchName) (recorded : Option (List ℕ)) (to : List ℕ) (more : List HeaderText) → is_request m.start ≡ true → IsOwn proxy → IsBranch b → along method (forwarded m target proxy b recorded) to more ≡ along_to method m target proxy b to more
along-forwarded method m target proxy b recorded to more request is named = grind (arith, common_steps, vias-forwarded m target proxy b recorded is named, others-forwarded, uri-target, routes-forwarded)

pub to-forwarded : (m : MessageText) (target : Uri) (proxy : Own) (b : BranchName) (recorded : Option (List ℕ)) → or_empty (first_of (values_of (codes "to") (forwarded m target proxy b recorded).headers)) ≡ or_empty (first_of (values_of (codes "to") m.headers))
to-forwarded m target proxy b recorded = ap (λ (vs : Values). or_empty (first_of vs)) (others-forwarded (own_via proxy b) m.headers (first_value hops_name m.headers) recorded).to
