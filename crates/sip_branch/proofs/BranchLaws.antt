-- A branch parameter is read exactly where it is written so.
use Rattle.sip_branch.proofs.Common.{◌≡◌, ℕ, ◌<◌, ◌≤◌, ◌^◌, true, List, [], ◌∷◌, ◌++◌, length, take, drop, eqb, cases_Bool, cond-true, cond-false, eqb-true, take_at, drop_at, Option, Some, None, refl, sym, ap, ◌∙◌, arith, IfSome, decimal, bytes_eq}
use Rattle.sip_branch.proofs.Common.{take-append-drop, cut, is, behind, Lacks, cut_again, cut_joins, BranchParts, branch_parts, BranchName, IsBranch, branch_text, cookie, number_read, with_key, common_steps}
use Rattle.sip_lex.specs.Number.{plain_number_within}
use Rattle.sip_branch.specs.inner.BranchParts.{parts_of, parts_text, with_context, with_instance}
use Rattle.sip_branch.proofs.laws.HexLaws.{hex_text_length}
use Rattle.sip_lex.proofs.laws.Numbers.{decimal_lacks, number_spelled}

abbrev Cut : Type 0
Cut = List ℕ × Option (List ℕ)

abbrev found : BranchParts → Option BranchParts
found p = Some p

-- ---- parts

context_found : (key instance : List ℕ) (c : Cut) (p : BranchParts) → with_context key instance c ≡ Some p → key ++ (46 ∷ (instance ++ (46 ∷ (c.0 ++ behind 46 c.1)))) ≡ parts_text p
context_found key instance c p e = grind arith

instance_found : (key : List ℕ) (c : Cut) (p : BranchParts) → with_instance key c ≡ Some p → key ++ (46 ∷ (c.0 ++ behind 46 c.1)) ≡ parts_text p
instance_found key (instance, None) p e = absurd cc
instance_found key (instance, Some rest) p e = grind (arith, common_steps, cut_joins 46 rest, context_found key)

key_found : (key rest : List ℕ) (p : BranchParts) → with_key key rest ≡ Some p → key ++ rest ≡ parts_text p
key_found key [] p e = absurd cc
key_found key (b ∷ rest) p e = grind (arith, common_steps, cases_Bool (eqb b 46), cut_joins 46 rest, eqb-true, instance_found, cond-true, cond-false)

pub parts_found : (text : List ℕ) (p : BranchParts) → parts_of text ≡ Some p → text ≡ parts_text p
parts_found text p e = sym (take-append-drop 32 text) ∙ key_found (take 32 text) (drop 32 text) p e

pub parts_again : (p : BranchParts) → length p.key ≡ 32 → Lacks 46 p.instance → Lacks 46 p.context → parts_of (parts_text p) ≡ Some p
parts_again p size instance context =
    let rest = 46 ∷ (p.instance ++ (46 ∷ (p.context ++ (46 ∷ p.target)))) in
    ap (λ (k : List ℕ). with_key k (drop 32 (p.key ++ rest))) (take_at p.key rest 32 size)
    ∙ ap (with_key p.key) (drop_at p.key rest 32 size)
    ∙ ap (with_instance p.key) (cut_again 46 p.instance (Some (p.context ++ (46 ∷ p.target))) instance)
    ∙ ap (with_context p.key p.instance) (cut_again 46 p.context (Some p.target) context)

pub branch_again : (b : BranchName) → IsBranch b → parts_of (parts_text (branch_parts b)) ≡ Some (branch_parts b)
branch_again b is =
    let small : b.instance < 2 ^ 64 = let h = is.instance in omega (arith, h) in
    let digits = hex_text_length b.key in
    let sixteen = is.sixteen in
    parts_again (branch_parts b) (omega (arith, digits, sixteen)) (decimal_lacks 46 b.instance refl small) (decimal_lacks 46 b.context refl is.context)

-- ---- the cookie

pub cookie_found : (text rest : List ℕ) → bytes_eq (take 7 text) cookie ≡ true → rest ≡ drop 7 text → text ≡ cookie ++ rest
cookie_found text rest same e = grind arith

pub cookie_rest : (text rest more : List ℕ) → rest ≡ drop 7 text → text ≡ cookie ++ more → rest ≡ more
cookie_rest text rest more e is = e ∙ ap (λ (t : List ℕ). drop 7 t) is

pub text_is : (text rest : List ℕ) (p : BranchParts) (b : BranchName) → bytes_eq (take 7 text) cookie ≡ true → rest ≡ drop 7 text → Some p ≡ parts_of rest → p ≡ branch_parts b → text ≡ branch_text b
text_is text rest p b same behind_it cut is = grind (arith, common_steps, cookie_found text rest same behind_it, parts_found rest p (sym cut))

parts_there : (text rest : List ℕ) (b : BranchName) → IsBranch b → rest ≡ drop 7 text → text ≡ branch_text b → parts_of rest ≡ Some (branch_parts b)
parts_there text rest b is behind_it e = ap parts_of (cookie_rest text rest (parts_text (branch_parts b)) behind_it e) ∙ branch_again b is

pub parts_refused : (text rest : List ℕ) (b : BranchName) → IsBranch b → rest ≡ drop 7 text → text ≡ branch_text b → None ≡ parts_of rest → ⊥
parts_refused text rest b is behind_it e refused = grind (arith, common_steps, parts_there text rest b is behind_it e)

pub parts_same : (text rest : List ℕ) (p : BranchParts) (b : BranchName) → IsBranch b → rest ≡ drop 7 text → text ≡ branch_text b → Some p ≡ parts_of rest → p ≡ branch_parts b
parts_same text rest p b is behind_it e cut = grind (arith, common_steps, parts_there text rest b is behind_it e)

pub some_map : {X : Type 0} (o : Option X) (P Q : X → Type 0) → ((x : X) → P x → Q x) → IfSome o P → IfSome o Q
some_map o P Q f h = grind arith

-- ---- numbers

pub number_refused : (limit : ℕ) (ds : List ℕ) (n : ℕ) → n ≤ limit → n < 2 ^ 64 → None ≡ plain_number_within limit ds → ds ≡ decimal n → ⊥
number_refused limit ds n within small refused is = grind (arith, number_read)

pub number_same : (limit : ℕ) (ds : List ℕ) (m n : ℕ) → n ≤ limit → n < 2 ^ 64 → Some m ≡ plain_number_within limit ds → ds ≡ decimal n → m ≡ n
number_same limit ds m n within small read is = grind (arith, number_read)

pub number_text : (limit : ℕ) (ds : List ℕ) (n : ℕ) → limit < 2 ^ 64 → Some n ≡ plain_number_within limit ds → ds ≡ decimal n
number_text limit ds n small read = (number_spelled limit ds n small (sym read)).spelled

-- ---- all parts

pub branch_is : (a b : BranchName) → a.key ≡ b.key → a.instance ≡ b.instance → a.context ≡ b.context → a.target ≡ b.target → Some a ≡ Some b
branch_is a b key instance context target = grind arith
