-- Lines as headers, by the relation and by the function.
use Rattle.sip_text.proofs.Common.{◌≡◌, ℕ, Bool, true, false, List, [], ◌∷◌, ◌++◌, map, Option, Some, None, refl, sym, ap, subst, ◌∙◌, inl, inr, flat_map, AllByRecursion, cases_Bool, cond-true, cond-false, false_from_ne_true, trim}
use Rattle.sip_text.proofs.Common.{trim_end, cut, is, behind, cut_joins, cut_lacks, AreHeaders, IsHeader, Group, before_group, begins_with_space, header_of, header_of_cut, joined, part_text, with_header, HeaderText, rules, arith}
use Rattle.sip_lex.specs.Cut.{Lacks}
use Rattle.sip_lex.proofs.laws.Cuts.{cut_again}
use Rattle.sip_text.specs.Reading.{grouped}
use Rattle.sip_text.proofs.laws.Good.{found, some_is}
use Rattle.sip_text.proofs.Tails.{space_no_header}

abbrev Cut : Type 0
Cut = List ℕ × Option (List ℕ)

abbrev is_colon : ℕ → Bool
is_colon = is 58

abbrev trims : List (List ℕ) → List (List ℕ)
trims ls = map trim ls

abbrev part_of : List ℕ → List ℕ
part_of l = 32 ∷ trim l

parts_are : (more : List (List ℕ)) → flat_map part_text (trims more) ≡ flat_map part_of more
parts_are [] = refl
parts_are (l ∷ more) = ap (λ (x : List ℕ). part_of l ++ x) (parts_are more)

-- ---- one header

abbrev kept : List ℕ → List ℕ → List (List ℕ) → HeaderText
kept front raw parts = record { name = trim_end front; value = joined (trim raw) parts }

header_again : (line : List ℕ) (more : List (List ℕ)) (h : HeaderText) → IsHeader line more h → header_of line (trims more) ≡ Some h
header_again line more h t =
    let c : cut is_colon line ≡ (t.front, Some t.raw) = ap (cut is_colon) t.parts ∙ cut_again 58 t.front (Some t.raw) t.no_colon in
    grind (arith, parts_are)

header_cut_found : (line : List ℕ) (c : Cut) (more : List (List ℕ)) (h : HeaderText) → line ≡ c.0 ++ behind 58 c.1 → Lacks 58 c.0 → AllByRecursion (λ l. begins_with_space l ≡ true) more → header_of_cut c (trims more) ≡ Some h → IsHeader line more h
header_cut_found line c more h e lacks cont read = search (rules, cases_Bool, some_is, cond-true, parts_are, found, cond-false)

-- ---- what is spelled so is read

more_again : (more others : List (List ℕ)) (hs : List HeaderText) → AllByRecursion (λ l. begins_with_space l ≡ true) more → grouped others ≡ Some ([], hs) → grouped (more ++ others) ≡ Some (trims more, hs)
unfolding grouped
more_again [] others hs cont e = e
more_again (l ∷ more) others hs cont e = ap (before_group l) (more_again more others hs cont.1 e) ∙ cond-true _ _ _ cont.0

no_space : (line : List ℕ) (parts : List (List ℕ)) (h : HeaderText) → header_of line parts ≡ Some h → begins_with_space line ≡ false
no_space line parts h e = false_from_ne_true (begins_with_space line) (λ space. let wrong : None ≡ found h = sym (space_no_header line parts space) ∙ e in absurd cc)

front_again : (line : List ℕ) (more others : List (List ℕ)) (h : HeaderText) (hs : List HeaderText) → IsHeader line more h → grouped others ≡ Some ([], hs) → grouped (line ∷ (more ++ others)) ≡ Some ([], h ∷ hs)
unfolding grouped
front_again line more others h hs t e =
    let read = header_again line more h t in
    ap (before_group line) (more_again more others hs t.continues e) ∙ cond-false _ _ _ (no_space line (trims more) h read) ∙ ap (λ (o : Option HeaderText). with_header o hs) read

pub headers_again : (lines : List (List ℕ)) (hs : List HeaderText) → AreHeaders lines hs → grouped lines ≡ Some ([], hs)
unfolding grouped
headers_again lines [] e = ap grouped e
headers_again lines (h ∷ hs) a = ap grouped a.3 ∙ front_again a.0 a.1 a.2 h hs a.4 (headers_again a.2 hs a.5)

-- ---- and what is read is spelled so

pub record IsGroup (lines : List (List ℕ)) (g : Group) : Type 0 where
  pub more : List (List ℕ)
  pub others : List (List ℕ)
  pub whole : lines ≡ more ++ others
  pub continues : AllByRecursion (λ l. begins_with_space l ≡ true) more
  pub parts : g.0 ≡ trims more
  pub headers : AreHeaders others g.1

with_header_found : (line : List ℕ) (lines : List (List ℕ)) (later g : Group) (o : Option HeaderText) → IsGroup lines later → header_of line later.0 ≡ o → with_header o later.1 ≡ Some g → IsGroup (line ∷ lines) g
with_header_found line lines later g None s at e = absurd cc
with_header_found line lines later g (Some h) s at e =
    let t = header_cut_found line (cut is_colon line) s.more h (cut_joins 58 line) (cut_lacks 58 line) s.continues (ap (header_of line) (sym s.parts) ∙ at) in
    subst (IsGroup (line ∷ lines)) (some_is ([], h ∷ later.1) g e) (record {
      more = [];
      others = line ∷ lines;
      whole = refl;
      continues = tt;
      parts = refl;
      headers = (line, s.more, s.others, ap (λ (x : List (List ℕ)). line ∷ x) s.whole, t, s.headers);
    })

before_found : (line : List ℕ) (lines : List (List ℕ)) (o : Option Group) (g : Group) → ((later : Group) → o ≡ Some later → IsGroup lines later) → before_group line o ≡ Some g → IsGroup (line ∷ lines) g
before_found line lines None g all e = absurd cc
before_found line lines (Some later) g all e =
    let s = all later refl in
    elim (cases_Bool (begins_with_space line)) [
      | inl space ↦ subst (IsGroup (line ∷ lines)) (some_is (trim line ∷ later.0, later.1) g (sym (cond-true _ _ _ space) ∙ e)) (record {
        more = line ∷ s.more;
        others = s.others;
        whole = ap (λ (x : List (List ℕ)). line ∷ x) s.whole;
        continues = (space, s.continues);
        parts = ap (λ (x : List (List ℕ)). trim line ∷ x) s.parts;
        headers = s.headers;
      })
      | inr none ↦ with_header_found line lines later g (header_of line later.0) s refl (sym (cond-false _ _ _ none) ∙ e)
    ]

pub grouped_found : (lines : List (List ℕ)) (g : Group) → grouped lines ≡ Some g → IsGroup lines g
unfolding grouped
grouped_found [] g e = subst (IsGroup []) (some_is ([], []) g e) (record { more = []; others = []; whole = refl; continues = tt; parts = refl; headers = refl })
grouped_found (line ∷ lines) g e = before_found line lines (grouped lines) g (λ later h. grouped_found lines later h) e
