-- Contacts, one after another.
use Rattle.std.proofs.Common.{◌≡◌, ℕ, zero, suc, ◌+◌, ◌<◌, Bool, true, false, not, cond, List, [], ◌∷◌, ◌++◌, Option, Some, None, refl, ap, sym, ◌∙◌, append_assoc, get_or, drop, length, add-one, arith}
use Rattle.std.specs.Borrow.{Bor}
use Rattle.std.specs.List.{flat_map}
use Rattle.std.specs.Prelude.{filter}
use Rattle.std.proofs.lemmas.Grind.{flat_map-append}
use Rattle.std.proofs.lemmas.List.{append-nil}
use Rattle.std.proofs.lemmas.List.Elements.{filter-append}
use Rattle.sip_lex.specs.Params.{param_text}
use Rattle.sip_uri.specs.Uri.{params_text}
use Rattle.bindings.specs.Bindings.{Asked}
use Rattle.registrar.specs.Contact.{Terms, asked_of, is_expires, is_kept}
use Rattle.registrar.specs.Contacts.{all_asked, onto}
use Rattle.registrar.specs.Pushed.{IsPushed}
use Rattle.registrar.specs.SeenContacts.{view_items}

-- those that were read stand in front of the others
abbrev pub in_front : List Asked → Option (List Asked) → Option (List Asked)
in_front read None = None
in_front read (Some others) = Some (read ++ others)

pub one_more : (read : List Asked) (asked : Asked) (others : Option (List Asked)) → in_front (read ++ asked ∷ []) others ≡ in_front read (onto (Some asked) others)
one_more read asked None = refl
one_more read asked (Some others) = ap Some (append_assoc read (asked ∷ []) others)

pub all_read : (read : List Asked) → in_front read (Some []) ≡ Some read
all_read read = ap Some (append-nil read)

pushed_as : (read new : List Asked) (asked : Option Asked) (others : Option (List Asked)) → IsPushed true asked read new → in_front new others ≡ in_front read (onto asked others)
pushed_as read new None others h = absurd h
pushed_as read new (Some asked) others h = ap (λ (front : List Asked). in_front front others) h ∙ one_more read asked others

-- the next one asks for something
pub pushed : (terms : Terms) (read new : List Asked) (item : List ℕ) (items : List (List ℕ)) (asks : Bool) → asks ≡ true → IsPushed asks (asked_of terms item) read new
    → in_front new (all_asked terms items) ≡ in_front read (all_asked terms (item ∷ items))
pushed terms read new item items true e h = pushed_as read new (asked_of terms item) (all_asked terms items) h
pushed terms read new item items false e h = absurd cc

-- the next one asks for nothing that can be done
pub turned : (terms : Terms) (read new : List Asked) (item : List ℕ) (items : List (List ℕ)) (asks : Bool) → asks ≡ false → IsPushed asks (asked_of terms item) read new
    → None ≡ in_front read (all_asked terms (item ∷ items))
turned terms read new item items true e h = absurd cc
turned terms read new item items false e h = ap (λ (o : Option Asked). in_front read (onto o (all_asked terms items))) (sym h)

-- ---- items by their places

at_place : (items : List (Bor (List ℕ))) (k : ℕ) (other : Bor (List ℕ)) → k < length items → drop k (view_items items) ≡ (get_or items k other).now ∷ drop (suc k) (view_items items)
at_place [] k other h = absurd (omega (arith, h))
at_place (first ∷ items) zero other h = refl
at_place (first ∷ items) (suc k) other h = at_place items k other (omega (arith, h))

at_end : (items : List (Bor (List ℕ))) → drop (length items) (view_items items) ≡ []
at_end [] = refl
at_end (item ∷ items) = at_end items

pub ended : (terms : Terms) (read : List Asked) (items : List (Bor (List ℕ))) (k : ℕ) → k ≡ length items → in_front read (all_asked terms (drop k (view_items items))) ≡ Some read
ended terms read items k e =
    ap (λ (n : ℕ). in_front read (all_asked terms (drop n (view_items items)))) e
    ∙ ap (λ (left : List (List ℕ)). in_front read (all_asked terms left)) (at_end items) ∙ all_read read

module _ (terms : Terms) (read new : List Asked) (items : List (Bor (List ℕ))) (k : ℕ) (other : Bor (List ℕ)) (within : k < length items) where
  abbrev item : List ℕ
  item = (get_or items k other).now

  abbrev left : List (List ℕ)
  left = drop (suc k) (view_items items)

  pub pushed_at : (asks : Bool) → asks ≡ true → IsPushed asks (asked_of terms item) read new
      → in_front new (all_asked terms (drop (k + 1) (view_items items))) ≡ in_front read (all_asked terms (drop k (view_items items)))
  pushed_at asks e h =
      rw add-one (pushed terms read new item left asks e h ∙ ap (λ (texts : List (List ℕ)). in_front read (all_asked terms texts)) (sym (at_place items k other within)))

  pub turned_at : (asks : Bool) → asks ≡ false → IsPushed asks (asked_of terms item) read new → None ≡ in_front read (all_asked terms (drop k (view_items items)))
  turned_at asks e h =
      turned terms read new item left asks e h ∙ ap (λ (texts : List (List ℕ)). in_front read (all_asked terms texts)) (sym (at_place items k other within))

-- ---- the parameters but `expires`

abbrev shown : Bool → List ℕ → List ℕ
shown expires param = params_text (cond (not expires) (param ∷ []) [])

shown_is : (param : List ℕ) → shown (is_expires param) param ≡ params_text (filter is_kept (param ∷ []))
shown_is param = refl

shown_true : (param : List ℕ) → shown true param ≡ []
shown_true param = refl

shown_false : (param : List ℕ) → shown false param ≡ 59 ∷ param
shown_false param = append-nil (59 ∷ param)

pub left_out : (out param : List ℕ) → is_expires param ≡ true → out ≡ out ++ params_text (filter is_kept (param ∷ []))
left_out out param h =
    let none : [] ≡ params_text (filter is_kept (param ∷ [])) = sym (shown_true param) ∙ ap (λ (b : Bool). shown b param) (sym h) ∙ shown_is param in
    sym (append-nil out) ∙ ap (λ (text : List ℕ). out ++ text) none

pub written : (out param : List ℕ) → is_expires param ≡ false → (out ++ 59 ∷ []) ++ param ≡ out ++ params_text (filter is_kept (param ∷ []))
written out param h =
    let one : 59 ∷ param ≡ params_text (filter is_kept (param ∷ [])) = sym (shown_false param) ∙ ap (λ (b : Bool). shown b param) (sym h) ∙ shown_is param in
    append_assoc out (59 ∷ []) param ∙ ap (λ (text : List ℕ). out ++ text) one

kept_front : (param : List ℕ) (rest : List (List ℕ)) → params_text (filter is_kept (param ∷ rest)) ≡ params_text (filter is_kept (param ∷ [])) ++ params_text (filter is_kept rest)
kept_front param rest =
    ap (flat_map param_text) (filter-append is_kept (param ∷ []) rest) ∙ flat_map-append param_text (filter is_kept (param ∷ [])) (filter is_kept rest)

pub kept_step : (out param : List ℕ) (rest : List (List ℕ))
    → (out ++ params_text (filter is_kept (param ∷ []))) ++ params_text (filter is_kept rest) ≡ out ++ params_text (filter is_kept (param ∷ rest))
kept_step out param rest =
    append_assoc out (params_text (filter is_kept (param ∷ []))) (params_text (filter is_kept rest)) ∙ ap (λ (text : List ℕ). out ++ text) (sym (kept_front param rest))
