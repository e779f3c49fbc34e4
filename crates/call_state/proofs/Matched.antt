-- The branch that a message answers, and which transaction it is for.
use Rattle.std.proofs.Common.{◌≡◌, List, ℕ, ◌<◌, Bool, true, false, Option, Some, None, sym, subst, ap, ◌∙◌, ◌&&◌, codes}
use Rattle.std.proofs.lemmas.Option.{same_Some}
use Rattle.std.specs.Option.{option_map}
use Rattle.sip_via.specs.declared.own.Own.{Own}
use Rattle.sip_via.specs.TopVia.{top_value}
use Rattle.sip_text.specs.Fields.{message_cseq}
use Rattle.call_model.specs.Call.{Call, is_sent}
use Rattle.call_model.specs.OpenedRequest.{OpenedRequest, method_of}
use Rattle.sip_text.specs.Text.{MessageText}
use Rattle.sip_text.specs.Text.{StartText}
use Rattle.call_state.specs.Kinds.{is_to_method}
use Rattle.std.proofs.Common.{◌^◌}
use Rattle.std.specs.Prelude.{◌==◌}
use Rattle.std.specs.Str.{bytes_eq}
use Rattle.std.proofs.lemmas.Bool.{and_from, eq-eqb, false≢true}
use Rattle.std.proofs.lemmas.Slice.Eq.{bytes_eq-Decides}
use Rattle.sip_branch.specs.declared.branch.BranchName.{BranchName}
use Rattle.sip_branch.specs.BranchText.{IsBranch}
use Rattle.sip_via.specs.OwnPass.{IsOwnBranch}
use Rattle.sip_via.specs.TopVia.{has_second, via_values}
use Rattle.call_model.specs.Call.{is_cancel_sent}
use Rattle.call_model.specs.OpenedRequest.{branch_at}
use Rattle.call_model.specs.Take.{Server, ServerAck, ServerCancel, Client, CancelClient}
use Rattle.sip_text.specs.declared.method.Method.{Method}
use Rattle.sip_text.specs.declared.method.Method.TheVariants.{Ack, Cancel}
use Rattle.sip_text.specs.Method.{known_method}
use Rattle.sip_text.specs.Text.{Request, Response}
use Rattle.call_state.specs.Kinds.{is_request_of, is_response}
use Rattle.call_state.specs.Matching.{BelongsTo, BelongsToNone, IsReadBranch}
use Rattle.call_state.specs.inner.Matching.{BelongsToNoBranch, BelongsToNoServer}

pub numbered : (call : BranchName) (n : ℕ) → IsBranch call → n < 2 ^ 16 → IsBranch (record call { target = n })
numbered call n h lt = record { sixteen = h.sixteen; bytes = h.bytes; instance = h.instance; context = h.context; target = lt }

pub same_target : (name call : BranchName) (n : ℕ) → Some name ≡ Some (record call { target = n }) → Some name.target ≡ Some n
same_target name call n e = ap (option_map (λ (b : BranchName). b.target)) e

same_tests : (a b : BranchName) → a ≡ b
    → (bytes_eq a.key b.key && ((a.instance == b.instance) && ((a.context == b.context) && (a.target == b.target)))) ≡ true
same_tests a b e =
    and_from (bytes_eq a.key b.key) _ ((bytes_eq-Decides a.key b.key).1 (ap (λ (x : BranchName). x.key) e))
    (and_from (a.instance == b.instance) _ (eq-eqb a.instance b.instance (ap (λ (x : BranchName). x.instance) e))
    (and_from (a.context == b.context) _ (eq-eqb a.context b.context (ap (λ (x : BranchName). x.context) e)) (eq-eqb a.target b.target (ap (λ (x : BranchName). x.target) e))))

-- a branch of the call is known by its key, its instance and its context
pub known : (name call : BranchName) (n : ℕ) → Some name ≡ Some (record call { target = n })
    → (bytes_eq name.key call.key
    && ((name.instance == call.instance) && ((name.context == call.context) && (name.target == name.target))))
    ≡ true
known name call n e =
    let p : name ≡ record call { target = n } = same_Some _ _ e in
    let q : record call { target = n } ≡ record call { target = name.target } =
    ap (λ (t : ℕ). record call { target = t }) (sym (ap (λ (x : BranchName). x.target) p)) in
    same_tests name (record call { target = name.target }) (p ∙ q)

-- ---- responses

abbrev pub for_client : Call → MessageText → ℕ → Bool
for_client call m n =
    is_to_method (method_of call.opened.request.start) (message_cseq m.headers) && has_second (via_values m) && is_sent call n

abbrev pub for_cancel : Call → MessageText → ℕ → Bool
for_cancel call m n = is_to_method (codes "CANCEL") (message_cseq m.headers) && is_cancel_sent call n

module _ (call : Call) (m : MessageText) where
  abbrev pub IsHome : ℕ → Type 0
  IsHome n = IsOwnBranch call.opened.own (top_value m) (branch_at call.opened n)

  pub no_response : is_response m.start ≡ false → BelongsToNoBranch call m
  no_response e n = (λ b. false≢true (sym e ∙ b.0.response), λ b. false≢true (sym e ∙ b.0.response))

  -- to no branch, and not to the caller
  pub to_none : BelongsToNoBranch call m → BelongsToNoServer call m → BelongsToNone call m
  to_none branch server Server b = server.0 b
  to_none branch server ServerAck b = server.1 b
  to_none branch server ServerCancel b = server.2 b
  to_none branch server (Client n) b = (branch n).0 b
  to_none branch server (CancelClient n) b = (branch n).1 b

  pub ours : (opened : OpenedRequest) (b : BranchName) (n : ℕ) → opened ≡ call.opened → b ≡ branch_at opened 0 → record b { target = n } ≡ branch_at call.opened n
  ours opened b n s q = ap (λ (x : BranchName). record x { target = n }) q ∙ ap (λ (x : OpenedRequest). branch_at x n) s

  pub no_home : ((n : ℕ) → n < 2 ^ 16 → IsHome n → ⊥) → BelongsToNoBranch call m
  no_home h n = (λ b. h n b.0.number b.0.via, λ b. h n b.0.number b.0.via)

  -- the branch is known, and no transaction of it takes the response
  pub no_transaction : (k : ℕ) → ((n : ℕ) → n < 2 ^ 16 → IsHome n → Some k ≡ Some n) → for_client call m k ≡ false → for_cancel call m k ≡ false
      → BelongsToNoBranch call m
  no_transaction k only e f n = (by_client, by_cancel)
    where
      by_client : BelongsTo call m (Client n) → ⊥
      by_client b =
          let same : k ≡ n = same_Some k n (only n b.0.number b.0.via) in
          let well : for_client call m n ≡ true =
          and_from (is_to_method (method_of call.opened.request.start) (message_cseq m.headers) && has_second (via_values m)) (is_sent call n)
          (and_from (is_to_method (method_of call.opened.request.start) (message_cseq m.headers)) (has_second (via_values m)) b.0.to_method b.1) b.2 in
          false≢true (sym e ∙ ap (for_client call m) same ∙ well)

      by_cancel : BelongsTo call m (CancelClient n) → ⊥
      by_cancel b =
          let same : k ≡ n = same_Some k n (only n b.0.number b.0.via) in
          let well : for_cancel call m n ≡ true =
          and_from (is_to_method (codes "CANCEL") (message_cseq m.headers)) (is_cancel_sent call n) b.0.to_method b.1 in
          false≢true (sym f ∙ ap (for_cancel call m) same ∙ well)

  -- the branch that the response names is the only one by which it comes home
  pub at_home : (opened : OpenedRequest) (b name : BranchName) (r : Option ℕ) → opened ≡ call.opened → b ≡ branch_at opened 0
      → ((n : ℕ) → n < 2 ^ 16 → IsBranch (record b { target = n })) → IsReadBranch call.opened.own (top_value m) name
      → ((n : ℕ) → name ≡ record b { target = n } → r ≡ Some n)
      → (n : ℕ) → n < 2 ^ 16 → IsHome n → r ≡ Some n
  at_home opened b name r s q bounded read only n lt home =
      let P : BranchName → Type 0 = λ x. IsOwnBranch call.opened.own (top_value m) x in
      only n (sym (read.only (record b { target = n }) (bounded n lt) (subst P (sym (ours opened b n s q)) home)))

  pub home_at : (opened : OpenedRequest) (b name : BranchName) (n : ℕ) → opened ≡ call.opened → b ≡ branch_at opened 0
      → IsReadBranch call.opened.own (top_value m) name → name ≡ record b { target = n } → IsOwnBranch call.opened.own (top_value m) (branch_at call.opened n)
  home_at opened b name n s q read e =
      let P : BranchName → Type 0 = λ x. IsOwnBranch call.opened.own (top_value m) x in
      subst P (e ∙ ours opened b n s q) read.names

  pub none_home : ((n : ℕ) → n < 2 ^ 16 → IsHome n → None ≡ Some n) → BelongsToNoBranch call m
  none_home only = no_home (λ n lt home. let e = only n lt home in absurd cc)

-- ---- requests

-- a response is no request, of whatever method
not_request : (method : List ℕ) (start : StartText) → is_response start ≡ true → is_request_of method start ≡ true → ⊥
not_request method (Request own uri) e h = absurd cc
not_request method (Response status reason) e h = absurd cc

not_known : (method : Method) (start : StartText) → is_response start ≡ true → known_method start ≡ Some method → ⊥
not_known method (Request own uri) e h = absurd cc
not_known method (Response status reason) e h = absurd cc

pub no_request : (call : Call) (m : MessageText) → is_response m.start ≡ true → BelongsToNoServer call m
no_request call m e = (
  λ b. not_request (method_of call.opened.request.start) m.start e b.request,
  λ b. not_known Ack m.start e b.request,
  λ b. not_known Cancel m.start e b.request,
)

-- ---- what a response belongs to

pub none_at_all : (call : Call) (m : MessageText) → is_response m.start ≡ true → BelongsToNoBranch call m → BelongsToNone call m
none_at_all call m e apart = to_none call m apart (no_request call m e)

-- its top Via value names no branch of the proxy's own
pub unnamed : (call : Call) (m : MessageText) (opened : OpenedRequest) (own : Own) (b : BranchName) → is_response m.start ≡ true → opened ≡ call.opened → own ≡ opened.own
    → b ≡ branch_at opened 0 → ((n : ℕ) → n < 2 ^ 16 → IsBranch (record b { target = n }))
    → ((other : BranchName) → IsBranch other → IsOwnBranch own (top_value m) other → ⊥) → BelongsToNone call m
unnamed call m opened own b e s p q bounded none =
    let P : Own → Type 0 = λ o. (other : BranchName) → IsBranch other → IsOwnBranch o (top_value m) other → ⊥ in
    let Q : BranchName → Type 0 = λ x. IsBranch x in
    let never = subst P (p ∙ ap (λ (x : OpenedRequest). x.own) s) none in
    none_at_all call m e
    (no_home call m (λ n lt home. never (branch_at call.opened n) (subst Q (ours call m opened b n s q) (bounded n lt)) home))
