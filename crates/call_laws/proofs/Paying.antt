-- What a turn pays of what a call owes to its caller, and what comes to be owed by it.
use Rattle.std.proofs.Common.{◌≡◌, ◌∙◌, ◌⊎◌, ◌++◌, ◌∷◌, ◌+◌, suc, Bool, true, false, List, [], drop, length, map, None, ap, refl, sym, inl, inr, nat_lt, arith, append-nil, length-append}
use Rattle.std.proofs.lemmas.Bool.{le-ltb, lt-ltb}
use Rattle.call_model.specs.Call.{Call}
use Rattle.call_model.specs.Posting.{owed_by}
use Rattle.call_model.specs.Server as server
use Rattle.call_model.specs.Server.{Owed}
use Rattle.call_model.specs.Step.{Output, Turn}
use Rattle.call_model.specs.Take.{again_if}
use Rattle.call_laws.specs.Stages.{Payment, Stage, owed_new, owed_of, paid_at, paid_if}
use Rattle.call_laws.proofs.Finals.{paid}
use Rattle.call_laws.proofs.Serving.{Serves, Beside, Posted, Cancelled, CancelledBoth, Acked, Faulted, Ticked, Repeated, Sent, Dropped, Again, Okayed}

drop_more : (xs ys : List Owed) → drop (length xs) (xs ++ ys) ≡ ys
drop_more [] ys = refl
drop_more (x ∷ xs) ys = drop_more xs ys

drop_past : (xs : List Owed) → drop (suc (length xs)) xs ≡ []
drop_past [] = refl
drop_past (x ∷ xs) = drop_past xs

not_less : (xs ys : List Owed) → nat_lt (length (xs ++ ys)) (length xs) ≡ false
not_less xs ys =
    let e : length (xs ++ ys) ≡ length xs + length ys = length-append xs ys in
    le-ltb (length (xs ++ ys)) (length xs) (omega (arith, e))

less : (o : Owed) (xs : List Owed) → nat_lt (length xs) (length (o ∷ xs)) ≡ true
less o xs = lt-ltb (length xs) (suc (length xs)) (omega arith)

abbrev pub payment_at : List Turn → Call → Owed → Output → Payment
payment_at before call owed output = record { before = before; call = call; owed = owed; output = output }

module _ (before : List Turn) (call : Call) (stage : Stage) where
  -- more is owed, or as much
  pub grows_paid : (more : List Owed) → stage.call.server.owed ≡ call.server.owed ++ more → paid_at before call stage ≡ []
  grows_paid more e =
      ap (λ (b : Bool). paid_if b before call call.server.owed stage.turn.output)
      (ap (λ (os : List Owed). nat_lt (length os) (length call.server.owed)) e ∙ not_less call.server.owed more)

  pub grows_new : (more : List Owed) → stage.call.server.owed ≡ call.server.owed ++ more → owed_new call stage ≡ more
  grows_new more e = ap (λ (os : List Owed). drop (length call.server.owed) os) e ∙ drop_more call.server.owed more

  -- less is owed
  pub less_paid : (o : Owed) (rest : List Owed) → call.server.owed ≡ o ∷ rest → stage.call.server.owed ≡ rest
      → paid_at before call stage ≡ payment_at before call o stage.turn.output ∷ []
  less_paid o rest is left =
      ap (λ (ps : List Owed). paid_if (nat_lt (length ps) (length call.server.owed)) before call call.server.owed stage.turn.output) left
      ∙ ap (λ (os : List Owed). paid_if (nat_lt (length rest) (length os)) before call os stage.turn.output) is
      ∙ ap (λ (b : Bool). paid_if b before call (o ∷ rest) stage.turn.output) (less o rest)

  less_new : (o : Owed) (rest : List Owed) → call.server.owed ≡ o ∷ rest → stage.call.server.owed ≡ rest → owed_new call stage ≡ []
  less_new o rest is left =
      ap (λ (ps : List Owed). drop (length call.server.owed) ps) left ∙ ap (λ (os : List Owed). drop (length os) rest) is ∙ drop_past rest

  -- one of both: more is owed, or what was owed first is paid
  abbrev pub Owing : Type 0
  Owing =
      ((more : List Owed) × (stage.call.server.owed ≡ call.server.owed ++ more))
      ⊎ ((o : Owed) × (rest : List Owed) × (call.server.owed ≡ o ∷ rest) × (stage.call.server.owed ≡ rest))

  none_more : stage.call.server.owed ≡ call.server.owed → Owing
  none_more e = inl ([], e ∙ sym (append-nil call.server.owed))

  append_assoc_owed : (xs ys zs : List Owed) → (xs ++ ys) ++ zs ≡ xs ++ (ys ++ zs)
  append_assoc_owed [] ys zs = refl
  append_assoc_owed (x ∷ xs) ys zs = ap (λ (os : List Owed). x ∷ os) (append_assoc_owed xs ys zs)

  pub owing : Serves stage.turn.now call stage.turn.input stage.turn.output stage.call → Owing
  owing (Beside l s) = none_more (ap (λ (x : server.Server). x.owed) s)
  owing (Posted ev response reply goes is l s) = inl (owed_by reply.up response, ap (λ (x : server.Server). x.owed) s)
  owing (Cancelled cancel hop marks l s) = inl (server.CancelOk cancel hop ∷ [], ap (λ (x : server.Server). x.owed) s)
  owing (CancelledBoth cancel hop ev reply marks is l s) =
      inl (
        (server.CancelOk cancel hop ∷ []) ++ owed_by reply.up None,
        ap (λ (x : server.Server). x.owed) s ∙ append_assoc_owed call.server.owed (server.CancelOk cancel hop ∷ []) (owed_by reply.up None),
      )
  owing (Acked l s) = none_more (ap (λ (x : server.Server). x.owed) s)
  owing (Faulted why l s) = none_more (ap (λ (x : server.Server). x.owed) s)
  owing (Ticked sends out is l s) = none_more (ap (λ (x : server.Server). x.owed) s)
  owing (Repeated sends is l s) = inl (again_if sends, ap (λ (x : server.Server). x.owed) s)
  owing (Sent owed rest m is made sends out l s) = inr (owed, rest, is, ap (λ (x : server.Server). x.owed) s)
  owing (Dropped owed rest m is made sends out l s) = inr (owed, rest, is, ap (λ (x : server.Server). x.owed) s)
  owing (Again rest is out l s) = inr (server.Again, rest, is, ap (λ (x : server.Server). x.owed) s)
  owing (Okayed cancel hop rest is out l s) = inr (server.CancelOk cancel hop, rest, is, ap (λ (x : server.Server). x.owed) s)

  none_same : stage.call.server.owed ≡ call.server.owed → map owed_of (paid_at before call stage) ≡ []
  none_same e = ap (λ (ps : List Payment). map owed_of ps) (grows_paid [] (e ∙ sym (append-nil call.server.owed)))

  some_same : (more : List Owed) → stage.call.server.owed ≡ call.server.owed ++ more → map owed_of (paid_at before call stage) ≡ []
  some_same more e = ap (λ (ps : List Payment). map owed_of ps) (grows_paid more e)

  one_same : (o : Owed) (rest : List Owed) → call.server.owed ≡ o ∷ rest → stage.call.server.owed ≡ rest → map owed_of (paid_at before call stage) ≡ o ∷ []
  one_same o rest is left = ap (λ (ps : List Payment). map owed_of ps) (less_paid o rest is left)

  -- what is paid is what the step takes from what is owed
  pub paid_is : (s : Serves stage.turn.now call stage.turn.input stage.turn.output stage.call) → map owed_of (paid_at before call stage) ≡ paid s
  paid_is (Beside l s) = none_same (ap (λ (x : server.Server). x.owed) s)
  paid_is (Posted ev response reply goes is l s) = some_same (owed_by reply.up response) (ap (λ (x : server.Server). x.owed) s)
  paid_is (Cancelled cancel hop marks l s) = some_same (server.CancelOk cancel hop ∷ []) (ap (λ (x : server.Server). x.owed) s)
  paid_is (CancelledBoth cancel hop ev reply marks is l s) =
      some_same ((server.CancelOk cancel hop ∷ []) ++ owed_by reply.up None)
      (ap (λ (x : server.Server). x.owed) s ∙ append_assoc_owed call.server.owed (server.CancelOk cancel hop ∷ []) (owed_by reply.up None))
  paid_is (Acked l s) = none_same (ap (λ (x : server.Server). x.owed) s)
  paid_is (Faulted why l s) = none_same (ap (λ (x : server.Server). x.owed) s)
  paid_is (Ticked sends out is l s) = none_same (ap (λ (x : server.Server). x.owed) s)
  paid_is (Repeated sends is l s) = some_same (again_if sends) (ap (λ (x : server.Server). x.owed) s)
  paid_is (Sent owed rest m is made sends out l s) = one_same owed rest is (ap (λ (x : server.Server). x.owed) s)
  paid_is (Dropped owed rest m is made sends out l s) = one_same owed rest is (ap (λ (x : server.Server). x.owed) s)
  paid_is (Again rest is out l s) = one_same server.Again rest is (ap (λ (x : server.Server). x.owed) s)
  paid_is (Okayed cancel hop rest is out l s) = one_same (server.CancelOk cancel hop) rest is (ap (λ (x : server.Server). x.owed) s)

  -- what was owed and came to be owed is what was paid and is owed
  pub owed_is : Owing → call.server.owed ++ owed_new call stage ≡ map owed_of (paid_at before call stage) ++ stage.call.server.owed
  owed_is (inl (more, e)) =
      ap (λ (os : List Owed). call.server.owed ++ os) (grows_new more e) ∙ sym e
      ∙ ap (λ (os : List Owed). os ++ stage.call.server.owed) (sym (some_same more e))
  owed_is (inr (o, rest, is, left)) =
      ap (λ (os : List Owed). call.server.owed ++ os) (less_new o rest is left) ∙ append-nil call.server.owed ∙ is
      ∙ ap (λ (os : List Owed). o ∷ os) (sym left)
      ∙ ap (λ (os : List Owed). os ++ stage.call.server.owed) (sym (one_same o rest is left))
