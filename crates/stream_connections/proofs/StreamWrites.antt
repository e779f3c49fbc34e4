-- What is written of what waits is a front of it.
use Rattle.std.proofs.Common.{◌≡◌, ◌∙◌, ℕ, zero, suc, ◌+◌, ◌≤◌, Bool, true, false, cond, List, [], ◌∷◌, ◌++◌, length, take, drop, refl, ap, sym, subst, arith, append_assoc, ltb-true, ltb-false}
use Rattle.std.specs.Prelude.{nat_lt}
use Rattle.std.proofs.lemmas.List.{append-nil, take_all}
use Rattle.stream_connections.specs.Queued.{Queued}
use Rattle.stream_connections.specs.Queue.{Queue, enqueued, first_bytes, first_rest, texts, wrote}
use Rattle.stream_connections.specs.Writing.{AreWritten, Goes, Waits, WhatIsWrittenIsAFront, WriteStep, gone, waited}

take_no_more : (k : ℕ) → take {A = ℕ} k [] ≡ []
take_no_more zero = refl
take_no_more (suc k) = refl

-- the first bytes, and then the first of the others
take_on : (w n : ℕ) (xs : List ℕ) → take w xs ++ take n (drop w xs) ≡ take (w + n) xs
take_on zero n xs = ap (λ (k : ℕ). take k xs) (omega arith)
take_on (suc w) n [] = take_no_more n ∙ sym (take_no_more (suc w + n))
take_on (suc w) n (x ∷ xs) =
    let more : suc (w + n) ≡ suc w + n = omega arith in
    ap (λ ys. x ∷ ys) (take_on w n xs) ∙ ap (λ (k : ℕ). take k (x ∷ xs)) more

-- one more message behind them leaves the first as it is
first_stays : (w : ℕ) (m : Queued) (ms : List Queued) → w ≤ length (first_bytes ms) → take w (first_bytes (ms ++ m ∷ [])) ≡ take w (first_bytes ms)
first_stays zero m ms within = refl
first_stays (suc w) m [] within = absurd (omega (arith, within))
first_stays (suc w) m (x ∷ xs) within = refl

first_fits : (w : ℕ) (m : Queued) (ms : List Queued) → w ≤ length (first_bytes ms) → w ≤ length (first_bytes (ms ++ m ∷ []))
first_fits zero m ms within = omega arith
first_fits (suc w) m [] within = absurd (omega (arith, within))
first_fits (suc w) m (x ∷ xs) within = within

-- what was written so far of these messages, and what comes
abbrev so_far : Queue → List WriteStep → Queue → Type 0
so_far old steps new = AreWritten (old.messages ++ waited steps) (take old.written (first_bytes old.messages) ++ gone steps) new

nothing_comes : (old new : Queue) → new ≡ old → so_far old [] new
nothing_comes old new same = record {
  done = [];
  all = append-nil old.messages ∙ sym (ap (λ (q : Queue). q.messages) same);
  front = append-nil (take old.written (first_bytes old.messages)) ∙ sym (ap (λ (q : Queue). take q.written (first_bytes q.messages)) same);
}

one_waits : (now : ℕ) (m : Queued) (old new : Queue) (steps : List WriteStep) → old.written ≤ length (first_bytes old.messages) → so_far (enqueued now m old) steps new
    → so_far old (Waits now m ∷ steps) new
one_waits now m old new steps within behind = record {
  done = behind.done;
  all = sym (append_assoc old.messages (m ∷ []) (waited steps)) ∙ behind.all;
  front = ap (λ (xs : List ℕ). xs ++ gone steps) (sym (first_stays old.written m old.messages within)) ∙ behind.front;
}

-- a part of the first message goes
part_goes : (now n : ℕ) (old new : Queue) (steps : List WriteStep) → so_far (record old { written = old.written + n; since = now }) steps new
    → so_far old (Goes now (take n (first_rest old)) ∷ steps) new
part_goes now n old new steps behind = record {
  done = behind.done;
  all = behind.all;
  front =
      sym (append_assoc (take old.written (first_bytes old.messages)) (take n (first_rest old)) (gone steps))
      ∙ ap (λ (xs : List ℕ). xs ++ gone steps) (take_on old.written n (first_bytes old.messages)) ∙ behind.front;
}

-- the first message is gone with its last byte
all_goes : (now n w since : ℕ) (open_is : Bool) (messages : List Queued) (new : Queue) (steps : List WriteStep) → length (first_bytes messages) ≤ w + n
    → so_far (record { messages = drop 1 messages; written = 0; since = now; is_open = open_is }) steps new
    → so_far (record { messages = messages; written = w; since = since; is_open = open_is }) (Goes now (take n (drop w (first_bytes messages))) ∷ steps) new
all_goes now n w since open_is [] new steps whole behind = record {
  done = behind.done;
  all = behind.all;
  front =
      sym (append_assoc (take w []) (take n (drop w [])) (gone steps))
      ∙ ap (λ (xs : List ℕ). xs ++ gone steps) (take_on w n [] ∙ take_no_more (w + n)) ∙ behind.front;
}
all_goes now n w since open_is (m ∷ ms) new steps whole behind = record {
  done = m ∷ behind.done;
  all = ap (λ (xs : List Queued). m ∷ xs) behind.all;
  front =
      sym (append_assoc (take w m.bytes) (take n (drop w m.bytes)) (gone steps))
      ∙ ap (λ (xs : List ℕ). xs ++ gone steps) (take_on w n m.bytes ∙ take_all (w + n) m.bytes whole)
      ∙ ap (λ (xs : List ℕ). m.bytes ++ xs) behind.front
      ∙ sym (append_assoc m.bytes (texts behind.done) (take new.written (first_bytes new.messages)));
}

-- so many bytes of the first message go
one_goes : (now n : ℕ) (bytes : List ℕ) (old between new : Queue) (steps : List WriteStep) → bytes ≡ take n (first_rest old) → between ≡ wrote now n old
    → (between.written ≤ length (first_bytes between.messages) → so_far between steps new) → so_far old (Goes now bytes ∷ steps) new
one_goes now n bytes old between new steps is goes behind =
    subst (λ (b : List ℕ). so_far old (Goes now b ∷ steps) new) (sym is) (by (nat_lt (old.written + n) (length (first_bytes old.messages))) refl)
  where
    by : (b : Bool) → nat_lt (old.written + n) (length (first_bytes old.messages)) ≡ b → so_far old (Goes now (take n (first_rest old)) ∷ steps) new
    by true here =
        let on : between ≡ record old { written = old.written + n; since = now } =
        goes ∙ ap (λ b. cond {A = Queue} b (record old { written = old.written + n; since = now }) (record old { messages = drop 1 old.messages; written = 0; since = now })) here in
        let below = ltb-true (old.written + n) (length (first_bytes old.messages)) here in
        let fits : old.written + n ≤ length (first_bytes old.messages) = omega (arith, below) in
        let later = behind (subst (λ (q : Queue). q.written ≤ length (first_bytes q.messages)) (sym on) fits) in
        part_goes now n old new steps (subst (λ (q : Queue). so_far q steps new) on later)
    by false here =
        let on : between ≡ record old { messages = drop 1 old.messages; written = 0; since = now } =
        goes ∙ ap (λ b. cond {A = Queue} b (record old { written = old.written + n; since = now }) (record old { messages = drop 1 old.messages; written = 0; since = now })) here in
        let whole = ltb-false (old.written + n) (length (first_bytes old.messages)) here in
        let nothing : 0 ≤ length (first_bytes (drop 1 old.messages)) = omega arith in
        let later = behind (subst (λ (q : Queue). q.written ≤ length (first_bytes q.messages)) (sym on) nothing) in
        all_goes now n old.written old.since old.is_open old.messages new steps whole (subst (λ (q : Queue). so_far q steps new) on later)

pub written_so_far : WhatIsWrittenIsAFront
written_so_far old new [] within run = nothing_comes old new run
written_so_far old new (Waits now m ∷ steps) within run =
    let fits = subst (λ (q : Queue). q.written ≤ length (first_bytes q.messages)) (sym run.1) (first_fits old.written m old.messages within) in
    one_waits now m old new steps within (subst (λ (q : Queue). so_far q steps new) run.1 (written_so_far run.0 new steps fits run.2))
written_so_far old new (Goes now bytes ∷ steps) within run =
    one_goes now run.1.0 bytes old run.0 new steps run.1.2 run.1.3 (λ fits. written_so_far run.0 new steps fits run.2)
