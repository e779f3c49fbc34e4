-- `Counter::refuses` at a call: what it is handed, and the flag that a caller has of it. Assumes `Logic`.
use Rattle.failing_allocator.proofs.Steps.{◌≡◌, ℕ, Bool, List, [], ◌∷◌, refl, ap, Ura, Val, vbool, vptr, SProp, ent, sep, ex, guard, id⊢, Lft, Share, fsep, ftrue, flft, Memory, Routine, Logic, sem, Fun, bool, hidden_shr, nothing, only, triple_of, Contract, ‵, raw, ◌⊛◌, some, later, ◌$◌, ◌∵◌, !, qed, move, keep, use1, split, join, pick, show, check, fjoin, feq_i, feq_l, await, updating, now as at_once, done}
use Rattle.failing_allocator.specs.contracts.refusing.Counter as C
use Rattle.failing_allocator.specs.contracts.refusing.Counter.refuses as F

module _ {M : Type 1} {𝓤 : Ura M} (𝓛 : Logic 𝓤) (at_mem : Memory → SProp 𝓤) (run : Routine → Fun 𝓤) where
  abbrev pub Refuses : Contract 𝓤
  Refuses = triple_of 𝓛 F.signature (F.spec 𝓛 at_mem run)

  module _ (κ : Lft) (q : Share) (c : ℕ × ℕ) (x : (C.the_row).Denot) where
    open 𝓛 use {H, A}

    abbrev pub at_refuses : Refuses.Ghost
    at_refuses = (((κ, tt), (q, tt), tt, (record { ref_ptr = c; now = x }, tt), (vptr c.0 c.1 ∷ [], tt)), tt)

    pub refuses_goes : ent 𝓤 (sep 𝓤 (sem 𝓛 (hidden_shr (C.the_row) κ x c.0 c.1)) (A.lft κ q)) (Refuses.pre at_refuses)
    refuses_goes =
        qed 𝓛 (‵ (hidden_shr (C.the_row) κ x c.0 c.1) ∷ ‵ (flft κ q) ∷ []) ∵ feq_i ! (List Val) (vptr c.0 c.1 ∷ []) (vptr c.0 c.1 ∷ []) refl $ fjoin ! $
        nothing ! $ move ! (1 ∷ []) $ fjoin ! $ nothing ! $ move ! (2 ∷ []) $ join ! $ join ! $ nothing ! $ move ! (1 ∷ []) $ done !

    abbrev pub Flag : Val → Bool → SProp 𝓤
    Flag v y = guard 𝓤 (v ≡ vbool y) (A.lft κ q)

    pub refuses_gives : (v : Val) → ent 𝓤 (Refuses.post at_refuses v) (H.⇛ (ex 𝓤 (Flag v)))
    refuses_gives v =
        qed 𝓛 (raw (Refuses.post at_refuses v) ∷ []) ∵ updating ! $
        use1 𝓛 (later (some (λ (y : Bool). ((‵ (flft κ q) ⊛ ‵ ftrue) ⊛ ‵ (bool.own_val y (v ∷ []))) ⊛ some (λ (ws : Unit {0} × Unit {0}). ‵ (fsep ftrue ftrue) ⊛ ‵ ftrue)))) (id⊢ 𝓤 _) $ await ! tt $ pick ! (λ y.
        split ! $ split ! $ move ! (1 ∷ []) $ feq_l ! (λ e. split ! $ at_once ! $ show ! (Flag v) y $ check ! (ap only e) $ keep ! (0 ∷ []) $ done !))
