use Rattle.std.proofs.Common.{◌≡◌, ◌≢◌, ◌∙◌, ◌≤◌, ℕ, false, sym, subst, refl}
use Rattle.std.specs.Prelude.{IfOk, OnErr}
use Rattle.service_admission.specs.Limits.{Limits, address_of, swept_at}
use Rattle.service_admission.specs.Runs.{Looks, is_counted, spent}
use Rattle.service_admission.proofs.Looking.{looked_err, looked_ok, others_same}
use Rattle.service_admission.proofs.limits.SourceLimits.admits.Goals as goal

pub returns-clause-looks : goal.returns-clause-looks
returns-clause-looks g c =
    let old = c.args.self.now in
    let mid : Limits = record { most = c.self.inside.most; swept = c.self.inside.swept; buckets = c.self.inside.buckets.entries } in
    let new : Limits = record { most = c.self.inside.most; swept = c.self.inside.swept; buckets = c.charge.new.buckets.entries } in
    let is : mid ≡ swept_at c.args.now old = c.self.view_is ∙ c.sweep.ensures.swept in
    let S : Limits → Type 0 = λ l. (a moment : ℕ) → c.args.now ≤ moment → spent l a moment ≡ spent old a moment in
    let P : ℕ → Type 0 = λ a. IfOk c.charge.result (λ admitted. Looks old c.args.now a (is_counted old c.args.now a admitted) new) in
    subst P c.from_be_bytes.ensures
    (looked_ok c.args.now c.from_be_bytes.result old mid new is (subst S (sym c.self.view_is) c.sweep.ensures.same) refl c.charge.ensures.others
    c.charge.result c.charge.ensures.answer c.charge.ensures.ok c.charge.ensures.own)

pub returns-clause-refused : goal.returns-clause-refused
returns-clause-refused g c =
    let old = c.args.self.now in
    let mid : Limits = record { most = c.self.inside.most; swept = c.self.inside.swept; buckets = c.self.inside.buckets.entries } in
    let new : Limits = record { most = c.self.inside.most; swept = c.self.inside.swept; buckets = c.charge.new.buckets.entries } in
    let is : mid ≡ swept_at c.args.now old = c.self.view_is ∙ c.sweep.ensures.swept in
    let S : Limits → Type 0 = λ l. (a moment : ℕ) → c.args.now ≤ moment → spent l a moment ≡ spent old a moment in
    let P : ℕ → Type 0 = λ a. OnErr c.charge.result (Looks old c.args.now a false new) in
    subst P c.from_be_bytes.ensures
    (looked_err c.args.now c.from_be_bytes.result old mid new is (subst S (sym c.self.view_is) c.sweep.ensures.same) refl c.charge.ensures.others
    c.charge.result c.charge.ensures.err)

pub returns-clause-others : goal.returns-clause-others
returns-clause-others g c =
    let old = c.args.self.now in
    let mid : Limits = record { most = c.self.inside.most; swept = c.self.inside.swept; buckets = c.self.inside.buckets.entries } in
    let new : Limits = record { most = c.self.inside.most; swept = c.self.inside.swept; buckets = c.charge.new.buckets.entries } in
    let is : mid ≡ swept_at c.args.now old = c.self.view_is ∙ c.sweep.ensures.swept in
    let S : Limits → Type 0 = λ l. (a moment : ℕ) → c.args.now ≤ moment → spent l a moment ≡ spent old a moment in
    let P : ℕ → Type 0 = λ a. (other moment : ℕ) → other ≢ a → c.args.now ≤ moment → spent new other moment ≡ spent old other moment in
    subst P c.from_be_bytes.ensures
    (others_same c.args.now c.from_be_bytes.result old mid new is (subst S (sym c.self.view_is) c.sweep.ensures.same) refl c.charge.ensures.others)
