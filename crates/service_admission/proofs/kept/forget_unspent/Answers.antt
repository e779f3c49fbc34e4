use Rattle.std.proofs.Common.{◌≡◌, ◌∙◌, ap, rules, List, ℕ}
use Rattle.std.proofs.lemmas.Map.Keys.{IsDistinct-from_sorted}
use Rattle.std.proofs.lemmas.Map.Made.{filter_same_pairs}
use Rattle.std.specs.Map.{keys_of}
use Rattle.std.specs.Ordering.{nat_cmp}
use Rattle.service_admission.specs.declared.bucket.TokenBucket.{TokenBucket}
use Rattle.service_admission.specs.Bucket.{is_spent}
use Rattle.service_admission.specs.Limits.{spent_by, still_spent}
use Rattle.service_admission.proofs.Sweeping.{same_spent}
use Rattle.service_admission.proofs.kept.forget_unspent.Goals as goal

pub returns-clause-kept : goal.returns-clause-kept
returns-clause-kept g c = filter_same_pairs _ (λ e. is_spent c.args.most c.args.now e.1) _ (λ k v b w f' t. search rules) _ _ c.retain.ensures.filtered

pub returns-clause-same : goal.returns-clause-same
returns-clause-same g c address moment later =
    let buckets = c.args.buckets.now.entries in
    let kept : c.retain.new.self.entries ≡ still_spent c.args.most c.args.now buckets =
    filter_same_pairs _ (λ e. is_spent c.args.most c.args.now e.1) _ (λ k v b w f' t. search rules) _ _ c.retain.ensures.filtered in
    ap (λ (es : List (ℕ × TokenBucket)). spent_by c.args.most es address moment) kept
    ∙ same_spent c.args.most c.args.now buckets address moment (IsDistinct-from_sorted nat_cmp (keys_of buckets) c.retain.ensures.was_ordered) later
