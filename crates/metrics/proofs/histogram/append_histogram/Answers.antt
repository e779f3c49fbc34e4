use Rattle.std.proofs.Common.{◌≡◌, ℕ, ◌++◌, ap, ◌∙◌}
use Rattle.metrics.specs.Metrics.{ends_text, plus, total_of}
use Rattle.metrics.proofs.Pieces.{three}
use Rattle.metrics.proofs.histogram.append_histogram.Goals as goal

pub returns : goal.returns
returns g c =
    let all : c.all_of-all.result ≡ plus (total_of 0 c.args.histogram.now.buckets.now) c.args.histogram.now.beyond =
    c.all_of-all.ensures ∙ ap (λ (bounded : ℕ). plus bounded c.args.histogram.now.beyond) c.in_ok-bounded.ensures.total in
    three _ _ _ _ _ _ _ c.in_ok-append_head.ensures c.in_ok-bounded.ensures.text
    (c.in_ok-append_ends.ensures ∙ ap (λ (n : ℕ). c.append_buckets.new.out.items ++ ends_text c.args.histogram.now.name.now n c.args.histogram.now.sum) all)
