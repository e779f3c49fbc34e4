use Rattle.sip_text.proofs.Common.{◌∙◌, sym, ap, arith, drop, List, ℕ, begins_with_space, ended, headers_at, or_bad, valued, with_part}
use Rattle.sip_text.proofs.laws.Good.{trim_front}
use Rattle.sip_lex.proofs.Parts.{end_later}
use Rattle.sip_text.proofs.Tails.{part_front, value_ends-early, value_ends, value_with_part}
use Rattle.sip_text.proofs.head.with_lines.Goals as goal

pub returns-in_default-clause-err : goal.returns-in_default-clause-err
returns-in_default-clause-err g c = ap or_bad (value_ends-early (drop c.len-start.result c.loop-rest.kept.items) c.loop-rest.rest.now _ c.in_default.ensures.value c.loop-rest.invariant.reads)

pub loop-rest-preserved : goal.loop-rest-preserved
loop-rest-preserved g c =
    let value = drop c.len-start.result c.loop-rest.kept.items in
    let longer = drop c.len-start.result c.append_part.new.kept.items in
    let grown = c.in_ok-append_part.ensures.value ∙ ap (with_part value) c.trim.ensures in
    record {
      begins = c.in_ok-append_part.ensures.begins ∙ c.loop-rest.invariant.begins;
      long = omega (arith, c.in_ok-append_part.ensures.longer);
      reads = value_with_part value longer c.loop-rest.rest.now c.in-Some.line.now c.in-Some.after.now _ c.in-Some.ensures.value (sym c.begins_with_space.ensures ∙ c.loop-rest-test.true) grown c.loop-rest.invariant.reads;
      front = ap begins_with_space grown ∙ part_front value _ c.loop-rest.invariant.front (trim_front c.in-Some.line.now);
      end = end_later c.args.text.now c.loop-rest.rest.now (ended c.in-Some.line.now) c.in-Some.after.now c.in-Some.ensures.found.1 c.loop-rest.invariant.end;
    }

pub returns-clause-ok : goal.returns-clause-ok
returns-clause-ok g c =
    let value = drop c.len-start.result c.loop-rest.kept.items in
    value_ends value c.loop-rest.rest.now _ (sym c.begins_with_space.ensures ∙ c.loop-rest-test.false) c.loop-rest.invariant.reads ∙ ap (λ (v : List ℕ). valued v (headers_at c.loop-rest.rest.now)) (sym (rw c.deref.ensures.value at c.trimmed_place.ensures.value))
