use Rattle.sip_text.proofs.Common.{◌∙◌, sym, arith, eqb-true, ended, header_in, headers_in}
use Rattle.std.proofs.lemmas.Bool.{eqb-false}
use Rattle.sip_lex.proofs.Parts.{end_later}
use Rattle.sip_text.proofs.HeaderPlaces.{begins_still, headers_pushed, kept_at, within_pushed}
use Rattle.sip_text.proofs.Tails.{headers_end-early, headers_end, headers_go_on, headers_fail}
use Rattle.sip_text.proofs.head.headers_of.Goals as goal

pub returns-in_default-clause-value : goal.returns-in_default-clause-value
returns-in_default-clause-value g c = headers_end-early (headers_in c.loop-line.kept.items c.loop-line.lines.items) c.loop-line.rest.now _ c.in_default.ensures.value c.loop-line.invariant.reads

pub returns-then-is_empty-clause-value : goal.returns-then-is_empty-clause-value
returns-then-is_empty-clause-value g c = headers_end (headers_in c.loop-line.kept.items c.loop-line.lines.items) c.loop-line.rest.now c.in-Some.line.now c.in-Some.after.now _ c.in-Some.ensures.value (eqb-true _ _ (sym c.is_empty.ensures ∙ c.if-is_empty.true)) c.loop-line.invariant.reads

pub returns-then-is_empty-clause-end : goal.returns-then-is_empty-clause-end
returns-then-is_empty-clause-end g c = end_later c.args.whole.now c.loop-line.rest.now (ended c.in-Some.line.now) c.in-Some.after.now c.in-Some.ensures.found.1 c.loop-line.invariant.end

pub header_of-requires-clause-line : goal.header_of-requires-clause-line
header_of-requires-clause-line g c = kept_at c.args.whole.now c.loop-line.kept.items c.loop-line.rest.now c.in-Some.line.now c.in-Some.after.now c.loop-line.invariant.begins c.loop-line.invariant.end c.in-Some.ensures.found.1

pub returns-in_err-places-clause-value : goal.returns-in_err-places-clause-value
returns-in_err-places-clause-value g c = grind (arith, headers_fail)

pub loop-line-preserved : goal.loop-line-preserved
loop-line-preserved g c =
    let kept = c.loop-line.kept.items in
    let new = c.header_of.new.kept.items in
    let lines = c.loop-line.lines.items in
    let rest = c.loop-line.rest.now in
    let line = c.in-Some.line.now in
    let after = c.in-Some.after.now in
    let behind = c.in_ok-places.behind.now in
    let found = c.in_ok-places.ensures in
    let so_far = c.loop-line.invariant in
    record {
      reads = headers_go_on (headers_in kept lines) (headers_in new c.push.new.self.items) (header_in new c.in_ok-places.places) rest line after behind _ c.in-Some.ensures.value (eqb-false _ _ (sym c.is_empty.ensures ∙ c.if-is_empty.false)) found.ok (headers_pushed kept new lines c.push.new.self.items c.in_ok-places.places found.begins so_far.within c.in_ok-push.ensures.items) so_far.reads;
      begins = begins_still c.args.whole.now kept new so_far.begins found.begins;
      within = within_pushed kept new lines c.push.new.self.items c.in_ok-places.places found.begins so_far.within found.within c.in_ok-push.ensures.items;
      end = end_later c.args.whole.now after found.end.0 behind found.end.1 (end_later c.args.whole.now rest (ended line) after c.in-Some.ensures.found.1 so_far.end);
    }
