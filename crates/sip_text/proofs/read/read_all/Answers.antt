use Rattle.sip_text.proofs.Common.{◌∙◌, ap, ended, headers_in, line_at}
use Rattle.sip_text.specs.declared.needed.MandatoryHeader.TheVariants.{CSeq}
use Rattle.sip_lex.proofs.Parts.{end_later}
use Rattle.sip_text.proofs.Heads.{HeadRead, body_read, cseq_is, cseq_wrong, head_good, lacks_read, start_is}
use Rattle.sip_text.proofs.NeededFields.{missing_found}
use Rattle.sip_text.proofs.read.read_all.Goals as goal

pub headers_of-requires-clause-end : goal.headers_of-requires-clause-end
headers_of-requires-clause-end g c = end_later c.args.text.now c.skip_line_ends-begin.result.now (ended c.in-Some.line.now) c.in-Some.rest.now c.in-Some.ensures.found.1 c.skip_line_ends-begin.ensures.end

pub returns-in-Some-missing : goal.returns-in-Some-missing
returns-in-Some-missing g c =
    let text = c.args.text.now in
    let begin = c.skip_line_ends-begin.result.now in
    let line = c.in-Some.line.now in
    let rest = c.in-Some.rest.now in
    let behind = c.in_ok-lines.rest.now in
    let kept = c.headers_of.new.kept.items in
    let places = c.in_ok-places.places in
    let lines = c.in_ok-lines.lines.items in
    let read : HeadRead text begin line rest behind kept places lines = record {
      first = record { end = c.skip_line_ends-begin.ensures.end; whole = c.in-Some.ensures.found.1 };
      is_line = c.in-Some.ensures.found.0;
      at = c.in-Some.ensures.value ∙ ap line_at c.skip_line_ends-begin.ensures.value;
      start = c.in_ok-places.ensures.value;
      within = c.in_ok-places.ensures.within;
      begins = c.in_ok-lines.ensures.begins;
      headers = c.in_ok-lines.ensures.value;
    } in
    let found = rw (c.deref.ensures.value, c.deref-2.ensures.value) at c.found_in-found.ensures in
    lacks_read text begin line rest behind kept places lines read c.in-Some-missing.name (c.in-Some-missing.ensures kept ∙ missing_found kept (headers_in kept lines) c.found_in-found.result found)

pub returns-then-not-cseq_fits : goal.returns-then-not-cseq_fits
returns-then-not-cseq_fits g c =
    let text = c.args.text.now in
    let begin = c.skip_line_ends-begin.result.now in
    let line = c.in-Some.line.now in
    let rest = c.in-Some.rest.now in
    let behind = c.in_ok-lines.rest.now in
    let kept = c.headers_of.new.kept.items in
    let places = c.in_ok-places.places in
    let lines = c.in_ok-lines.lines.items in
    let read : HeadRead text begin line rest behind kept places lines = record {
      first = record { end = c.skip_line_ends-begin.ensures.end; whole = c.in-Some.ensures.found.1 };
      is_line = c.in-Some.ensures.found.0;
      at = c.in-Some.ensures.value ∙ ap line_at c.skip_line_ends-begin.ensures.value;
      start = c.in_ok-places.ensures.value;
      within = c.in_ok-places.ensures.within;
      begins = c.in_ok-lines.ensures.begins;
      headers = c.in_ok-lines.ensures.value;
    } in
    let found = rw (c.deref.ensures.value, c.deref-2.ensures.value) at c.found_in-found.ensures in
    let needed = c.in_default-missing.ensures kept ∙ missing_found kept (headers_in kept lines) c.found_in-found.result found in
    let same = rw c.deref-3.ensures.value at c.start_within.ensures in
    let value = rw c.deref-4.ensures.value at c.cseq.ensures in
    let fits = cseq_is text begin line rest behind kept places lines read _ _ _ c.cseq_fits.ensures (same ∙ start_is text begin line rest behind kept places lines read c.moved-start.result c.moved-start.ensures) (value ∙ found.needed CSeq) in
    cseq_wrong text begin line rest behind kept places lines read needed (fits ∙ c.if-not-cseq_fits.true)

pub body_of-requires-clause-head : goal.body_of-requires-clause-head
body_of-requires-clause-head g c =
    let text = c.args.text.now in
    let begin = c.skip_line_ends-begin.result.now in
    let line = c.in-Some.line.now in
    let rest = c.in-Some.rest.now in
    let behind = c.in_ok-lines.rest.now in
    let kept = c.headers_of.new.kept.items in
    let places = c.in_ok-places.places in
    let lines = c.in_ok-lines.lines.items in
    let read : HeadRead text begin line rest behind kept places lines = record {
      first = record { end = c.skip_line_ends-begin.ensures.end; whole = c.in-Some.ensures.found.1 };
      is_line = c.in-Some.ensures.found.0;
      at = c.in-Some.ensures.value ∙ ap line_at c.skip_line_ends-begin.ensures.value;
      start = c.in_ok-places.ensures.value;
      within = c.in_ok-places.ensures.within;
      begins = c.in_ok-lines.ensures.begins;
      headers = c.in_ok-lines.ensures.value;
    } in
    let found = rw (c.deref.ensures.value, c.deref-2.ensures.value) at c.found_in-found.ensures in
    let needed = c.in_default-missing.ensures kept ∙ missing_found kept (headers_in kept lines) c.found_in-found.result found in
    let same = rw c.deref-3.ensures.value at c.start_within.ensures in
    let value = rw c.deref-4.ensures.value at c.cseq.ensures in
    let fits = cseq_is text begin line rest behind kept places lines read _ _ _ c.cseq_fits.ensures (same ∙ start_is text begin line rest behind kept places lines read c.moved-start.result c.moved-start.ensures) (value ∙ found.needed CSeq) in
    head_good text begin line rest behind kept places lines read c.moved-start.result c.moved-start.ensures needed (fits ∙ c.if-not-cseq_fits.false)

pub returns : goal.returns
returns g c =
    let text = c.args.text.now in
    let begin = c.skip_line_ends-begin.result.now in
    let line = c.in-Some.line.now in
    let rest = c.in-Some.rest.now in
    let behind = c.in_ok-lines.rest.now in
    let kept = c.headers_of.new.kept.items in
    let places = c.in_ok-places.places in
    let lines = c.in_ok-lines.lines.items in
    let read : HeadRead text begin line rest behind kept places lines = record {
      first = record { end = c.skip_line_ends-begin.ensures.end; whole = c.in-Some.ensures.found.1 };
      is_line = c.in-Some.ensures.found.0;
      at = c.in-Some.ensures.value ∙ ap line_at c.skip_line_ends-begin.ensures.value;
      start = c.in_ok-places.ensures.value;
      within = c.in_ok-places.ensures.within;
      begins = c.in_ok-lines.ensures.begins;
      headers = c.in_ok-lines.ensures.value;
    } in
    let found = rw (c.deref.ensures.value, c.deref-2.ensures.value) at c.found_in-found.ensures in
    let needed = c.in_default-missing.ensures kept ∙ missing_found kept (headers_in kept lines) c.found_in-found.result found in
    let same = rw c.deref-3.ensures.value at c.start_within.ensures in
    let value = rw c.deref-4.ensures.value at c.cseq.ensures in
    let fits = cseq_is text begin line rest behind kept places lines read _ _ _ c.cseq_fits.ensures (same ∙ start_is text begin line rest behind kept places lines read c.moved-start.result c.moved-start.ensures) (value ∙ found.needed CSeq) in
    body_read text begin line rest behind kept places lines read c.moved-start.result c.place_at_end-rest.result c.found_in-found.result.length c.body_of.result c.moved-start.ensures needed (fits ∙ c.if-not-cseq_fits.false) c.place_at_end-rest.ensures.within c.place_at_end-rest.ensures.part found.length c.body_of.ensures
