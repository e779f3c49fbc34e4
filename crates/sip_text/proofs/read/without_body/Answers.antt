use Rattle.sip_text.proofs.Common.{◌∙◌, headers_in, refl}
use Rattle.sip_text.proofs.Zeroed.{written_back, zeroed_kept}
use Rattle.sip_text.proofs.read.without_body.Goals as goal

pub of_places-requires : goal.of_places-requires
of_places-requires g c =
    let grown = c.extend_from_slice.new.self.items in
    let lines = c.args.lines.items in
    let new = c.zero_all.new.lines in
    let value = rw (c.deref.ensures.value, c.deref_mut.ensures.value) at c.zero_all.ensures.value in
    let still = rw c.deref.ensures.value at c.zero_all.ensures.still in
    let back = written_back lines new (headers_in grown lines) grown c.args.lines.len c.args.lines.ok.0 value refl in
    rw back (zeroed_kept c.args.text.items grown c.args.start lines new c.requires.start c.requires.lines c.requires.head c.in_ok-extend_from_slice.ensures.items value still).1

pub returns : goal.returns
returns g c =
    let grown = c.extend_from_slice.new.self.items in
    let lines = c.args.lines.items in
    let new = c.zero_all.new.lines in
    let value = rw (c.deref.ensures.value, c.deref_mut.ensures.value) at c.zero_all.ensures.value in
    let still = rw c.deref.ensures.value at c.zero_all.ensures.still in
    let back = written_back lines new (headers_in grown lines) grown c.args.lines.len c.args.lines.ok.0 value refl in
    (rw back at c.of_places.ensures) ∙ (zeroed_kept c.args.text.items grown c.args.start lines new c.requires.start c.requires.lines c.requires.head c.in_ok-extend_from_slice.ensures.items value still).0
