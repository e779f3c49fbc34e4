use Rattle.sip_digest.proofs.Common.{◌≡◌, Some, None, sym, ap, ◌∙◌, option_copied, option_map, read_element}
use Rattle.sip_digest.specs.inner.SeenFields.{seen_fields, seen_param}
use Rattle.sip_digest.proofs.NamedFields.{at_end, at_fault, next_field}
use Rattle.sip_digest.proofs.fields.fields_of.Goals as goal

pub returns-in_default-read_element-clause-fields : goal.returns-in_default-read_element-clause-fields
returns-in_default-read_element-clause-fields c =
    let h = c.loop-rest.invariant.0 in
    let none : None ≡ read_element c.cut_element.result.0.now = sym (ap (option_map seen_param) c.in_default-read_element.is) ∙ c.read_element.ensures in
    (at_fault c.args.list.now c.in-Some.text.now c.cut_element.result.0.now (option_copied c.cut_element.result.1) (seen_fields c.loop-rest.fields) (rw c.in-Some.is at h) c.cut_element.ensures.value none).0

pub returns-in_default-read_element-clause-whole : goal.returns-in_default-read_element-clause-whole
returns-in_default-read_element-clause-whole c =
    let h = c.loop-rest.invariant.0 in
    let none : None ≡ read_element c.cut_element.result.0.now = sym (ap (option_map seen_param) c.in_default-read_element.is) ∙ c.read_element.ensures in
    c.loop-rest.invariant.1
    ∙ (at_fault c.args.list.now c.in-Some.text.now c.cut_element.result.0.now (option_copied c.cut_element.result.1) (seen_fields c.loop-rest.fields) (rw c.in-Some.is at h) c.cut_element.ensures.value none).1

pub loop-rest-preserved : goal.loop-rest-preserved
loop-rest-preserved c =
    let h = c.loop-rest.invariant.0 in
    let param = seen_param (c.in-Some-read_element.name, c.in-Some-read_element.value) in
    let some : Some param ≡ read_element c.cut_element.result.0.now = sym (ap (option_map seen_param) c.in-Some-read_element.is) ∙ c.read_element.ensures in (
      next_field c.args.list.now c.in-Some.text.now c.cut_element.result.0.now (option_copied c.cut_element.result.1) param (seen_fields c.loop-rest.fields) (seen_fields c.with_param-fields.result) (rw c.in-Some.is at h) c.cut_element.ensures.value some c.with_param-fields.ensures.fields,
      c.with_param-fields.ensures.part,
    )

pub returns-clause-fields : goal.returns-clause-fields
returns-clause-fields c =
    let h = c.loop-rest.invariant.0 in
    let none : option_copied c.loop-rest.rest ≡ None = ap option_copied c.in_default.is in
    c.whole.ensures.fields ∙ (at_end c.args.list.now (option_copied c.loop-rest.rest) (seen_fields c.loop-rest.fields) h none).0
