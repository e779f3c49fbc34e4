use Rattle.sip_text.proofs.Common.{◌∙◌, false, sym, true}
use Rattle.sip_text.specs.declared.needed.MandatoryHeader.TheVariants.{Via, From, To, CallId, CSeq}
use Rattle.sip_text.proofs.NeededFields.{length_named, length_no_needed, needed_alone, needed_no_length, none_named}
use Rattle.sip_text.proofs.found.spelled_field.Goals as goal

pub returns-then-is_full_name-clause-needed : goal.returns-then-is_full_name-clause-needed
returns-then-is_full_name-clause-needed c = needed_alone c.args.name.now Via (rw c.full_name-name.ensures at (sym c.is_full_name.ensures ∙ c.if-is_full_name.true))

pub returns-then-is_full_name-clause-length : goal.returns-then-is_full_name-clause-length
returns-then-is_full_name-clause-length c = needed_no_length c.args.name.now Via (rw c.full_name-name.ensures at (sym c.is_full_name.ensures ∙ c.if-is_full_name.true))

pub returns-then-is_full_name-2-clause-needed : goal.returns-then-is_full_name-2-clause-needed
returns-then-is_full_name-2-clause-needed c = needed_alone c.args.name.now From (rw c.full_name-name.ensures at (sym c.is_full_name-else-is_full_name.ensures ∙ c.if-is_full_name-2.true))

pub returns-then-is_full_name-2-clause-length : goal.returns-then-is_full_name-2-clause-length
returns-then-is_full_name-2-clause-length c = needed_no_length c.args.name.now From (rw c.full_name-name.ensures at (sym c.is_full_name-else-is_full_name.ensures ∙ c.if-is_full_name-2.true))

pub returns-then-is_full_name-3-clause-needed : goal.returns-then-is_full_name-3-clause-needed
returns-then-is_full_name-3-clause-needed c = needed_alone c.args.name.now To (rw c.full_name-name.ensures at (sym c.is_full_name-else-is_full_name-2.ensures ∙ c.if-is_full_name-3.true))

pub returns-then-is_full_name-3-clause-length : goal.returns-then-is_full_name-3-clause-length
returns-then-is_full_name-3-clause-length c = needed_no_length c.args.name.now To (rw c.full_name-name.ensures at (sym c.is_full_name-else-is_full_name-2.ensures ∙ c.if-is_full_name-3.true))

pub returns-then-is_full_name-4-clause-needed : goal.returns-then-is_full_name-4-clause-needed
returns-then-is_full_name-4-clause-needed c = needed_alone c.args.name.now CallId (rw c.full_name-name.ensures at (sym c.is_full_name-else-is_full_name-3.ensures ∙ c.if-is_full_name-4.true))

pub returns-then-is_full_name-4-clause-length : goal.returns-then-is_full_name-4-clause-length
returns-then-is_full_name-4-clause-length c = needed_no_length c.args.name.now CallId (rw c.full_name-name.ensures at (sym c.is_full_name-else-is_full_name-3.ensures ∙ c.if-is_full_name-4.true))

pub returns-then-is_full_name-5-clause-needed : goal.returns-then-is_full_name-5-clause-needed
returns-then-is_full_name-5-clause-needed c = needed_alone c.args.name.now CSeq (rw c.full_name-name.ensures at (sym c.is_full_name-else-is_full_name-4.ensures ∙ c.if-is_full_name-5.true))

pub returns-then-is_full_name-5-clause-length : goal.returns-then-is_full_name-5-clause-length
returns-then-is_full_name-5-clause-length c = needed_no_length c.args.name.now CSeq (rw c.full_name-name.ensures at (sym c.is_full_name-else-is_full_name-4.ensures ∙ c.if-is_full_name-5.true))

pub returns-then-is_full_name-6-clause-needed : goal.returns-then-is_full_name-6-clause-needed
returns-then-is_full_name-6-clause-needed c = length_no_needed c.args.name.now (rw c.full_name-name.ensures at (sym c.is_full_name-else-is_full_name-5.ensures ∙ c.if-is_full_name-6.true))

pub returns-then-is_full_name-6-clause-length : goal.returns-then-is_full_name-6-clause-length
returns-then-is_full_name-6-clause-length c = length_named c.args.name.now true (rw c.full_name-name.ensures at (sym c.is_full_name-else-is_full_name-5.ensures ∙ c.if-is_full_name-6.true))

pub returns-else-is_full_name-6-clause-needed : goal.returns-else-is_full_name-6-clause-needed
returns-else-is_full_name-6-clause-needed c = none_named c.args.name.now (rw c.full_name-name.ensures at (sym c.is_full_name.ensures ∙ c.if-is_full_name.false)) (rw c.full_name-name.ensures at (sym c.is_full_name-else-is_full_name.ensures ∙ c.if-is_full_name-2.false)) (rw c.full_name-name.ensures at (sym c.is_full_name-else-is_full_name-2.ensures ∙ c.if-is_full_name-3.false)) (rw c.full_name-name.ensures at (sym c.is_full_name-else-is_full_name-3.ensures ∙ c.if-is_full_name-4.false)) (rw c.full_name-name.ensures at (sym c.is_full_name-else-is_full_name-4.ensures ∙ c.if-is_full_name-5.false))

pub returns-else-is_full_name-6-clause-length : goal.returns-else-is_full_name-6-clause-length
returns-else-is_full_name-6-clause-length c = length_named c.args.name.now false (rw c.full_name-name.ensures at (sym c.is_full_name-else-is_full_name-5.ensures ∙ c.if-is_full_name-6.false))
