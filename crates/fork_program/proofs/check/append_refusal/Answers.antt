use Rattle.fork_program.proofs.Common.{Err, refl, ap}
use Rattle.fork_listing.specs.declared.refusal.CheckFault.TheVariants.{Line, Tree, Order, Absent}
use Rattle.fork_program.proofs.Answering.{appends_fault, appends_final_line}
use Rattle.fork_program.proofs.check.append_refusal.Goals as goal

pub returns-in-Line-clause-appended : goal.returns-in-Line-clause-appended
returns-in-Line-clause-appended g c =
    appends_fault c.append_fault.result (Err c.args.fault) (Err (Line c.in-Line.number)) _ _ _ (ap Err c.in-Line.is) c.append_fault.ensures.appended (λ status e. (e, refl))

pub returns-in-Tree-clause-appended : goal.returns-in-Tree-clause-appended
returns-in-Tree-clause-appended g c =
    appends_fault c.append_fault-in-Tree.result (Err c.args.fault) (Err (Tree c.in-Tree.number)) _ _ _ (ap Err c.in-Tree.is) c.append_fault-in-Tree.ensures.appended (λ status e. (e, refl))

pub returns-in-Order-clause-appended : goal.returns-in-Order-clause-appended
returns-in-Order-clause-appended g c =
    appends_fault c.append_fault-in-Order.result (Err c.args.fault) (Err (Order c.in-Order.number)) _ _ _ (ap Err c.in-Order.is) c.append_fault-in-Order.ensures.appended (λ status e. (e, refl))

pub returns-in-Absent-clause-appended : goal.returns-in-Absent-clause-appended
returns-in-Absent-clause-appended g c =
    appends_fault c.append_fault-in-Absent.result (Err c.args.fault) (Err (Absent c.in-Absent.n)) _ _ _ (ap Err c.in-Absent.is) c.append_fault-in-Absent.ensures.appended (λ status e. (e, refl))

pub returns-in_ok-extend_from_slice-in-FinalLine-clause-appended : goal.returns-in_ok-extend_from_slice-in-FinalLine-clause-appended
returns-in_ok-extend_from_slice-in-FinalLine-clause-appended g c =
    appends_final_line c.args.fault _ _ c.in-FinalLine.is c.in_ok-extend_from_slice-in-FinalLine.ensures.items
