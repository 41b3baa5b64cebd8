use Rattle.std.proofs.Common.{sym, ◌∙◌, arith, true, false}
use Rattle.heap_model.specs.Sections.{undo_action}
use Rattle.dependence.proofs.Pairs.{released}
use Rattle.dependence.proofs.links.if_freed.Goals as goal

pub returns-then-takes_what_frees : goal.returns-then-takes_what_frees
returns-then-takes_what_frees c = released c.args.steps.now (undo_action c.args.next.entry) c.args.release c.index-steps-release.result true (omega arith) (omega arith) (sym c.if-takes_what_frees.true ∙ c.takes_what_frees.ensures)

pub returns-else-takes_what_frees : goal.returns-else-takes_what_frees
returns-else-takes_what_frees c = released c.args.steps.now (undo_action c.args.next.entry) c.args.release c.index-steps-release.result false (omega arith) (omega arith) (sym c.if-takes_what_frees.false ∙ c.takes_what_frees.ensures)
