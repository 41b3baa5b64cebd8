use Rattle.std.proofs.Common.{◌∙◌, sym}
use Rattle.inspect.proofs.ReasonLemmas.{reason_here, reason_later}
use Rattle.inspect.proofs.reasons.reason_of.Goals as goal

pub loop-entry-preserved : goal.loop-entry-preserved
loop-entry-preserved c =
    sym (reason_later c.args.dropped.now c.args.section c.loop-entry.entry-index _ c.loop-entry-test.true (sym c.is_about.ensures ∙ c.if-is_about.false)) ∙ c.loop-entry.invariant

pub returns-then-is_about : goal.returns-then-is_about
returns-then-is_about c =
    sym (reason_here c.args.dropped.now c.args.section c.loop-entry.entry-index _ c.loop-entry-test.true (sym c.is_about.ensures ∙ c.if-is_about.true)) ∙ c.loop-entry.invariant
