use Rattle.image_parts.specs.declared.slot.Slot.TheVariants.{A, B}
use Rattle.image_parts.proofs.Heads.{both_slots}
use Rattle.image_parts.proofs.head.has_control.Goals as goal

pub returns-then-counts : goal.returns-then-counts
returns-then-counts c = (λ no. let yes = c.if-counts.true in absurd cc, λ none. c.counts.ensures.1 (none A))

pub returns-else-counts : goal.returns-else-counts
returns-else-counts c = (λ no. both_slots c.args.begun.now (c.counts.ensures.0 c.if-counts.false) (c.counts-else-counts.ensures.0 no), λ none. c.counts-else-counts.ensures.1 (none B))
