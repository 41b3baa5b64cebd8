use Rattle.std.proofs.Common.{◌∙◌}
use Rattle.image_parts.proofs.head.layout_in.Goals as goal

pub returns-in-None-clause-none : goal.returns-in-None-clause-none
returns-in-None-clause-none c = λ l has. c.in-None.ensures.none l has.limits (c.header_in.ensures ∙ has.spelled)
