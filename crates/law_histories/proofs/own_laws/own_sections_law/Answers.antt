use Rattle.std.proofs.Common.{map, ap, ◌∙◌}
use Rattle.heap_model.specs.History.{log_of}
use Rattle.heap_model.specs.Sections.{action}
use Rattle.law_histories.proofs.OwnLog.{own_log_is}
use Rattle.law_cuts.proofs.Lanes.{lane_actions}
use Rattle.law_histories.proofs.own_laws.own_sections_law.Goals as goal

pub returns : goal.returns
returns c g history t = lane_actions t (log_of g history) ∙ ap (map action) (own_log_is g history t)
