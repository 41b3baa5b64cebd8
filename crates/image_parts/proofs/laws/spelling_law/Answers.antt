use Rattle.image_parts.proofs.Reading.{one_layout, one_control}
use Rattle.image_parts.proofs.GuardLemmas.{one_guard}
use Rattle.image_parts.proofs.laws.spelling_law.Goals as goal

pub returns-clause-header : goal.returns-clause-header
returns-clause-header c = one_layout

pub returns-clause-guard_row : goal.returns-clause-guard_row
returns-clause-guard_row c = one_guard

pub returns-clause-control : goal.returns-clause-control
returns-clause-control c = one_control
