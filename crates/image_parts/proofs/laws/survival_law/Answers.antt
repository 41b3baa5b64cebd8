use Rattle.image_parts.proofs.Places.{header_survives, guards_survive, cell_survives, home_survives}
use Rattle.image_parts.proofs.SlotLemmas.{shows_survives}
use Rattle.image_parts.proofs.laws.survival_law.Goals as goal

pub returns-clause-header : goal.returns-clause-header
returns-clause-header c = header_survives

pub returns-clause-guards : goal.returns-clause-guards
returns-clause-guards c = guards_survive

pub returns-clause-control : goal.returns-clause-control
returns-clause-control c = shows_survives

pub returns-clause-cell : goal.returns-clause-cell
returns-clause-cell c = cell_survives

pub returns-clause-home : goal.returns-clause-home
returns-clause-home c = home_survives
