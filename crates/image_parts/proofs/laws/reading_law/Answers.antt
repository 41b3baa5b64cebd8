use Rattle.image_parts.proofs.Reading.{header_is_read, guards_are_read, control_is_chosen, cell_is_read, home_is_read}
use Rattle.image_parts.proofs.laws.reading_law.Goals as goal

pub returns-clause-header : goal.returns-clause-header
returns-clause-header c = header_is_read

pub returns-clause-guards : goal.returns-clause-guards
returns-clause-guards c = guards_are_read

pub returns-clause-control : goal.returns-clause-control
returns-clause-control c = control_is_chosen

pub returns-clause-cell : goal.returns-clause-cell
returns-clause-cell c = cell_is_read

pub returns-clause-home : goal.returns-clause-home
returns-clause-home c = home_is_read
