use Rattle.script_machine.proofs.SchemaLemmas.{disk_of}
use Rattle.script_machine.proofs.laws.disk_law.Goals as goal

pub returns : goal.returns
returns c = disk_of
