use Rattle.script_declarations.proofs.NameLemmas.{lines_have_names}
use Rattle.script_declarations.proofs.TextLemmas.{schema_text_declares}
use Rattle.script_declarations.proofs.laws.schema_text_law.Goals as goal

pub returns-clause-text : goal.returns-clause-text
returns-clause-text c = schema_text_declares

pub returns-clause-names : goal.returns-clause-names
returns-clause-names c = lines_have_names
