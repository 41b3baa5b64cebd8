use Rattle.store_helper_sections.proofs.Standing.{stands_shown}
use Rattle.store_helper_sections.proofs.laws.shown_heap_law.Goals as goal

pub returns : goal.returns
returns c = λ l s records image values going shown size are. stands_shown l s records image going shown values size are
