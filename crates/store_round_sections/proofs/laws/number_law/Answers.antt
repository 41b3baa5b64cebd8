use Rattle.store_round_sections.proofs.Numbers.{room_before}
use Rattle.store_round_sections.proofs.laws.number_law.Goals as goal

pub returns : goal.returns
returns c = λ s log next f legal whole closed stored. room_before s log next legal whole closed f stored
