use Rattle.std.proofs.lemmas.List.Elements.{All-weaker}
use Rattle.store_round_sections.specs.Adding.{IsKept}
use Rattle.store_round_sections.specs.Sections.{HasNumber}
use Rattle.store_round_sections.proofs.Numbers.{has_number}
use Rattle.store_round_sections.proofs.laws.first_law.Goals as goal

pub returns : goal.returns
returns c = λ s log next guards first changed are. All-weaker (IsKept s log next) (HasNumber guards first) (λ x kept. has_number s log next guards first changed are x kept) changed are.each
