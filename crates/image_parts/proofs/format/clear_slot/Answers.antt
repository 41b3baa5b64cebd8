use Rattle.std.proofs.Common.{◌∙◌, ℕ, replicate, ap}
use Rattle.image_parts.specs.Format.{closed_slot}
use Rattle.image_parts.proofs.format.clear_slot.Goals as goal

pub returns : goal.returns
unfolding closed_slot
returns c = c.fill.ensures.after (λ y is. is) ∙ ap (λ (n : ℕ). replicate n 0) c.requires
