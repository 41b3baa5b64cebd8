use Rattle.std.proofs.Common.{ap, length, ◌∙◌}
use Rattle.image_salvage.proofs.dumping_slot.write_study.Goals as goal

pub write_noted-written-requires : goal.write_noted-written-requires
write_noted-written-requires g c = ap length c.deref.ensures.value ∙ c.requires.of.stands.size ∙ c.in-Ok.ensures.fits.fields
