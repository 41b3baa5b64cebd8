use Rattle.std.proofs.Common.{ap, length, ◌∙◌}
use Rattle.image_schema.proofs.FitLemmas.{heap_length}
use Rattle.image_schema.proofs.dumping.dump_study.Goals as goal

pub write_schema-written-requires : goal.write_schema-written-requires
write_schema-written-requires g c = ap length c.deref.ensures.value ∙ heap_length c.args.study.now c.requires ∙ c.in-Ok.ensures.fits.fields
