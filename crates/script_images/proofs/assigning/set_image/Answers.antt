use Rattle.std.proofs.Common.{ap, inl}
use Rattle.std.proofs.KnownBytes.{Appends-nil}
use Rattle.script_images.specs.declared.error.SetFault.TheVariants.{Run}
use Rattle.image_file.proofs.BesideLemmas.{stays_after}
use Rattle.script_images.proofs.assigning.set_image.Goals as goal

pub returns-in-Err-clause-ends : goal.returns-in-Err-clause-ends
returns-in-Err-clause-ends g c = inl (record {
  refused = inl (c.in-Err.why, ap Run c.of_file.ensures);
  same = c.place_for.ensures.same;
  silent = Appends-nil (g.W.Write.contents c.args.writer.now);
})

pub returns-in-Ok-clause-beside : goal.returns-in-Ok-clause-beside
returns-in-Ok-clause-beside g c = stays_after c.place_for.ensures.beside c.set_on.ensures.beside
