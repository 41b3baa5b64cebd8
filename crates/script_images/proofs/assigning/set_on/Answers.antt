use Rattle.std.proofs.Common.{List, ℕ, ap, inl, inr, refl, subst}
use Rattle.std.proofs.KnownBytes.{Appends-nil}
use Rattle.std.specs.Io.KnownBytes.{Appends}
use Rattle.script_play.specs.Runs.{AppendsPart}
use Rattle.image_file.specs.Images.{IsThere}
use Rattle.image_file.proofs.BesideLemmas.{stays_after}
use Rattle.script_images.specs.declared.error.SetFault.TheVariants.{Run}
use Rattle.script_images.proofs.ValueLemmas.{still_there}
use Rattle.script_images.proofs.assigning.set_on.Goals as goal

pub returns-in-Err-clause-ends : goal.returns-in-Err-clause-ends
returns-in-Err-clause-ends g c = inl (record { refused = c.in-Err.ensures.refused; same = c.in-Err.ensures.same; silent = Appends-nil (g.W.Write.contents c.args.writer.now) })

pub returns-in-Err-put_image-clause-ends : goal.returns-in-Err-put_image-clause-ends
returns-in-Err-put_image-clause-ends g c = inr (inl (record {
  left = c.in-Ok.played.image.items;
  text = c.in-Ok.played.text.items;
  fields = c.in-Ok.ensures.ok;
  unput = (c.in-Err-put_image.why, ap Run c.of_file.ensures);
  stays = still_there _ _ _ _ _ c.in-Ok.ensures.same c.deref.ensures.value c.in-Err-put_image.ensures.err;
  silent = Appends-nil (g.W.Write.contents c.args.writer.now);
}))

pub returns-in-Ok-put-clause-ends : goal.returns-in-Ok-put-clause-ends
returns-in-Ok-put-clause-ends g c = record {
  left = c.in-Ok.played.image.items;
  text = c.in-Ok.played.text.items;
  fields = c.in-Ok.ensures.ok;
  is_there = subst (λ (l : List ℕ). IsThere l (g.P.Images.holds c.put_image.new.images c.args.path.now)) c.deref.ensures.value c.in_default.ensures.ok;
  written = subst (λ (l : List ℕ). Appends (g.W.Write.contents c.args.writer.now) (g.W.Write.contents c.put.new.writer) l) c.deref-2.ensures.value c.in-Ok-put.ensures.ok;
}

pub returns-clause-ends : goal.returns-clause-ends
returns-clause-ends g c = inr (inr (record {
  write = refl;
  left = c.in-Ok.played.image.items;
  text = c.in-Ok.played.text.items;
  fields = c.in-Ok.ensures.ok;
  is_there = subst (λ (l : List ℕ). IsThere l (g.P.Images.holds c.put_image.new.images c.args.path.now)) c.deref.ensures.value c.in_default.ensures.ok;
  part = subst (λ (l : List ℕ). AppendsPart (g.W.Write.contents c.args.writer.now) (g.W.Write.contents c.put.new.writer) l) c.deref-2.ensures.value c.in-Err-put.ensures.part;
}))

pub returns-in-Err-put_image-clause-beside : goal.returns-in-Err-put_image-clause-beside
returns-in-Err-put_image-clause-beside g c = stays_after c.set_there.ensures.beside c.put_image.ensures.beside

pub returns-in-Ok-put-clause-beside : goal.returns-in-Ok-put-clause-beside
returns-in-Ok-put-clause-beside g c = stays_after c.set_there.ensures.beside c.put_image.ensures.beside

pub returns-clause-beside : goal.returns-clause-beside
returns-clause-beside g c = stays_after c.set_there.ensures.beside c.put_image.ensures.beside
