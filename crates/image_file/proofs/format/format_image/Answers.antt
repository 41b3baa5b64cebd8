use Rattle.std.proofs.Common.{ℕ, inr, subst, sym}
use Rattle.image_file.specs.Formatting.{PrintsSize, RefusesImage}
use Rattle.image_file.specs.declared.error.FormatError.{FormatError}
use Rattle.image_file.proofs.FormatLemmas.{schema_refused}
use Rattle.image_file.proofs.PlaceLemmas.{may_be_made}
use Rattle.image_file.proofs.format.format_image.Goals as goal

pub returns-in-Ok-print_size-clause-ok : goal.returns-in-Ok-print_size-clause-ok
returns-in-Ok-print_size-clause-ok g c =
    let made = c.in-Ok-tried.made in
    record {
      schema = c.in-Ok.schema;
      so = c.in-Ok.ensures.ok;
      layout = made.1;
      device = g.D.Disk.device made.0;
      image = c.in-Ok-tried.ensures.ok;
      there = c.in-Ok-tried.ensures.there;
      lies_so = c.in-Ok-tried.ensures.lies;
      printed = subst (λ (n : ℕ). PrintsSize n (g.W.Write.contents c.args.writer.now) (g.W.Write.contents c.print_size.new.writer)) c.size.ensures c.in-Ok-print_size.ensures.ok;
    }

pub returns-in-Err-clause-refused : goal.returns-in-Err-clause-refused
returns-in-Err-clause-refused g c =
    let old = g.S.Read.remaining c.args.reader.now in
    let new = g.S.Read.remaining c.read_schema.new.reader in
    subst (λ (e : FormatError). RefusesImage old new c.args.new.lanes c.args.new.capacity e) (sym c.told.ensures)
    (schema_refused old new c.args.new.lanes c.args.new.capacity c.in-Err.fault c.in-Err.ensures.refused)

pub returns-in-Err-tried-clause-kept : goal.returns-in-Err-tried-clause-kept
returns-in-Err-tried-clause-kept g c = may_be_made c.in-Ok.schema c.args.new _ _ c.in-Err-tried.ensures.kept

pub returns-in-Err-print_size-clause-kept : goal.returns-in-Err-print_size-clause-kept
returns-in-Err-print_size-clause-kept g c =
    let made = c.in-Ok-tried.made in
    inr (c.in-Ok.schema, made.1, g.D.Disk.device made.0, c.in-Ok-tried.ensures.ok, c.in-Ok-tried.ensures.there)
