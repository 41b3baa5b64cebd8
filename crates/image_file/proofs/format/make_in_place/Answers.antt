use Rattle.std.proofs.Common.{inl}
use Rattle.image_file.proofs.PlaceLemmas.{not_replaced, reads_left, stays_same}
use Rattle.image_file.proofs.format.make_in_place.Goals as goal

pub returns-in-Ok-replace-clause-there : goal.returns-in-Ok-replace-clause-there
returns-in-Ok-replace-clause-there g c =
    reads_left (g.D.Disk.device c.in-Ok.made.0) (g.P.Images.holds c.replace.new.self c.args.path.now) c.in-Ok.ensures.durable c.in-Ok-replace.ensures.ok

pub returns-in-Err-replace-clause-kept : goal.returns-in-Err-replace-clause-kept
returns-in-Err-replace-clause-kept g c =
    not_replaced c.args.schema.now c.args.new c.in-Ok.made.1 (g.D.Disk.device c.in-Ok.made.0) _ _ (g.P.Images.holds c.replace.new.self c.args.path.now)
    c.in-Ok.ensures.ok c.in-Ok.ensures.durable c.formatted.ensures.same c.in-Err-replace.ensures.err

pub returns-in-Err-clause-kept : goal.returns-in-Err-clause-kept
returns-in-Err-clause-kept g c = inl (stays_same _ _ c.formatted.ensures.same)
