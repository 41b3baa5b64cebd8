use Rattle.std.proofs.lemmas.Result.{err_from_is_err_and}
use Rattle.image_salvage.proofs.CellLemmas.{refused_values}
use Rattle.image_salvage.proofs.cells.read_cells.Goals as goal

pub returns-in_err-values-clause-exact : goal.returns-in_err-values-clause-exact
returns-in_err-values-clause-exact g c =
    let e = c.in_err-values.field-0.0 in
    let p = err_from_is_err_and c.from_residual-in_err-values.result c.from_residual-in_err-values.ensures.1 in
    rw (p.1, p.2) (refused_values (g.D.Disk.device c.args.disk.now).now.bytes e c.in_err-values.ensures.no_other)
