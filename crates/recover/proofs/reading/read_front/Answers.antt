use Rattle.std.proofs.lemmas.Result.{err_from_is_err_and}
use Rattle.recover.proofs.ReadingLemmas.{stray_mark}
use Rattle.recover.proofs.reading.read_front.Goals as goal

pub returns-in_err-test_marks-clause-exact : goal.returns-in_err-test_marks-clause-exact
returns-in_err-test_marks-clause-exact g c =
    let p = err_from_is_err_and c.from_residual-in_err-test_marks.result c.from_residual-in_err-test_marks.ensures.1 in
    rw (p.1, p.2) (stray_mark (g.D.Disk.device c.args.disk.now) (g.D.Disk.device c.find_layout.new.disk) (g.D.Disk.device c.find_guards.new.disk) c.in_ok-layout.layout c.in_ok-guards.guards.items c.deref.result.now
    c.in_ok-slot.slot c.in_ok-slot.control c.in_err-test_marks.field-0.0 c.find_layout.ensures.same c.find_guards.ensures.same c.in_ok-layout.ensures.exact c.in_ok-guards.ensures.exact c.in_ok-slot.ensures.exact
    c.deref.ensures.value c.in_err-test_marks.ensures.exact c.in_err-test_marks.ensures.only)
