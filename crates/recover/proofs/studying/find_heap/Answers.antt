use Rattle.recover.proofs.StudyLemmas.{stands_if, undone_if}
use Rattle.recover.proofs.studying.find_heap.Goals as goal

pub returns-clause-stands : goal.returns-clause-stands
returns-clause-stands g c =
    stands_if (g.D.Disk.device c.args.disk.now).now.bytes c.args.image.now c.deref.result.now c.deref-2.result.now c.deref.ensures.value c.deref-2.ensures.value c.old_heap.result
    c.requires.holds c.old_heap.ensures.size c.old_heap.ensures.takes

pub returns-clause-undone : goal.returns-clause-undone
returns-clause-undone g c =
    undone_if (g.D.Disk.device c.args.disk.now).now.bytes c.args.image.now c.deref.result.now c.deref-2.result.now c.deref.ensures.value c.deref-2.ensures.value c.old_heap.result c.old_heap.ensures.undone
