use Rattle.disk_sectors.proofs.two_places.TwoPlaces.holding.Goals as goal

pub invariant_of-result : goal.invariant_of-result
invariant_of-result g c = rw (c.of-trace.ensures, c.deref.ensures.value) (c.requires.size, c.requires.kept)
