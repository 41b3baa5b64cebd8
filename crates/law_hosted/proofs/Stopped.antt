-- After a fault the disk stays, so what a crash keeps of it stays too.
use Rattle.std.proofs.Common.{ap, subst}
use Rattle.disk_deferred.specs.Deferred.{Deferred}
use Rattle.law_hosted.specs.Running.{HostRunLaw}
use Rattle.law_hosted.specs.Safe.{LeavesSince}
use Rattle.law_hosted.specs.Stopped.{StillClosingLaw, StillRoundLaw}

pub still_round : HostRunLaw → StillRoundLaw
still_round runs x y answer p old seen c image on failed makes since =
    let same = ((makes on.run.now on.serves).still failed).1 in
    runs x.home p old x.helper seen c image on (subst (λ (d : Deferred). LeavesSince old d c image) (ap (λ s. s.disk) same) since)

pub still_closing : HostRunLaw → StillClosingLaw
still_closing runs h x ended answer p old seen c image on failed met since =
    runs h p old x seen c image on (subst (λ (d : Deferred). LeavesSince old d c image) ((met on.run.now on.serves).still failed) since)
