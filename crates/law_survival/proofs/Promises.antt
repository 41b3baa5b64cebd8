-- What recovery says by itself, of either answer.
use Rattle.std.proofs.Common.{Result, Ok, Err, IfErr, IfOk, MatchResult}
use Rattle.block_disk.specs.Device.{Device}
use Rattle.image_parts.specs.Recovered.{Parts}
use Rattle.recover.specs.Recovery.{IsRecovery, RefusesRecovery, RefusesUpgrade}
use Rattle.recover_heap.specs.declared.error.RecoverError.{RecoverError}
use Rattle.recover.specs.declared.report.Report.{Report}

pub found_or_refused : {E : Type 0} (device : E → Device) (there : Device) (answer : Result (Parts E × Report) (E × RecoverError)) →
    IfOk answer (λ r. IsRecovery there (device r.0.disk) r.0 r.1) → IfErr answer (λ back. RefusesRecovery there.now.bytes back.1) →
    MatchResult answer (λ r. IsRecovery there (device r.0.disk) r.0 r.1) (λ back. RefusesRecovery there.now.bytes back.1)
found_or_refused device there (Ok r) done refused = done
found_or_refused device there (Err back) done refused = refused

pub upgraded_or_refused : {E : Type 0} (device : E → Device) (there : Device) (answer : Result (Parts E × Report) (E × RecoverError)) →
    IfOk answer (λ r. IsRecovery there (device r.0.disk) r.0 r.1) → IfErr answer (λ back. RefusesUpgrade there.now.bytes back.1) →
    MatchResult answer (λ r. IsRecovery there (device r.0.disk) r.0 r.1) (λ back. RefusesUpgrade there.now.bytes back.1)
upgraded_or_refused device there (Ok r) done refused = done
upgraded_or_refused device there (Err back) done refused = refused
