-- How an opening is refused where recovery is.
use Rattle.std.proofs.Common.{ℕ, List}
use Rattle.recover.specs.Recovery.{RefusesOf}
use Rattle.recover.specs.declared.versions.Versions.{Versions}
use Rattle.recover_heap.specs.declared.error.RecoverError.{RecoverError}
use Rattle.recover_heap.specs.declared.error.RecoverError.TheVariants.{BadControl, BadHeader, BadRecord, Fault, IllegalLog, NoControl, NoMemory, NotFormatted, OldVersion, TooSmall, Worn}
use Rattle.host_heap.specs.Opening.{RefusesOpening, refused_as}

pub refuses_as : (v : Versions) (bytes : List ℕ) (e : RecoverError) → RefusesOf v bytes e → RefusesOpening v bytes (refused_as e)
refuses_as v bytes Fault is = tt
refuses_as v bytes NoMemory is = tt
refuses_as v bytes NotFormatted is = is
refuses_as v bytes BadHeader is = is
refuses_as v bytes TooSmall is = is
refuses_as v bytes NoControl is = is
refuses_as v bytes BadControl is = is
refuses_as v bytes OldVersion is = is
refuses_as v bytes Worn is = is
refuses_as v bytes (BadRecord lane place) is = is
refuses_as v bytes (IllegalLog lane place) is = is
