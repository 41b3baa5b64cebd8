-- What a buffer has after a read of a journal that is refused.
use Rattle.std.proofs.Common.{◌≡◌, ◌≢◌, ℕ, List, Result, Ok, Err, OnErr}
use Rattle.block_disk.specs.declared.error.DiskError.{DiskError}
use Rattle.zelamiku.specs.JournalStatuses.{call_status}
use Rattle.zelamiku.specs.declared.status.TheConstants.{OK}

pub read_kept : (old new : List ℕ) (answer : Result (Unit {0}) DiskError) (status : ℕ) → OnErr answer (new ≡ old) → status ≡ call_status answer → status ≢ OK → new ≡ old
read_kept old new (Ok value) status kept is bad = absurd (bad is)
read_kept old new (Err e) status kept is bad = kept
