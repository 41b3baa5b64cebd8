-- What C's call of a copy does (this project's own).
use Rattle.std.specs.Prelude.{ℕ, ◌≡◌, List}
use Rattle.disk_deferred.specs.Copying.{CopiesFrom}
use Rattle.law_hosted.specs.Copies.{copy_of}
use Rattle.zelamiku.specs.Handles.{OfDevice, closed_held, heap_held}
use Rattle.zelamiku.specs.Own.{Held}
use Rattle.zelamiku.specs.declared.state.Open.{Open}
use Rattle.zelamiku.specs.declared.status.TheConstants.{OK}

-- `zelamiku_copy`: the buffer gets bytes of the disk in memory, from this place on, and nothing else changes. A heap that was closed has its disk too.
abbrev pub CopiesAt : (at : ℕ) (buffer filled : List ℕ) (copied : ℕ) → Open → (after : Held) → (status : ℕ) → Type 0
CopiesAt at buffer filled copied = OfDevice
    (λ x after status. CopiesFrom (copy_of x.helper.store.disk) at buffer filled copied × (status ≡ OK) × (after ≡ heap_held x))
    (λ x after status. CopiesFrom (copy_of x.disk) at buffer filled copied × (status ≡ OK) × (after ≡ closed_held x))
