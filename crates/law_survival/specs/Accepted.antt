-- No image that a store leaves is refused; what it holds is what the store's past says, and its heap the kept one (this
-- project's own).
use Rattle.std.specs.Prelude.{ℕ, ◌≡◌, ◌⊎◌, List}
use Rattle.heap_model.specs.Setting.{Setting}
use Rattle.heap_model.specs.Base.{records_since}
use Rattle.block_disk.specs.Device.{Device}
use Rattle.block_disk.specs.Images.{Always}
use Rattle.image_parts.specs.declared.layout.Layout.{Layout}
use Rattle.undo_log.specs.Dropped.{undo_logs}
use Rattle.undo_log.specs.StandsFor.{AreRowsOf, StandsFor}
use Rattle.heap_model.specs.Past.{Past}
use Rattle.store_image.specs.Consistent.{TellsCut, IsConsistent}
use Rattle.store_image.specs.KeptHeap.{kept_heap}
use Rattle.store_image.specs.declared.committed.Committed.{Committed}
pub use Rattle.durable.specs.Runs.{IsLeftBy}
use Rattle.recover_heap.specs.Logs.{lanes_of}
use Rattle.recover.specs.Reading.{Holds, IsOfOldVersion, RefusesImage}
use Rattle.recover_heap.specs.declared.error.RecoverError.{RecoverError}
use Rattle.recover_heap.specs.declared.error.RecoverError.TheVariants.{Fault, NoMemory}
use Rattle.recover.specs.declared.logged_image.LoggedImage.{LoggedImage}

-- Whatever a crash leaves of a store's device is such an image.
abbrev pub LeftLaw : Type 0
LeftLaw = (l : Layout) (s : Setting) (p : Past) (c : Committed) (d : Device) → IsConsistent l s p c d → Always d (IsLeftBy l s p)

-- No such image is refused: only the device can fail, and memory be wanting.
abbrev pub AcceptedLaw : Type 0
AcceptedLaw = (l : Layout) (s : Setting) (p : Past) (image : List ℕ) (e : RecoverError) → IsLeftBy l s p image → RefusesImage image e → (e ≡ Fault) ⊎ (e ≡ NoMemory)

-- Its control is of the version that recovery takes.
abbrev pub CurrentLaw : Type 0
CurrentLaw = (l : Layout) (s : Setting) (p : Past) (image : List ℕ) → IsLeftBy l s p image → IsOfOldVersion image → ⊥

-- what was found in an image is what the past says: the guard rows, the acknowledged sections, and the records since what was
-- trimmed
pub record FindsPast (l : Layout) (s : Setting) (p : Past) (found : LoggedImage) : Type 0 where
  pub layout : found.layout ≡ l
  pub rows : AreRowsOf l.fields found.guards.items s
  pub tells : TellsCut l p.logged p.base p.cut found.control.rows
  pub live : (lane : ℕ) → lanes_of found.records.items lane ≡ undo_logs (records_since p.base p.logged) lane

-- What such an image holds is what the past says.
abbrev pub FoundLaw : Type 0
FoundLaw = (l : Layout) (s : Setting) (p : Past) (image : List ℕ) (found : LoggedImage) → IsLeftBy l s p image → Holds image found → FindsPast l s p found

-- The heap that it stands for is the kept one.
abbrev pub FoundHeapLaw : Type 0
FoundHeapLaw = (l : Layout) (s : Setting) (p : Past) (image heap : List ℕ) (found : LoggedImage) → IsLeftBy l s p image → Holds image found → StandsFor found.layout image heap →
    heap ≡ kept_heap l s p.logged p.cut
