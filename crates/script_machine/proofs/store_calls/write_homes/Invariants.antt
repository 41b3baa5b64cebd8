use Rattle.std.proofs.Common.{◌≡◌, ◌⊎◌, ◌<◌, ◌≤◌, ◌+◌, ℕ, List, false}
use Rattle.heap_model.specs.Setting.{Setting}
use Rattle.block_disk.specs.Images.{LeavesOnly}
use Rattle.block_disk.specs.Memory.{device_of}
use Rattle.image_parts.specs.declared.layout.Layout.{Layout}
use Rattle.store_image.specs.KeptHeap.{StandsForCut}
use Rattle.heap_model.specs.Past.{Past}
use Rattle.store_image.specs.Consistent.{ShowsPast}
use Rattle.durable.specs.Store.{Parts}
use Rattle.block_disk.specs.Memory.{Memory}
use Rattle.script_machine.specs.Homes.{WriteHomes}
use Rattle.script_machine.specs.States.{Tells}
use Rattle.script_machine.proofs.store_calls.write_homes.Given as goal

-- So many home writes took the store from what it was: more of them go on from there, no field below so many is dirty, and what a crash in
-- them leaves shows the first past, and stands for its cut.
pub record HasWritten (old new : Parts Memory) (s : Setting) (p : Past) (written : ℕ) : Type 0 where
  pub now : Past
  pub tells : Tells new s now
  pub more : (n : ℕ) (q : Past) → WriteHomes s now n q → WriteHomes s p (written + n) q
  pub clean : (f : ℕ) → f < written → now.is_dirty f ≡ false
  pub shown : LeavesOnly (device_of old.disk) (device_of new.disk) (ShowsPast old.known.layout s p)
  pub stands : LeavesOnly (device_of old.disk) (device_of new.disk) (StandsForCut old.known.layout s p.logged p.cut)
  -- where the cells are dirty is written nowhere
  pub shows : (l : Layout) (image : List ℕ) → ShowsPast l s now image → ShowsPast l s p image
  pub logged : now.logged ≡ p.logged
  pub cut : now.cut ≡ p.cut

abbrev pub invariant-loop-written : goal.invariant-loop-written
invariant-loop-written l = ((s : Setting) (p : Past) → Tells l.initial.store s p → HasWritten l.initial.store l.store s p l.written)
    × (l.store.known.layout ≡ l.initial.store.known.layout)
    × (l.store.known.has_failed ≡ l.initial.store.known.has_failed)
    × ((device_of l.initial.store.disk).failures ≤ (device_of l.store.disk).failures)
    × ((l.store ≡ l.initial.store) ⊎ (l.store.known.has_failed ≡ false))
    × (l.store.known.committed.sequence ≡ l.initial.store.known.committed.sequence)
