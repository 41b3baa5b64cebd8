-- Calls of a store that were made one after another, whoever made them, and what a crash leaves of them (this project's own).
use Rattle.std.specs.Prelude.{ℕ, ◌≡◌, ◌≤◌, ◌+◌, Bool, false, List, [], ◌∷◌, ◌++◌}
use Rattle.heap_model.specs.Setting.{Setting}
use Rattle.block_disk.specs.Device.{Device}
use Rattle.block_disk.specs.Images.{LeavesOnly}
use Rattle.image_parts.specs.declared.layout.Layout.{Layout}
use Rattle.undo_log.specs.Dropped.{undo_logs}
use Rattle.store_image.specs.Consistent.{ShowsPast}
use Rattle.store_image.specs.Sequences.{ShowsUpTo}
use Rattle.heap_model.specs.Past.{Past, IsPast}
use Rattle.durable.specs.Calls.{MakeAll, ShowsAfterSome}
use Rattle.durable.specs.Store.{Known}
use Rattle.durable.specs.declared.store_call.StoreCall.{StoreCall}
use Rattle.durable.specs.declared.store_call.StoreCall.TheVariants.{Log, Home as HomeStep, Settle, Trim}

-- a store of this past leaves this image: it shows the past, whose records are of the image's lanes
pub record IsLeftBy (l : Layout) (s : Setting) (p : Past) (image : List ℕ) : Type 0 where
  pub past : IsPast s p
  pub lanes : (lane : ℕ) → l.lanes ≤ lane → undo_logs p.logged lane ≡ []
  pub shows : ShowsPast l s p image

-- What a fault may cut off: nothing, one call of those that write, or a settling with the trim behind it, both at once.
abbrev pub IsCut : List StoreCall → Type 0
IsCut [] = Unit {0}
IsCut (Log ∷ []) = Unit {0}
IsCut (HomeStep ∷ []) = Unit {0}
IsCut (Settle ∷ []) = Unit {0}
IsCut (Trim ∷ []) = Unit {0}
IsCut (Settle ∷ Trim ∷ []) = Unit {0}
IsCut _ = ⊥

-- The calls that made of the one past the other, in their order. Only where one has failed may others have been cut off behind them.
-- Whatever a crash left since the first device shows what some of these calls make of the past, with the next of them in doubt: it is
-- left as by `Store::play`.
pub record HasRun (l : Layout) (s : Setting) (p : Past) (old : Device) (q : Past) (new : Device) (has_failed : Bool) : Type 0 where
  pub calls : List StoreCall
  pub made : MakeAll s p calls q
  pub cut_off : List StoreCall
  pub is_cut : IsCut cut_off
  pub whole : has_failed ≡ false → cut_off ≡ []
  pub shown : LeavesOnly old new (ShowsAfterSome l s p (calls ++ cut_off))

-- The control takes so many sequences at most: the one that counts, and that of each image that a crash left since the first device.
pub record TakesSequences (most : ℕ) (old : Known) (before : Device) (new : Known) (now : Device) : Type 0 where
  pub known : new.committed.sequence ≤ old.committed.sequence + most
  pub shown : LeavesOnly before now (ShowsUpTo old.layout (old.committed.sequence + most))
