-- Rounds of two syncs may follow those of a store (this project's own).
use Rattle.std.specs.Prelude.{ℕ, ◌≤◌, []}
use Rattle.heap_model.specs.Log.{IsOfLanes}
use Rattle.heap_model.specs.Setting.{Setting}
use Rattle.block_disk.specs.Device.{Device}
use Rattle.image_parts.specs.declared.layout.Layout.{Layout}
use Rattle.heap_model.specs.Past.{IsTrimmed, Past}
use Rattle.store_image.specs.Consistent.{IsConsistent}
use Rattle.store_image.specs.declared.committed.Committed.{Committed}
use Rattle.store_round_making.specs.Rounds.{IsRoundOn}

-- A store's device is as a round of two syncs wants it, with no section of the helper's, once all that is acknowledged was trimmed, where
-- all records are of the first t lanes.
abbrev pub JoinLaw : Type 0
JoinLaw = (l : Layout) (t : ℕ) (s : Setting) (p : Past) (c : Committed) (d : Device) → IsConsistent l s p c d → IsTrimmed p → IsOfLanes t p.logged → t ≤ l.lanes → IsRoundOn l t s p.logged p.cut [] c d
