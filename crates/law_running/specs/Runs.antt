-- What a store for rounds has run since a device, and what a crash leaves of that (this project's own).
use Rattle.std.specs.Prelude.{ℕ, ◌≡◌, List}
use Rattle.heap_model.specs.Setting.{Setting}
use Rattle.block_disk.specs.Device.{Device}
use Rattle.store_helper_sections.specs.Image.{ShowsCutOf}
use Rattle.image_parts.specs.declared.layout.Layout.{Layout}
use Rattle.store_rounds.specs.Runs.{HasRun}
use Rattle.store_rounds.specs.Store.{HasPast, Known}
use Rattle.heap_model.specs.Past.{Past, applied}
use Rattle.law_survival.specs.WholeRun.{MayBeLeft}

-- A store of this past had the old device, and has run since to the new one.
pub record RunsSince (l : Layout) (t : ℕ) (s : Setting) (p : Past) (old new : Device) : Type 0 where
  pub store : Known
  pub layout : store.layout ≡ l
  pub threads : store.threads ≡ t
  pub has : HasPast store s p old
  pub now : Past
  pub ran : HasRun l t s p old now new

-- Whatever a crash left at any moment of this run shows a whole, closed cut of a beginning of what was applied. The cut has all that was
-- acknowledged when the run began.
abbrev pub RunShowsLaw : Type 0
RunShowsLaw = (l : Layout) (t : ℕ) (s : Setting) (p : Past) (old new : Device) (image : List ℕ)
    → (run : RunsSince l t s p old new) → MayBeLeft old new image → ShowsCutOf l t s (applied run.now) p.cut image
