-- What the helper publishes, by lane: the count of its acknowledged sections, and the place up to which its log is trimmed.
use Rattle.std.specs.Prelude.{ℕ, ◌≡◌, ◌+◌, ◌<◌, ◌≤◌, ◌⊎◌, List, [], ◌∷◌}
use mathlib.Core.Option.{some}
use lib.ListN.{get_elem?}
use Rattle.heap_model.specs.declared.limits.TheConstants.{LANES}
use Rattle.monitor.specs.declared.view.Post.{Post}
use Rattle.monitor.specs.declared.view.Post.TheVariants.{Stable, Trimmed}
use Rattle.monitor.specs.declared.view.Note.{Note}
use Rattle.monitor.specs.declared.view.Part.{Part}
use Rattle.monitor.specs.declared.view.View.{View}
use Rattle.monitor.specs.Views.{noted, keeping}

-- acknowledged counts are numbered from 0, and trimmed places come after them
abbrev pub post_number : Post → ℕ
post_number (Stable lane) = lane.0
post_number (Trimmed lane) = LANES + lane.0

-- of one of the lanes
abbrev pub IsPost : Post → Type 0
IsPost (Stable lane) = lane.0 < LANES
IsPost (Trimmed lane) = lane.0 < LANES

-- the last number that a view has of what was published, 0 before the first
abbrev pub known_post : View → Post → ℕ
known_post v p = noted (post_number p) v.notes

-- the view has read or written this published number
abbrev pub knowing_post : View → Post → ℕ → View
knowing_post v p n = keeping v (post_number p) n

-- the number was published of the post; 0 stands there before the first
abbrev pub WasPublished : (post number : ℕ) → List Note → Type 0
WasPublished p n [] = n ≡ 0
WasPublished p n (q ∷ older) = ((q.post ≡ p) × (q.number ≡ n)) ⊎ WasPublished p n older

-- each number that was read was published
abbrev pub ArePublished : (read published : List Note) → Type 0
ArePublished [] ps = Unit {0}
ArePublished (q ∷ older) ps = WasPublished q.post q.number ps × ArePublished older ps

-- no number is below the one before it of the same post
abbrev pub NeverFall : List Note → Type 0
NeverFall [] = Unit {0}
NeverFall (q ∷ older) = (noted q.post older ≤ q.number) × NeverFall older

-- What the helper published, and what the lanes that it took in had read of it
pub record Publication (v : View) : Type 0 where
  pub rises : NeverFall v.notes
  pub read : (j : ℕ) (p : Part) → get_elem? v.gathered j ≡ some p → ArePublished p.notes v.notes
