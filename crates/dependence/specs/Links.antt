-- What the links of one more step are.
use Rattle.std.specs.Prelude.{ℕ, ◌+◌, if◌then◌else◌, zero, suc, List, map, get_or, slice_set}
use Rattle.heap_model.specs.Sections.{Action, Takes, Frees, Stores, undo_action}
use Rattle.law_cuts.specs.Plain.{takes_after}
use Rattle.dependence.specs.declared.step.Step.{Step}
use Rattle.dependence.specs.declared.neighbours.Neighbours.{Neighbours}

-- the lanes of the steps
abbrev pub lanes_in : List Step → List ℕ
lanes_in steps = map (λ s. s.lane.0) steps

-- the sections of the steps
abbrev pub sections_in : List Step → List ℕ
sections_in steps = map (λ s. s.section) steps

-- what the steps did
abbrev pub acts_in : List Step → List Action
acts_in steps = map (λ s. undo_action s.entry) steps

-- what the step at a place did
abbrev pub act_at : List Action → ℕ → Action
act_at acts i = get_or acts i Stores

-- the steps before in their lanes
abbrev pub before_in : List Neighbours → List ℕ
before_in beside = map (λ n. n.before) beside

-- the partners
abbrev pub partner_in : List Neighbours → List ℕ
partner_in beside = map (λ n. n.partner) beside

-- the object that the action names
abbrev pub object_of : Action → ℕ
object_of (Takes o n) = o
object_of (Frees o n) = o
object_of Stores = 0

-- the release's place + 1 if it freed what the action takes, else 0
abbrev pub checked_release : List Action → Action → (release : ℕ) → ℕ
checked_release acts act zero = 0
checked_release acts act (suc i) = if takes_after act (act_at acts i) then suc i else 0

-- the partners where the release, if there is one, has another partner
abbrev pub with_release : List ℕ → (release partner : ℕ) → List ℕ
with_release partners zero p = partners
with_release partners (suc i) p = slice_set partners i p

-- the objects' last releases after the action of the step at the place
abbrev pub freed_after : List ℕ → Action → (place : ℕ) → List ℕ
freed_after freed (Takes o n) i = freed
freed_after freed (Frees o n) i = slice_set freed o (i + 1)
freed_after freed Stores i = freed
