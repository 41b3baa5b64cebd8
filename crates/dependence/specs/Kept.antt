-- What a graph keeps beside its steps. Places are indices of steps; where a table has place + 1, its 0 says that there is none.
use Rattle.std.specs.Prelude.{ℕ, ◌≡◌, ◌+◌, ◌<◌, ◌≤◌, ◌⊎◌, true, List, [], ◌∷◌, length, slice_index, vec_len, vec_capacity}
use Rattle.heap_model.specs.Log.{lane}
use Rattle.heap_model.specs.Sections.{Action, Takes, Frees, Stores, holding, ended}
use Rattle.law_cuts.specs.Plain.{takes_after}
use Rattle.dependence.specs.declared.step.Step.{Step}
use Rattle.dependence.specs.declared.links.Links.{Links}
use Rattle.dependence.specs.Next.{IsBelow}
use Rattle.dependence.specs.Links.{lanes_in, acts_in, act_at, before_in, partner_in}

-- by lane: how many sections have ended, what was forgotten included, and how many objects it holds
pub record IsCounted (base : ℕ → ℕ) (log : List (ℕ × Action)) (ended_in held_in : List ℕ) : Type 0 where
  pub whole : (l : ℕ) → slice_index ended_in l ≡ ended (lane l log) + base l
  pub held : (l : ℕ) → slice_index held_in l ≡ length (holding (lane l log))

-- the object's numbers rise to this action
abbrev pub IsInOrder : List (ℕ × Action) → Action → Type 0
IsInOrder older (Takes o n) = IsBelow o n n older
IsInOrder older (Frees o n) = IsBelow o (n + 1) n older
IsInOrder older Stores = Unit {0}

-- each object's numbers rise
abbrev pub Rises : List (ℕ × Action) → Type 0
Rises [] = Unit {0}
Rises (x ∷ older) = IsInOrder older x.1 × Rises older

-- the steps of each lane are chained: `newest` has the lane's last step, `before` the step before in its lane
pub record IsChained (lanes newest before : List ℕ) : Type 0 where
  pub count : length before ≡ length lanes
  pub newest_is : (l c : ℕ) → slice_index newest l ≡ c + 1 → (c < length lanes) × (slice_index lanes c ≡ l)
  pub newest_last : (i : ℕ) → i < length lanes → i < slice_index newest (slice_index lanes i)
  pub before_is : (i c : ℕ) → i < length lanes → slice_index before i ≡ c + 1 → (c < i) × (slice_index lanes c ≡ slice_index lanes i)
  pub before_last : (i j : ℕ) → i < length lanes → j < i → slice_index lanes j ≡ slice_index lanes i → j < slice_index before i

-- the object's last release is known: it is the one at this place, or has a greater number
pub record LastRelease (acts : List Action) (freed : List ℕ) (o n release : ℕ) : Type 0 where
  pub place : ℕ
  pub number : ℕ
  pub known : slice_index freed o ≡ place + 1
  pub frees : act_at acts place ≡ Frees o number
  pub above : (n < number) ⊎ (place ≡ release)

-- a release and the take that follows it have each other's places, and each object's last release is known
pub record IsPaired (acts : List Action) (freed partner : List ℕ) : Type 0 where
  pub count : length partner ≡ length acts
  pub taker : (i j : ℕ) → takes_after (act_at acts j) (act_at acts i) ≡ true → slice_index partner i ≡ j + 1
  pub releaser : (i j : ℕ) → takes_after (act_at acts j) (act_at acts i) ≡ true → slice_index partner j ≡ i + 1
  pub last : (i o n : ℕ) → act_at acts i ≡ Frees o n → LastRelease acts freed o n i

-- the links of the steps
pub record IsLinked (steps : List Step) (links : Links) : Type 0 where
  pub chained : IsChained (lanes_in steps) links.newest (before_in links.beside.items)
  pub paired : IsPaired (acts_in steps) links.freed.items (partner_in links.beside.items)
  pub rows : length links.newest ≡ 32
  pub objects : length links.freed.items ≡ 4096

-- so many more steps may be linked
abbrev pub HasRoom : Links → (room : ℕ) → Type 0
HasRoom links room = vec_len links.beside + room ≤ vec_capacity links.beside
