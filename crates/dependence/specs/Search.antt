-- The search for the stable cut: a cut that falls, why it does in each lane, and there the place + 1 of the newest step that is left.
use Rattle.std.specs.Prelude.{ℕ, ◌≡◌, ◌+◌, ◌-◌, ◌*◌, ◌<◌, ◌≤◌, ◌⊎◌, true, List, Option, Some, length, get_or, slice_index}
use Rattle.law_cuts.specs.Plain.{takes_after, IsClosedOver, IsGreatest}
use Rattle.dependence.specs.declared.section.Dependence.{Dependence}
use Rattle.dependence.specs.declared.step.Step.{Step}
use Rattle.dependence.specs.Trace.{growth}
use Rattle.dependence.specs.Steps.{reading}
use Rattle.dependence.specs.Links.{lanes_in, sections_in, acts_in, act_at}

-- the cut is whole and closed, and has what was forgotten
pub record IsAnswered (steps : List Step) (base whole cut : ℕ → ℕ) : Type 0 where
  pub past : (l : ℕ) → base l ≤ cut l
  pub below : (l : ℕ) → cut l ≤ whole l
  pub closed : IsClosedOver reading steps cut

-- the greatest cut, found by so many looks: at least one for each section that is new, and within the bound
pub record IsFound (lanes : ℕ) (steps : List Step) (whole answered cut : ℕ → ℕ) (looks : ℕ) : Type 0 where
  pub greatest : IsGreatest reading steps whole cut
  pub least : growth lanes cut answered ≤ looks
  pub most : looks ≤ growth lanes whole answered * (growth lanes whole answered + 1)

-- the step at one place takes what the step at the other freed
abbrev pub Takes : List Step → (taker releaser : ℕ) → Type 0
Takes steps j i = takes_after (act_at (acts_in steps) j) (act_at (acts_in steps) i) ≡ true

-- the cut is at most the given one, and at least each closed one that is
pub record IsAbove (steps : List Step) (most cut : ℕ → ℕ) : Type 0 where
  pub below : (l : ℕ) → cut l ≤ most l
  pub greatest : (other : ℕ → ℕ) → ((l : ℕ) → other l ≤ most l) → IsClosedOver reading steps other → (l : ℕ) → other l ≤ cut l

-- one step took what the other freed
pub record TookFrom (steps : List Step) (taker releaser : Step) : Type 0 where
  pub take : ℕ
  pub release : ℕ
  pub takes : Takes steps take release
  pub taker_is : taker ≡ get_or steps take taker
  pub releaser_is : releaser ≡ get_or steps release releaser

-- the dependence keeps the lane's sections beyond the cut out: the first of them, or one in the cut, took what that section freed
pub record IsCause (steps : List Step) (cut : ℕ → ℕ) (lane : ℕ) (on : Dependence) : Type 0 where
  pub take : ℕ
  pub release : ℕ
  pub takes : Takes steps take release
  pub lane_is : slice_index (lanes_in steps) take ≡ lane
  pub first : slice_index (sections_in steps) take ≤ cut lane + 1
  pub on_lane : slice_index (lanes_in steps) release ≡ on.lane.0
  pub on_section : slice_index (sections_in steps) release ≡ on.section

-- each lane's cause, if it has one, is such
abbrev pub AreCauses : (steps : List Step) (cut : ℕ → ℕ) (causes : List (Option Dependence)) → Type 0
AreCauses steps cut causes = (l : ℕ) (on : Dependence) → l < length causes → get_or causes l (Some on) ≡ Some on → IsCause steps cut l on

-- what was answered is closed, and these causes are its own: so that a cut may fall to it where a cause is out
abbrev pub KeepsAbove : List (Option Dependence) → (answered old new : ℕ → ℕ) → Type 0
KeepsAbove causes answered old new = (steps : List Step) (most : ℕ → ℕ) → AreCauses steps answered causes
    → ((l : ℕ) → answered l ≤ most l) → IsClosedOver reading steps answered → IsAbove steps most old → IsAbove steps most new

-- the same of candidates found anew, at most so many
abbrev pub AreAbove : List (Option Dependence) → (answered most candidates : ℕ → ℕ) → Type 0
AreAbove causes answered most candidates = (steps : List Step) → AreCauses steps answered causes
    → ((l : ℕ) → answered l ≤ most l) → IsClosedOver reading steps answered → IsAbove steps most candidates

-- by lane: all of its steps, or none where the cut has no candidates
abbrev pub IsStart : (newest : List ℕ) (answered candidates : ℕ → ℕ) (start : List ℕ) → Type 0
IsStart newest answered candidates start = (l : ℕ) → (slice_index start l ≡ slice_index newest l) ⊎ ((slice_index start l ≡ 0) × (candidates l ≤ answered l))

-- a walk back along the lanes: the steps from the start to those that are left were visited
pub record IsWalk (steps : List Step) (start left : List ℕ) (Visited : ℕ → Type 0) : Type 0 where
  pub places : (l c : ℕ) → slice_index left l ≡ c + 1 → (c < length steps) × (slice_index (lanes_in steps) c ≡ l)
  pub visited : (k : ℕ) → k < length steps → slice_index left (slice_index (lanes_in steps) k) ≤ k → k < slice_index start (slice_index (lanes_in steps) k) → Visited k

-- what took at the place from a section that is no candidate is out
abbrev pub IsLookedAt : (steps : List Step) (candidates cut : ℕ → ℕ) → ℕ → Type 0
IsLookedAt steps candidates cut j = (i : ℕ) → Takes steps j i → candidates (slice_index (lanes_in steps) i) < slice_index (sections_in steps) i → cut (slice_index (lanes_in steps) j) < slice_index (sections_in steps) j

-- what took from the step at the place is out
abbrev pub IsTakenUp : (steps : List Step) (cut : ℕ → ℕ) → ℕ → Type 0
IsTakenUp steps cut i = (j : ℕ) → Takes steps j i → cut (slice_index (lanes_in steps) j) < slice_index (sections_in steps) j

-- the first walk: from the newest candidates back to what was answered
pub record IsLooking (steps : List Step) (start left : List ℕ) (candidates cut : ℕ → ℕ) (causes : List (Option Dependence)) : Type 0 where
  pub above : IsAbove steps candidates cut
  pub why : AreCauses steps cut causes
  pub walk : IsWalk steps start left (IsLookedAt steps candidates cut)

-- it goes on: what is left, the cut and its causes then and now
abbrev pub KeepsLooking : List Step → (candidates : ℕ → ℕ) → (left left' : List ℕ) → (cut cut' : ℕ → ℕ)
    → (causes causes' : List (Option Dependence)) → Type 0
KeepsLooking steps candidates left left' cut cut' causes causes' = (start : List ℕ)
    → IsLooking steps start left candidates cut causes → IsLooking steps start left' candidates cut' causes'

-- the second: back over what is out. Where it doesn't begin at a lane, what took from a section of it that is no candidate is out already
pub record IsSearch (steps : List Step) (start left : List ℕ) (candidates cut : ℕ → ℕ) (causes : List (Option Dependence)) : Type 0 where
  pub above : IsAbove steps candidates cut
  pub why : AreCauses steps cut causes
  pub looked : (j i : ℕ) → Takes steps j i → slice_index start (slice_index (lanes_in steps) i) ≡ 0
      → candidates (slice_index (lanes_in steps) i) < slice_index (sections_in steps) i → cut (slice_index (lanes_in steps) j) < slice_index (sections_in steps) j
  pub walk : IsWalk steps start left (IsTakenUp steps cut)

-- it goes on likewise
abbrev pub KeepsSearching : List Step → (left left' : List ℕ) → (cut cut' : ℕ → ℕ) → (causes causes' : List (Option Dependence)) → Type 0
KeepsSearching steps left left' cut cut' causes causes' = (start : List ℕ) (candidates : ℕ → ℕ)
    → IsSearch steps start left candidates cut causes → IsSearch steps start left' candidates cut' causes'

-- the newest step that is left of the lane is of a section outside the cut
pub record IsLeft (steps : List Step) (left : List ℕ) (cut : ℕ → ℕ) (lane : ℕ) : Type 0 where
  pub low : lane < 32
  pub some : 0 < slice_index left lane
  pub there : slice_index left lane ≤ length steps
  pub out : cut lane < slice_index (sections_in steps) (slice_index left lane - 1)

-- the steps' lanes are below the limit, and in each lane the sections rise
pub record IsSorted (steps : List Step) (lanes : ℕ) : Type 0 where
  pub low : (i : ℕ) → i < length steps → slice_index (lanes_in steps) i < lanes
  pub some : (i : ℕ) → i < length steps → 0 < slice_index (sections_in steps) i
  pub rise : (i j : ℕ) → i ≤ j → j < length steps → slice_index (lanes_in steps) i ≡ slice_index (lanes_in steps) j → slice_index (sections_in steps) i ≤ slice_index (sections_in steps) j

-- the step's section is one of the cut's, or the given one
abbrev pub IsInside : (steps : List Step) (cut : ℕ → ℕ) (lane section place : ℕ) → Type 0
IsInside steps cut l k j = (slice_index (sections_in steps) j ≤ cut (slice_index (lanes_in steps) j)) ⊎ ((slice_index (lanes_in steps) j ≡ l) × (slice_index (sections_in steps) j ≡ k))

-- what the section took at a place is of a section that is inside
abbrev pub TookInsideAt : (steps : List Step) (cut : ℕ → ℕ) (lane section place : ℕ) → Type 0
TookInsideAt steps cut l k i = slice_index (lanes_in steps) i ≡ l → slice_index (sections_in steps) i ≡ k → (j : ℕ) → Takes steps i j → IsInside steps cut l k j

-- what it took before a place is
abbrev pub TookInsideUpTo : (steps : List Step) (cut : ℕ → ℕ) (lane section place : ℕ) → Type 0
TookInsideUpTo steps cut l k n = (i : ℕ) → i < n → TookInsideAt steps cut l k i

-- the step's section is one of the cut's, or the given one
abbrev pub IsOwnOrInside : (cut : ℕ → ℕ) (lane section : ℕ) → Step → Type 0
IsOwnOrInside cut l k step = (step.section ≤ cut step.lane.0) ⊎ ((step.lane.0 ≡ l) × (step.section ≡ k))

-- the dependence is on the step's section, which is outside the cut, and isn't the given one
abbrev pub IsOnOutside : (cut : ℕ → ℕ) (lane section : ℕ) → Step → Dependence → Type 0
IsOnOutside cut l k step d = (d.lane.0 ≡ step.lane.0) × (d.section ≡ step.section) × (cut d.lane.0 < d.section) × (d.lane.0 ≡ l → d.section ≡ k → ⊥)

-- the section took at a place from another that isn't one of the cut's
pub record TookOutside (steps : List Step) (cut : ℕ → ℕ) (lane section place releaser released : ℕ) : Type 0 where
  pub lane_is : slice_index (lanes_in steps) place ≡ lane
  pub section_is : slice_index (sections_in steps) place ≡ section
  pub release : ℕ
  pub takes : Takes steps place release
  pub releaser_is : slice_index (lanes_in steps) release ≡ releaser
  pub released_is : slice_index (sections_in steps) release ≡ released
  pub outside : cut releaser < released
  pub other : (releaser ≡ lane) → (released ≡ section) → ⊥

-- that is the first place where it did
pub record IsFirstReleaser (steps : List Step) (cut : ℕ → ℕ) (lane section releaser released : ℕ) : Type 0 where
  pub take : ℕ
  pub took : TookOutside steps cut lane section take releaser released
  pub first : TookInsideUpTo steps cut lane section take

-- the section has ended, and isn't one of the cut's
abbrev pub IsLeftOutAt : (ended cut : ℕ → ℕ) (lane section : ℕ) → Type 0
IsLeftOutAt ended cut l k = (k ≤ ended l) × (cut l < k)

-- why the section is left out: by the lane's previous one, else by its first releaser outside
abbrev pub IsLeftOutBy : (steps : List Step) (ended cut : ℕ → ℕ) (lane section by_lane by_section : ℕ) → Type 0
IsLeftOutBy steps ended cut l k m j = IsLeftOutAt ended cut l k × (((m ≡ l) × (j + 1 ≡ k) × (cut l < j)) ⊎ ((k ≤ cut l + 1) × IsFirstReleaser steps cut l k m j))

-- no reason is found: it isn't left out, or all that it took is inside
abbrev pub HasNoReason : (steps : List Step) (ended cut : ℕ → ℕ) (lane section : ℕ) → Type 0
HasNoReason steps ended cut l k = IsLeftOutAt ended cut l k → (k ≤ cut l + 1) × TookInsideUpTo steps cut l k (length steps)
