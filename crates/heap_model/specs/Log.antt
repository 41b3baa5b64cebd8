-- Logs of records, and which of them are legal. A list of (lane, record) has its newest record first.
use Rattle.std.specs.Prelude.{ℕ, ◌≡◌, ◌+◌, ◌<◌, ◌==◌, if◌then◌else◌, true, List, [], ◌∷◌, ◌++◌, map, reverse, Option, Some, None}
use Rattle.heap_model.specs.declared.record.Record.{Record}
use Rattle.heap_model.specs.declared.record.Record.TheVariants.{Acq, Rel, WaitRel, Put}
use Rattle.heap_model.specs.declared.record.LaneRecord.{LaneRecord}
use Rattle.heap_model.specs.Setting.{Setting}

-- a list of lanes' records, the oldest first, as a log
abbrev pub log_from : List LaneRecord → List (ℕ × Record)
log_from entries = map (λ e. (e.lane.0, e.record)) (reverse entries)

-- one lane of the list
abbrev pub lane : {A : Type 0} → ℕ → List (ℕ × A) → List A
lane l [] = []
lane l (x ∷ older) = if x.0 == l then x.1 ∷ lane l older else lane l older

-- each element of the list is of one of so many lanes
abbrev pub IsOfLanes : {A : Type 0} → (lanes : ℕ) → List (ℕ × A) → Type 0
IsOfLanes lanes [] = Unit {0}
IsOfLanes lanes (x ∷ older) = (x.0 < lanes) × IsOfLanes lanes older

-- the lane that holds the object
abbrev pub holder : (object : ℕ) → List (ℕ × Record) → Option ℕ
holder o [] = None
holder o ((l, Acq p n) ∷ older) = if p.0 == o then Some l else holder o older
holder o ((l, Rel p n) ∷ older) = if p.0 == o then None else holder o older
holder o ((l, WaitRel p n) ∷ older) = if p.0 == o then None else holder o older
holder o ((l, Put f before after) ∷ older) = holder o older

-- the object's release number: it rises by one each time that the object becomes free (this project's own)
abbrev pub number : (object : ℕ) → List (ℕ × Record) → ℕ
number o [] = 0
number o ((l, Acq p n) ∷ older) = number o older
number o ((l, Rel p n) ∷ older) = if p.0 == o then n + 1 else number o older
number o ((l, WaitRel p n) ∷ older) = if p.0 == o then n + 1 else number o older
number o ((l, Put f before after) ∷ older) = number o older

-- the field's value after all stores
abbrev pub value : (first : ℕ → ℕ) → (field : ℕ) → List (ℕ × Record) → ℕ
value first f [] = first f
value first f ((l, Acq o n) ∷ older) = value first f older
value first f ((l, Rel o n) ∷ older) = value first f older
value first f ((l, WaitRel o n) ∷ older) = value first f older
value first f ((l, Put g before after) ∷ older) = if g.0 == f then after else value first f older

-- the object on which the lane waits: its newest record freed it by a wait
abbrev pub awaited : (lane : ℕ) → List (ℕ × Record) → Option ℕ
awaited l [] = None
awaited l ((m, Acq o n) ∷ older) = if m == l then None else awaited l older
awaited l ((m, Rel o n) ∷ older) = if m == l then None else awaited l older
awaited l ((m, WaitRel o n) ∷ older) = if m == l then Some o.0 else awaited l older
awaited l ((m, Put f before after) ∷ older) = if m == l then None else awaited l older

-- a lane that waits on an object takes that next (JLS 17.2.1)
abbrev pub MayFollow : (awaited : Option ℕ) → Record → Type 0
MayFollow None r = Unit {0}
MayFollow (Some o) (Acq p n) = p.0 ≡ o
MayFollow (Some o) (Rel p n) = ⊥
MayFollow (Some o) (WaitRel p n) = ⊥
MayFollow (Some o) (Put f before after) = ⊥

-- the lane's record is allowed after these: it takes a free object at its number, frees one that it holds, or stores to a field whose guard it holds
abbrev pub IsAllowed : Setting → List (ℕ × Record) → (lane : ℕ) → Record → Type 0
IsAllowed s older l (Acq o n) = (holder o.0 older ≡ None) × (number o.0 older ≡ n) × (n < s.last)
IsAllowed s older l (Rel o n) = (holder o.0 older ≡ Some l) × (number o.0 older ≡ n)
IsAllowed s older l (WaitRel o n) = (holder o.0 older ≡ Some l) × (number o.0 older ≡ n)
IsAllowed s older l (Put f before after) = (holder (s.guard f.0) older ≡ Some l) × (value s.first f.0 older ≡ before)

-- the record's object is one of the setting's, or its field is one whose stores are logged
abbrev pub IsRecordOf : Setting → Record → Type 0
IsRecordOf s (Acq o n) = o.0 < s.objects
IsRecordOf s (Rel o n) = o.0 < s.objects
IsRecordOf s (WaitRel o n) = o.0 < s.objects
IsRecordOf s (Put f before after) = (f.0 < s.fields) × (s.is_logged f.0 ≡ true)

-- each record is allowed after those before it
abbrev pub IsLegal : Setting → List (ℕ × Record) → Type 0
IsLegal s [] = Unit {0}
IsLegal s (x ∷ older) = IsLegal s older × IsAllowed s older x.0 x.1 × MayFollow (awaited x.0 older) x.1 × IsRecordOf s x.1

-- each lane of the log is the beginning of that lane of the other, whatever the order of the lanes among one another
abbrev pub IsLaneWisePrefix : {A : Type 0} → List (ℕ × A) → List (ℕ × A) → Type 0
IsLaneWisePrefix {A} log longer = (l : ℕ) → (more : List A) × (lane l longer ≡ more ++ lane l log)
