-- What the calls of a pool answer: `k` is what is known before a call, and `l` what is known after it. What it loaded and
-- stored is `done`, the newest first.
use Rattle.std.specs.Prelude.{ℕ, ◌≡◌, ◌≢◌, ◌+◌, ◌<◌, ◌≤◌, ◌⊎◌, List, [], ◌∷◌, Result, Ok, Err}
use Rattle.pool.specs.declared.pool.TheConstants.{TAKEN}
use Rattle.pool.specs.declared.error.PoolError.{PoolError}
use Rattle.pool.specs.declared.error.PoolError.TheVariants.{Empty, NotTaken, Damaged, Cells}
use Rattle.pool.specs.Knowledge.{Access, Loaded, Stored, Knowledge, Reads, Stores, FailsToLoad, FailsToStore}
use Rattle.pool.specs.FreeList.{Place, cell_of, TakesFirst, PutsFirst}

-- The slot is the first of the free list, and is taken off it.
pub record Takes {F : Type 0} (p : Place) (k l : Knowledge F) (done : List Access) (s : ℕ) : Type 0 where
  pub next : ℕ
  pub found : Knowledge F
  pub read : Knowledge F
  pub slot : s < p.slots
  pub head : Reads k p.head (s + 1) found
  pub link : Reads found (cell_of p s) next read
  pub names_slot : next ≤ p.slots
  pub stored : Stores read p.head next (cell_of p s) TAKEN l
  -- Where the known cells spell a list of distinct free slots, `take` answers the first of them and leaves the others.
  pub first : TakesFirst p read.value l.value s
  -- A take of a slot makes two loads and two stores, and no others.
  pub no_more : done ≡ Stored (cell_of p s) TAKEN ∷ Stored p.head next ∷ Loaded (cell_of p s) next ∷ Loaded p.head (s + 1) ∷ []

-- the list ends at the head
abbrev pub IsEmpty : {F : Type 0} → Place → Knowledge F → Knowledge F → List Access → Type 0
IsEmpty p k l done = Reads k p.head 0 l × (done ≡ Loaded p.head 0 ∷ [])

-- the head names no slot, nor the end
abbrev pub HeadIsDamaged : {F : Type 0} → Place → Knowledge F → Knowledge F → List Access → Type 0
HeadIsDamaged p k l done = (link : ℕ) × (p.slots < link) × Reads k p.head link l × (done ≡ Loaded p.head link ∷ [])

-- the first slot's cell names no slot, nor the end
abbrev pub LinkIsDamaged : {F : Type 0} → Place → Knowledge F → Knowledge F → List Access → Type 0
LinkIsDamaged {F} p k l done = (s : ℕ) × (next : ℕ) × (found : Knowledge F) × (s < p.slots) × Reads k p.head (s + 1) found
    × (p.slots < next) × Reads found (cell_of p s) next l × (done ≡ Loaded (cell_of p s) next ∷ Loaded p.head (s + 1) ∷ [])

-- the cells fail to load a field, before anything else was done
abbrev pub FailsAtOnce : {F : Type 0} → (field : ℕ) → Knowledge F → Knowledge F → List Access → F → Type 0
FailsAtOnce f k l done why = FailsToLoad k f why l × (done ≡ [])

-- the cells fail to load the first slot's link
abbrev pub FailsAtLink : {F : Type 0} → Place → Knowledge F → Knowledge F → List Access → F → Type 0
FailsAtLink {F} p k l done why = (s : ℕ) × (found : Knowledge F) × (s < p.slots) × Reads k p.head (s + 1) found × FailsToLoad found (cell_of p s) why l
    × (done ≡ Loaded p.head (s + 1) ∷ [])

-- the cells fail to store, once both links were loaded
abbrev pub FailsToTake : {F : Type 0} → Place → Knowledge F → Knowledge F → List Access → F → Type 0
FailsToTake {F} p k l done why = (s : ℕ) × (next : ℕ) × (found : Knowledge F) × (read : Knowledge F) × (s < p.slots) × Reads k p.head (s + 1) found
    × (next ≤ p.slots) × Reads found (cell_of p s) next read × FailsToStore read p.head (cell_of p s) why l
    × (done ≡ Loaded (cell_of p s) next ∷ Loaded p.head (s + 1) ∷ [])

-- what `take` answers
abbrev pub TakeAnswers : {F : Type 0} → Place → Knowledge F → Knowledge F → List Access → Result ℕ (PoolError F) → Type 0
TakeAnswers p k l done (Ok s) = Takes p k l done s
TakeAnswers p k l done (Err Empty) = IsEmpty p k l done
TakeAnswers p k l done (Err NotTaken) = ⊥
TakeAnswers p k l done (Err Damaged) = HeadIsDamaged p k l done ⊎ LinkIsDamaged p k l done
TakeAnswers p k l done (Err (Cells why)) = (FailsAtOnce p.head k l done why ⊎ FailsAtLink p k l done why) ⊎ FailsToTake p k l done why

-- The slot was taken, and is the first of the free list now.
pub record Gives {F : Type 0} (p : Place) (k l : Knowledge F) (done : List Access) (s : ℕ) : Type 0 where
  pub link : ℕ
  pub found : Knowledge F
  pub read : Knowledge F
  pub taken : Reads k (cell_of p s) TAKEN found
  pub head : Reads found p.head link read
  pub names_slot : link ≤ p.slots
  pub stored : Stores read p.head (s + 1) (cell_of p s) link l
  -- Where the known cells spell a list of distinct free slots, `give` puts its slot first.
  pub first : PutsFirst p read.value l.value s
  -- A give of a slot makes two loads and two stores, and no others.
  pub no_more : done ≡ Stored (cell_of p s) link ∷ Stored p.head (s + 1) ∷ Loaded p.head link ∷ Loaded (cell_of p s) TAKEN ∷ []

-- the slot isn't taken
abbrev pub IsNotTaken : {F : Type 0} → Place → Knowledge F → Knowledge F → List Access → (slot : ℕ) → Type 0
IsNotTaken p k l done s = (link : ℕ) × (link ≢ TAKEN) × Reads k (cell_of p s) link l × (done ≡ Loaded (cell_of p s) link ∷ [])

-- the slot is taken, but the head names no slot, nor the end
abbrev pub HeadWasDamaged : {F : Type 0} → Place → Knowledge F → Knowledge F → List Access → (slot : ℕ) → Type 0
HeadWasDamaged {F} p k l done s = (link : ℕ) × (found : Knowledge F) × Reads k (cell_of p s) TAKEN found × (p.slots < link) × Reads found p.head link l
    × (done ≡ Loaded p.head link ∷ Loaded (cell_of p s) TAKEN ∷ [])

-- the cells fail to load the head
abbrev pub FailsAtHead : {F : Type 0} → Place → Knowledge F → Knowledge F → List Access → (slot : ℕ) → F → Type 0
FailsAtHead {F} p k l done s why = (found : Knowledge F) × Reads k (cell_of p s) TAKEN found × FailsToLoad found p.head why l × (done ≡ Loaded (cell_of p s) TAKEN ∷ [])

-- the cells fail to store, once both were loaded
abbrev pub FailsToGive : {F : Type 0} → Place → Knowledge F → Knowledge F → List Access → (slot : ℕ) → F → Type 0
FailsToGive {F} p k l done s why = (link : ℕ) × (found : Knowledge F) × (read : Knowledge F) × Reads k (cell_of p s) TAKEN found
    × (link ≤ p.slots) × Reads found p.head link read × FailsToStore read p.head (cell_of p s) why l × (done ≡ Loaded p.head link ∷ Loaded (cell_of p s) TAKEN ∷ [])

-- what `give` answers
abbrev pub GiveAnswers : {F : Type 0} → Place → Knowledge F → Knowledge F → List Access → (slot : ℕ) → Result (Unit {0}) (PoolError F) → Type 0
GiveAnswers p k l done s (Ok given) = Gives p k l done s
GiveAnswers p k l done s (Err Empty) = ⊥
GiveAnswers p k l done s (Err NotTaken) = IsNotTaken p k l done s
GiveAnswers p k l done s (Err Damaged) = HeadWasDamaged p k l done s
GiveAnswers p k l done s (Err (Cells why)) = (FailsAtOnce (cell_of p s) k l done why ⊎ FailsAtHead p k l done s why) ⊎ FailsToGive p k l done s why
