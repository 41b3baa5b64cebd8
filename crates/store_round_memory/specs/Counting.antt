-- What a later cut keeps of the records beyond a cut, told by how many of each lane it keeps (this project's own). A list of (lane, record)
-- has its newest record first.
use Rattle.std.specs.Prelude.{ℕ, ◌≡◌, ◌+◌, ◌-◌, ◌<◌, ◌==◌, nat_lt, if◌then◌else◌, Bool, List, [], ◌∷◌, length, slice_index, Option, Some, None}
use Rattle.heap_model.specs.declared.record.Record.{Record}
use Rattle.heap_model.specs.declared.record.Record.TheVariants.{Acq, Rel, WaitRel, Put}
use Rattle.heap_model.specs.Log.{lane}

-- whether the record of the lane that follows these is one of the lane's first so many
abbrev pub is_kept : (counts : List ℕ) → (lane : ℕ) → (older : List (ℕ × Record)) → Bool
is_kept counts l older = nat_lt (length (lane l older)) (slice_index counts l)

-- the records without the first so many of each lane
abbrev pub records_left : (counts : List ℕ) → List (ℕ × Record) → List (ℕ × Record)
records_left counts [] = []
records_left counts (x ∷ older) = if is_kept counts x.0 older then records_left counts older else x ∷ records_left counts older

-- the value that the newest store to the field has of those among the lanes' first so many, if one is
abbrev pub kept_store : (counts : List ℕ) → (field : ℕ) → List (ℕ × Record) → Option ℕ
kept_store counts f [] = None
kept_store counts f ((l, Acq o n) ∷ older) = kept_store counts f older
kept_store counts f ((l, Rel o n) ∷ older) = kept_store counts f older
kept_store counts f ((l, WaitRel o n) ∷ older) = kept_store counts f older
kept_store counts f ((l, Put g before after) ∷ older) =
    if g.0 == f then (if is_kept counts l older then Some after else kept_store counts f older) else kept_store counts f older

-- one more than the number, if there is one; else 0
abbrev pub one_more : Option ℕ → ℕ
one_more None = 0
one_more (Some n) = n + 1

-- by lane so many of the records are its own
abbrev pub Counts : (counts : List ℕ) → List (ℕ × Record) → Type 0
Counts counts xs = (l : ℕ) → l < 32 → slice_index counts l ≡ length (lane l xs)

-- a lane with a count has none of these records
abbrev pub Apart : (counts : List ℕ) → List (ℕ × Record) → Type 0
Apart counts xs = (l : ℕ) → l < 32 → 0 < slice_index counts l → lane l xs ≡ []

-- how many times the record takes the object: once, or not
abbrev pub takes_one : (object : ℕ) → Record → ℕ
takes_one o (Acq p n) = if p.0 == o then 1 else 0
takes_one o (Rel p n) = 0
takes_one o (WaitRel p n) = 0
takes_one o (Put f before after) = 0

-- one more than the number at which the object was last taken, once the record came
abbrev pub taken_after : (object : ℕ) → Record → (taken : ℕ) → ℕ
taken_after o (Acq p n) taken = if p.0 == o then n + 1 else taken
taken_after o (Rel p n) taken = taken
taken_after o (WaitRel p n) taken = taken
taken_after o (Put f before after) taken = taken

-- how many of the records take the object
abbrev pub takes : (object : ℕ) → List (ℕ × Record) → ℕ
takes o [] = 0
takes o (x ∷ older) = takes_one o x.1 + takes o older

-- how many of those among the lanes' first so many do
abbrev pub kept_takes : (counts : List ℕ) → (object : ℕ) → List (ℕ × Record) → ℕ
kept_takes counts o [] = 0
kept_takes counts o (x ∷ older) = (if is_kept counts x.0 older then takes_one o x.1 else 0) + kept_takes counts o older

-- One more than the number of the first of the open takes, or 0 where none is open. The numbers follow one another, and the last is one less
-- than `taken`.
abbrev pub first_of : (taken open_takes : ℕ) → ℕ
first_of taken count = if count == 0 then 0 else taken - count + 1
