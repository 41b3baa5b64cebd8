-- How settled records are found that take what records that aren't settled freed: by going through a replay.
use Rattle.std.specs.Prelude.{ℕ, ◌≡◌, ◌+◌, ◌<◌, ◌≤◌, ◌⊎◌, ◌==◌, if◌then◌else◌, nat_le, nat_lt, not, Bool, true, false, List, [], ◌∷◌, length, slice_index, slice_index_or, slice_set, MatchOption, Option, Some, None}
use Rattle.heap_model.specs.Log.{lane}
use Rattle.heap_model.specs.declared.ids.Lane.{Lane}
use Rattle.heap_model.specs.declared.record.UndoRecord.{UndoRecord}
use Rattle.heap_model.specs.declared.record.UndoRecord.TheVariants.{Acq, Rel, WaitRel, Put}
use Rattle.recover_logs.specs.Logs.{settled_of}
use Rattle.recover_logs.specs.Tables.{log_of}
use Rattle.recover_logs.specs.declared.settled_count.SettledCount.{SettledCount}
use Rattle.recover_logs.specs.declared.step.Step.{Step}
use Rattle.recover_logs.specs.declared.crossings.LanePlace.{LanePlace}
use Rattle.recover_logs.specs.declared.crossings.Crossings.{Crossings}

-- after these records of a replay, the object's last release was at or past the place up to which its lane is settled
abbrev pub freed_late : (settled : ℕ → ℕ) → (object : ℕ) → List (ℕ × UndoRecord) → Bool
freed_late settled o [] = false
freed_late settled o ((l, Acq p n) ∷ older) = freed_late settled o older
freed_late settled o ((l, Rel p n) ∷ older) = if p.0 == o then nat_le (settled l) (length (lane l older)) else freed_late settled o older
freed_late settled o ((l, WaitRel p n) ∷ older) = if p.0 == o then nat_le (settled l) (length (lane l older)) else freed_late settled o older
freed_late settled o ((l, Put f before) ∷ older) = freed_late settled o older

-- the record, which is settled, takes an object that was freed late
abbrev pub IsCrossing : (settled : ℕ → ℕ) → List (ℕ × UndoRecord) → (lane : ℕ) → UndoRecord → Type 0
IsCrossing settled older l (Acq p n) = (length (lane l older) < settled l) × (freed_late settled p.0 older ≡ true)
IsCrossing settled older l (Rel p n) = ⊥
IsCrossing settled older l (WaitRel p n) = ⊥
IsCrossing settled older l (Put f before) = ⊥

-- one of these records is such, at this place of the lane
abbrev pub Crosses : (settled : ℕ → ℕ) → List (ℕ × UndoRecord) → (lane place : ℕ) → Type 0
Crosses settled [] l i = ⊥
Crosses settled (x ∷ older) l i = ((x.0 ≡ l) × (i ≡ length (lane l older)) × IsCrossing settled older x.0 x.1) ⊎ Crosses settled older l i

-- that is the least lane that has one, and its first
pub record IsLeastCrossing (settled : ℕ → ℕ) (done : List (ℕ × UndoRecord)) (l i : ℕ) : Type 0 where
  pub crosses : Crosses settled done l i
  pub least : (m j : ℕ) → Crosses settled done m j → (l < m) ⊎ ((l ≡ m) × (i ≤ j))

-- which releases are late after the record, where it is settled or not
abbrev pub late_after : List Bool → UndoRecord → (settled : Bool) → List Bool
late_after late (Acq o n) s = late
late_after late (Rel o n) s = slice_set late o.0 (not s)
late_after late (WaitRel o n) s = slice_set late o.0 (not s)
late_after late (Put f before) s = late

-- the record is settled, and takes an object that was freed late
abbrev pub IsCrossingBy : List Bool → UndoRecord → (settled : Bool) → Type 0
IsCrossingBy late (Acq o n) s = (s ≡ true) × (slice_index_or late o.0 false ≡ true)
IsCrossingBy late (Rel o n) s = ⊥
IsCrossingBy late (WaitRel o n) s = ⊥
IsCrossingBy late (Put f before) s = ⊥

-- the lesser of the least place so far and another, by lane and, in one lane, the former
abbrev pub lesser : Option LanePlace → LanePlace → LanePlace
lesser None found = found
lesser (Some least) found = if nat_lt found.lane.0 least.lane.0 then found else least

-- the tables tell these records of a replay
pub record AreCrossings (settled : ℕ → ℕ) (done : List (ℕ × UndoRecord)) (c : Crossings) : Type 0 where
  pub places : (l : ℕ) → slice_index c.places l ≡ length (lane l done)
  pub late : (o : ℕ) → o < 4096 → slice_index_or c.late o false ≡ freed_late settled o done
  pub least : MatchOption c.least ((l i : ℕ) → Crosses settled done l i → ⊥) (λ p. IsLeastCrossing settled done p.lane.0 p.place)

-- the lane's next record, where it crosses, is found: the least place is then that one, or a lesser one from before
abbrev pub FindsCrossing : (old new : Crossings) → (settled : ℕ) → Lane → UndoRecord → Type 0
FindsCrossing old new settled lane entry = IsCrossingBy old.late entry (nat_lt (slice_index old.places lane.0) settled)
    → new.least ≡ Some (lesser old.least (record { lane = lane; place = slice_index old.places lane.0 }))

-- the least crossing of the steps, where lanes are settled up to these counts; none where there is none
abbrev pub FindsLeastCrossing : List SettledCount → List Step → Option LanePlace → Type 0
FindsLeastCrossing counts steps result = MatchOption result ((l i : ℕ) → Crosses (settled_of counts) (log_of steps) l i → ⊥)
    (λ p. IsLeastCrossing (settled_of counts) (log_of steps) p.lane.0 p.place)

-- whether the step's record is settled, where so many of its lane's are
abbrev pub is_settled : Crossings → (settled : ℕ) → Step → Bool
is_settled c settled s = nat_lt (slice_index c.places s.lane.0) settled

-- the places after the step: its lane has one record more
abbrev pub places_after : Crossings → Step → List ℕ
places_after c s = slice_set c.places s.lane.0 (slice_index c.places s.lane.0 + 1)

-- which releases are late after the step
abbrev pub late_with : Crossings → (settled : ℕ) → Step → List Bool
late_with c settled s = late_after c.late s.entry (is_settled c settled s)

-- the step takes what was freed late
abbrev pub IsCrossingStep : Crossings → (settled : ℕ) → Step → Type 0
IsCrossingStep c settled s = IsCrossingBy c.late s.entry (is_settled c settled s)
