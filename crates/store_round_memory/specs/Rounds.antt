-- What is kept in memory for rounds of two syncs, as plain data, and of which past it is true (this project's own).
use Rattle.std.specs.Prelude.{ℕ, ◌≡◌, ◌↔◌, ◌+◌, ◌-◌, ◌<◌, ◌≤◌, ◌^◌, ◌≢◌, Bool, true, false, List, All, AllPairs, Contains, length, slice_index}
use Rattle.heap_model.specs.declared.record.LaneRecord.{LaneRecord}
use Rattle.heap_model.specs.declared.record.Record.{Record}
use Rattle.heap_model.specs.Base.{records_since, records_until}
use Rattle.heap_model.specs.Cuts.{IsClosed, IsWhole}
use Rattle.heap_model.specs.Log.{IsLegal, IsOfLanes, lane, log_from}
use Rattle.heap_model.specs.Sections.{actions}
use Rattle.heap_model.specs.Setting.{Setting}
use Rattle.undo_log.specs.Dropped.{records_in, undo_logs}
use Rattle.heap_model.specs.Past.{Past, applied, has_store}
use Rattle.store_helper_sections.specs.HelperSections.{first_taken}
use Rattle.store_helper_sections.specs.Image.{kept_by}
use Rattle.store_round_image.specs.Turning.{fields_of}
use Rattle.store_round_image.specs.declared.cells.HomeValue.{HomeValue}
use Rattle.store_round_memory.specs.Counting.{one_more, records_left, takes}
use Rattle.store_round_memory.specs.Surveys.{is_marked}

-- By field what the acknowledged cut keeps; the logged records beyond it, the oldest first; by lane the place of the first of these; and what
-- the last survey found: the fields that change, a mark for each of them, and by object one more than the number at which it is first taken.
-- By object one more than the number at which it was last taken, and by lane how many records the last survey counts as kept.
pub record Rounds : Type 0 where
  pub lanes : ℕ
  pub capacity : ℕ
  pub kept : List ℕ
  pub beyond : List LaneRecord
  pub starts : List ℕ
  pub changed : List HomeValue
  pub marks : List Bool
  pub first : List ℕ
  pub taken : List ℕ
  pub counted : List ℕ

-- what is kept in memory is that of this past
pub record KnowsRounds (s : Setting) (m : Rounds) (p : Past) : Type 0 where
  pub fields : length m.kept ≡ s.fields
  pub objects : length m.first ≡ s.objects
  pub kept : (f : ℕ) → f < s.fields → slice_index m.kept f ≡ kept_by s p.logged p.cut f
  pub beyond : log_from m.beyond ≡ records_since p.cut p.logged
  pub starts : (l : ℕ) → l < m.lanes → slice_index m.starts l ≡ records_in (p.cut l) (undo_logs p.logged l)
  pub taken : (o : ℕ) → slice_index m.taken o ≡ takes o p.logged

-- What was applied may count as logged: it is legal and of the lanes, and beyond the cut each lane has room for it.
pub record MayLog (s : Setting) (m : Rounds) (p : Past) : Type 0 where
  pub knows : KnowsRounds s m p
  pub legal : IsLegal s (applied p)
  pub lanes : IsOfLanes m.lanes (applied p)
  pub whole : IsWhole (actions p.logged) p.cut
  pub last : s.last < 2 ^ 64
  pub room : (l : ℕ) → l < m.lanes → length (lane l (applied p)) ≤ records_in (p.cut l) (undo_logs p.logged l) + m.capacity

-- This whole closed cut of what is logged may be the next one, and its places are behind it.
pub record MayKeep (s : Setting) (m : Rounds) (p : Past) (next : ℕ → ℕ) (places : List ℕ) : Type 0 where
  pub knows : KnowsRounds s m p
  pub legal : IsLegal s p.logged
  pub was_whole : IsWhole (actions p.logged) p.cut
  pub was_closed : IsClosed (actions p.logged) p.cut
  pub whole : IsWhole (actions p.logged) next
  pub closed : IsClosed (actions p.logged) next
  pub more : (l : ℕ) → p.cut l ≤ next l
  pub behind : (l : ℕ) → l < m.lanes → slice_index places l ≡ records_in (next l) (undo_logs p.logged l)

-- the records beyond the cut that the next cut keeps
abbrev pub newly_kept : Past → (next : ℕ → ℕ) → List (ℕ × Record)
newly_kept p next = records_until (λ l. next l - p.cut l) (records_since p.cut p.logged)

-- the field changes: the value is what the next cut keeps, by a store beyond the cut
pub record Changes (s : Setting) (p : Past) (next : ℕ → ℕ) (c : HomeValue) : Type 0 where
  pub field : c.field.0 < s.fields
  pub logged : s.is_logged c.field.0 ≡ true
  pub value : c.value ≡ kept_by s p.logged next c.field.0
  pub kept : has_store c.field.0 (records_until next p.logged) ≡ true
  pub live : has_store c.field.0 (records_since p.cut p.logged) ≡ true

-- what the next cut keeps of the records beyond the cut was found
pub record HasFound (s : Setting) (m : Rounds) (p : Past) (next : ℕ → ℕ) : Type 0 where
  pub once : AllPairs (λ c d. c.field.0 ≢ d.field.0) m.changed
  pub few : length m.changed ≤ s.fields
  pub each : All (Changes s p next) m.changed
  pub listed : (f : ℕ) → Contains (fields_of m.changed) f ↔ (is_marked m.marks f ≡ true)
  -- a field is marked exactly where the next cut keeps a store to it beyond the cut
  pub marks : (f : ℕ) → is_marked m.marks f ≡ has_store f (newly_kept p next)
  -- the others stay as they are, and a store to one beyond the cut is also beyond the next
  pub stays : (f : ℕ) → f < s.fields → is_marked m.marks f ≡ false → kept_by s p.logged next f ≡ kept_by s p.logged p.cut f
  pub left : (f : ℕ) → is_marked m.marks f ≡ false → has_store f (records_since p.cut p.logged) ≡ true → has_store f (records_since next p.logged) ≡ true
  pub first : (o : ℕ) → slice_index m.first o ≡ one_more (first_taken o (records_since next p.logged))
  pub beyond : records_left m.counted (log_from m.beyond) ≡ records_since next p.logged

-- what no survey changes
pub record SurveysOnly (old new : Rounds) : Type 0 where
  pub lanes : new.lanes ≡ old.lanes
  pub capacity : new.capacity ≡ old.capacity
  pub kept : new.kept ≡ old.kept
  pub beyond : new.beyond ≡ old.beyond
  pub starts : new.starts ≡ old.starts
  pub objects : length new.first ≡ length old.first
  pub taken : new.taken ≡ old.taken

-- the fields that the last survey found stay, and the lanes and their room
pub record KeepsFound (old new : Rounds) : Type 0 where
  pub lanes : new.lanes ≡ old.lanes
  pub capacity : new.capacity ≡ old.capacity
  pub changed : new.changed ≡ old.changed
  pub marks : new.marks ≡ old.marks
