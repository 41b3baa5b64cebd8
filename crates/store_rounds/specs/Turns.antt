-- What the parts of a round promise: each is a turn on the device, or leads from one to the next (this project's own).
use Rattle.std.specs.Prelude.{ℕ, ◌≡◌, ◌+◌, ◌-◌, ◌<◌, ◌≤◌, ◌^◌, ◌⊎◌, nat_lt, if◌then◌else◌, List, [], Result, OnErr, OnOk, length, slice_index}
use Rattle.heap_model.specs.declared.cut.Cut.{Cut}
use Rattle.heap_model.specs.declared.record.Record.{Record}
use Rattle.heap_model.specs.Cuts.{IsStable, counts_of}
use Rattle.heap_model.specs.Log.{lane, log_from}
use Rattle.heap_model.specs.Sections.{actions}
use Rattle.heap_model.specs.Setting.{Setting}
use Rattle.block_disk.specs.Device.{Device}
use Rattle.heap_model.specs.declared.record.UndoRecord.{UndoRecord}
use Rattle.image_parts.specs.declared.lane_row.LaneRow.{LaneRow}
use Rattle.image_parts.specs.declared.layout.Layout.{Layout}
use Rattle.undo_log.specs.Dropped.{records_in, undo_logs}
use Rattle.heap_model.specs.Past.{IsPast, Past, after_log, applied}
use Rattle.heap_model.specs.declared.store_error.StoreError.{StoreError}
use Rattle.store_memory.specs.Fresh.{undo_log_of}
use Rattle.store_memory.specs.Memory.{Memory, lane_in}
use Rattle.store_memory.specs.Remembers.{Remembers}
use Rattle.store_memory.specs.Sections.{Logged, TellsSections, place_behind}
use Rattle.store_round_image.specs.declared.cells.HomeValue.{HomeValue}
use Rattle.store_round_memory.specs.Rounds.{HasFound, KnowsRounds, MayKeep, Rounds}
use Rattle.store_round_sections.specs.Sections.{IsSortedByGuard, needed_of}
use Rattle.heap_model.specs.declared.ids.ObjectId.{ObjectId}
use Rattle.std.specs.List.Sorted.{IsPermutation}
use Rattle.store_rounds.specs.Steps.{Flushes, IsPastOf, Writes, after_round}
use Rattle.store_rounds.specs.Store.{Known, Parts}

-- The cut is the stable one of all sections that are known, the places are behind it, and what it keeps was found.
pub record IsPlan (g : Logged) (m : Rounds) (next : Cut) (places : List ℕ) : Type 0 where
  pub stable : (base : ℕ → ℕ) (log : List (ℕ × Record)) → TellsSections g base log → IsStable (actions log) (counts_of next)
  pub behind : (base : ℕ → ℕ) (log : List (ℕ × Record)) → TellsSections g base log → (l : ℕ) → slice_index places l ≡ place_behind (counts_of next l) (lane l log)
  pub found : (s : Setting) (p : Past) (cut : ℕ → ℕ) → MayKeep s m p cut places → HasFound s m p cut

-- What is in memory tells of this past, for so many lanes of threads.
pub record Tells (t : ℕ) (s : Setting) (p : Past) (m : Memory) (g : Logged) (r : Rounds) : Type 0 where
  pub past : IsPast s p
  pub lanes : length m.lanes ≡ t
  pub rounds_lanes : r.lanes ≡ t
  pub remembers : Remembers s m p
  pub sections : TellsSections g p.cut (applied p)
  pub rounds : KnowsRounds s r (after_log p)
  pub starts : (l : ℕ) → l < t → (lane_in m.lanes l).start ≡ records_in (p.cut l) (undo_logs p.logged l)

-- A plan was made, or a turn: the stable cut is acknowledged, by so many commits at most.
pub record Acknowledges {D : Type 0} (device : D → Device) (commits : ℕ) (next : Cut) (x y : Parts D) (result : Result (Unit {0}) StoreError) : Type 0 where
  pub writes : Writes device (x.known.committed.sequence + commits) x y result
  pub ok : (s : Setting) (p : Past) → IsPastOf device x s p → OnOk result (IsPastOf device y s (after_round p (counts_of next)))
  pub kept : (s : Setting) (p : Past) → IsPastOf device x s p → OnErr result (IsPastOf device y s p ⊎ IsPastOf device y s (after_log p))

-- The image has a lane for the helper, and so many records have room there beside the live ones.
pub record IsHelped (l : Layout) (t : ℕ) (row : LaneRow) (count : ℕ) : Type 0 where
  pub there : t < l.lanes
  pub fits : row.logged - row.start + count ≤ l.capacity
  pub limit : row.logged + count ≤ 2 ^ 63

-- by lane, the threads' records that aren't logged: no other lane has any
abbrev pub threads_fresh : (t : ℕ) → Memory → ℕ → List UndoRecord
threads_fresh t m k = if nat_lt k t then undo_log_of k m.fresh else []

-- The changed values stand in the order of their guards, and the helper's sections for them have room.
pub record IsJoined (l : Layout) (t : ℕ) (row : LaneRow) (guards : List ObjectId) (found taken : List HomeValue) : Type 0 where
  pub moved : IsPermutation found taken
  pub sorted : IsSortedByGuard guards taken
  pub few : length taken ≤ l.fields
  pub helped : IsHelped l t row (needed_of guards taken)

-- What was applied is logged, and no cell waits; what is known of sections and rounds stays.
pub record LogsAll {D : Type 0} (device : D → Device) (x y : Parts D) (result : Result (Unit {0}) StoreError) : Type 0 where
  pub flushes : Flushes device x y result
  pub sections : y.known.sections ≡ x.known.sections
  pub rounds : y.known.rounds ≡ x.known.rounds
  pub fresh : OnOk result (log_from y.known.memory.fresh ≡ [])

-- of the store's pasts, all that was applied is logged, and this cut is acknowledged
abbrev pub IsQuiet : {D : Type 0} → (device : D → Device) → Parts D → Cut → Type 0
IsQuiet device x next = (s : Setting) (p : Past) → IsPastOf device x s p → (p.fresh ≡ []) × ((l : ℕ) → counts_of next l ≡ p.cut l)

-- of none of the store's pasts is all that was applied logged, and the stable cut acknowledged
abbrev pub IsBusy : {D : Type 0} → (device : D → Device) → Parts D → Type 0
IsBusy device x = (s : Setting) (p : Past) → IsPastOf device x s p → p.fresh ≡ [] → IsStable (actions (applied p)) p.cut → ⊥

-- the cut is the stable one of all sections that are known
abbrev pub IsStableOf : Logged → Cut → Type 0
IsStableOf g next = (base : ℕ → ℕ) (log : List (ℕ × Record)) → TellsSections g base log → IsStable (actions log) (counts_of next)

-- nothing is to be logged, and no cell waits
abbrev pub IsIdle : Known → Type 0
IsIdle x = (log_from x.memory.fresh ≡ []) × (x.pending ≡ [])

-- of none of the store's pasts is that so
abbrev pub HasWork : {D : Type 0} → (device : D → Device) → Parts D → Type 0
HasWork device x = (s : Setting) (p : Past) → IsPastOf device x s p → p.fresh ≡ [] → x.known.pending ≡ [] → ⊥
