-- When a memory is that of a past (this project's own).
use Rattle.std.specs.Prelude.{ℕ, ◌≡◌, ◌<◌, ◌≤◌, ◌==◌, if◌then◌else◌, List, [], ◌∷◌, length}
use Rattle.heap_model.specs.Setting.{Setting}
use Rattle.heap_model.specs.Log.{lane, holder, number, value, awaited, IsLegal, log_from}
use Rattle.heap_model.specs.Sections.{Action, actions, holding}
use Rattle.store_memory.specs.declared.states.LaneState.{LaneState}
use Rattle.heap_model.specs.Past.{Past, applied}
use Rattle.store_memory.specs.Dirty.{is_dirty_in}
use Rattle.store_memory.specs.Fresh.{IsOfLanes}
use Rattle.store_memory.specs.Memory.{Memory, field_in, lane_in, holder_in, number_in, value_in, guard_in, is_logged_in, object_number}

-- what a lane did in the section that it is in, the newest first: nothing where it holds nothing (Atlas)
abbrev pub open_section : List Action → List Action
open_section [] = []
open_section (a ∷ older) = if length (holding (a ∷ older)) == 0 then [] else a ∷ open_section older

-- how many monitors the lane holds, how many records its open section has, and how many it has applied
abbrev pub held_of : Past → (lane : ℕ) → ℕ
held_of p l = length (holding (lane l (actions (applied p))))

abbrev pub section_of : Past → (lane : ℕ) → ℕ
section_of p l = length (open_section (lane l (actions (applied p))))

abbrev pub place_of : Past → (lane : ℕ) → ℕ
place_of p l = length (lane l (applied p))

-- the lane's state is that of the past
pub record RemembersLane (p : Past) (l : ℕ) (s : LaneState) : Type 0 where
  pub place : s.place ≡ place_of p l
  pub held : s.held ≡ held_of p l
  pub section : s.section ≡ section_of p l
  pub awaited_is : object_number s.awaited ≡ awaited l (applied p)
  -- what was trimmed was logged
  pub start : s.start ≤ length (lane l p.logged)

-- the memory is that of this past
pub record Remembers (s : Setting) (m : Memory) (p : Past) : Type 0 where
  -- the records applied are a legal list, of its lanes
  pub legal : IsLegal s (applied p)
  pub of_lanes : IsOfLanes (length m.lanes) (applied p)
  -- it has the setting
  pub last : m.last ≡ s.last
  pub objects : length m.monitors ≡ s.objects
  pub fields : length m.fields ≡ s.fields
  pub guards : (f : ℕ) → f < s.fields → guard_in m.fields f ≡ s.guard f
  pub marks : (f : ℕ) → f < s.fields → is_logged_in m.fields f ≡ s.is_logged f
  pub guards_named : (f : ℕ) → f < s.fields → s.guard f < s.objects
  -- monitors, fields and lanes are as the records leave them
  pub holders : (o : ℕ) → o < s.objects → holder_in m.monitors o ≡ holder o (applied p)
  pub numbers : (o : ℕ) → o < s.objects → number_in m.monitors o ≡ number o (applied p)
  pub values : (f : ℕ) → f < s.fields → value_in m.fields f ≡ value s.first f (applied p)
  pub lanes : (l : ℕ) → l < length m.lanes → RemembersLane p l (lane_in m.lanes l)
  -- what is logged and what isn't
  pub logged : (f : ℕ) → f < s.fields → (field_in m.fields f).logged ≡ value s.first f p.logged
  pub fresh : log_from m.fresh ≡ p.fresh
  pub dirty_fields : m.dirty.fields ≡ s.fields
  pub dirty : (f : ℕ) → f < s.fields → is_dirty_in m.dirty f ≡ p.is_dirty f
