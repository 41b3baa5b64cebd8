-- Whether a store has something left to do, by what it knows.
use Rattle.std.proofs.Common.{ℕ, zero, suc, ◌≡◌, ◌<◌, ◌≤◌, ◌⊎◌, ◌==◌, inl, inr, ⊎_elim, Bool, true, false, List, [], length, reverse, Option, Some, None, MatchOption, sym, ap, ◌∙◌, arith}
use Rattle.std.specs.Option.{is_some}
use Rattle.std.proofs.lemmas.Bool.{cases_lt, eqb-true, eqb-false}
use Rattle.std.proofs.lemmas.List.{length-map, length-reverse, get_or_past}
use Rattle.heap_model.specs.declared.ids.FieldId.{FieldId}
use Rattle.heap_model.specs.declared.record.Record.{Record}
use Rattle.heap_model.specs.declared.record.LaneRecord.{LaneRecord}
use Rattle.heap_model.specs.Setting.{Setting}
use Rattle.heap_model.specs.Log.{lane, log_from}
use Rattle.heap_model.specs.Sections.{actions, ended}
use Rattle.block_disk.specs.Device.{Device}
use Rattle.undo_log.specs.StandsFor.{row_of}
use Rattle.store_memory.specs.Begin.{IsLeastDirtyOf}
use Rattle.durable.specs.Calls.{HasOpen, IsClean}
use Rattle.store_memory.specs.declared.states.LaneState.{LaneState}
use Rattle.store_memory.specs.Memory.{Memory, new_lane}
use Rattle.heap_model.specs.Past.{Past}
use Rattle.store_memory.specs.Remembers.{held_of, Remembers}
use Rattle.durable.specs.Store.{Known, HasPast}
use Rattle.store_memory.proofs.Begins.{none_held}
use Rattle.store_memory.proofs.SectionLaws.{none_past}
use Rattle.store_image.proofs.Stands.{empty}

-- one of the first lanes holds a monitor, or none does
some_or_none : (p : Past) (n : ℕ) → HasOpen p ⊎ ((l : ℕ) → l < n → held_of p l ≡ 0)
some_or_none p zero = inr (λ l lt. absurd (omega arith))
some_or_none p (suc n) = elim (cases_lt 0 (held_of p n)) [
  | inl holds ↦ inl (n, holds)
  | inr none ↦ ⊎_elim (λ held. inl held)
      (λ rest. inr (λ l lt. elim (cases_lt l n) [
        | inl less ↦ rest l less
        | inr from ↦
            let same : l ≡ n = omega arith in
            let here : held_of p l ≡ held_of p n = ap (λ k. held_of p k) same in
            omega arith
      ]))
      (some_or_none p n)
]

-- so where it isn't that none does, one does
pub open_told : (s : Setting) (m : Memory) (p : Past) (is_open : Bool) → Remembers s m p → (((l : ℕ) → held_of p l ≡ 0) → is_open ≡ false) → is_open ≡ true → HasOpen p
open_told s m p is_open was closed is = ⊎_elim (λ held. held)
    (λ none. absurd (let no : false ≡ true = sym (closed (none_held s m p was (λ k. elim (cases_lt k (length m.lanes)) [
      | inl low ↦ (was.lanes k low).held ∙ none k low
      | inr past ↦ ap (λ (st : LaneState). st.held) (get_or_past m.lanes k new_lane past)
    ]))) ∙ is in cc))
    (some_or_none p (length m.lanes))

-- with no list of records left, nothing is to be logged
pub logged_told : (p : Past) (xs : List LaneRecord) → log_from xs ≡ p.fresh → (length xs == 0) ≡ true → p.fresh ≡ []
logged_told p xs are none = sym are ∙ ap (λ (ys : List LaneRecord). log_from ys) (empty xs (eqb-true (length xs) 0 none))

pub unlogged_told : (p : Past) (xs : List LaneRecord) → log_from xs ≡ p.fresh → (length xs == 0) ≡ false → p.fresh ≡ [] → ⊥
unlogged_told p xs are some none =
    let size : length (log_from xs) ≡ length xs = length-map (reverse xs) (λ (x : LaneRecord). (x.lane.0, x.record)) ∙ length-reverse xs in
    eqb-false (length xs) 0 some (sym size ∙ ap (λ (ys : List (ℕ × Record)). length ys) (are ∙ none))

-- with no least dirty field, none is dirty
pub clean_told : (s : Setting) (p : Past) (least : Option FieldId) → MatchOption least (IsClean s p) (λ field. IsLeastDirtyOf s p field.0) → is_some least ≡ false → IsClean s p
clean_told s p None clean none = clean
clean_told s p (Some field) dirty none = absurd (let no : true ≡ false = none in cc)

pub dirty_told : (s : Setting) (p : Past) (least : Option FieldId) → MatchOption least (IsClean s p) (λ field. IsLeastDirtyOf s p field.0) → is_some least ≡ true → IsClean s p → ⊥
dirty_told s p None was some clean = absurd (let no : false ≡ true = some in cc)
dirty_told s p (Some field) dirty some clean = absurd (let no : true ≡ false = sym dirty.among ∙ clean field.0 dirty.field_is in cc)

module _ (x : Known) (s : Setting) (p : Past) (d : Device) (has : HasPast x s p d) (cut : ℕ → ℕ) (rows : (l : ℕ) → l < 32 → cut l ≡ (row_of x.committed.rows l).kept) where
  -- the rows tell of the acknowledged cut
  kept : (l : ℕ) → l < x.layout.lanes → cut l ≡ p.cut l
  kept l low = rows l (omega (arith, has.layout.limits.lanes.1)) ∙ has.tells.kept l low

  -- and a lane that the image doesn't have has no sections
  no_sections : (l : ℕ) → x.layout.lanes ≤ l → ended (lane l (actions p.logged)) ≡ 0
  no_sections l past = none_past x.logged p.base p.logged has.sections l (omega (arith, has.layout.logged_lanes))

  pub acknowledged_told : ((l : ℕ) → ended (lane l (actions p.logged)) ≤ cut l) → (l : ℕ) → ended (lane l (actions p.logged)) ≤ p.cut l
  acknowledged_told within l = elim (cases_lt l x.layout.lanes) [ inl low ↦ omega (arith, within l, kept l low) | inr past ↦ omega (arith, no_sections l past) ]

  pub told_acknowledged : ((l : ℕ) → ended (lane l (actions p.logged)) ≤ p.cut l) → (l : ℕ) → ended (lane l (actions p.logged)) ≤ cut l
  told_acknowledged within l = elim (cases_lt l x.layout.lanes) [ inl low ↦ omega (arith, within l, kept l low) | inr past ↦ omega (arith, no_sections l past) ]
