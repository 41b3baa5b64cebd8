-- What is dropped of a replay's records, with its reasons, and the fields that take an old value back: both are there.
use Rattle.std.proofs.Common.{ℕ, zero, suc, ◌≡◌, ◌≢◌, ◌+◌, ◌*◌, ◌-◌, ◌<◌, ◌≤◌, List, [], ◌∷◌, ◌++◌, length, map, Option, Some, None, refl, sym, ap, ◌∙◌, subst, inl, inr, arith, length-append}
use Rattle.std.proofs.lemmas.Bool.{cases_lt}
use Rattle.std.proofs.lemmas.List.{length-map}
use Rattle.heap_model.specs.Log.{lane}
use Rattle.heap_model.specs.Sections.{Action, ended, undo_action, Section}
use Rattle.heap_model.specs.Cuts.{IsStable}
use Rattle.heap_model.specs.declared.ids.FieldId.{FieldId}
use Rattle.heap_model.specs.declared.record.UndoRecord.{UndoRecord}
use Rattle.law_cuts.proofs.Existence.{stable_exists}
use Rattle.image_parts.specs.declared.guard_row.GuardRow.{GuardRow}
use Rattle.image_parts.specs.declared.lane_row.LaneRow.{LaneRow}
use Rattle.undo_log.specs.StandsFor.{guard_in}
use Rattle.recover_logs.specs.Replay.{Replays}
use Rattle.recover.specs.Dropping.{acts_in, live_sections, sections_after, settled_sections, trimmed_sections, unsettled_sections, AreDropped, AreEntriesOf, IsEntryOf}
use Rattle.recover_heap.specs.Heap.{AreFields, IsUndone, first_old}
use Rattle.recover_heap.specs.Logs.{logged_guard_in}
use Rattle.recover.specs.declared.report.Dropped.{Dropped}
use Rattle.recover.specs.declared.report.Why.TheVariants.{Unfinished, After, Unsettled}
use Rattle.recover_heap.proofs.HeapLemmas.{fields_as, fields_next, undone_is}
use Rattle.recover_heap.proofs.HomeLemmas.{logged_agrees}
use Rattle.recover.proofs.LiveLemmas.{live_few}
use Rattle.recover.proofs.PushingLemmas.{ended_short}
use Rattle.law_survival.proofs.Reasons.{reason_there}

-- what is said of a section
entry_there : (trimmed : ℕ → ℕ) (log : List (ℕ × Action)) (cut : ℕ → ℕ) → IsStable log cut → (a : Section) → (d : Dropped) × IsEntryOf trimmed log cut a d
entry_there trimmed log cut stable a = elim (cases_lt (ended (lane a.lane log)) a.number) [
  | inl unfinished ↦ (
    record { lane = record { 0 = a.lane }; section = trimmed a.lane + a.number; why = Unfinished },
    record { called = record { lane_is = refl; number_is = refl }; why_is = unfinished },
  )
  | inr whole ↦ elim (cases_lt (cut a.lane) a.number) [
    | inr inside ↦ (
      record { lane = record { 0 = a.lane }; section = trimmed a.lane + a.number; why = Unsettled },
      record { called = record { lane_is = refl; number_is = refl }; why_is = inside },
    )
    | inl out ↦
        let r = reason_there log cut a stable whole out in (
          record { lane = record { 0 = a.lane }; section = trimmed a.lane + a.number; why = After (record { 0 = r.0.lane }) (trimmed r.0.lane + r.0.number) },
          record {
            called = record { lane_is = refl; number_is = refl };
            why_is = record { left_out = record { whole = whole; outside = out }; first = r.0; reason = r.1; called = record { lane_is = refl; number_is = refl } };
          },
        )
  ]
]

-- of each of these sections
record Entries (trimmed : ℕ → ℕ) (log : List (ℕ × Action)) (cut : ℕ → ℕ) (sections : List Section) : Type 0 where
  dropped : List Dropped
  are : AreEntriesOf trimmed log cut sections dropped
  long : length dropped ≡ length sections

entries_there : (trimmed : ℕ → ℕ) (log : List (ℕ × Action)) (cut : ℕ → ℕ) → IsStable log cut → (sections : List Section) → Entries trimmed log cut sections
entries_there trimmed log cut stable [] = record { dropped = []; are = tt; long = refl }
entries_there trimmed log cut stable (a ∷ sections) =
    let first = entry_there trimmed log cut stable a in
    let rest : Entries trimmed log cut sections = entries_there trimmed log cut stable sections in
    record { dropped = first.0 ∷ rest.dropped; are = (first.1, rest.are); long = ap suc rest.long }

-- what is dropped of a replay's records
pub record Drops (rows : List LaneRow) (lanes : ℕ → List UndoRecord) (done : List (ℕ × UndoRecord)) (count : ℕ) : Type 0 where
  pub dropped : List Dropped
  pub are : AreDropped rows lanes done count dropped
  pub long : length dropped ≡ length (unsettled_sections rows lanes count)

pub drops_there : (rows : List LaneRow) (lanes : ℕ → List UndoRecord) (done : List (ℕ × UndoRecord)) (count : ℕ) → Drops rows lanes done count
drops_there rows lanes done count =
    let stable = stable_exists (acts_in done) in
    let entries : Entries (trimmed_sections rows lanes) (acts_in done) stable.0 (unsettled_sections rows lanes count) = entries_there (trimmed_sections rows lanes) (acts_in done) stable.0 stable.1 (unsettled_sections rows lanes count) in
    record { dropped = entries.dropped; are = record { cut = stable.0; stable = stable.1; entries = entries.are }; long = entries.long }

-- these are not too many
after_long : (l first n : ℕ) → length (sections_after l first n) ≡ n
after_long l first zero = refl
after_long l first (suc n) = omega (arith, length-append (sections_after l first n) (record { lane = l; number = first + suc n } ∷ []), after_long l first n)

live_short : (lanes : ℕ → List UndoRecord) (l : ℕ) → live_sections lanes l ≤ length (lanes l) + 1
live_short lanes l = omega (arith, live_few lanes l, ended_short (map undo_action (lanes l)), length-map (lanes l) undo_action)

pub drops_few : (rows : List LaneRow) (lanes : ℕ → List UndoRecord) → ((l : ℕ) → length (lanes l) ≤ 1048576) → (n : ℕ) → length (unsettled_sections rows lanes n) ≤ n * 1048577
drops_few rows lanes few zero = omega arith
drops_few rows lanes few (suc n) = omega (
  arith,
  length-append (unsettled_sections rows lanes n) (sections_after n (settled_sections rows lanes n) (live_sections lanes n - settled_sections rows lanes n)),
  after_long n (settled_sections rows lanes n) (live_sections lanes n - settled_sections rows lanes n),
  live_short lanes n,
  few n,
  drops_few rows lanes few n,
)

-- The fields that take an old value back.
module _ (guards : List GuardRow) (settled : ℕ → ℕ) (lanes : ℕ → List UndoRecord) (done : List (ℕ × UndoRecord)) where
  -- the field has an old value
  abbrev HasOld : ℕ → Type 0
  HasOld f = first_old settled f done ≢ None

  fields_to : (n : ℕ) → (fields : List FieldId) × AreFields (λ (f : ℕ). (f < n) × HasOld f) fields
  fields_to zero = ([], record { rising = λ k lt. absurd (omega (arith, lt)); each = λ f. ((λ h. absurd (omega (arith, h.1))), (λ h. absurd (omega (arith, h.0)))) })
  fields_to (suc n) =
      let older = fields_to n in
      let next : n + 1 ≡ suc n = omega arith in
      by_value older.0 older.1 next (first_old settled n done) refl
    where
      by_value : (xs : List FieldId) → AreFields (λ (f : ℕ). (f < n) × HasOld f) xs → n + 1 ≡ suc n → (v : Option ℕ) → first_old settled n done ≡ v → (fields : List FieldId) × AreFields (λ (f : ℕ). (f < suc n) × HasOld f) fields
      by_value xs are next None is = (
        xs,
        subst (λ (k : ℕ). AreFields (λ (f : ℕ). (f < k) × HasOld f) xs) next (fields_next HasOld n xs xs are (inr ((λ some. some is), refl))),
      )
      by_value xs are next (Some v) is = (
        xs ++ record { 0 = n } ∷ [],
        subst (λ (k : ℕ). AreFields (λ (f : ℕ). (f < k) × HasOld f) (xs ++ record { 0 = n } ∷ [])) next
            (fields_next HasOld n xs (xs ++ record { 0 = n } ∷ []) are (inl ((λ none. (let clash : Some v ≡ None = sym is ∙ none in cc)), refl))),
      )

  pub fields_there : Replays (logged_guard_in guards) lanes done → (n : ℕ) → (fields : List FieldId) × AreFields (λ (f : ℕ). (f < n) × IsUndone (guard_in guards f) f lanes settled) fields
  fields_there replays n =
      let found = fields_to n in (
        found.0,
        fields_as (λ (f : ℕ). (f < n) × HasOld f) (λ (f : ℕ). (f < n) × IsUndone (guard_in guards f) f lanes settled) found.0
            (λ f. (let same = undone_is (logged_guard_in guards) (guard_in guards) (logged_agrees guards) settled lanes done f replays in ((λ h. (h.0, same.0 h.1)), (λ h. (h.0, same.1 h.1))))) found.1,
      )
