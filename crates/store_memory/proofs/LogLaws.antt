-- What is remembered after the fresh records were logged.
use Rattle.std.proofs.Common.{ℕ, ◌≡◌, ◌+◌, ◌<◌, ◌==◌, if◌then◌else◌, Bool, true, false, List, [], ◌∷◌, ◌++◌, length, take, get_or, slice_set, refl, sym, ap, ◌∙◌, inl, inr, arith}
use Rattle.std.proofs.lemmas.Bool.Decides.{eqb_tells}
use Rattle.std.proofs.lemmas.List.{take_more}
use Rattle.heap_model.specs.declared.record.Record.{Record}
use Rattle.heap_model.specs.declared.record.Record.TheVariants.{Acq, Rel, WaitRel, Put}
use Rattle.heap_model.specs.declared.record.LaneRecord.{LaneRecord}
use Rattle.heap_model.specs.Setting.{Setting}
use Rattle.heap_model.specs.Log.{value, log_from}
use Rattle.store_memory.specs.declared.states.FieldState.{FieldState}
use Rattle.heap_model.specs.Past.{Past, has_store, after_log, after_home}
use Rattle.store_memory.specs.Dirty.{DirtySet, is_dirty_in}
use Rattle.store_memory.specs.Memory.{Memory, new_field, field_in, value_in, guard_in, is_logged_in}
use Rattle.store_memory.specs.Remembers.{Remembers}
use Rattle.store_memory.proofs.FreshLaws.{log_snoc}
use Rattle.store_memory.proofs.Remembering.{at_set}
use Rattle.store_memory.proofs.Verdicts.{lane_long}

pub log_more : (xs : List LaneRecord) (i : ℕ) (e : LaneRecord) → i < length xs → log_from (take (i + 1) xs) ≡ ((get_or xs i e).lane.0, (get_or xs i e).record) ∷ log_from (take i xs)
log_more xs i e lt = ap (λ (ys : List LaneRecord). log_from ys) (take_more xs i e lt) ∙ log_snoc (take i xs) (get_or xs i e)

-- a value depends on the field's first value alone
pub value_first : (first other : ℕ → ℕ) (f : ℕ) (log : List (ℕ × Record)) → first f ≡ other f → value first f log ≡ value other f log
value_first first other f [] e = e
value_first first other f ((l, Acq o n) ∷ older) e = value_first first other f older e
value_first first other f ((l, Rel o n) ∷ older) e = value_first first other f older e
value_first first other f ((l, WaitRel o n) ∷ older) e = value_first first other f older e
value_first first other f ((l, Put g v w) ∷ older) e = ap (λ x. if g.0 == f then w else x) (value_first first other f older e)

pub value_append : (first : ℕ → ℕ) (f : ℕ) (newer older : List (ℕ × Record)) → value first f (newer ++ older) ≡ value (λ g. value first g older) f newer
value_append first f [] older = refl
value_append first f ((l, Acq o n) ∷ newer) older = value_append first f newer older
value_append first f ((l, Rel o n) ∷ newer) older = value_append first f newer older
value_append first f ((l, WaitRel o n) ∷ newer) older = value_append first f newer older
value_append first f ((l, Put g v w) ∷ newer) older = ap (λ x. if g.0 == f then w else x) (value_append first f newer older)

-- one record more
pub value_one : (first so_far : ℕ → ℕ) (f : ℕ) (l : ℕ) (r : Record) (older : List (ℕ × Record)) → so_far f ≡ value first f older → value so_far f ((l, r) ∷ []) ≡ value first f ((l, r) ∷ older)
value_one first so_far f l (Acq o n) older e = e
value_one first so_far f l (Rel o n) older e = e
value_one first so_far f l (WaitRel o n) older e = e
value_one first so_far f l (Put g v w) older e = ap (λ x. if g.0 == f then w else x) e

either : (was now later : Bool) → (if (if was then true else later) then true else (if now then true else false)) ≡ (if was then true else (if now then true else later))
either true now later = refl
either false true true = refl
either false true false = refl
either false false true = refl
either false false false = refl

none : (was later : Bool) → (if (if was then true else later) then true else false) ≡ (if was then true else later)
none true later = refl
none false true = refl
none false false = refl

pub dirty_one : (was : Bool) (f l : ℕ) (r : Record) (older : List (ℕ × Record)) →
    (if (if was then true else has_store f older) then true else has_store f ((l, r) ∷ [])) ≡ (if was then true else has_store f ((l, r) ∷ older))
dirty_one was f l (Acq o n) older = none was (has_store f older)
dirty_one was f l (Rel o n) older = none was (has_store f older)
dirty_one was f l (WaitRel o n) older = none was (has_store f older)
dirty_one was f l (Put g v w) older = either was (g.0 == f) (has_store f older)

-- a field whose logged value is set
pub logged_set : (fs : List FieldState) (g f w : ℕ) → f < length fs → g < length fs → (field_in (slice_set fs g (record (field_in fs g) { logged = w })) f).logged ≡ (if g == f then w else (field_in fs f).logged)
logged_set fs g f w low lt = ap (λ (c : FieldState). c.logged) (at_set fs g f (record (field_in fs g) { logged = w }) new_field lt)
    ∙ elim (g == f) as (λ b. (if b then record (field_in fs g) { logged = w } else field_in fs f).logged ≡ (if b then w else (field_in fs f).logged)) [ true ↦ refl | false ↦ refl ]

-- what it leaves of the field
module _ {Y : Type 0} (part : FieldState → Y) (keeps : (c : FieldState) (w : ℕ) → part (record c { logged = w }) ≡ part c) where
  pub part_logged : (fs : List FieldState) (g f w : ℕ) → g < length fs → part (field_in (slice_set fs g (record (field_in fs g) { logged = w })) f) ≡ part (field_in fs f)
  part_logged fs g f w lt =
      ap part (at_set fs g f (record (field_in fs g) { logged = w }) new_field lt)
      ∙ elim (eqb_tells g f) [
        | inl e ↦ ap (λ (b : Bool). part (if b then record (field_in fs g) { logged = w } else field_in fs f)) e.0 ∙ keeps (field_in fs g) w ∙ ap (λ k. part (field_in fs k)) e.1
        | inr e ↦ ap (λ (b : Bool). part (if b then record (field_in fs g) { logged = w } else field_in fs f)) e.0
      ]

-- the memory after what was fresh is logged
pub remembers_log : (s : Setting) (m : Memory) (p : Past) (fs : List FieldState) (d : DirtySet) → Remembers s m p → length fs ≡ length m.fields →
    ((f : ℕ) → f < length m.fields → (field_in fs f).logged ≡ value (λ g. (field_in m.fields g).logged) f (log_from m.fresh)) →
    ((f : ℕ) → value_in fs f ≡ value_in m.fields f) → ((f : ℕ) → guard_in fs f ≡ guard_in m.fields f) → ((f : ℕ) → is_logged_in fs f ≡ is_logged_in m.fields f) →
    ((f : ℕ) → f < m.dirty.fields → is_dirty_in d f ≡ (if is_dirty_in m.dirty f then true else has_store f (log_from m.fresh))) → d.fields ≡ m.dirty.fields →
    Remembers s (record m { fields = fs; fresh = []; dirty = d }) (after_log p)
remembers_log s m p fs d was long logged values guards marks dirty dirty_fields = record {
  legal = was.legal;
  of_lanes = was.of_lanes;
  last = was.last;
  objects = was.objects;
  fields = long ∙ was.fields;
  guards = λ f low. guards f ∙ was.guards f low;
  marks = λ f low. marks f ∙ was.marks f low;
  guards_named = was.guards_named;
  holders = was.holders;
  numbers = was.numbers;
  values = λ f low. values f ∙ was.values f low;
  lanes = λ l low. record {
    place = (was.lanes l low).place;
    held = (was.lanes l low).held;
    section = (was.lanes l low).section;
    awaited_is = (was.lanes l low).awaited_is;
    start = omega (arith, (was.lanes l low).start, lane_long l p.fresh p.logged);
  };
  logged = λ f low.
      logged f (omega (arith, was.fields)) ∙ ap (λ log. value (λ g. (field_in m.fields g).logged) f log) was.fresh
      ∙ value_first (λ g. (field_in m.fields g).logged) (λ g. value s.first g p.logged) f p.fresh (was.logged f low) ∙ sym (value_append s.first f p.fresh p.logged);
  fresh = refl;
  dirty_fields = dirty_fields ∙ was.dirty_fields;
  dirty = λ f low.
      dirty f (omega (arith, was.dirty_fields)) ∙ ap (λ log. if is_dirty_in m.dirty f then true else has_store f log) was.fresh
      ∙ ap (λ b. if b then true else has_store f p.fresh) (was.dirty f low);
}

-- the memory after a field's logged value is at home
pub remembers_home : (s : Setting) (m : Memory) (p : Past) (home : ℕ) (d : DirtySet) → Remembers s m p →
    ((f : ℕ) → is_dirty_in d f ≡ (if home == f then false else is_dirty_in m.dirty f)) → d.fields ≡ m.dirty.fields → Remembers s (record m { dirty = d }) (after_home p home)
remembers_home s m p home d was dirty dirty_fields = record {
  legal = was.legal;
  of_lanes = was.of_lanes;
  last = was.last;
  objects = was.objects;
  fields = was.fields;
  guards = was.guards;
  marks = was.marks;
  guards_named = was.guards_named;
  holders = was.holders;
  numbers = was.numbers;
  values = was.values;
  lanes = λ l low. record {
    place = (was.lanes l low).place;
    held = (was.lanes l low).held;
    section = (was.lanes l low).section;
    awaited_is = (was.lanes l low).awaited_is;
    start = (was.lanes l low).start;
  };
  logged = was.logged;
  fresh = was.fresh;
  dirty_fields = dirty_fields ∙ was.dirty_fields;
  dirty = λ f low. dirty f ∙ ap (λ b. if home == f then false else b) (was.dirty f low);
}
