-- The past that a store begins with.
use Rattle.std.proofs.Common.{ℕ, ◌≡◌, ◌<◌, ◌≤◌, Bool, true, false, not, List, [], length, slice_index, slice_index_or, refl, sym, ap, ◌∙◌, subst, arith}
use Rattle.std.proofs.lemmas.List.{get_or_default}
use Rattle.heap_model.specs.Setting.{Setting}
use Rattle.block_disk.specs.Device.{Device}
use Rattle.image_parts.specs.Guards.{no_row}
use Rattle.image_parts.specs.Recovered.{IsRecovered}
use Rattle.image_parts.specs.declared.guard_row.GuardRow.{GuardRow}
use Rattle.image_parts.specs.declared.layout.Layout.{Layout}
use Rattle.image_parts.specs.declared.slot.Slot.{Slot}
use Rattle.heap_model.specs.Past.{no_past}
use Rattle.store_memory.specs.Begin.{AreFieldsOf}
use Rattle.durable.specs.Begin.{HasRows, IsSettingOf}
use Rattle.store_image.specs.Consistent.{IsConsistent}
use Rattle.store_memory.specs.declared.states.FieldState.{FieldState}
use Rattle.store_memory.specs.Memory.{Memory, field_in, lane_in, guard_in}
use Rattle.store_memory.specs.Remembers.{Remembers}
use Rattle.store_memory.specs.Sections.{Logged, TellsSections}
use Rattle.durable.specs.Store.{HasPast, Shows}
use Rattle.store_image.specs.declared.committed.Committed.{Committed}
use Rattle.durable.specs.declared.doubt.Doubt.TheVariants.{Nothing}
use Rattle.durable.proofs.Begun.{begins, empty_committed}
use Rattle.store_image.proofs.Stands.{shows_always}

-- the setting that a layout, guard rows and values make
abbrev pub setting_of : Layout → List GuardRow → List ℕ → (last : ℕ) → Setting
setting_of l rows heap last = record { objects = l.objects; fields = l.fields; guard = λ f. (slice_index_or rows f no_row).guard.0; first = λ f. slice_index heap f; is_logged = λ f. not (slice_index_or rows f no_row).transient; last = last }

not_not : (b : Bool) → b ≡ not (not b)
not_not true = refl
not_not false = refl

pub setting_is : (l : Layout) (rows : List GuardRow) (heap : List ℕ) (last : ℕ) → HasRows l rows → IsSettingOf l rows heap last (setting_of l rows heap last)
setting_is l rows heap last has = record {
  objects = refl;
  fields = refl;
  guards = λ f d low. ap (λ (r : GuardRow). r.guard.0) (get_or_default rows f d no_row (omega (arith, has.size)));
  marks = λ f d low. ap (λ (r : GuardRow). r.transient) (get_or_default rows f d no_row (omega (arith, has.size))) ∙ not_not (slice_index_or rows f no_row).transient;
  values = λ f low. refl;
  last_is = refl;
}

-- the fields that the rows and values make
module _ (l : Layout) (rows : List GuardRow) (heap : List ℕ) (fields : List FieldState) (has : HasRows l rows) (size : length fields ≡ length rows)
    (guards : (f : ℕ) (d : GuardRow) → f < length rows → (field_in fields f).guard ≡ (slice_index_or rows f d).guard)
    (marks : (f : ℕ) (d : GuardRow) → f < length rows → (field_in fields f).is_logged ≡ not (slice_index_or rows f d).transient) where
  pub are_fields : (last : ℕ) (s : Setting) → ((f : ℕ) → f < length rows → (field_in fields f).value ≡ slice_index heap f) → IsSettingOf l rows heap last s → AreFieldsOf l.objects fields last s
  are_fields last s values set = record {
    objects = set.objects;
    size = set.fields ∙ sym has.size ∙ sym size;
    guards = λ f low. ap (λ o. o.0) (guards f no_row (omega (arith, size))) ∙ set.guards f no_row (omega (arith, size, has.size));
    marks = λ f low. marks f no_row (omega (arith, size)) ∙ ap not (set.marks f no_row (omega (arith, size, has.size))) ∙ sym (not_not (s.is_logged f));
    values = λ f low. values f (omega (arith, size)) ∙ set.values f (omega (arith, size, has.size));
    last_is = set.last_is;
  }

  pub are_named : (f : ℕ) → f < length fields → guard_in fields f < l.objects
  are_named f low = subst (λ n. n < l.objects) (sym (ap (λ o. o.0) (guards f no_row (omega (arith, size))))) (has.named f no_row (omega (arith, size, has.size)))

-- what is recovered has a row for each field
pub rows_recovered : (l : Layout) (d : Device) (rows : List GuardRow) (slot : Slot) (sequence : ℕ) (heap : List ℕ) → IsRecovered d l rows slot sequence heap → HasRows l rows
rows_recovered l d rows slot sequence heap is = record { size = is.image.guards.size; named = λ f row low. (is.image.guards.each f row low).objects.guard }

-- the setting of the same parts
pub same_setting : (l k : Layout) (rows guards : List GuardRow) (heap values : List ℕ) (last : ℕ) (s : Setting) → l ≡ k → rows ≡ guards → heap ≡ values → IsSettingOf l rows heap last s → IsSettingOf k guards values last s
same_setting l k rows guards heap values last s layouts rows_are heaps set =
    subst (λ (xs : List ℕ). IsSettingOf k guards xs last s) heaps (subst (λ (gs : List GuardRow). IsSettingOf k gs heap last s) rows_are (subst (λ (j : Layout). IsSettingOf j rows heap last s) layouts set))

-- with nothing told, the store has no past
module _ (l : Layout) (d : Device) (rows : List GuardRow) (slot : Slot) (sequence : ℕ) (heap : List ℕ) (last : ℕ) (is : IsRecovered d l rows slot sequence heap) (fits : last ≤ 1099511627775)
    (c : Committed) (m : Memory) (g : Logged) (empty : c ≡ empty_committed slot sequence) (lanes : length m.lanes ≡ l.lanes) (capacity : m.capacity ≡ l.capacity) (starts : (k : ℕ) → (lane_in m.lanes k).start ≡ 0)
    (tells : TellsSections g (λ k. 0) []) (logged_lanes : g.lanes ≡ l.lanes) (logged_capacity : g.capacity ≡ l.capacity)
    (remembers : (s : Setting) → IsSettingOf l rows heap last s → Remembers s m no_past) where
  pub adopts : (s : Setting) → IsSettingOf l rows heap last s → HasPast (record { layout = l; committed = c; memory = m; logged = g; has_failed = false; doubt = Nothing }) s no_past d
  adopts s set =
      let consistent : IsConsistent l s no_past c d = subst (λ (x : Committed). IsConsistent l s no_past x d) (sym empty)
      (begins l s d rows slot sequence heap is (record { guard = λ f low. set.guards f no_row low; mark = λ f low. set.marks f no_row low; first = set.values })) in
      record {
        layout = record { limits = consistent.limits; lanes = lanes; capacity = capacity; logged_lanes = logged_lanes; logged_capacity = logged_capacity };
        setting = record { objects = set.objects; fields = set.fields; last = omega (arith, set.last_is) };
        past = consistent.past;
        remembers = remembers s set;
        sections = tells;
        starts = λ k low. starts k;
        tells = consistent.tells;
        agrees = λ running. consistent;
        images = λ image left. Shows (shows_always l s no_past c d consistent image left);
      }

  -- there is a setting that it has
  pub adopts_one : (s : Setting) × HasPast (record { layout = l; committed = c; memory = m; logged = g; has_failed = false; doubt = Nothing }) s no_past d
  adopts_one =
      let s = setting_of l rows heap last in
      (s, adopts s (setting_is l rows heap last (rows_recovered l d rows slot sequence heap is)))
