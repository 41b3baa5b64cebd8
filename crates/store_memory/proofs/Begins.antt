-- What is remembered before any record, and where nothing was done.
use Rattle.std.proofs.Common.{ℕ, ◌≡◌, ◌<◌, ◌≤◌, if◌then◌else◌, false, List, [], ◌∷◌, length, replicate, refl, sym, ap, ◌∙◌, subst, inl, inr, arith}
use Rattle.std.proofs.lemmas.Bool.{cases_lt, ne_eqb}
use Rattle.std.proofs.lemmas.List.{get_or-replicate, get_or_past}
use Rattle.heap_model.specs.declared.record.Record.{Record}
use Rattle.heap_model.specs.declared.record.LaneRecord.{LaneRecord}
use Rattle.heap_model.specs.Setting.{Setting}
use Rattle.heap_model.specs.Events.{lane_number}
use Rattle.heap_model.specs.Log.{lane, log_from}
use Rattle.heap_model.specs.Sections.{Action, action, actions, holding}
use Rattle.store_memory.specs.declared.states.MonitorState.{MonitorState}
use Rattle.store_memory.specs.declared.states.FieldState.{FieldState}
use Rattle.store_memory.specs.declared.states.LaneState.{LaneState}
use Rattle.heap_model.specs.Past.{Past, applied, no_past}
use Rattle.store_memory.specs.Dirty.{is_dirty_in}
use Rattle.store_memory.specs.Fresh.{IsOfLanes}
use Rattle.store_memory.specs.Memory.{Memory, new_monitor, new_lane, monitor_in, field_in, lane_in, guard_in, value_in, is_logged_in}
use Rattle.store_memory.specs.Remembers.{held_of, RemembersLane, Remembers}
use Rattle.store_memory.specs.Limits.{IsWithin}
use Rattle.store_memory.specs.Begin.{AreFieldsOf}

lane_none : (n l : ℕ) (log : List (ℕ × Record)) → IsOfLanes n log → n ≤ l → lane l (actions log) ≡ []
lane_none n l [] of past = refl
lane_none n l (x ∷ older) of past = ap (λ b. if b then action x.1 ∷ lane l (actions older) else lane l (actions older)) (ne_eqb x.0 l (omega (arith, of.0))) ∙ lane_none n l older of.1 past

-- where no lane of the memory holds a monitor, none does
pub none_held : (s : Setting) (m : Memory) (p : Past) → Remembers s m p → ((k : ℕ) → (lane_in m.lanes k).held ≡ 0) → (l : ℕ) → held_of p l ≡ 0
none_held s m p was none l = elim (cases_lt l (length m.lanes)) [
  | inl low ↦ sym (was.lanes l low).held ∙ none l
  | inr past ↦ ap (λ (acts : List Action). length (holding acts)) (lane_none (length m.lanes) l (applied p) was.of_lanes past)
]

-- the setting that fields and a number of objects make
abbrev pub setting_of : (objects : ℕ) → List FieldState → (last : ℕ) → Setting
setting_of objects fields last = record { objects = objects; fields = length fields; guard = λ f. guard_in fields f; first = λ f. value_in fields f; is_logged = λ f. is_logged_in fields f; last = last }

pub setting_is : (objects : ℕ) (fields : List FieldState) (last : ℕ) → AreFieldsOf objects fields last (setting_of objects fields last)
setting_is objects fields last = record { objects = refl; size = refl; guards = λ f low. refl; marks = λ f low. refl; values = λ f low. refl; last_is = refl }

pub begins : (objects lanes last : ℕ) (s : Setting) (m : Memory) → AreFieldsOf objects m.fields last s → ((f : ℕ) → f < length m.fields → guard_in m.fields f < objects) →
    ((f : ℕ) → f < length m.fields → (field_in m.fields f).logged ≡ value_in m.fields f) → m.last ≡ last → m.monitors ≡ replicate objects new_monitor → m.lanes ≡ replicate lanes new_lane →
    m.fresh ≡ [] → m.dirty.fields ≡ length m.fields → ((f : ℕ) → is_dirty_in m.dirty f ≡ false) → length m.monitors ≡ objects → length m.lanes ≡ lanes → Remembers s m no_past
begins objects lanes last s m are named home last_is monitors lanes_are fresh dirty_fields clean count lane_count = record {
  legal = tt;
  of_lanes = tt;
  last = last_is ∙ are.last_is;
  objects = count ∙ sym are.objects;
  fields = sym are.size;
  guards = λ f low. are.guards f (omega (arith, are.size));
  marks = λ f low. are.marks f (omega (arith, are.size));
  guards_named = λ f low. omega (arith, are.objects, are.guards f (omega (arith, are.size)), named f (omega (arith, are.size)));
  holders = λ o low. ap (λ (ms : List MonitorState). lane_number (monitor_in ms o).holder) monitors ∙ ap (λ (x : MonitorState). lane_number x.holder) (get_or-replicate objects o new_monitor new_monitor (omega (arith, are.objects)));
  numbers = λ o low. ap (λ (ms : List MonitorState). (monitor_in ms o).number) monitors ∙ ap (λ (x : MonitorState). x.number) (get_or-replicate objects o new_monitor new_monitor (omega (arith, are.objects)));
  values = λ f low. are.values f (omega (arith, are.size));
  lanes = λ k low. subst (λ (st : LaneState). RemembersLane no_past k st) (sym (ap (λ (ls : List LaneState). lane_in ls k) lanes_are ∙ get_or-replicate lanes k new_lane new_lane (omega (arith, lane_count))))
      (record { place = refl; held = refl; section = refl; awaited_is = refl; start = omega arith });
  logged = λ f low. home f (omega (arith, are.size)) ∙ are.values f (omega (arith, are.size));
  fresh = ap (λ (xs : List LaneRecord). log_from xs) fresh;
  dirty_fields = dirty_fields ∙ sym are.size;
  dirty = λ f low. clean f;
}

pub within_none : (capacity n : ℕ) (lanes : List LaneState) → lanes ≡ replicate n new_lane → length lanes ≡ n → (k : ℕ) → k < length lanes → IsWithin capacity (lane_in lanes k)
within_none capacity n lanes e count k low = subst (λ (st : LaneState). IsWithin capacity st) (sym (ap (λ (ls : List LaneState). lane_in ls k) e ∙ get_or-replicate n k new_lane new_lane (omega arith)))
    (record {
      short = omega arith;
      closed = λ none. refl;
      room = omega arith;
      open_room = λ some. absurd (let no : 0 < 0 = some in omega arith);
      low = omega arith;
      open_low = λ some. absurd (let no : 0 < 0 = some in omega arith);
    })

pub start_none : (n : ℕ) (lanes : List LaneState) → lanes ≡ replicate n new_lane → length lanes ≡ n → (k : ℕ) → (lane_in lanes k).start ≡ 0
start_none n lanes e count k = elim (cases_lt k n) [
  | inl low ↦ ap (λ (ls : List LaneState). (lane_in ls k).start) e ∙ ap (λ (st : LaneState). st.start) (get_or-replicate n k new_lane new_lane low)
  | inr past ↦ ap (λ (st : LaneState). st.start) (get_or_past lanes k new_lane (omega arith))
]
