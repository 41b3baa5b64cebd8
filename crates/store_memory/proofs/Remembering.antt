-- What is remembered after one more record.
use Rattle.std.proofs.Common.{ℕ, ◌≡◌, ◌≢◌, ◌+◌, ◌<◌, ◌==◌, if◌then◌else◌, Bool, true, false, List, [], ◌∷◌, ◌++◌, length, slice_index_or, slice_set, Some, None, refl, sym, ap, ◌∙◌, inl, inr, arith}
use Rattle.std.proofs.lemmas.Bool.{eq-eqb, ne_eqb}
use Rattle.std.proofs.lemmas.Bool.Decides.{eqb_tells}
use Rattle.std.proofs.lemmas.List.{get_or-set_same, get_or-set_other, length-set}
use Rattle.heap_model.specs.declared.ids.Lane.{Lane}
use Rattle.heap_model.specs.declared.record.Record.{Record}
use Rattle.heap_model.specs.declared.record.Record.TheVariants.{Acq, Rel, WaitRel, Put}
use Rattle.heap_model.specs.Setting.{Setting}
use Rattle.heap_model.specs.Events.{lane_number}
use Rattle.heap_model.specs.Log.{lane, holder, number, value, awaited, IsAllowed}
use Rattle.heap_model.specs.Sections.{Action, action, actions, holding}
use Rattle.store_memory.specs.declared.states.MonitorState.{MonitorState}
use Rattle.store_memory.specs.declared.states.FieldState.{FieldState}
use Rattle.store_memory.specs.declared.states.LaneState.{LaneState}
use Rattle.heap_model.specs.Past.{Past, applied, after_apply}
use Rattle.store_memory.specs.Memory.{Memory, new_monitor, new_field, new_lane, monitor_in, field_in, lane_in, holder_in, number_in, value_in, object_number, held_after, awaited_after, lane_after, monitors_after, fields_after, KeepsLayout}
use Rattle.store_memory.specs.Remembers.{open_section, RemembersLane}
use Rattle.store_memory.specs.Verdict.{IsNamed}
use Rattle.store_memory.proofs.Held.{held_next}

-- an element after another was put at its place
pub at_set : {X : Type 0} (xs : List X) (i j : ℕ) (v d : X) → i < length xs → slice_index_or (slice_set xs i v) j d ≡ (if i == j then v else slice_index_or xs j d)
at_set xs i j v d lt = elim (eqb_tells i j) [
  | inl e ↦ ap (λ k. slice_index_or (slice_set xs i v) k d) (sym e.1) ∙ get_or-set_same xs i v d lt ∙ ap (λ b. if b then v else slice_index_or xs j d) (sym e.0)
  | inr e ↦ get_or-set_other xs i j v d (λ same. e.1 (sym same)) ∙ ap (λ b. if b then v else slice_index_or xs j d) (sym e.0)
]

-- the choice, seen through a function
pub seen : {X Y : Type 0} (g : X → Y) (b : Bool) (x y : X) → g (if b then x else y) ≡ (if b then g x else g y)
seen g true x y = refl
seen g false x y = refl

pub length_choice : (b : Bool) (a : Action) (xs : List Action) → length (if b then [] else a ∷ xs) ≡ (if b then 0 else length xs + 1)
length_choice true a xs = refl
length_choice false a xs = omega arith

awaited_now : (l : ℕ) (r : Record) (log : List (ℕ × Record)) → object_number (awaited_after r) ≡ awaited l ((l, r) ∷ log)
awaited_now l (Acq o n) log = sym (ap (λ b. if b then None else awaited l log) (eq-eqb l l refl))
awaited_now l (Rel o n) log = sym (ap (λ b. if b then None else awaited l log) (eq-eqb l l refl))
awaited_now l (WaitRel o n) log = sym (ap (λ b. if b then Some o.0 else awaited l log) (eq-eqb l l refl))
awaited_now l (Put f v w) log = sym (ap (λ b. if b then None else awaited l log) (eq-eqb l l refl))

awaited_other : (l m : ℕ) (r : Record) (log : List (ℕ × Record)) → m ≢ l → awaited l ((m, r) ∷ log) ≡ awaited l log
awaited_other l m (Acq o n) log other = ap (λ b. if b then None else awaited l log) (ne_eqb m l other)
awaited_other l m (Rel o n) log other = ap (λ b. if b then None else awaited l log) (ne_eqb m l other)
awaited_other l m (WaitRel o n) log other = ap (λ b. if b then Some o.0 else awaited l log) (ne_eqb m l other)
awaited_other l m (Put f v w) log other = ap (λ b. if b then None else awaited l log) (ne_eqb m l other)

-- the lane that did the record, and the others
pub lane_now : (s : Setting) (p : Past) (l : ℕ) (r : Record) (st : LaneState) → IsAllowed s (applied p) l r → RemembersLane p l st → RemembersLane (after_apply p l r) l (lane_after r st)
lane_now s p l r st allowed was =
    let here : (l == l) ≡ true = eq-eqb l l refl in
    let acts : List Action = lane l (actions (applied p)) in
    let held : held_after r st.held ≡ length (holding (action r ∷ lane l (actions (applied p)))) = ap (held_after r) was.held ∙ sym (held_next s (applied p) l r allowed) in
    record {
      place = sym (ap (λ b. length (if b then r ∷ lane l (applied p) else lane l (applied p))) here ∙ (omega (arith, was.place)));
      held = held ∙ sym (ap (λ b. length (holding (if b then action r ∷ lane l (actions (applied p)) else lane l (actions (applied p))))) here);
      section =
          ap (λ n. if n == 0 then 0 else st.section + 1) held
          ∙ ap (λ n. if length (holding (action r ∷ lane l (actions (applied p)))) == 0 then 0 else n + 1) was.section
          ∙ sym (length_choice (length (holding (action r ∷ lane l (actions (applied p)))) == 0) (action r) (open_section (lane l (actions (applied p)))))
          ∙ sym (ap (λ b. length (open_section (if b then action r ∷ lane l (actions (applied p)) else lane l (actions (applied p))))) here);
      awaited_is = awaited_now l r (applied p);
      start = was.start;
    }

pub lane_other : (p : Past) (l m : ℕ) (r : Record) (st : LaneState) → m ≢ l → RemembersLane p l st → RemembersLane (after_apply p m r) l st
lane_other p l m r st other was =
    let here : (m == l) ≡ false = ne_eqb m l other in
    record {
      place = was.place ∙ sym (ap (λ b. length (if b then r ∷ lane l (applied p) else lane l (applied p))) here);
      held = was.held ∙ sym (ap (λ b. length (holding (if b then action r ∷ lane l (actions (applied p)) else lane l (actions (applied p))))) here);
      section = was.section ∙ sym (ap (λ b. length (open_section (if b then action r ∷ lane l (actions (applied p)) else lane l (actions (applied p))))) here);
      awaited_is = was.awaited_is ∙ sym (awaited_other l m r (applied p) other);
      start = was.start;
    }

-- who holds an object, and its number, after the record
pub holder_next : (l : Lane) (r : Record) (ms : List MonitorState) (o : ℕ) (log : List (ℕ × Record)) (fields : List FieldState) → IsNamed (length ms) fields r → holder_in ms o ≡ holder o log → holder_in (monitors_after l r ms) o ≡ holder o ((l.0, r) ∷ log)
holder_next l (Acq q n) ms o log fields named was =
    ap (λ (m : MonitorState). lane_number m.holder) (at_set ms q.0 o (record { holder = Some l; number = number_in ms q.0 }) new_monitor named)
    ∙ seen (λ (m : MonitorState). lane_number m.holder) (q.0 == o) (record { holder = Some l; number = number_in ms q.0 }) (monitor_in ms o) ∙ ap (λ x. if q.0 == o then Some l.0 else x) was
holder_next l (Rel q n) ms o log fields named was =
    ap (λ (m : MonitorState). lane_number m.holder) (at_set ms q.0 o (record { holder = None; number = n + 1 }) new_monitor named)
    ∙ seen (λ (m : MonitorState). lane_number m.holder) (q.0 == o) (record { holder = None; number = n + 1 }) (monitor_in ms o) ∙ ap (λ x. if q.0 == o then None else x) was
holder_next l (WaitRel q n) ms o log fields named was =
    ap (λ (m : MonitorState). lane_number m.holder) (at_set ms q.0 o (record { holder = None; number = n + 1 }) new_monitor named)
    ∙ seen (λ (m : MonitorState). lane_number m.holder) (q.0 == o) (record { holder = None; number = n + 1 }) (monitor_in ms o) ∙ ap (λ x. if q.0 == o then None else x) was
holder_next l (Put f v w) ms o log fields named was = was

number_kept : (l : Lane) (q : ℕ) (ms : List MonitorState) (o : ℕ) → q < length ms → number_in (slice_set ms q (record { holder = Some l; number = number_in ms q })) o ≡ number_in ms o
number_kept l q ms o named =
    ap (λ (m : MonitorState). m.number) (at_set ms q o (record { holder = Some l; number = number_in ms q }) new_monitor named)
    ∙ elim (eqb_tells q o) [
      | inl e ↦ ap (λ (b : Bool). (if b then record { holder = Some l; number = number_in ms q } else monitor_in ms o).number) e.0 ∙ ap (number_in ms) e.1
      | inr e ↦ ap (λ (b : Bool). (if b then record { holder = Some l; number = number_in ms q } else monitor_in ms o).number) e.0
    ]

pub number_next : (l : Lane) (r : Record) (ms : List MonitorState) (o : ℕ) (log : List (ℕ × Record)) (fields : List FieldState) → IsNamed (length ms) fields r → number_in ms o ≡ number o log → number_in (monitors_after l r ms) o ≡ number o ((l.0, r) ∷ log)
number_next l (Acq q n) ms o log fields named was = number_kept l q.0 ms o named ∙ was
number_next l (Rel q n) ms o log fields named was =
    ap (λ (m : MonitorState). m.number) (at_set ms q.0 o (record { holder = None; number = n + 1 }) new_monitor named)
    ∙ seen (λ (m : MonitorState). m.number) (q.0 == o) (record { holder = None; number = n + 1 }) (monitor_in ms o) ∙ ap (λ x. if q.0 == o then n + 1 else x) was
number_next l (WaitRel q n) ms o log fields named was =
    ap (λ (m : MonitorState). m.number) (at_set ms q.0 o (record { holder = None; number = n + 1 }) new_monitor named)
    ∙ seen (λ (m : MonitorState). m.number) (q.0 == o) (record { holder = None; number = n + 1 }) (monitor_in ms o) ∙ ap (λ x. if q.0 == o then n + 1 else x) was
number_next l (Put f v w) ms o log fields named was = was

-- a field's value, guard and logged value after the record
pub value_next : (first : ℕ → ℕ) (l : ℕ) (r : Record) (fs : List FieldState) (f : ℕ) (log : List (ℕ × Record)) (objects : ℕ) → IsNamed objects fs r → value_in fs f ≡ value first f log → value_in (fields_after r fs) f ≡ value first f ((l, r) ∷ log)
value_next first l (Acq o n) fs f log objects named was = was
value_next first l (Rel o n) fs f log objects named was = was
value_next first l (WaitRel o n) fs f log objects named was = was
value_next first l (Put g v w) fs f log objects named was =
    ap (λ (c : FieldState). c.value) (at_set fs g.0 f (record (field_in fs g.0) { value = w }) new_field named.0)
    ∙ seen (λ (c : FieldState). c.value) (g.0 == f) (record (field_in fs g.0) { value = w }) (field_in fs f) ∙ ap (λ x. if g.0 == f then w else x) was

-- what a store leaves of a field
module _ {Y : Type 0} (part : FieldState → Y) (keeps : (c : FieldState) (w : ℕ) → part (record c { value = w }) ≡ part c) where
  pub part_next : (r : Record) (fs : List FieldState) (f objects : ℕ) → IsNamed objects fs r → part (field_in (fields_after r fs) f) ≡ part (field_in fs f)
  part_next (Acq o n) fs f objects named = refl
  part_next (Rel o n) fs f objects named = refl
  part_next (WaitRel o n) fs f objects named = refl
  part_next (Put g v w) fs f objects named =
      ap part (at_set fs g.0 f (record (field_in fs g.0) { value = w }) new_field named.0)
      ∙ elim (eqb_tells g.0 f) [
        | inl e ↦ ap (λ (b : Bool). part (if b then record (field_in fs g.0) { value = w } else field_in fs f)) e.0 ∙ keeps (field_in fs g.0) w ∙ ap (λ k. part (field_in fs k)) e.1
        | inr e ↦ ap (λ (b : Bool). part (if b then record (field_in fs g.0) { value = w } else field_in fs f)) e.0
      ]

pub fields_long : (r : Record) (fs : List FieldState) → length (fields_after r fs) ≡ length fs
fields_long (Acq o n) fs = refl
fields_long (Rel o n) fs = refl
fields_long (WaitRel o n) fs = refl
fields_long (Put g v w) fs = length-set fs g.0 (record (field_in fs g.0) { value = w })

pub monitors_long : (l : Lane) (r : Record) (ms : List MonitorState) → length (monitors_after l r ms) ≡ length ms
monitors_long l (Acq o n) ms = length-set ms o.0 (record { holder = Some l; number = number_in ms o.0 })
monitors_long l (Rel o n) ms = length-set ms o.0 (record { holder = None; number = n + 1 })
monitors_long l (WaitRel o n) ms = length-set ms o.0 (record { holder = None; number = n + 1 })
monitors_long l (Put g v w) ms = refl

-- the memory after the lane's record
abbrev pub memory_after : Lane → Record → Memory → Memory
memory_after l r m = record m {
  lanes = slice_set m.lanes l.0 (lane_after r (lane_in m.lanes l.0));
  monitors = monitors_after l r m.monitors;
  fields = fields_after r m.fields;
  fresh = m.fresh ++ record { lane = l; «record» = r } ∷ [];
}

-- a record changes no bound, no count and no start
pub keeps_after : (l : Lane) (r : Record) (m : Memory) → l.0 < length m.lanes → KeepsLayout m (memory_after l r m)
keeps_after l r m lt = record {
  last = refl;
  capacity = refl;
  lanes = length-set m.lanes l.0 (lane_after r (lane_in m.lanes l.0));
  objects = monitors_long l r m.monitors;
  fields = fields_long r m.fields;
  starts = λ k. ap (λ (st : LaneState). st.start) (at_set m.lanes l.0 k (lane_after r (lane_in m.lanes l.0)) new_lane lt)
      ∙ elim (eqb_tells l.0 k) [
        | inl e ↦ ap (λ (b : Bool). (if b then lane_after r (lane_in m.lanes l.0) else lane_in m.lanes k).start) e.0 ∙ ap (λ j. (lane_in m.lanes j).start) e.1
        | inr e ↦ ap (λ (b : Bool). (if b then lane_after r (lane_in m.lanes l.0) else lane_in m.lanes k).start) e.0
      ];
}
