-- What is judged by the memory is so of the past.
use Rattle.std.proofs.Common.{ℕ, ◌≡◌, ◌+◌, ◌<◌, ◌≤◌, ◌^◌, ◌==◌, if◌then◌else◌, true, false, List, [], ◌∷◌, ◌++◌, length, slice_set, Result, Ok, Err, refl, sym, ap, ◌∙◌, subst, inl, inr, ⊎_elim, arith}
use Rattle.std.proofs.lemmas.Bool.{cases_lt}
use Rattle.std.proofs.lemmas.Bool.Decides.{eqb_tells}
use Rattle.heap_model.specs.declared.ids.Lane.{Lane}
use Rattle.heap_model.specs.declared.record.Record.{Record}
use Rattle.heap_model.specs.declared.record.Record.TheVariants.{Acq, Rel, WaitRel, Put}
use Rattle.heap_model.specs.Setting.{Setting}
use Rattle.heap_model.specs.Log.{lane, holder, IsAllowed, MayFollow, IsRecordOf, log_from}
use Rattle.heap_model.specs.Sections.{action, actions, holding}
use Rattle.heap_model.specs.declared.store_error.StoreError.{StoreError}
use Rattle.heap_model.specs.declared.store_error.StoreError.TheVariants.{Failed, BadLane, BadId, Worn, NotNext, TooLong, LogFull, Unwritten, Fault, Unfinished}
use Rattle.store_memory.specs.declared.states.MonitorState.{MonitorState}
use Rattle.store_memory.specs.declared.states.FieldState.{FieldState}
use Rattle.store_memory.specs.declared.states.LaneState.{LaneState}
use Rattle.heap_model.specs.Past.{Past, applied, after_apply}
use Rattle.store_memory.specs.Fresh.{IsOfLanes}
use Rattle.store_memory.specs.Memory.{Memory, lane_in, holder_in, guard_in, new_lane, held_after, lane_after}
use Rattle.store_memory.specs.Remembers.{RemembersLane, Remembers}
use Rattle.store_memory.specs.Apply.{HasLastNumber, IsWorn, IsNext, IsTooLong, IsFull, Answers}
use Rattle.store_memory.specs.Verdict.{IsNamed, Allows, IsWornIn, IsNextIn, IsTooLongIn, IsFullIn, Judges}
use Rattle.store_memory.specs.Limits.{IsWithin}
use Rattle.store_memory.proofs.FreshLaws.{log_snoc}
use Rattle.store_memory.proofs.Held.{held_next}
use Rattle.store_memory.proofs.Remembering.{lane_now, lane_other, holder_next, number_next, value_next, part_next, fields_long, monitors_long, memory_after}
use Rattle.std.proofs.lemmas.List.{get_or-set_same, get_or-set_other, length-set}
use mathlib.Core.Logic.{dite}
use native.Mathlib.Decide.{ℕ_discrete}

module _ (s : Setting) (m : Memory) (p : Past) (was : Remembers s m p) where
  pub named_to : (r : Record) → IsNamed (length m.monitors) m.fields r → IsRecordOf s r
  named_to (Acq o n) h = omega (arith, was.objects)
  named_to (Rel o n) h = omega (arith, was.objects)
  named_to (WaitRel o n) h = omega (arith, was.objects)
  named_to (Put f v w) h = let low : f.0 < s.fields = omega (arith, was.fields, h.0) in (low, sym (was.marks f.0 low) ∙ h.1)

  named_from : (r : Record) → IsRecordOf s r → IsNamed (length m.monitors) m.fields r
  named_from (Acq o n) h = omega (arith, was.objects)
  named_from (Rel o n) h = omega (arith, was.objects)
  named_from (WaitRel o n) h = omega (arith, was.objects)
  named_from (Put f v w) h = (omega (arith, was.fields, h.0), was.marks f.0 h.0 ∙ h.1)

  last_to : (r : Record) → HasLastNumber m.last r → HasLastNumber s.last r
  last_to r h = subst (λ n. HasLastNumber n r) was.last h

  last_from : (r : Record) → HasLastNumber s.last r → HasLastNumber m.last r
  last_from r h = subst (λ n. HasLastNumber n r) (sym was.last) h

  guard_holder : (f : ℕ) → f < length m.fields → holder_in m.monitors (guard_in m.fields f) ≡ holder (s.guard f) (applied p)
  guard_holder f lt =
      let low : f < s.fields = omega (arith, was.fields) in
      ap (holder_in m.monitors) (was.guards f low) ∙ was.holders (s.guard f) (was.guards_named f low)

  pub allows_to : (l : ℕ) (r : Record) → IsNamed (length m.monitors) m.fields r → Allows m.last m.monitors m.fields l r → IsAllowed s (applied p) l r
  allows_to l (Acq o n) h a = let low : o.0 < s.objects = omega (arith, was.objects) in (sym (was.holders o.0 low) ∙ a.0, sym (was.numbers o.0 low) ∙ a.1, omega (arith, was.last, a.2))
  allows_to l (Rel o n) h a = let low : o.0 < s.objects = omega (arith, was.objects) in (sym (was.holders o.0 low) ∙ a.0, sym (was.numbers o.0 low) ∙ a.1)
  allows_to l (WaitRel o n) h a = let low : o.0 < s.objects = omega (arith, was.objects) in (sym (was.holders o.0 low) ∙ a.0, sym (was.numbers o.0 low) ∙ a.1)
  allows_to l (Put f v w) h a = let low : f.0 < s.fields = omega (arith, was.fields, h.0) in (sym (guard_holder f.0 h.0) ∙ a.0, sym (was.values f.0 low) ∙ a.1)

  allows_from : (l : ℕ) (r : Record) → IsNamed (length m.monitors) m.fields r → IsAllowed s (applied p) l r → Allows m.last m.monitors m.fields l r
  allows_from l (Acq o n) h a = let low : o.0 < s.objects = omega (arith, was.objects) in (was.holders o.0 low ∙ a.0, was.numbers o.0 low ∙ a.1, omega (arith, was.last, a.2))
  allows_from l (Rel o n) h a = let low : o.0 < s.objects = omega (arith, was.objects) in (was.holders o.0 low ∙ a.0, was.numbers o.0 low ∙ a.1)
  allows_from l (WaitRel o n) h a = let low : o.0 < s.objects = omega (arith, was.objects) in (was.holders o.0 low ∙ a.0, was.numbers o.0 low ∙ a.1)
  allows_from l (Put f v w) h a = let low : f.0 < s.fields = omega (arith, was.fields, h.0) in (guard_holder f.0 h.0 ∙ a.0, was.values f.0 low ∙ a.1)

  module _ (l : ℕ) (lt : l < length m.lanes) (r : Record) (named : IsNamed (length m.monitors) m.fields r) where
    next_to : IsNextIn m.last m.monitors m.fields l (lane_in m.lanes l) r → IsNext s p l r
    next_to h = (allows_to l r named h.0, subst (λ o. MayFollow o r) (was.lanes l lt).awaited_is h.1)

    next_from : IsNext s p l r → IsNextIn m.last m.monitors m.fields l (lane_in m.lanes l) r
    next_from h = (allows_from l r named h.0, subst (λ o. MayFollow o r) (sym (was.lanes l lt).awaited_is) h.1)

    worn_to : IsWornIn m.last (lane_in m.lanes l) r → IsWorn s p l r
    worn_to h = ⊎_elim (λ n. inl (last_to r n)) (λ x. inr (sym (was.lanes l lt).held ∙ x.0, omega (arith, x.1, (was.lanes l lt).place))) h

    worn_from : IsWorn s p l r → IsWornIn m.last (lane_in m.lanes l) r
    worn_from h = ⊎_elim (λ n. inl (last_from r n)) (λ x. inr ((was.lanes l lt).held ∙ x.0, omega (arith, x.1, (was.lanes l lt).place))) h

    held_is : IsNext s p l r → length (holding (action r ∷ lane l (actions (applied p)))) ≡ held_after r (lane_in m.lanes l).held
    held_is h = held_next s (applied p) l r h.0 ∙ ap (held_after r) (sym (was.lanes l lt).held)

    long_to : IsNext s p l r → IsTooLongIn (lane_in m.lanes l) r → IsTooLong p l r
    long_to next h = omega (arith, held_is next, (was.lanes l lt).section, h)

    long_from : IsNext s p l r → IsTooLong p l r → IsTooLongIn (lane_in m.lanes l) r
    long_from next h = omega (arith, held_is next, (was.lanes l lt).section, h)

    full_to : IsFullIn m.capacity (lane_in m.lanes l) → IsFull m p l
    full_to h = (sym (was.lanes l lt).held ∙ h.0, omega (arith, h.1, (was.lanes l lt).place))

    full_from : IsFull m p l → IsFullIn m.capacity (lane_in m.lanes l)
    full_from h = ((was.lanes l lt).held ∙ h.0, omega (arith, h.1, (was.lanes l lt).place))

  pub answers_from : (l : ℕ) (r : Record) (answer : Result (Unit {0}) StoreError) → Judges m.last m.capacity m.lanes m.monitors m.fields l r answer → Answers s m p l r answer
  answers_from l r (Err BadLane) h = h
  answers_from l r (Err BadId) h = (h.0, λ is. h.1 (named_from r is))
  answers_from l r (Err Worn) h = (h.0, named_to r h.1, worn_to l h.0 r h.1 h.2)
  answers_from l r (Err NotNext) h = (h.0, named_to r h.1, (λ worn. h.2.0 (worn_from l h.0 r h.1 worn)), (λ next. h.2.1 (next_from l h.0 r h.1 next)))
  answers_from l r (Err TooLong) h = (h.0, named_to r h.1, (λ worn. h.2.0 (worn_from l h.0 r h.1 worn)), next_to l h.0 r h.1 h.2.1, long_to l h.0 r h.1 (next_to l h.0 r h.1 h.2.1) h.2.2)
  answers_from l r (Err LogFull) h = (h.0, named_to r h.1, (λ worn. h.2.0 (worn_from l h.0 r h.1 worn)), next_to l h.0 r h.1 h.2.1, (λ long. h.2.2 (long_from l h.0 r h.1 (next_to l h.0 r h.1 h.2.1) long)), full_to l h.0 r h.1 h.2.3)
  answers_from l r (Err Failed) h = h
  answers_from l r (Err Unwritten) h = h
  answers_from l r (Err Fault) h = h
  answers_from l r (Err Unfinished) h = h
  answers_from l r (Ok done) h = (h.0, named_to r h.1, (λ worn. h.2.0 (worn_from l h.0 r h.1 worn)), next_to l h.0 r h.1 h.2.1, (λ long. h.2.2 (long_from l h.0 r h.1 (next_to l h.0 r h.1 h.2.1) long)), (λ full. h.2.3 (full_from l h.0 r h.1 full)))

  -- after a record that is taken
  pub remembers_next : (l : Lane) (r : Record) → l.0 < length m.lanes → IsNamed (length m.monitors) m.fields r → IsNextIn m.last m.monitors m.fields l.0 (lane_in m.lanes l.0) r →
      Remembers s (memory_after l r m) (after_apply p l.0 r)
  remembers_next l r lt named next =
      let allowed : IsAllowed s (applied p) l.0 r = allows_to l.0 r named next.0 in
      let after : IsNext s p l.0 r = next_to l.0 lt r named next in
      record {
        legal = (was.legal, allowed, after.1, named_to r named);
        of_lanes = subst (λ n. IsOfLanes n (applied (after_apply p l.0 r))) (sym (length-set m.lanes l.0 (lane_after r (lane_in m.lanes l.0)))) (lt, was.of_lanes);
        last = was.last;
        objects = monitors_long l r m.monitors ∙ was.objects;
        fields = fields_long r m.fields ∙ was.fields;
        guards = λ f low. part_next (λ (c : FieldState). c.guard.0) (λ c w. refl) r m.fields f (length m.monitors) named ∙ was.guards f low;
        marks = λ f low. part_next (λ (c : FieldState). c.is_logged) (λ c w. refl) r m.fields f (length m.monitors) named ∙ was.marks f low;
        guards_named = was.guards_named;
        holders = λ o low. holder_next l r m.monitors o (applied p) m.fields named (was.holders o low);
        numbers = λ o low. number_next l r m.monitors o (applied p) m.fields named (was.numbers o low);
        values = λ f low. value_next s.first l.0 r m.fields f (applied p) (length m.monitors) named (was.values f low);
        lanes = λ k low. (let short : k < length m.lanes = omega (arith, length-set m.lanes l.0 (lane_after r (lane_in m.lanes l.0))) in dite (ℕ_discrete k l.0)
            (λ same. subst (λ j. RemembersLane (after_apply p l.0 r) j (lane_in (slice_set m.lanes l.0 (lane_after r (lane_in m.lanes l.0))) j)) (sym same)
            (subst (λ (st : LaneState). RemembersLane (after_apply p l.0 r) l.0 st) (sym (get_or-set_same m.lanes l.0 (lane_after r (lane_in m.lanes l.0)) new_lane lt))
            (lane_now s p l.0 r (lane_in m.lanes l.0) allowed (was.lanes l.0 lt))))
            (λ other. subst (λ (st : LaneState). RemembersLane (after_apply p l.0 r) k st) (sym (get_or-set_other m.lanes l.0 k (lane_after r (lane_in m.lanes l.0)) new_lane other))
            (lane_other p k l.0 r (lane_in m.lanes k) (λ e. other (sym e)) (was.lanes k short))));
        logged = λ f low. part_next (λ (c : FieldState). c.logged) (λ c w. refl) r m.fields f (length m.monitors) named ∙ was.logged f low;
        fresh = log_snoc m.fresh (record { lane = l; «record» = r }) ∙ ap (λ log. (l.0, r) ∷ log) was.fresh;
        dirty_fields = was.dirty_fields;
        dirty = was.dirty;
      }

-- the lane stays within its limits
within_plain : (capacity : ℕ) (r : Record) (st : LaneState) → IsWithin capacity st → st.section + 1 + held_after r st.held ≤ 1000 → (st.held ≡ 0 → st.place < 2 ^ 62) → (st.held ≡ 0 → st.place + 1000 ≤ st.start + capacity) →
    IsWithin capacity (lane_after r st)
within_plain capacity r st was long first free =
    let low : st.place < 2 ^ 62 + st.section = dite (ℕ_discrete st.held 0) (λ none. omega (arith, first none)) (λ some. omega (arith, was.open_low (omega arith))) in
    let room : st.place + 1000 ≤ st.start + capacity + st.section = dite (ℕ_discrete st.held 0) (λ none. omega (arith, free none)) (λ some. omega (arith, was.open_room (omega arith))) in
    elim (eqb_tells (held_after r st.held) 0) [
      | inl e ↦ subst (λ b. IsWithin capacity (record (lane_after r st) { section = if b then 0 else st.section + 1 })) (sym e.0) (record {
        short = omega (arith, e.1);
        closed = λ none. refl;
        room = omega arith;
        open_room = λ some. absurd (omega (arith, e.1, some));
        low = omega arith;
        open_low = λ some. absurd (omega (arith, e.1, some));
      })
      | inr e ↦ subst (λ b. IsWithin capacity (record (lane_after r st) { section = if b then 0 else st.section + 1 })) (sym e.0) (record {
        short = long;
        closed = λ none. absurd (e.1 none);
        room = omega arith;
        open_room = λ some. omega arith;
        low = omega arith;
        open_low = λ some. omega arith;
      })
    ]

pub within_next : (capacity last : ℕ) (r : Record) (st : LaneState) → IsWithin capacity st → ¬ IsWornIn last st r → ¬ IsTooLongIn st r → ¬ IsFullIn capacity st → IsWithin capacity (lane_after r st)
within_next capacity last r st was worn long full = within_plain capacity r st was
    (elim (cases_lt 1000 (st.section + 1 + held_after r st.held)) [ inl past ↦ absurd (long past) | inr le ↦ le ])
    (λ none. elim (cases_lt st.place (2 ^ 62)) [ inl low ↦ low | inr past ↦ absurd (worn (inr (none, past))) ])
    (λ none. elim (cases_lt (st.start + capacity) (st.place + 1000)) [ inl past ↦ absurd (full (none, past)) | inr le ↦ le ])

-- all lanes stay within theirs
pub all_within : (capacity last : ℕ) (r : Record) (lanes : List LaneState) (l : ℕ) → ((k : ℕ) → k < length lanes → IsWithin capacity (lane_in lanes k)) → l < length lanes →
    ¬ IsWornIn last (lane_in lanes l) r → ¬ IsTooLongIn (lane_in lanes l) r → ¬ IsFullIn capacity (lane_in lanes l) →
    (k : ℕ) → k < length (slice_set lanes l (lane_after r (lane_in lanes l))) → IsWithin capacity (lane_in (slice_set lanes l (lane_after r (lane_in lanes l))) k)
all_within capacity last r lanes l was lt worn long full k low = dite (ℕ_discrete k l)
    (λ same. subst (λ (st : LaneState). IsWithin capacity st) (sym (ap (lane_in (slice_set lanes l (lane_after r (lane_in lanes l)))) same ∙ get_or-set_same lanes l (lane_after r (lane_in lanes l)) new_lane lt))
    (within_next capacity last r (lane_in lanes l) (was l lt) worn long full))
    (λ other. subst (λ (st : LaneState). IsWithin capacity st) (sym (get_or-set_other lanes l k (lane_after r (lane_in lanes l)) new_lane other))
    (was k (omega (arith, length-set lanes l (lane_after r (lane_in lanes l))))))

-- a lane of two lists
pub lane_long : (l : ℕ) (xs ys : List (ℕ × Record)) → length (lane l (xs ++ ys)) ≡ length (lane l xs) + length (lane l ys)
lane_long l [] ys = omega arith
lane_long l (x ∷ xs) ys = elim (x.0 == l) as (λ b. length (if b then x.1 ∷ lane l (xs ++ ys) else lane l (xs ++ ys)) ≡ length (if b then x.1 ∷ lane l xs else lane l xs) + length (lane l ys)) [
  | true ↦ omega (arith, lane_long l xs ys)
  | false ↦ lane_long l xs ys
]

-- what was trimmed was applied
pub start_within : (s : Setting) (m : Memory) (p : Past) → Remembers s m p → (l : ℕ) → l < length m.lanes → (lane_in m.lanes l).start ≤ (lane_in m.lanes l).place
start_within s m p was l lt = omega (arith, (was.lanes l lt).start, (was.lanes l lt).place, lane_long l p.fresh p.logged)

-- there is room for a fresh record where there is in the lane's area
pub fresh_free : (s : Setting) (m : Memory) (p : Past) → Remembers s m p → (l : ℕ) → l < length m.lanes → (lane_in m.lanes l).place + 1 ≤ (lane_in m.lanes l).start + m.capacity → length (lane l (log_from m.fresh)) < m.capacity
fresh_free s m p was l lt le = omega (arith, ap (λ log. length (lane l log)) was.fresh, (was.lanes l lt).start, (was.lanes l lt).place, lane_long l p.fresh p.logged)

-- the same judgement of equal lists
pub judged_by : (last capacity : ℕ) (ls ls' : List LaneState) (ms ms' : List MonitorState) (fs fs' : List FieldState) (l : ℕ) (r : Record) (answer : Result (Unit {0}) StoreError) →
    ls' ≡ ls → ms' ≡ ms → fs' ≡ fs → Judges last capacity ls' ms' fs' l r answer → Judges last capacity ls ms fs l r answer
judged_by last capacity ls ls' ms ms' fs fs' l r answer a b c h =
    subst (λ (xs : List FieldState). Judges last capacity ls ms xs l r answer) c
    (subst (λ (xs : List MonitorState). Judges last capacity ls xs fs' l r answer) b
    (subst (λ (xs : List LaneState). Judges last capacity xs ms' fs' l r answer) a h))
