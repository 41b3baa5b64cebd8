-- What a thread's step does: one event of that thread, or nothing.
use Rattle.std.proofs.Common.{◌≡◌, ◌≢◌, ◌⊎◌, inl, inr, ℕ, ◌+◌, true, false, List, Option, Some, None, Contains, slice_get, refl, sym, ap, ◌∙◌, subst, arith}
use Rattle.std.proofs.lemmas.Bool.{cases_Bool, cases_eq, cases_lt}
use Rattle.std.proofs.lemmas.Option.{slice_get-get_or}
use Rattle.std.proofs.lemmas.Map.Views.{Contains-from_any, list_any-from_Contains}
use Rattle.std.proofs.lemmas.Slice.Eq.{bytes_eq-Decides}
use Rattle.std.specs.Cmp.Lexicographic.{nat_list_eq_equiv}
use Rattle.std.specs.List.{list_any}
use Rattle.std.specs.Str.{bytes_eq}
use Rattle.guards.specs.Schema.{guard_of}
use Rattle.heap_model.specs.declared.event.Event.{Event}
use Rattle.heap_model.specs.declared.event.Event.TheVariants.{Enter, NestedEnter, NestedExit, Exit, Store, Wait, Resume, Notify, NotifyAll}
use Rattle.heap_model.specs.declared.ids.FieldId.{FieldId}
use Rattle.heap_model.specs.declared.ids.Lane.{Lane}
use Rattle.heap_model.specs.declared.ids.ObjectId.{ObjectId}
use Rattle.heap_model.specs.declared.record.Record.{Record}
use Rattle.heap_model.specs.Events.{MayDo, IsEventOf}
use Rattle.heap_model.specs.History.{logged}
use Rattle.heap_model.specs.State.{Waiting, Awake, InSet, Woken}
use Rattle.script_monitors.specs.declared.monitor.Monitor.{Monitor}
use Rattle.script_monitors.specs.declared.monitor.Monitor.TheVariants.{Free, Held}
use Rattle.script_monitors.specs.Monitor.{owner_in, count_in}
use Rattle.script_monitors.specs.Table.{IsAfter, lanes_of, monitor_at, setting_of, state_of}
use Rattle.script_monitors.specs.WaitSets.{least_of}
use Rattle.script_lines.specs.Orders.{Action}
use Rattle.script_lines.specs.Orders as order
use Rattle.script_machine.specs.declared.answer.Answer.{Answer}
use Rattle.script_machine.specs.declared.answer.Answer.TheVariants.{Done}
use Rattle.script_machine.specs.declared.answer.Answer.TheVariants as answers
use Rattle.script_machine.specs.Lookups.{object_of, field_of}
use Rattle.script_machine.specs.Machine.{MachineState, Running, Keeps, Does, Wakes, Enters, Exits, Loads, Stores, Waits, Resumes, Notifies, NotifiesAll, StepsAs, WhileAwake, waiters}
use Rattle.script_machine.specs.States.{Live}
use Rattle.script_play.proofs.CrashLemmas.{one_live}

-- a name is in the list, or it isn't
find_name : (names : List (List ℕ)) (name : List ℕ) → ((k : ℕ) × (slice_get names k ≡ Some name)) ⊎ (¬ Contains names name)
find_name names name = elim (cases_Bool (list_any (bytes_eq name) names)) [
  | inl there ↦
      let c : Contains names name = Contains-from_any (λ x y. (bytes_eq-Decides x y).0) name names there in
      inl (c.0, slice_get-get_or names c.0 name c.1 ∙ ap Some c.2)
  | inr none ↦ inr (λ c. absurd (let both : true ≡ false = sym (list_any-from_Contains nat_list_eq_equiv name names c) ∙ none in cc))
]

-- a thread owns it, or doesn't
owned : (owner : Option ℕ) (t : ℕ) → (owner ≡ Some t) ⊎ (owner ≢ Some t)
owned None t = inr (λ e. absurd cc)
owned (Some u) t = elim (cases_eq u t) [
  | inl same ↦ inl (ap Some same)
  | inr other ↦ inr (λ e. other (let same : u ≡ t = cc in same))
]

-- the machine did the thread's event, and its store has the event's record
pub record Moved (m : Live) (t : ℕ) (e : Event) (now : Live) : Type 0 where
  pub allowed : MayDo (setting_of m.monitors) (state_of m.monitors) t e
  pub named : IsEventOf (setting_of m.monitors) e
  pub after : IsAfter m.monitors t e now.monitors
  pub kept : Keeps m.store t (logged (setting_of m.monitors) e) now.store

module _ (m now : Live) (answer : Answer) (t : ℕ) where
  abbrev old : MachineState
  old = Running m

  abbrev new : MachineState
  new = Running now

  abbrev pub Moves : Type 0
  Moves = (new ≡ old) ⊎ ((e : Event) × Moved m t e now)

  of_does : (said : Answer) (e : Event) → Does old answer new m t said e → Moves
  of_does said e does = elim does.outcome [
    | inl done ↦
        let is : now ≡ done.live = one_live now done.live done.runs in
        inr (
          e,
          record {
            allowed = does.allowed;
            named = does.named;
            after = subst (λ (x : Live). IsAfter m.monitors t e x.monitors) (sym is) done.after;
            kept = subst (λ (x : Live). Keeps m.store t (logged (setting_of m.monitors) e) x.store) (sym is) done.kept;
          },
        )
    | inr refused ↦ inl refused.refuses.1
  ]

  of_wakes : (e : Event) (woken : List Lane) → logged (setting_of m.monitors) e ≡ None → Wakes old answer new m t e woken → Moves
  of_wakes e woken none wakes =
      let is : now ≡ record m { monitors = wakes.monitors } = one_live now (record m { monitors = wakes.monitors }) wakes.runs in
      inr (
        e,
        record {
          allowed = wakes.allowed;
          named = wakes.named;
          after = subst (λ (x : Live). IsAfter m.monitors t e x.monitors) (sym is) wakes.after;
          kept = subst (λ (r : Option Record). Keeps m.store t r now.store) (sym none) (ap (λ (x : Live). x.store) is);
        },
      )

  entering : (o : ObjectId) → Enters old answer new m t o → (owner : Option ℕ) → (state_of m.monitors).owner o.0 ≡ owner → Moves
  entering o h None free = elim (cases_lt ((state_of m.monitors).number o.0) m.monitors.last) [
    | inl lt ↦ of_does Done (Enter o ((state_of m.monitors).number o.0)) (h.free free lt)
    | inr ge ↦ inl (h.worn free ge).1
  ]
  entering o h (Some u) mine = elim (cases_eq u t) [
    | inl same ↦ of_does Done (NestedEnter o) (h.nested (mine ∙ ap Some same))
    | inr other ↦ inl (h.held u mine other).1
  ]

  exiting : (o : ObjectId) → Exits old answer new m t o → (x : Monitor) → monitor_at m.monitors o.0 ≡ x → Moves
  exiting o h (Free n) is = inl (h.not_held (λ e. absurd (let bad : None ≡ Some t = sym (ap owner_in is) ∙ e in cc))).1
  exiting o h (Held u again n) is = elim (cases_eq u.0 t) [
    | inl same ↦
        let mine : (state_of m.monitors).owner o.0 ≡ Some t = ap owner_in is ∙ ap Some same in
        let count : (state_of m.monitors).count o.0 ≡ again + 1 = ap count_in is in
        elim (cases_eq again 0) [
          | inl zero ↦ of_does Done (Exit o ((state_of m.monitors).number o.0)) (h.last mine (omega (arith, count, zero)))
          | inr more ↦ of_does Done (NestedExit o) (h.nested mine (omega (arith, count, more)))
        ]
    | inr other ↦ inl (h.not_held (λ e. other (let same : Some u.0 ≡ Some t = sym (ap owner_in is) ∙ e in let is : u.0 ≡ t = cc in is))).1
  ]

  loading : (f : FieldId) → Loads old answer new m t f → Moves
  loading f h = elim (owned ((state_of m.monitors).owner (guard_of m.monitors.schema f.0)) t) [
    | inl mine ↦ inl (h.ok mine).1
    | inr other ↦ inl (h.not_held other).1
  ]

  storing : (f : FieldId) (value : ℕ) → Stores old answer new m t f value → Moves
  storing f value h = elim (owned ((state_of m.monitors).owner (guard_of m.monitors.schema f.0)) t) [
    | inl mine ↦ of_does Done (Store f ((state_of m.monitors).value f.0) value) (h.ok mine)
    | inr other ↦ inl (h.not_held other).1
  ]

  waiting : (o : ObjectId) → Waits old answer new m t o → Moves
  waiting o h = elim (owned ((state_of m.monitors).owner o.0) t) [
    | inl mine ↦ of_does answers.Waiting (Wait o ((state_of m.monitors).number o.0)) (h.ok mine)
    | inr other ↦ inl (h.not_held other).1
  ]

  taking : (o c : ℕ) → Resumes old answer new m t → (state_of m.monitors).waiting t ≡ Woken o c → (owner : Option ℕ) → (state_of m.monitors).owner o ≡ owner → Moves
  taking o c h is None free = elim (cases_lt ((state_of m.monitors).number o) m.monitors.last) [
    | inl lt ↦ of_does Done (Resume (object_of o) ((state_of m.monitors).number o)) (h.ok o c is free lt)
    | inr ge ↦ inl (h.worn o c is free ge).1
  ]
  taking o c h is (Some u) mine = inl (h.held o c u is mine).1

  resuming : Resumes old answer new m t → (w : Waiting) → (state_of m.monitors).waiting t ≡ w → Moves
  resuming h Awake is = inl (h.not_waiting is).1
  resuming h (InSet o c) is = inl (h.in_set o c is).1
  resuming h (Woken o c) is = taking o c h is ((state_of m.monitors).owner o) refl

  notifying : (o : ObjectId) → Notifies old answer new m t o → Moves
  notifying o h = elim (owned ((state_of m.monitors).owner o.0) t) [
    | inl mine ↦ of_wakes (Notify o (least_of (waiters m.monitors o.0))) _ refl (h.ok mine)
    | inr other ↦ inl (h.not_held other).1
  ]

  notifying_all : (o : ObjectId) → NotifiesAll old answer new m t o → Moves
  notifying_all o h = elim (owned ((state_of m.monitors).owner o.0) t) [
    | inl mine ↦ of_wakes (NotifyAll o (waiters m.monitors o.0)) _ refl (h.ok mine)
    | inr other ↦ inl (h.not_held other).1
  ]

  -- the thread is awake, or the step is refused
  not_awake : (w : Waiting) → (w ≡ Awake) ⊎ (w ≢ Awake)
  not_awake Awake = inl refl
  not_awake (InSet o c) = inr (λ e. absurd cc)
  not_awake (Woken o c) = inr (λ e. absurd cc)

  -- the step is one of a thread that is awake, on a name that is declared, or it is refused
  while_awake : (names : List (List ℕ)) (name : List ℕ) (rest : ℕ → Type 0) → WhileAwake old answer new m t names name rest → ((k : ℕ) → rest k → Moves) → Moves
  while_awake names name rest h go = elim (cases_lt t (lanes_of m.monitors)) [
    | inr ge ↦ inl (h.refused ge).1
    | inl lt ↦
        let n = h.passed (λ ge. absurd (omega (arith, lt, ge))) in
        elim (find_name names name) [
          | inr absent ↦ inl (n.unknown absent).1
          | inl there ↦
              let q = n.known there.0 there.1 in
              elim (not_awake ((state_of m.monitors).waiting t)) [
                | inl awake ↦ go there.0 (q.passed (λ asleep. asleep awake))
                | inr asleep ↦ inl (q.refused asleep).1
              ]
        ]
  ]

  pub moves : (asked : Action) → StepsAs old answer new m t asked → Moves
  moves (order.Enter name) h = while_awake _ name _ h (λ k done. entering (object_of k) done ((state_of m.monitors).owner k) refl)
  moves (order.Exit name) h = while_awake _ name _ h (λ k done. exiting (object_of k) done (monitor_at m.monitors k) refl)
  moves (order.Load name) h = while_awake _ name _ h (λ k done. loading (field_of k) done)
  moves (order.Store name value) h = while_awake _ name _ h (λ k done. storing (field_of k) value done)
  moves (order.Wait name) h = while_awake _ name _ h (λ k done. waiting (object_of k) done)
  moves order.Resume h = elim (cases_lt t (lanes_of m.monitors)) [
    | inr ge ↦ inl (h.refused ge).1
    | inl lt ↦ resuming (h.passed (λ ge. absurd (omega (arith, lt, ge)))) ((state_of m.monitors).waiting t) refl
  ]
  moves (order.Notify name) h = while_awake _ name _ h (λ k done. notifying (object_of k) done)
  moves (order.NotifyAll name) h = while_awake _ name _ h (λ k done. notifying_all (object_of k) done)
