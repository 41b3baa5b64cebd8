-- What is looked up and planned, as the lines of a script tell it.
use Rattle.std.proofs.Common.{◌≡◌, ◌≢◌, ℕ, ◌<◌, ◌≤◌, inl, inr, List, Some, None, Result, Ok, Err, IfOk, MatchResult, refl, subst, ap, take, Contains, slice_get, arith}
use Rattle.std.proofs.lemmas.Bool.{cases_lt}
use Rattle.std.proofs.lemmas.Option.{get_or_from_slice_get, slice_get_within}
use Rattle.guards.specs.Schema.{object_count, guard_of}
use Rattle.heap_model.specs.declared.ids.ObjectId.{ObjectId}
use Rattle.heap_model.specs.declared.ids.FieldId.{FieldId}
use Rattle.heap_model.specs.declared.event.Event.{Event}
use Rattle.heap_model.specs.declared.event.Event.TheVariants.{Enter, NestedEnter, NestedExit, Exit, Store, Wait, Resume, Notify, NotifyAll}
use Rattle.heap_model.specs.State.{Waiting, Awake, InSet, Woken}
use Rattle.heap_model.specs.Events.{MayDo}
use Rattle.script_machine.specs.declared.answer.Answer.{Answer}
use Rattle.script_machine.specs.declared.answer.Answer.TheVariants.{Done}
use Rattle.script_machine.specs.declared.answer.Answer.TheVariants as answers
use Rattle.script_machine.specs.declared.answer.Refusal.{Refusal}
use Rattle.script_machine.specs.declared.answer.Refusal.TheVariants as why
use Rattle.script_monitors.specs.declared.refusal.MonitorRefusal.{MonitorRefusal}
use Rattle.script_monitors.specs.declared.refusal.MonitorRefusal.TheVariants as monitor
use Rattle.script_machine.specs.Refusals.{told_of_monitor}
use Rattle.script_machine.specs.Lookups.{LooksUp, object_of}
use Rattle.script_machine.specs.States.{Live}
use Rattle.script_machine.specs.Answers.{woken_in}
use Rattle.script_monitors.specs.Table.{Table, IsAfter, lanes_of, setting_of, state_of}
use Rattle.script_monitors.specs.WaitSets.{least_of}
use Rattle.script_machine.specs.Machine.{MachineState, Refuses, WhileAwake, Does, Enters, Exits, Loads, Stores, Waits, Resumes, Notifies, NotifiesAll, Running, waiters}

-- a thread of which it isn't so that it waits
pub is_awake : (w : Waiting) → ¬ (w ≢ Awake) → w ≡ Awake
is_awake Awake h = refl
is_awake (InSet o c) h = absurd (h (λ e. absurd cc))
is_awake (Woken o c) h = absurd (h (λ e. absurd cc))

-- what is so of the value in each `Ok`
pub IfOk-map : {A E : Type 0} {P Q : A → Type 0} (r : Result A E) → ((a : A) → P a → Q a) → IfOk r P → IfOk r Q
IfOk-map (Ok a) f p = f a p
IfOk-map (Err e) f p = tt

-- what may_enter answers
pub record PlansEnter (m : Table) (t : ℕ) (o : ObjectId) (planned : Result Event MonitorRefusal) : Type 0 where
  pub free : (state_of m).owner o.0 ≡ None → (state_of m).number o.0 < m.last → planned ≡ Ok (Enter o ((state_of m).number o.0))
  pub nested : (state_of m).owner o.0 ≡ Some t → planned ≡ Ok (NestedEnter o)
  pub held : (u : ℕ) → (state_of m).owner o.0 ≡ Some u → u ≢ t → planned ≡ Err monitor.Held
  pub worn : (state_of m).owner o.0 ≡ None → m.last ≤ (state_of m).number o.0 → planned ≡ Err monitor.Worn

-- what may_exit answers
pub record PlansExit (m : Table) (t : ℕ) (o : ObjectId) (planned : Result Event MonitorRefusal) : Type 0 where
  pub last : (state_of m).owner o.0 ≡ Some t → (state_of m).count o.0 ≡ 1 → planned ≡ Ok (Exit o ((state_of m).number o.0))
  pub nested : (state_of m).owner o.0 ≡ Some t → 1 < (state_of m).count o.0 → planned ≡ Ok (NestedExit o)
  pub not_held : (state_of m).owner o.0 ≢ Some t → planned ≡ Err monitor.NotHeld

-- what may_store answers
pub record PlansStore (m : Table) (t : ℕ) (f : FieldId) (value : ℕ) (planned : Result Event MonitorRefusal) : Type 0 where
  pub ok : (state_of m).owner (guard_of m.schema f.0) ≡ Some t → planned ≡ Ok (Store f ((state_of m).value f.0) value)
  pub not_held : (state_of m).owner (guard_of m.schema f.0) ≢ Some t → planned ≡ Err monitor.NotHeld

-- what may_wait answers
pub record PlansWait (m : Table) (t : ℕ) (o : ObjectId) (planned : Result Event MonitorRefusal) : Type 0 where
  pub ok : (state_of m).owner o.0 ≡ Some t → planned ≡ Ok (Wait o ((state_of m).number o.0))
  pub not_held : (state_of m).owner o.0 ≢ Some t → planned ≡ Err monitor.NotHeld

-- what load answers
pub record PlansLoad (m : Table) (t : ℕ) (f : FieldId) (planned : Result ℕ MonitorRefusal) : Type 0 where
  pub ok : (state_of m).owner (guard_of m.schema f.0) ≡ Some t → planned ≡ Ok ((state_of m).value f.0)
  pub not_held : (state_of m).owner (guard_of m.schema f.0) ≢ Some t → planned ≡ Err monitor.NotHeld

-- what may_resume answers
pub record PlansResume (m : Table) (t : ℕ) (planned : Result Event MonitorRefusal) : Type 0 where
  pub not_waiting : (state_of m).waiting t ≡ Awake → planned ≡ Err monitor.NotWaiting
  pub in_set : (o c : ℕ) → (state_of m).waiting t ≡ InSet o c → planned ≡ Err monitor.InSet
  pub held : (o c u : ℕ) → (state_of m).waiting t ≡ Woken o c → (state_of m).owner o ≡ Some u → planned ≡ Err monitor.Held
  pub worn : (o c : ℕ) → (state_of m).waiting t ≡ Woken o c → (state_of m).owner o ≡ None → m.last ≤ (state_of m).number o → planned ≡ Err monitor.Worn
  pub ok : (o c : ℕ) → (state_of m).waiting t ≡ Woken o c → (state_of m).owner o ≡ None → (state_of m).number o < m.last
      → planned ≡ Ok (Resume (object_of o) ((state_of m).number o))

-- what a look-up answers
module _ {X : Type 0} (id : ℕ → X) (m : Table) (names : List (List ℕ)) (name : List ℕ) (t : ℕ) where
  pub no_lane : (t < lanes_of m → ⊥) → LooksUp id m names name t (Err why.Lane)
  no_lane beyond = record {
    lane = λ _. refl;
    unknown = λ in' _. absurd (beyond in');
    waiting = λ in' _ _ _. absurd (beyond in');
    known = λ in' _ _ _. absurd (beyond in');
  }

  module _ (in' : t < lanes_of m) where
    pub not_there : ((k : ℕ) → slice_get names k ≡ Some name → ⊥) → LooksUp id m names name t (Err why.Unknown)
    not_there absent = record {
      lane = λ beyond. absurd (omega (arith, in', beyond));
      unknown = λ _ _. refl;
      waiting = λ _ k here _. absurd (absent k here);
      known = λ _ k here _. absurd (absent k here);
    }

    module _ (k : ℕ) (here : slice_get names k ≡ Some name) where
      contained : Contains names name
      contained = (k, slice_get_within names k name here, get_or_from_slice_get names k name name here)

      pub is_asleep : (state_of m).waiting t ≢ Awake → LooksUp id m names name t (Err why.Waiting)
      is_asleep asleep = record {
        lane = λ beyond. absurd (omega (arith, in', beyond));
        unknown = λ _ absent. absurd (absent contained);
        waiting = λ _ _ _ _. refl;
        known = λ _ _ _ awake. absurd (asleep awake);
      }

      pub is_found : (x : X) → (state_of m).waiting t ≡ Awake → ((j : ℕ) → slice_get names j ≡ Some name → x ≡ id j) → LooksUp id m names name t (Ok x)
      is_found x awake own = record {
        lane = λ beyond. absurd (omega (arith, in', beyond));
        unknown = λ _ absent. absurd (absent contained);
        waiting = λ _ _ _ asleep. absurd (asleep awake);
        known = λ _ j there _. ap Ok (own j there);
      }

module _ (old : MachineState) (answer : Answer) (new : MachineState) where
  -- a look-up, and what follows it
  pub looked_up : {X : Type 0} (id : ℕ → X) (m : Live) (names : List (List ℕ)) (name : List ℕ) (t : ℕ) (found : Result X Refusal) (rest : X → Type 0)
      → LooksUp id m.monitors names name t found → MatchResult found rest (Refuses old answer new)
      → WhileAwake old answer new m t names name (λ k. rest (id k))
  looked_up {X = X} id m names name t found rest looks is = record {
    refused = λ beyond. follow (looks.lane beyond);
    passed = λ there. let in' : t < lanes_of m.monitors = elim (cases_lt t (lanes_of m.monitors)) [ inl e ↦ e | inr past ↦ absurd (there past) ] in record {
      unknown = λ absent. follow (looks.unknown in' absent);
      known = λ k here. record {
        refused = λ asleep. follow (looks.waiting in' k here asleep);
        passed = λ awake. follow (looks.known in' k here (is_awake ((state_of m.monitors).waiting t) awake));
      };
    };
  }
    where
      follow : {r : Result X Refusal} → found ≡ r → MatchResult r rest (Refuses old answer new)
      follow e = subst (λ (x : Result X Refusal). MatchResult x rest (Refuses old answer new)) e is

  -- what a plan makes of the line
  abbrev pub Follows : Live → (thread : ℕ) → (said : Answer) → Result Event MonitorRefusal → Type 0
  Follows m t said planned = MatchResult planned (Does old answer new m t said) (λ w. Refuses old answer new (told_of_monitor w))

  follow : (m : Live) (t : ℕ) (said : Answer) {p q : Result Event MonitorRefusal} → Follows m t said p → p ≡ q → Follows m t said q
  follow m t said is e = subst (λ (x : Result Event MonitorRefusal). Follows m t said x) e is

  pub entered : (m : Live) (t : ℕ) (o : ObjectId) (planned : Result Event MonitorRefusal) → PlansEnter m.monitors t o planned → Follows m t Done planned → Enters old answer new m t o
  entered m t o planned plans is = record {
    held = λ u mine other. follow m t Done is (plans.held u mine other);
    worn = λ free past. follow m t Done is (plans.worn free past);
    free = λ free below. follow m t Done is (plans.free free below);
    nested = λ mine. follow m t Done is (plans.nested mine);
  }

  pub exited : (m : Live) (t : ℕ) (o : ObjectId) (planned : Result Event MonitorRefusal) → PlansExit m.monitors t o planned → Follows m t Done planned → Exits old answer new m t o
  exited m t o planned plans is = record {
    not_held = λ other. follow m t Done is (plans.not_held other);
    last = λ mine one. follow m t Done is (plans.last mine one);
    nested = λ mine more. follow m t Done is (plans.nested mine more);
  }

  pub stored : (m : Live) (t : ℕ) (f : FieldId) (value : ℕ) (planned : Result Event MonitorRefusal) → PlansStore m.monitors t f value planned → Follows m t Done planned → Stores old answer new m t f value
  stored m t f value planned plans is = record {
    not_held = λ other. follow m t Done is (plans.not_held other);
    ok = λ mine. follow m t Done is (plans.ok mine);
  }

  -- what is made of what load answers
  abbrev pub TellsValue : Result ℕ MonitorRefusal → Type 0
  TellsValue planned = MatchResult planned (λ v. (answer ≡ answers.Value v) × (new ≡ old)) (λ w. Refuses old answer new (told_of_monitor w))

  pub loaded : (m : Live) (t : ℕ) (f : FieldId) (planned : Result ℕ MonitorRefusal) → PlansLoad m.monitors t f planned → TellsValue planned → Loads old answer new m t f
  loaded m t f planned plans is = record { not_held = λ other. subst TellsValue (plans.not_held other) is; ok = λ mine. subst TellsValue (plans.ok mine) is }

  pub waited : (m : Live) (t : ℕ) (o : ObjectId) (planned : Result Event MonitorRefusal) → PlansWait m.monitors t o planned → Follows m t answers.Waiting planned → Waits old answer new m t o
  waited m t o planned plans is = record {
    not_held = λ other. follow m t answers.Waiting is (plans.not_held other);
    ok = λ mine. follow m t answers.Waiting is (plans.ok mine);
  }

  pub resumed : (m : Live) (t : ℕ) (planned : Result Event MonitorRefusal) → PlansResume m.monitors t planned → Follows m t Done planned → Resumes old answer new m t
  resumed m t planned plans is = record {
    not_waiting = λ awake. follow m t Done is (plans.not_waiting awake);
    in_set = λ o c waits. follow m t Done is (plans.in_set o c waits);
    held = λ o c u waits owned. follow m t Done is (plans.held o c u waits owned);
    worn = λ o c waits free past. follow m t Done is (plans.worn o c waits free past);
    ok = λ o c waits free below. follow m t Done is (plans.ok o c waits free below);
  }

  pub not_notified : (m : Live) (t : ℕ) (o : ObjectId) → (state_of m.monitors).owner o.0 ≢ Some t → Refuses old answer new why.NotHeld → Notifies old answer new m t o
  not_notified m t o other is = record { not_held = λ _. is; ok = λ mine. absurd (other mine) }

  pub not_notified_all : (m : Live) (t : ℕ) (o : ObjectId) → (state_of m.monitors).owner o.0 ≢ Some t → Refuses old answer new why.NotHeld → NotifiesAll old answer new m t o
  not_notified_all m t o other is = record { not_held = λ _. is; ok = λ mine. absurd (other mine) }

  module _ (m : Live) (t : ℕ) (o : ObjectId) (table : Table) (mine : (state_of m.monitors).owner o.0 ≡ Some t)
      (runs : new ≡ Running (record m { monitors = table })) (named : o.0 < object_count m.monitors.schema) where
    pub notified : MayDo (setting_of m.monitors) (state_of m.monitors) t (Notify o (least_of (waiters m.monitors o.0))) → woken_in answer ≡ Some (take 1 (waiters m.monitors o.0)) → IsAfter m.monitors t (Notify o (least_of (waiters m.monitors o.0))) table → Notifies old answer new m t o
    notified allowed answers after = record {
      not_held = λ other. absurd (other mine);
      ok = λ _. record {
        monitors = table;
        allowed = allowed;
        named = named;
        answers = answers;
        runs = runs;
        after = after;
      };
    }

    pub notified_all : MayDo (setting_of m.monitors) (state_of m.monitors) t (NotifyAll o (waiters m.monitors o.0)) → woken_in answer ≡ Some (waiters m.monitors o.0) → IsAfter m.monitors t (NotifyAll o (waiters m.monitors o.0)) table → NotifiesAll old answer new m t o
    notified_all allowed answers after = record {
      not_held = λ other. absurd (other mine);
      ok = λ _. record {
        monitors = table;
        allowed = allowed;
        named = named;
        answers = answers;
        runs = runs;
        after = after;
      };
    }
