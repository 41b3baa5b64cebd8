-- What a changed monitor or value is, as an event.
use Rattle.std.proofs.Common.{◌≡◌, ℕ, ◌+◌, ◌-◌, ◌<◌, length, set, None, Some, sym, ap, ◌∙◌, arith}
use Rattle.std.proofs.lemmas.List.{length-set}
use Rattle.guards.specs.Schema.{object_count, field_count}
use Rattle.heap_model.specs.declared.ids.ObjectId.{ObjectId}
use Rattle.heap_model.specs.declared.ids.FieldId.{FieldId}
use Rattle.heap_model.specs.declared.event.Event.TheVariants.{Enter, NestedEnter, NestedExit, Exit, Store, Wait, Resume, Notify}
use Rattle.heap_model.specs.declared.ids.Lane.{Lane}
use Rattle.heap_model.specs.State.{with_at, kept_count, woken}
use Rattle.heap_model.specs.State as state
use Rattle.script_monitors.specs.declared.monitor.Monitor.{Monitor}
use Rattle.script_monitors.specs.declared.monitor.Monitor.TheVariants.{Free, Held}
use Rattle.script_monitors.specs.declared.pause.Pause.{Pause}
use Rattle.script_monitors.specs.declared.pause.Pause.TheVariants.{Awake, InSet}
use Rattle.script_monitors.specs.WaitSets.{waiting_in}
use Rattle.script_monitors.specs.Monitor.{owner_in, count_in, number_in}
use Rattle.script_monitors.specs.Table.{Table, IsWhole, lanes_of, state_of, IsAfter, SameSetting}
use Rattle.script_monitors.proofs.StateLemmas.{state_of-set, state_of-taken, state_of-counted, state_of-stored, state_of-paused, state_of-both, with_at-same}

module _ (t new : Table) (thread : ℕ) (whole : IsWhole t) where
  module _ (o : ObjectId) (m : Monitor) (in' : o.0 < object_count t.schema) (is : new ≡ record t { monitors = set t.monitors o.0 m }) where
    same-setting : SameSetting t new
    same-setting = record { schema = ap (λ (x : Table). x.schema) is; last = ap (λ (x : Table). x.last) is; lanes = ap lanes_of is }

    within : o.0 < length t.monitors
    within = let long = whole.objects in omega arith

    -- a first lock
    pub after-Enter : (n : ℕ) → owner_in m ≡ Some thread → count_in m ≡ 1 → number_in m ≡ (state_of t).number o.0 → IsAfter t thread (Enter o n) new
    after-Enter n owner count number = record {
      setting = same-setting;
      state = ap state_of is ∙ state_of-taken t o.0 m within number
          ∙ ap (λ x. record (state_of t) { owner = with_at (state_of t).owner o.0 x; count = with_at (state_of t).count o.0 (count_in m) }) owner
          ∙ ap (λ x. record (state_of t) { owner = with_at (state_of t).owner o.0 (Some thread); count = with_at (state_of t).count o.0 x }) count;
    }

    counted : (c : ℕ) → owner_in m ≡ (state_of t).owner o.0 → count_in m ≡ c → number_in m ≡ (state_of t).number o.0
        → state_of new ≡ record (state_of t) { count = with_at (state_of t).count o.0 c }
    counted c owner count number = ap state_of is ∙ state_of-counted t o.0 m within number owner
        ∙ ap (λ x. record (state_of t) { count = with_at (state_of t).count o.0 x }) count

    -- one more lock of the owner's
    pub after-NestedEnter : owner_in m ≡ (state_of t).owner o.0 → count_in m ≡ (state_of t).count o.0 + 1 → number_in m ≡ (state_of t).number o.0
        → IsAfter t thread (NestedEnter o) new
    after-NestedEnter owner count number = record { setting = same-setting; state = counted ((state_of t).count o.0 + 1) owner count number }

    -- one lock less
    pub after-NestedExit : owner_in m ≡ (state_of t).owner o.0 → count_in m ≡ (state_of t).count o.0 - 1 → number_in m ≡ (state_of t).number o.0
        → IsAfter t thread (NestedExit o) new
    after-NestedExit owner count number = record { setting = same-setting; state = counted ((state_of t).count o.0 - 1) owner count number }

    -- the last lock less
    pub after-Exit : (n : ℕ) → m ≡ Free (n + 1) → IsAfter t thread (Exit o n) new
    after-Exit n free = record {
      setting = same-setting;
      state = ap state_of is ∙ state_of-set t o.0 m within ∙ ap (λ x. record (state_of t) {
        owner = with_at (state_of t).owner o.0 (owner_in x);
        count = with_at (state_of t).count o.0 (count_in x);
        number = with_at (state_of t).number o.0 (number_in x);
      }) free;
    }

  -- a store
  pub after-Store : (f : FieldId) (before after : ℕ) → f.0 < field_count t.schema → new ≡ record t { values = set t.values f.0 after }
      → IsAfter t thread (Store f before after) new
  after-Store f before after in' is = let long = whole.fields in let within : f.0 < length t.values = omega arith in record {
    setting = record { schema = ap (λ (x : Table). x.schema) is; last = ap (λ (x : Table). x.last) is; lanes = ap lanes_of is };
    state = ap state_of is ∙ state_of-stored t f.0 after within;
  }

  -- a thread that waits otherwise keeps the setting
  pub paused-setting : (l : ℕ) (p : Pause) → new ≡ record t { pauses = set t.pauses l p } → SameSetting t new
  paused-setting l p is = record {
    schema = ap (λ (x : Table). x.schema) is;
    last = ap (λ (x : Table). x.last) is;
    lanes = ap lanes_of is ∙ length-set t.pauses l p;
  }

  -- a thread leaves its wait set
  pub after-Notify : (o : ObjectId) (l : Lane) (p : Pause) → l.0 < lanes_of t → new ≡ record t { pauses = set t.pauses l.0 p }
      → waiting_in p ≡ woken ((state_of t).waiting l.0) → IsAfter t thread (Notify o (Some l)) new
  after-Notify o l p in' is left = record {
    setting = paused-setting l.0 p is;
    state = ap state_of is ∙ state_of-paused t l.0 p in' ∙ ap (λ w. record (state_of t) { waiting = with_at (state_of t).waiting l.0 w }) left;
  }

-- the thread goes into the object's wait set
pub after-Wait : (t new : Table) (thread : ℕ) (o : ObjectId) (again n : ℕ) → IsWhole t → o.0 < object_count t.schema → thread < lanes_of t
    → new ≡ record t { monitors = set t.monitors o.0 (Free (n + 1)); pauses = set t.pauses thread (InSet o again) }
    → (state_of t).count o.0 ≡ again + 1 → IsAfter t thread (Wait o n) new
after-Wait t new thread o again n whole in' lane is count = let long = whole.objects in let within : o.0 < length t.monitors = omega arith in record {
  setting = record { schema = ap (λ (x : Table). x.schema) is; last = ap (λ (x : Table). x.last) is; lanes = ap lanes_of is ∙ length-set t.pauses thread (InSet o again) };
  state = ap state_of is ∙ state_of-both t o.0 (Free (n + 1)) thread (InSet o again) within lane ∙ ap (λ k. record (state_of t) {
    owner = with_at (state_of t).owner o.0 None;
    count = with_at (state_of t).count o.0 0;
    number = with_at (state_of t).number o.0 (n + 1);
    waiting = with_at (state_of t).waiting thread (state.InSet o.0 k);
  }) (sym count);
}

-- the thread takes its monitor again
pub after-Resume : (t new : Table) (thread : Lane) (o : ObjectId) (again n : ℕ) → IsWhole t → o.0 < object_count t.schema → thread.0 < lanes_of t
    → new ≡ record t { monitors = set t.monitors o.0 (Held thread again n); pauses = set t.pauses thread.0 Awake }
    → kept_count ((state_of t).waiting thread.0) ≡ again + 1 → (state_of t).number o.0 ≡ n → IsAfter t thread.0 (Resume o n) new
after-Resume t new thread o again n whole in' lane is kept number = let long = whole.objects in let within : o.0 < length t.monitors = omega arith in record {
  setting = record { schema = ap (λ (x : Table). x.schema) is; last = ap (λ (x : Table). x.last) is; lanes = ap lanes_of is ∙ length-set t.pauses thread.0 Awake };
  state = ap state_of is ∙ state_of-both t o.0 (Held thread again n) thread.0 Awake within lane ∙ ap (λ k. record (state_of t) {
    owner = with_at (state_of t).owner o.0 (Some thread.0);
    count = with_at (state_of t).count o.0 k;
    number = with_at (state_of t).number o.0 n;
    waiting = with_at (state_of t).waiting thread.0 state.Awake;
  }) (sym kept) ∙ ap (λ numbers. record (state_of t) {
    owner = with_at (state_of t).owner o.0 (Some thread.0);
    count = with_at (state_of t).count o.0 (kept_count ((state_of t).waiting thread.0));
    number = numbers;
    waiting = with_at (state_of t).waiting thread.0 state.Awake;
  }) (with_at-same (state_of t).number o.0 n (sym number));
}
