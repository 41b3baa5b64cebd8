-- The plain state of a table, and what a changed monitor or value makes of it.
use Rattle.std.proofs.Common.{◌≡◌, ◌≢◌, ℕ, ◌<◌, inl, inr, Bool, true, false, ◌==◌, if◌then◌else◌, List, length, replicate, get_or, slice_index, set, refl, sym, ap, ◌∙◌, subst, arith}
use Rattle.std.proofs.lemmas.Bool.Decides.{eqb_tells}
use Rattle.std.proofs.lemmas.List.{get_or-set_same, get_or-set_other, get_or-replicate, get_or_past, length-replicate}
use Rattle.std.proofs.lemmas.Bool.{cases_lt}
use Rattle.heap_model.specs.State.{State, with_at, initial_state}
use Rattle.script_monitors.specs.declared.monitor.Monitor.{Monitor}
use Rattle.script_monitors.specs.declared.monitor.Monitor.TheVariants.{Free}
use Rattle.script_monitors.specs.Monitor.{owner_in, count_in, number_in}
use Rattle.script_monitors.specs.Table.{Table, monitor_at, pause_at, state_of}
use Rattle.script_monitors.specs.WaitSets.{waiting_in}
use Rattle.script_monitors.specs.declared.pause.Pause.{Pause}
use Rattle.script_monitors.specs.declared.pause.Pause.TheVariants.{Awake}

-- a test on two numbers, split
by_test : (a b : ℕ) (F : Bool → Type 0) → (a ≡ b → F true) → (a ≢ b → F false) → F (a == b)
by_test a b F same other = elim (eqb_tells a b) [ inl e ↦ subst F (sym e.0) (same e.1) | inr e ↦ subst F (sym e.0) (other e.1) ]

-- a list with another element is a function with another value
at-set : {X : Type 0} (xs : List X) (o : ℕ) (x d : X) → o < length xs → (i : ℕ) → get_or (set xs o x) i d ≡ with_at (λ k. get_or xs k d) o x i
at-set xs o x d in' i = by_test o i (λ b. get_or (set xs o x) i d ≡ (if b then x else get_or xs i d))
    (λ is. ap (λ k. get_or (set xs o x) k d) (sym is) ∙ get_or-set_same xs o x d in')
    (λ ne. get_or-set_other xs o i x d (λ is. ne (sym is)))

-- a part of a function with another value
part-with_at : {X Y : Type 0} (part : X → Y) (f : ℕ → X) (o : ℕ) (x : X) (i : ℕ) → part (with_at f o x i) ≡ with_at (λ k. part (f k)) o (part x) i
part-with_at part f o x i = elim (o == i) as (λ b. part (if b then x else f i) ≡ (if b then part x else part (f i))) [ true ↦ refl | false ↦ refl ]

-- a function with the value that it has
pub with_at-same : {X : Type 0} (f : ℕ → X) (o : ℕ) (x : X) → x ≡ f o → with_at f o x ≡ f
with_at-same f o x is = let each : (i : ℕ) → with_at f o x i ≡ f i = λ i. by_test o i (λ b. (if b then x else f i) ≡ f i) (λ e. is ∙ ap f e) (λ _. refl) in
    λ j k. each k j

-- the state with another monitor
pub state_of-set : (t : Table) (o : ℕ) (m : Monitor) → o < length t.monitors
    → state_of (record t { monitors = set t.monitors o m }) ≡ record (state_of t) {
      owner = with_at (state_of t).owner o (owner_in m);
      count = with_at (state_of t).count o (count_in m);
      number = with_at (state_of t).number o (number_in m);
    }
state_of-set t o m in' =
    let at : (i : ℕ) → monitor_at (record t { monitors = set t.monitors o m }) i ≡ with_at (monitor_at t) o m i = at-set t.monitors o m (Free 0) in' in
    let owner : (i : ℕ) → owner_in (monitor_at (record t { monitors = set t.monitors o m }) i) ≡ with_at (state_of t).owner o (owner_in m) i = λ i. ap owner_in (at i) ∙ part-with_at owner_in (monitor_at t) o m i in
    let count : (i : ℕ) → count_in (monitor_at (record t { monitors = set t.monitors o m }) i) ≡ with_at (state_of t).count o (count_in m) i = λ i. ap count_in (at i) ∙ part-with_at count_in (monitor_at t) o m i in
    let number : (i : ℕ) → number_in (monitor_at (record t { monitors = set t.monitors o m }) i) ≡ with_at (state_of t).number o (number_in m) i = λ i. ap number_in (at i) ∙ part-with_at number_in (monitor_at t) o m i in
    λ j. record (state_of t) { owner = λ i. owner i j; count = λ i. count i j; number = λ i. number i j }

-- the state with a monitor taken, or counted again, at the same number
pub state_of-taken : (t : Table) (o : ℕ) (m : Monitor) → o < length t.monitors → number_in m ≡ (state_of t).number o
    → state_of (record t { monitors = set t.monitors o m }) ≡ record (state_of t) {
      owner = with_at (state_of t).owner o (owner_in m);
      count = with_at (state_of t).count o (count_in m);
    }
state_of-taken t o m in' same = state_of-set t o m in' ∙ ap (λ number. record (state_of t) {
  owner = with_at (state_of t).owner o (owner_in m);
  count = with_at (state_of t).count o (count_in m);
  number = number;
}) (with_at-same (state_of t).number o (number_in m) same)

-- the state with a monitor counted again, by the same owner
pub state_of-counted : (t : Table) (o : ℕ) (m : Monitor) → o < length t.monitors → number_in m ≡ (state_of t).number o → owner_in m ≡ (state_of t).owner o
    → state_of (record t { monitors = set t.monitors o m }) ≡ record (state_of t) { count = with_at (state_of t).count o (count_in m) }
state_of-counted t o m in' same mine = state_of-taken t o m in' same ∙ ap (λ owner. record (state_of t) {
  owner = owner;
  count = with_at (state_of t).count o (count_in m);
}) (with_at-same (state_of t).owner o (owner_in m) mine)

-- the state with another value
pub state_of-stored : (t : Table) (f v : ℕ) → f < length t.values → state_of (record t { values = set t.values f v }) ≡ record (state_of t) { value = with_at (state_of t).value f v }
state_of-stored t f v in' = let at : (i : ℕ) → get_or (set t.values f v) i 0 ≡ with_at (state_of t).value f v i = at-set t.values f v 0 in' in
    λ j. record (state_of t) { value = λ i. at i j }

-- the state with a thread that waits otherwise
pub state_of-paused : (t : Table) (l : ℕ) (p : Pause) → l < length t.pauses
    → state_of (record t { pauses = set t.pauses l p }) ≡ record (state_of t) { waiting = with_at (state_of t).waiting l (waiting_in p) }
state_of-paused t l p in' =
    let at : (i : ℕ) → waiting_in (pause_at (record t { pauses = set t.pauses l p }) i) ≡ with_at (state_of t).waiting l (waiting_in p) i =
    λ i. ap waiting_in (at-set t.pauses l p Awake in' i) ∙ part-with_at waiting_in (pause_at t) l p i in
    λ j. record (state_of t) { waiting = λ i. at i j }

-- the state with another monitor, and with a thread that waits otherwise
pub state_of-both : (t : Table) (o : ℕ) (m : Monitor) (l : ℕ) (p : Pause) → o < length t.monitors → l < length t.pauses
    → state_of (record t { monitors = set t.monitors o m; pauses = set t.pauses l p }) ≡ record (state_of t) {
      owner = with_at (state_of t).owner o (owner_in m);
      count = with_at (state_of t).count o (count_in m);
      number = with_at (state_of t).number o (number_in m);
      waiting = with_at (state_of t).waiting l (waiting_in p);
    }
state_of-both t o m l p in' lane = state_of-paused (record t { monitors = set t.monitors o m }) l p lane
    ∙ ap (λ (s : State). record s { waiting = with_at (state_of t).waiting l (waiting_in p) }) (state_of-set t o m in')

-- a list of one value has it everywhere
everywhere : {X : Type 0} (xs : List X) (n : ℕ) (x : X) → xs ≡ replicate n x → (i : ℕ) → get_or xs i x ≡ x
everywhere xs n x all i = ap (λ ys. get_or ys i x) all ∙ elim (cases_lt i n) [
  | inl below ↦ get_or-replicate n i x x below
  | inr past ↦ get_or_past (replicate n x) i x (omega (arith, length-replicate n x))
]

-- the state in which all monitors are free and all threads awake
pub state_of-free : (t : Table) (n k : ℕ) → t.monitors ≡ replicate n (Free 0) → t.pauses ≡ replicate k Awake → state_of t ≡ initial_state (slice_index t.values)
state_of-free t n k free awake =
    let at : (o : ℕ) → monitor_at t o ≡ Free 0 = everywhere t.monitors n (Free 0) free in
    let paused : (u : ℕ) → pause_at t u ≡ Awake = everywhere t.pauses k Awake awake in
    λ j. record { owner = λ o. owner_in (at o j); count = λ o. count_in (at o j); number = λ o. number_in (at o j); value = λ f. get_or t.values f 0; waiting = λ u. waiting_in (paused u j) }

-- two lists of numbers as long as one another, the same at each place
pub same-values : (xs ys : List ℕ) → length xs ≡ length ys → ((f : ℕ) → f < length ys → get_or xs f 0 ≡ get_or ys f 0) → slice_index xs ≡ slice_index ys
same-values xs ys long same =
    let each : (f : ℕ) → get_or xs f 0 ≡ get_or ys f 0 = λ f. elim (cases_lt f (length ys)) [
      | inl below ↦ same f below
      | inr past ↦ get_or_past xs f 0 (omega arith) ∙ sym (get_or_past ys f 0 past)
    ] in
    λ j f. each f j
