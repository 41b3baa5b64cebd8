-- The kinds of step on a lock word.
use Rattle.std.proofs.Common.{◌≡◌, ◌≢◌, ℕ, ◌+◌, ◌-◌, ◌<◌, ◌≤◌, ◌⊎◌, if◌then◌else◌, eqb, List, [], Option, Some, None, refl, sym, ap, ◌∙◌, subst, inl, inr, ⊎_elim, arith}
use Rattle.std.specs.Int.{bit_at}
use mathlib.Core.Option.{none}
use mathlib.Core.Logic.{dite}
use native.Mathlib.Decide.{ℕ_discrete}
use prog.Atomic.{either}
use Rattle.atomic_table.specs.Table.{step}
use Rattle.atomic_table.proofs.Lists.{exchanged}
use Rattle.lock_word.specs.declared.lock_word.Shape.{Shape}
use Rattle.lock_word.specs.declared.lock_word.Shape.TheVariants.{Free, Thin, Fat}
use Rattle.heap_model.specs.declared.ids.ObjectId.{ObjectId}
use Rattle.heap_model.specs.declared.ids.Lane.{Lane}
use Rattle.heap_model.specs.declared.event.Event.{Event}
use Rattle.heap_model.specs.declared.event.Event.TheVariants.{Enter, NestedEnter, NestedExit, Exit, Look}
use Rattle.heap_model.specs.declared.event.Sight.TheVariants.{Found}
use Rattle.heap_model.specs.State.{State, with_at}
use Rattle.heap_model.specs.Events.{after_event}
use Rattle.heap_model.specs.Own.{Hold, own}
use Rattle.law_histories.proofs.Own.{by_test}
use Rattle.monitor.specs.declared.view.Plan.{Plan}
use Rattle.monitor.specs.declared.view.View.{View}
use Rattle.monitor.specs.Words.{objects, LockAt, place, Words}
use Rattle.monitor.specs.Views.{slot_of, word_of, told, fattened, IsClear, IsAwake, Holds, Stands}
use Rattle.lock_word.specs.Spelling.{Spells, Shows}
use Rattle.lock_word.proofs.Spelled.{spelled_once}
use Rattle.monitor.specs.Rule.{in_set, Waits, Names, Truth}
use Rattle.monitor.specs.Kinds.{Sat, turns, object_at, looked, IsNews, looks, takes, nests, unnests, leaves}
use Rattle.monitor.proofs.Spread.{with_here, with_else}
use Rattle.monitor.proofs.Histories.{by_none}
use Rattle.monitor.proofs.Bits.{one_slot}
use Rattle.monitor.proofs.Facts.{Reads, reads_none}
use Rattle.monitor.proofs.Facts as facts
use Rattle.monitor.proofs.Turns.{Turned, Now, Paid, Owes}
use Rattle.monitor.proofs.Quiet.{quiet_none, stays_quiet, IsThin, thin_names_none, one_owner, marked_calm, waits_kept}
use Rattle.monitor.proofs.Telling.{loaded, turned_one, knowing_told, unjoined, telling, Changes, lock_tells}

-- looks

hold_cases : (x : Option Hold) → (x ≡ None) ⊎ ((h : Hold) × (x ≡ Some h))
hold_cases None = inl refl
hold_cases (Some h) = inr (h, refl)

option_cases : (x : Option ℕ) → (x ≡ None) ⊎ ((j : ℕ) × (x ≡ Some j))
option_cases None = inl refl
option_cases (Some j) = inr (j, refl)

-- a thin word isn't that of an object that is known to be fat
pub news : (k : Plan) (l : Lane) (v : View) (w : Words) (s : State) (o : ℕ) (x : Shape) → Truth k w s v l → IsThin x → Spells (w.lock o) x → slot_of o v.fats ≡ None
news k l v w s o x m thin is = ⊎_elim (λ (e : slot_of o v.fats ≡ None). e) (λ (t : (j : ℕ) × (slot_of o v.fats ≡ Some j)). absurd (thin_names_none (w.lock o) t.0 x thin is (m.fat o t.0 t.1).1)) (option_cases (slot_of o v.fats))

pub not_none : (i : ℕ) → ◌≡◌ {A = Option ℕ} (Some i) None → ⊥
not_none i e = absurd cc

pub same_slot : (i j : ℕ) → ◌≡◌ {A = Option ℕ} (Some i) (Some j) → i ≡ j
same_slot i j e = let slot : Option ℕ → ℕ = λ x. elim x [ None ↦ i | Some y ↦ y ] in ap slot e

pub same_word : (x y : Shape) → ◌≡◌ {A = Option Shape} (Some x) (Some y) → x ≡ y
same_word x y e = let word : Option Shape → Shape = λ z. elim z [ None ↦ x | Some a ↦ a ] in ap word e

pub truth_fattened : (k : Plan) (l : Lane) (v : View) (w : Words) (s : State) (o : ObjectId) (i n : ℕ) → Truth k w s v l → o.0 < objects k → Spells (w.lock o.0) (Fat i n) → Truth k w s (fattened v o i n) l
truth_fattened k l v w s o i n m lt is = record {
  planned = m.planned;
  lane = m.lane;
  fat = λ p j. by_test o.0 p (λ b. ◌≡◌ {A = Option ℕ} (if b then Some i else slot_of p v.fats) (Some j) → (p < objects k) × Names w.lock p j)
      (λ at e. subst (λ (z : ℕ). (z < objects k) × Names w.lock z j) at (lt, (n, subst (λ (z : ℕ). Spells (w.lock o.0) (Fat z n)) (same_slot i j e) is))) (λ ne e. m.fat p j e);
  word = λ p j c. by_test o.0 p (λ b. ◌≡◌ {A = Option Shape} (if b then Some (Fat i n) else word_of p v.fats) (Some (Fat j c)) → (p < objects k) × Spells (w.lock p) (Fat j c))
      (λ at e. subst (λ (z : ℕ). (z < objects k) × Spells (w.lock z) (Fat j c)) at (lt, subst (Spells (w.lock o.0)) (same_word (Fat i n) (Fat j c) e) is)) (λ ne e. m.word p j c e);
  thin = λ p j lp own none h. by_test o.0 p (λ b. ◌≡◌ {A = Option ℕ} (if b then Some i else slot_of p v.fats) None → ⊥) (λ is e. not_none i e) (λ ne e. m.thin p j lp own e h) none;
  clear = m.clear;
  joined = m.joined;
  known = m.known;
  removed = m.removed;
  seen = m.seen;
  claimed = m.claimed;
  ready = m.ready;
  notes = m.notes;
}

-- a load with no event, after which the view knows more
pub learning : (k : Plan) (m : Sat) (l : Lane) (w : Words) (s : State) (views : List View) (u : View) (shown : Sat → Type 0) → Now k l m.0 w s views → Turned m.0 [] u → Truth k w s u l → Reads w m.0 u → m.0.claim ≡ u.claim → m.0.seen ≤ u.seen → (Stands u → shown (u, m.1)) → Paid k m l w w s shown
learning k m l w s views u shown f turn truth reads claim seen says = record {
  events = [];
  view = u;
  turned = turn;
  may = tt;
  leaves = record {
    locks = f.facts.locks;
    cells = f.facts.cells;
    waits = f.facts.waits;
    slots = f.facts.slots;
    stays = stays_quiet k l m.0 w w s s (quiet_none k l w s) (by_none s l.0);
    truth = truth;
    claim = λ i c. inl (ap Rattle.monitor.specs.Views.slot_claimed claim ∙ c);
    counts = facts.same refl seen;
    posts = λ p. refl;
    reads = reads;
  };
  told = says;
}

pub looking : (k : Plan) (m : Sat) (l : Lane) (w : Words) (s : State) (views : List View) (o : ℕ) (x : Shape) (shown : Sat → Type 0) → Now k l m.0 w s views → IsClear m.0 → o < objects k → Spells (w.lock o) x → Shows w.fat s o x
    → ((m' : Sat) → IsNews m.0 (object_at o) x → turns m (looked m.0 (object_at o) x) m' → shown m') → Paid k m l w w s shown
looking k m l w s views o (Free n) shown f clear lt is shows says = let e : Event = Look (object_at o) (Found None 0 n) in
    telling k m l w s views e shown f clear shows lt refl (λ st. says (told m.0 e, m.1) (news k l m.0 w s o (Free n) f.truth tt is) (refl, st, refl))
looking k m l w s views o (Thin t a n) shown f clear lt is shows says = let e : Event = Look (object_at o) (Found (Some (record { 0 = t - 1 })) (a + 1) n) in
    telling k m l w s views e shown f clear shows lt refl (λ st. says (told m.0 e, m.1) (news k l m.0 w s o (Thin t a n) f.truth tt is) (refl, st, refl))
looking k m l w s views o (Fat i n) shown f clear lt is shows says = let u : View = fattened m.0 (object_at o) i n in
    learning k m l w s views u shown f (record { plan = refl; role = refl; gathered = refl; events = refl; history = refl }) (truth_fattened k l m.0 w s (object_at o) i n f.truth lt is) (reads_none w m.0 u refl) refl (let z : m.0.seen ≤ m.0.seen = omega arith in z) (λ st. says (u, m.1) (
      (λ none. ⊎_elim (λ (e : (own m.0.events).hold o ≡ None). e) (λ (h : (x : Hold) × ((own m.0.events).hold o ≡ Some x)). absurd (f.truth.thin o i lt (f.held o h.0 h.1).0 none (n, is))) (hold_cases ((own m.0.events).hold o))),
      (λ j e. one_slot w.lock o i j (n, is) (f.truth.fat o j e).1),
      (λ j c e. spelled_once (w.lock o) (Fat i n) (Fat j c) is (f.truth.word o j c e).1),
    )
    (refl, st, refl))

-- the step is on the object's lock word
pub on_lock : (k : Plan) (m : Sat) (l : Lane) (w : Words) (s : State) (views : List View) (o : ObjectId) (i : ℕ) → Now k l m.0 w s views → i ≡ place k (LockAt o.0) → i ≡ place m.0.plan (LockAt o.0)
on_lock k m l w s views o i f is = is ∙ ap (λ (z : Plan). place z (LockAt o.0)) (sym f.truth.planned)

pub look_step : (k : Plan) (m : Sat) (l : Lane) (o : ObjectId) (i : ℕ) → IsClear m.0 → i ≡ place k (LockAt o.0) → o.0 < objects k → Owes k m l (LockAt o.0) (λ x. x) (looks (step 0 i 0 0 none) m)
look_step k m l o i clear is lt = record {
  paid = λ w s views f. let x = f.facts.locks o.0 lt in let at = on_lock k m l w s views o i f is in let shown : Sat → Type 0 = looks (step 0 i 0 0 none) m (w.lock o.0) in
      loaded k m l w s (LockAt o.0) shown (looking k m l w s views o.0 x.0 shown f clear lt x.1 x.2 (λ m' news turn. (o, at, (x.0, x.1, news, turn))));
}

-- takes

pub no_owner : (t : ℕ) → ◌≡◌ {A = Option ℕ} None (Some t) → ⊥
no_owner t e = absurd cc

pub free_bit : (k : Plan) (l : Lane) (v : View) (w : Words) (s : State) (views : List View) (o : ℕ) → Now k l v w s views → o < objects k → s.owner o ≡ None → in_set o (s.waiting l.0) ≡ 0 → bit_at (w.mask o) l.0 ≡ 0
free_bit k l v w s views o f lt free out = f.facts.waits.seen o l.0 lt f.truth.lane (λ e. no_owner l.0 (sym free ∙ e)) ∙ out

-- the object is taken: what else stays
pub taking_waits : (k : Plan) (l : Lane) (w : Words) (s r : State) (o : ℕ) → Waits k w.mask s → s.owner o ≡ None → ((p : ℕ) → o ≢ p → s.owner p ≡ r.owner p) → ((t : ℕ) → r.waiting t ≡ s.waiting t) → Waits k w.mask r
taking_waits k l w s r o m free owners stay = waits_kept k w.mask s r m stay (λ p t lt low n own. dite (ℕ_discrete o p) (λ e. absurd (no_owner t (sym free ∙ ap s.owner e ∙ own))) (λ ne. absurd (n (sym (owners p ne) ∙ own))))

-- of what the lane owns after it took o
pub taken_owner : (s : State) (o p t : ℕ) → o ≢ p → with_at s.owner o (Some t) p ≡ Some t → s.owner p ≡ Some t
taken_owner s o p t ne own = sym (with_else s.owner o p (Some t) ne) ∙ own

pub enter_changes : (k : Plan) (m : Sat) (l : Lane) (w w' : Words) (s : State) (views : List View) (o : ObjectId) (n : ℕ) → Now k l m.0 w s views → w'.mask ≡ w.mask → IsClear m.0 → IsAwake m.0 → o.0 < objects k → s.owner o.0 ≡ None
    → Changes k l m.0 (told m.0 (Enter o n)) w w' s (after_event s l.0 (Enter o n)) o.0
enter_changes k m l w w' s views o n f masks clear awake lt free = let e : Event = Enter o n in let r : State = after_event s l.0 e in
    let bits : (p : ℕ) → p < objects k → r.owner p ≡ Some l.0 → bit_at (w.mask p) l.0 ≡ 0 = λ p lp own. dite (ℕ_discrete o.0 p)
    (λ is. free_bit k l m.0 w s views p f lp (ap s.owner (sym is) ∙ free) (ap (in_set p) (f.awake awake)))
    (λ ne. unjoined k l m.0 w s views f clear p lp (taken_owner s o.0 p l.0 ne own)) in record {
      others = λ p ne. record { owner = sym (with_else s.owner o.0 p (Some l.0) ne); count = sym (with_else s.count o.0 p 1 ne); number = refl };
      values = λ g. refl;
      waits = subst (λ (z : ℕ → ℕ). Waits k z r) (sym masks) (taking_waits k l w s r o.0 f.facts.waits free (λ p ne. sym (with_else s.owner o.0 p (Some l.0) ne)) (λ t. refl));
      marked = marked_calm k w w' s r m.0 l f.truth (λ p lp own. ap (λ (z : ℕ → ℕ). bit_at (z p) l.0) masks ∙ bits p lp own) (λ p h. h);
      knowing = knowing_told m.0 e;
    }

pub take_step : (k : Plan) (m : Sat) (l : Lane) (o : ObjectId) (n old new i : ℕ) → IsClear m.0 → IsAwake m.0 → i ≡ place k (LockAt o.0) → o.0 < objects k → n < k.last → Spells old (Free n) → Spells new (Thin (l.0 + 1) 0 n)
    → Owes k m l (LockAt o.0) (λ x. either (eqb x old) new x) (takes (step 0 i old new none) m)
take_step k m l o n old new i clear awake here_is lt below from to = record {
  paid = λ w s views f. let x : ℕ = w.lock o.0 in let here = f.facts.locks o.0 lt in let at = on_lock k m l w s views o i f here_is in let shown : Sat → Type 0 = takes (step 0 i old new none) m x in
      exchanged x old new (λ z. Paid k m l w (record w { lock = with_at w.lock o.0 z }) s shown)
      (λ hit. let e : Event = Enter o n in let is : Spells x (Free n) = (hit ∙ from.0, from.1) in
      let free : Shows w.fat s o.0 (Free n) = subst (λ (y : Shape). Shows w.fat s o.0 y) (spelled_once x here.0 (Free n) here.1 is) here.2 in
      lock_tells k m l w s views o.0 new (Thin (l.0 + 1) 0 n) e (told m.0 e) shown f lt (λ i h. thin_names_none x i (Free n) tt is h) tt to
      (f.awake awake, free.0, free.2, below) lt
      (with_here s.owner o.0 (Some l.0) ∙ ap Some (omega arith), with_here s.count o.0 1, free.2)
      (turned_one m.0 e)
      (enter_changes k m l w (record w { lock = with_at w.lock o.0 new }) s views o n f refl clear awake lt free.0)
      (λ st. (o, at, (λ _. (n, from.0, news k l m.0 w s o.0 (Free n) f.truth tt is, (refl, st, refl))), λ ne. absurd (ne hit))))
      (λ miss. loaded k m l w s (LockAt o.0) shown (looking k m l w s views o.0 here.0 shown f clear lt here.1 here.2 (λ m' news turn. (o, at, (λ e. absurd (miss e)), λ _. (here.0, here.1, news, turn)))));
}

-- the owner's stores: what it holds is known by its own events

pub same_hold : (a n b q : ℕ) → ◌≡◌ {A = Option Hold} (Some (record { count = a + 1; number = n })) (Some (record { count = b + 1; number = q })) → (a ≡ b) × (n ≡ q)
same_hold a n b q e = let hold : Option Hold → Hold = λ x. elim x [ None ↦ record { count = a + 1; number = n } | Some y ↦ y ] in let c : a + 1 ≡ b + 1 = ap (λ x. (hold x).count) e in (omega arith, ap (λ x. (hold x).number) e)

-- a nested enter or exit: the count alone changes
pub count_changes : (k : Plan) (m : Sat) (l : Lane) (w w' : Words) (s : State) (views : List View) (o c : ℕ) (e : Event) → Now k l m.0 w s views → w'.mask ≡ w.mask → IsClear m.0 → after_event s l.0 e ≡ record s { count = with_at s.count o c }
    → Changes k l m.0 (told m.0 e) w w' s (after_event s l.0 e) o
count_changes k m l w w' s views o c e f masks clear is = subst (λ (z : State). Changes k l m.0 (told m.0 e) w w' s z o) (sym is) (let r : State = record s { count = with_at s.count o c } in record {
  others = λ p ne. record { owner = refl; count = sym (with_else s.count o p c ne); number = refl };
  values = λ g. refl;
  waits = subst (λ (z : ℕ → ℕ). Waits k z r) (sym masks) (waits_kept k w.mask s r f.facts.waits (λ t. refl) (λ p t lt low n own. absurd (n own)));
  marked = marked_calm k w w' s r m.0 l f.truth (λ p lp own. ap (λ (z : ℕ → ℕ). bit_at (z p) l.0) masks ∙ unjoined k l m.0 w s views f clear p lp own) (λ p h. h);
  knowing = knowing_told m.0 e;
})

pub nest_step : (k : Plan) (m : Sat) (l : Lane) (o : ObjectId) (a n x i : ℕ) → IsClear m.0 → IsAwake m.0 → i ≡ place k (LockAt o.0) → o.0 < objects k → Holds m.0 o.0 a n → slot_of o.0 m.0.fats ≡ None → Spells x (Thin (l.0 + 1) (a + 1) n)
    → Owes k m l (LockAt o.0) (λ _. x) (nests (step 0 i x 0 none) m)
nest_step k m l o a n x i clear awake is lt h thin to = record {
  paid = λ w s views f. let e : Event = NestedEnter o in let mine = f.held o.0 (record { count = a + 1; number = n }) h in let count : s.count o.0 ≡ a + 1 = mine.1 in
      lock_tells k m l w s views o.0 x (Thin (l.0 + 1) (a + 1) n) e (told m.0 e) (nests (step 0 i x 0 none) m (w.lock o.0)) f lt (λ j names. f.truth.thin o.0 j lt mine.0 thin names) tt to
      (f.awake awake, mine.0) lt
      (mine.0 ∙ ap Some (omega arith), with_here s.count o.0 (s.count o.0 + 1) ∙ omega arith, mine.2)
      (turned_one m.0 e) (count_changes k m l w (record w { lock = with_at w.lock o.0 x }) s views o.0 (s.count o.0 + 1) e f refl clear refl) (λ st. (o, on_lock k m l w s views o i f is, (refl, st, refl)));
}

pub unnest_step : (k : Plan) (m : Sat) (l : Lane) (o : ObjectId) (a n x i : ℕ) → IsClear m.0 → IsAwake m.0 → i ≡ place k (LockAt o.0) → o.0 < objects k → Holds m.0 o.0 (a + 1) n → slot_of o.0 m.0.fats ≡ None → Spells x (Thin (l.0 + 1) a n)
    → Owes k m l (LockAt o.0) (λ _. x) (unnests (step 0 i x 0 none) m)
unnest_step k m l o a n x i clear awake is lt h thin to = record {
  paid = λ w s views f. let e : Event = NestedExit o in let mine = f.held o.0 (record { count = a + 1 + 1; number = n }) h in let count : s.count o.0 ≡ a + 1 + 1 = mine.1 in
      lock_tells k m l w s views o.0 x (Thin (l.0 + 1) a n) e (told m.0 e) (unnests (step 0 i x 0 none) m (w.lock o.0)) f lt (λ j names. f.truth.thin o.0 j lt mine.0 thin names) tt to
      (f.awake awake, mine.0, omega arith) lt
      (mine.0 ∙ ap Some (omega arith), with_here s.count o.0 (s.count o.0 - 1) ∙ omega arith, mine.2)
      (turned_one m.0 e) (count_changes k m l w (record w { lock = with_at w.lock o.0 x }) s views o.0 (s.count o.0 - 1) e f refl clear refl) (λ st. (o, on_lock k m l w s views o i f is, (refl, st, refl)));
}

pub exit_changes : (k : Plan) (m : Sat) (l : Lane) (w w' : Words) (s : State) (views : List View) (o : ObjectId) (n : ℕ) → Now k l m.0 w s views → w'.mask ≡ w.mask → IsClear m.0 → IsAwake m.0 → o.0 < objects k → s.owner o.0 ≡ Some l.0
    → Changes k l m.0 (told m.0 (Exit o n)) w w' s (after_event s l.0 (Exit o n)) o.0
exit_changes k m l w w' s views o n f masks clear awake lt mine = let e : Event = Exit o n in let r : State = after_event s l.0 e in
    let kept : (p t : ℕ) → r.owner p ≡ Some t → s.owner p ≡ Some t = λ p t own. dite (ℕ_discrete o.0 p) (λ is. absurd (no_owner t (sym (ap r.owner (sym is) ∙ with_here s.owner o.0 None) ∙ own))) (λ ne. sym (with_else s.owner o.0 p None ne) ∙ own) in record {
      others = λ p ne. record { owner = sym (with_else s.owner o.0 p None ne); count = sym (with_else s.count o.0 p 0 ne); number = sym (with_else s.number o.0 p (n + 1) ne) };
      values = λ g. refl;
      waits = subst (λ (z : ℕ → ℕ). Waits k z r) (sym masks) (waits_kept k w.mask s r f.facts.waits (λ t. refl) (λ p t lp low gone own. dite (ℕ_discrete o.0 p)
          (λ is. let same : t ≡ l.0 = one_owner s p t l.0 own (ap s.owner (sym is) ∙ mine) in subst (λ (z : ℕ). bit_at (w.mask p) z ≡ in_set p (s.waiting z)) (sym same) (unjoined k l m.0 w s views f clear p lp (ap s.owner (sym is) ∙ mine) ∙ sym (ap (in_set p) (f.awake awake))))
          (λ ne. absurd (gone (with_else s.owner o.0 p None ne ∙ own)))));
      marked = marked_calm k w w' s r m.0 l f.truth (λ p lp own. ap (λ (z : ℕ → ℕ). bit_at (z p) l.0) masks ∙ unjoined k l m.0 w s views f clear p lp (kept p l.0 own)) (λ p h. h);
      knowing = knowing_told m.0 e;
    }

pub leave_step : (k : Plan) (m : Sat) (l : Lane) (o : ObjectId) (n x i : ℕ) → IsClear m.0 → IsAwake m.0 → i ≡ place k (LockAt o.0) → o.0 < objects k → Holds m.0 o.0 0 n → slot_of o.0 m.0.fats ≡ None → Spells x (Free (n + 1))
    → Owes k m l (LockAt o.0) (λ _. x) (leaves (step 0 i x 0 none) m)
leave_step k m l o n x i clear awake is lt h thin to = record {
  paid = λ w s views f. let e : Event = Exit o n in let mine = f.held o.0 (record { count = 0 + 1; number = n }) h in let count : s.count o.0 ≡ 1 = mine.1 in
      lock_tells k m l w s views o.0 x (Free (n + 1)) e (told m.0 e) (leaves (step 0 i x 0 none) m (w.lock o.0)) f lt (λ j names. f.truth.thin o.0 j lt mine.0 thin names) tt to
      (f.awake awake, mine.0, count, mine.2) lt
      (with_here s.owner o.0 None, with_here s.count o.0 0, with_here s.number o.0 (n + 1))
      (turned_one m.0 e) (exit_changes k m l w (record w { lock = with_at w.lock o.0 x }) s views o n f refl clear awake lt mine.0)
      (λ st. (o, on_lock k m l w s views o i f is, λ a q h'. (ap (λ (z : ℕ). told m.0 (Exit o z)) (same_hold 0 n a q (sym h ∙ h')).1, st, refl)));
}
