-- A seat leaves a witness, the helper hears it and catches up with the history, and a seat sees the history.
use Rattle.std.proofs.Common.{◌≡◌, ◌≢◌, ℕ, zero, suc, ◌⊎◌, List, [], ◌∷◌, ◌++◌, length, length-set, get_or, set, refl, sym, ap, ◌∙◌, subst, inl, inr, ⊎_elim, arith}
use mathlib.Core.Option.{none, some, some-injective, some-ne-none}
use lib.ListN.{get_elem?}
use Rattle.atomic_table.specs.Table.{step, keeps, Allows, Splits, Joins}
use Rattle.atomic_table.proofs.Lists.{at_set, set_else}
use Rattle.heap_model.specs.declared.ids.Lane.{Lane}
use Rattle.heap_model.specs.declared.event.Event.{Event}
use Rattle.heap_model.specs.Log.{lane}
use Rattle.heap_model.specs.State.{State}
use Rattle.heap_model.specs.History.{state_after, IsLegalHistory}
use Rattle.monitor.specs.declared.view.Plan.{Plan}
use Rattle.monitor.specs.declared.view.Part.{Part}
use Rattle.monitor.specs.declared.view.Heard.{Heard}
use Rattle.monitor.specs.declared.view.Note.{Note}
use Rattle.monitor.specs.declared.view.Role.{Role}
use Rattle.monitor.specs.declared.view.Role.TheVariants.{Worker, Helper, Witness, Spent}
use Rattle.monitor.specs.declared.view.View.{View}
use Rattle.monitor.specs.Words.{setting_of, CountAt, place, Words, spread, word_at, with_word}
use Rattle.monitor.specs.Views.{noted, lane_in, lane_of, spent, witness_role, witness_for, hearing, caught_up, GoesOn, HasHeard}
use Rattle.monitor.specs.Posts.{NeverFall, ArePublished}
use Rattle.monitor.specs.Rule.{late_in, late, most_in, most, Facts, Seated, Kept}
use Rattle.monitor.specs.Kinds.{Sat, catches_up, sees}
use Rattle.monitor.proofs.Spread.{spread_set, word_here}
use Rattle.monitor.proofs.Histories.{by_none, goes_same}
use Rattle.monitor.proofs.Facts.{late_set, most_set, facts_after, reads_none}
use Rattle.monitor.proofs.Facts as facts
use Rattle.monitor.proofs.Quiet.{quiet_none, stays_quiet}
use Rattle.monitor.proofs.PostSteps.{seated_same}
use Rattle.monitor.proofs.Telling.{unwritten}
use Rattle.monitor.proofs.Deals.{helper_once, at_end, late_append, most_append}

-- the same helper, but for what it has seen and heard
WasHelper : List View → ℕ → View → ℕ → Type 0
WasHelper views i x n = (y : View) × (get_elem? views i ≡ some y) × (y.role ≡ Helper n) × (y.plan ≡ x.plan) × (y.notes ≡ x.notes) × (y.gathered ≡ x.gathered)

-- the workers and the helper are as before
record Still (views later : List View) : Type 0 where
  workers : (i : ℕ) (x : View) (l : Lane) → get_elem? later i ≡ some x → x.role ≡ Worker l → get_elem? views i ≡ some x
  helpers : (i : ℕ) (x : View) (n : ℕ) → get_elem? later i ≡ some x → x.role ≡ Helper n → WasHelper views i x n
  missed : late later ≡ late views
  counts : most later ≡ most views

-- what the new views tell of the history is so
record Tells (h : List (ℕ × Event)) (later : List View) : Type 0 where
  witnesses : (i : ℕ) (v : View) (l : Lane) → get_elem? later i ≡ some v → v.role ≡ Witness l → GoesOn (lane l.0 h) v.events
  begins : (i : ℕ) (v : View) (n : ℕ) → get_elem? later i ≡ some v → v.role ≡ Helper n → GoesOn h v.history
  heard : (i : ℕ) (v : View) (n : ℕ) → get_elem? later i ≡ some v → v.role ≡ Helper n → HasHeard h v

facts_still : (k : Plan) (w : Words) (s : State) (views later : List View) → Facts k w s views → Still views later → Facts k w s later
unfolding WasHelper
facts_still k w s views later f t = record {
  locks = f.locks;
  cells = f.cells;
  waits = f.waits;
  slots = f.slots;
  truths = λ i x l a e. f.truths i x l (t.workers i x l a e) e;
  claims = λ i j x y l u n a b e g c d. f.claims i j x y l u n (t.workers i x l a e) (t.workers j y u b g) e g c d;
  bound = let a = f.bound in let b = t.missed in omega arith;
  few = let a = f.few in let b = t.counts in omega arith;
  helped = λ i x n a e. let y = t.helpers i x n a e in let g = f.helped i y.0 n y.1 y.2 in record {
    planned = sym y.3 ∙ g.planned;
    exact = λ p. ap (λ (z : List Note). noted p z) (sym y.4) ∙ g.exact p;
    parts = λ j q p has. g.parts j q p (subst (λ (z : List Part). get_elem? z j ≡ some q) (sym y.5) has);
    rises = subst NeverFall y.4 g.rises;
    read = λ j q has. subst (λ (z : List Note). ArePublished q.notes z) y.4 (g.read j q (subst (λ (z : List Part). get_elem? z j ≡ some q) (sym y.5) has));
  };
  published = λ i j x z l n a b e g. let y = t.helpers j z n b g in subst (λ (o : List Note). ArePublished x.notes o) y.4 (f.published i j x y.0 l n (t.workers i x l a e) y.1 e y.2);
}

seated_still : (h : List (ℕ × Event)) (views later : List View) → Seated h views → Still views later → Tells h later → Seated h later
unfolding WasHelper
seated_still h views later r t q = record {
  parts = λ i x l a e. r.parts i x l (t.workers i x l a e) e;
  apart = λ i j x y l a b e f. r.apart i j x y l (t.workers i x l a e) (t.workers j y l b f) e f;
  unheard = λ i x n u a e le. let y = t.helpers i x n a e in r.unheard i y.0 n u y.1 y.2 le;
  undealt = λ i j x z n l a b e f. let y = t.helpers i x n a e in r.undealt i j y.0 z n l y.1 (t.workers j z l b f) y.2 f;
  gathered = λ i j x n p a e has. let y = t.helpers i x n a e in let g = r.gathered i j y.0 n p y.1 y.2 (subst (λ (z : List Part). get_elem? z j ≡ some p) (sym y.5) has) in (g.0, g.1, λ m z l b f. g.2 m z l (t.workers m z l b f) f);
  helpers = λ i j x z m n a b e f. let y = t.helpers i x m a e in let u = t.helpers j z n b f in r.helpers i j y.0 u.0 m n y.1 u.1 y.2 u.2;
  counted = λ i x n a e. let y = t.helpers i x n a e in t.counts ∙ r.counted i y.0 n y.1 y.2;
  witnesses = q.witnesses;
  known = λ i x l a e. r.known i x l (t.workers i x l a e) e;
  begins = q.begins;
  heard = λ i j x n p a e has. q.heard i x n a e j p has;
}

-- a helper's own view
was_same : (views : List View) (i : ℕ) (x : View) (n : ℕ) → get_elem? views i ≡ some x → x.role ≡ Helper n → WasHelper views i x n
unfolding WasHelper
was_same views i x n a e = (x, a, e, refl, refl, refl)

-- a worker leaves a witness

module _ (h : List (ℕ × Event)) (views : List View) (id : ℕ) (v : View) (l : Lane) (r : Seated h views) (at : get_elem? views id ≡ some v) (role : v.role ≡ Worker l) where
  Old : ℕ → View → Type 0
  Old i x = (get_elem? views i ≡ some x) ⊎ (witness_for v ≡ x)

  old : (i : ℕ) (x : View) → get_elem? (set views id v ++ witness_for v ∷ []) i ≡ some x → Old i x
  unfolding Old
  old i x now = ⊎_elim
      (λ (e : get_elem? (set views id v) i ≡ some x). inl (⊎_elim
      (λ (t : (i ≡ id) × (v ≡ x)). subst (λ (z : ℕ). get_elem? views z ≡ some x) (sym t.0) (at ∙ ap (λ (z : View). some z) t.1))
      (λ (t : (i ≢ id) × (get_elem? views i ≡ some x)). t.1) (at_set views id i v x e)))
      (λ (t : (i ≡ length (set views id v)) × (witness_for v ≡ x)). inr t.1)
      (at_end (set views id v) (witness_for v) x i now)

  new_role : (x : View) → witness_for v ≡ x → x.role ≡ Witness l
  new_role x e = ap (λ (z : View). z.role) (sym e) ∙ ap witness_role role

  old_worker : (i : ℕ) (x : View) (u : Lane) → Old i x → x.role ≡ Worker u → get_elem? views i ≡ some x
  unfolding Old
  old_worker i x u o e = ⊎_elim (λ (a : get_elem? views i ≡ some x). a) (λ (a : witness_for v ≡ x). absurd (let never : Witness l ≡ Worker u = sym (new_role x a) ∙ e in cc)) o

  old_helper : (i : ℕ) (x : View) (n : ℕ) → Old i x → x.role ≡ Helper n → get_elem? views i ≡ some x
  unfolding Old
  old_helper i x n o e = ⊎_elim (λ (a : get_elem? views i ≡ some x). a) (λ (a : witness_for v ≡ x). absurd (let never : Witness l ≡ Helper n = sym (new_role x a) ∙ e in cc)) o

  old_witness : (i : ℕ) (x : View) (u : Lane) → Old i x → x.role ≡ Witness u → GoesOn (lane u.0 h) x.events
  unfolding Old
  old_witness i x u o e = ⊎_elim (λ (a : get_elem? views i ≡ some x). r.witnesses i x u a e)
      (λ (a : witness_for v ≡ x). let same : l ≡ u = ap lane_in (sym (new_role x a) ∙ e) in ([], ap (λ (z : Lane). lane z.0 h) (sym same) ∙ r.parts id v l at role ∙ ap (λ (z : View). z.events) a)) o

  still_attested : Still views (set views id v ++ witness_for v ∷ [])
  still_attested = record {
    workers = λ i x u a e. old_worker i x u (old i x a) e;
    helpers = λ i x n a e. was_same views i x n (old_helper i x n (old i x a) e) e;
    missed = let a = late_append (set views id v) (witness_for v) in let b = late_set views id v v at in let c : late_in (witness_for v).role 0 0 ≡ 0 = ap (λ (z : Role). late_in (witness_role z) 0 0) role in omega arith;
    counts = let a = most_append (set views id v) (witness_for v) in let b = most_set views id v v at in let c : most_in (witness_for v).role 0 ≡ 0 = ap (λ (z : Role). most_in (witness_role z) 0) role in omega arith;
  }

  tells_attested : Tells h (set views id v ++ witness_for v ∷ [])
  tells_attested = record {
    witnesses = λ i x u a e. old_witness i x u (old i x a) e;
    begins = λ i x n a e. r.begins i x n (old_helper i x n (old i x a) e) e;
    heard = λ i x n a e j p has. r.heard i j x n p (old_helper i x n (old i x a) e) e has;
  }

pub attests : (k : Plan) (id : ℕ) (v : View) (l : Lane) → v.role ≡ Worker l → Splits (Kept k) id v v (witness_for v)
attests k id v l role s r at = let later = set s.views id v ++ witness_for v ∷ [] in let t = still_attested r.history s.views id v l r.seated at role in record {
  history = r.history;
  legal = r.legal;
  wide = r.wide;
  facts = facts_still k (spread k s.words) (state_after (setting_of k) r.history) s.views later r.facts t;
  seated = seated_still r.history s.views later r.seated t (tells_attested r.history s.views id v l r.seated at role);
  last = r.last;
}

-- the helper hears a witness

module _ (h : List (ℕ × Event)) (views : List View) (id other n : ℕ) (v w : View) (l : Lane) (r : Seated h views) (at : get_elem? views id ≡ some v) (role : v.role ≡ Helper n) (there : get_elem? views other ≡ some w) (mine : w.role ≡ Witness l) where
  abbrev After : List View
  After = set (set views id (hearing v w)) other spent

  Kin : ℕ → View → Type 0
  Kin i x = (spent ≡ x) ⊎ (((i ≡ id) × (hearing v w ≡ x)) ⊎ ((i ≢ id) × (get_elem? views i ≡ some x)))

  kin : (i : ℕ) (x : View) → get_elem? After i ≡ some x → Kin i x
  unfolding Kin
  kin i x now = ⊎_elim (λ (t : (i ≡ other) × (spent ≡ x)). inl t.1)
      (λ (t : (i ≢ other) × (get_elem? (set views id (hearing v w)) i ≡ some x)). ⊎_elim (λ (q : (i ≡ id) × (hearing v w ≡ x)). inr (inl q)) (λ (q : (i ≢ id) × (get_elem? views i ≡ some x)). inr (inr q)) (at_set views id i (hearing v w) x t.1))
      (at_set (set views id (hearing v w)) other i spent x now)

  hearing_is : (x : View) → hearing v w ≡ x → x.role ≡ Helper n
  hearing_is x e = ap (λ (z : View). z.role) (sym e) ∙ role

  kin_worker : (i : ℕ) (x : View) (u : Lane) → Kin i x → x.role ≡ Worker u → get_elem? views i ≡ some x
  unfolding Kin
  kin_worker i x u o e = ⊎_elim (λ (a : spent ≡ x). absurd (let never : Spent ≡ Worker u = ap (λ (z : View). z.role) a ∙ e in cc))
      (λ (o : ((i ≡ id) × (hearing v w ≡ x)) ⊎ ((i ≢ id) × (get_elem? views i ≡ some x))). ⊎_elim (λ (a : (i ≡ id) × (hearing v w ≡ x)). absurd (let never : Helper n ≡ Worker u = sym (hearing_is x a.1) ∙ e in cc)) (λ (a : (i ≢ id) × (get_elem? views i ≡ some x)). a.1) o) o

  kin_witness : (i : ℕ) (x : View) (u : Lane) → Kin i x → x.role ≡ Witness u → get_elem? views i ≡ some x
  unfolding Kin
  kin_witness i x u o e = ⊎_elim (λ (a : spent ≡ x). absurd (let never : Spent ≡ Witness u = ap (λ (z : View). z.role) a ∙ e in cc))
      (λ (o : ((i ≡ id) × (hearing v w ≡ x)) ⊎ ((i ≢ id) × (get_elem? views i ≡ some x))). ⊎_elim (λ (a : (i ≡ id) × (hearing v w ≡ x)). absurd (let never : Helper n ≡ Witness u = sym (hearing_is x a.1) ∙ e in cc)) (λ (a : (i ≢ id) × (get_elem? views i ≡ some x)). a.1) o) o

  kin_helper : (i : ℕ) (x : View) (m : ℕ) → Kin i x → x.role ≡ Helper m → (i ≡ id) × (hearing v w ≡ x) × (n ≡ m)
  unfolding Kin
  kin_helper i x m o e = ⊎_elim (λ (a : spent ≡ x). absurd (let never : Spent ≡ Helper m = ap (λ (z : View). z.role) a ∙ e in cc))
      (λ (o : ((i ≡ id) × (hearing v w ≡ x)) ⊎ ((i ≢ id) × (get_elem? views i ≡ some x))). ⊎_elim (λ (a : (i ≡ id) × (hearing v w ≡ x)). (a.0, a.1, helper_once n m x.role (hearing_is x a.1) e)) (λ (a : (i ≢ id) × (get_elem? views i ≡ some x)). absurd (a.0 (r.helpers i id x v m n a.1 at e role))) o) o

  listens : (j : ℕ) (p : Heard) → get_elem? (hearing v w).heard j ≡ some p → GoesOn (lane p.lane.0 h) p.events
  listens zero p e = subst (λ (z : Heard). GoesOn (lane z.lane.0 h) z.events) (some-injective (record { lane = lane_of w; events = w.events }) p e) (subst (λ (z : Lane). GoesOn (lane z.0 h) w.events) (sym (ap lane_in mine)) (r.witnesses other w l there mine))
  listens (suc j) p e = r.heard id j v n p at role e

  still_heard : get_elem? (set views id (hearing v w)) other ≡ some w → Still views After
  unfolding WasHelper
  still_heard now = record {
    workers = λ i x u a e. kin_worker i x u (kin i x a) e;
    helpers = λ i x m a e. let d = kin_helper i x m (kin i x a) e in (v, subst (λ (z : ℕ). get_elem? views z ≡ some v) (sym d.0) at, role ∙ ap (λ (z : ℕ). Helper z) d.2, ap (λ (z : View). z.plan) d.1, ap (λ (z : View). z.notes) d.1, ap (λ (z : View). z.gathered) d.1);
    missed = let a = late_set views id v (hearing v w) at in let b = late_set (set views id (hearing v w)) other w spent now in let c : late_in w.role w.seen (length w.gathered) ≡ 0 = ap (λ (z : Role). late_in z w.seen (length w.gathered)) mine in omega arith;
    counts = let a = most_set views id v (hearing v w) at in let b = most_set (set views id (hearing v w)) other w spent now in let c : most_in w.role (length w.gathered) ≡ 0 = ap (λ (z : Role). most_in z (length w.gathered)) mine in omega arith;
  }

  tells_heard : Tells h After
  tells_heard = record {
    witnesses = λ i x u a e. r.witnesses i x u (kin_witness i x u (kin i x a) e) e;
    begins = λ i x m a e. let d = kin_helper i x m (kin i x a) e in subst (λ (z : View). GoesOn h z.history) d.1 (r.begins id v n at role);
    heard = λ i x m a e j p has. let d = kin_helper i x m (kin i x a) e in listens j p (subst (λ (z : View). get_elem? z.heard j ≡ some p) (sym d.1) has);
  }

pub hears : (k : Plan) (id other n : ℕ) (v w : View) (l : Lane) → v.role ≡ Helper n → w.role ≡ Witness l → Joins (Kept k) id v other w (hearing v w) spent
hears k id other n v w l role mine s r at ne now = let there : get_elem? s.views other ≡ some w = sym (set_else s.views id other (hearing v w) ne) ∙ now in
    let later = set (set s.views id (hearing v w)) other spent in let t = still_heard r.history s.views id other n v w l r.seated at role there mine now in record {
      history = r.history;
      legal = r.legal;
      wide = r.wide;
      facts = facts_still k (spread k s.words) (state_after (setting_of k) r.history) s.views later r.facts t;
      seated = seated_still r.history s.views later r.seated t (tells_heard r.history s.views id other n v w l r.seated at role there mine);
      last = r.last;
    }

-- the helper sees the history so far

module _ (h : List (ℕ × Event)) (views : List View) (id n : ℕ) (v : View) (r : Seated h views) (at : get_elem? views id ≡ some v) (role : v.role ≡ Helper n) where
  other_role : (i : ℕ) (x : View) (a : Role) → a ≢ Helper n → get_elem? (set views id (caught_up v h)) i ≡ some x → x.role ≡ a → get_elem? views i ≡ some x
  other_role i x a ne now e = ⊎_elim (λ (t : (i ≡ id) × (caught_up v h ≡ x)). absurd (ne (sym e ∙ ap (λ (z : View). z.role) (sym t.1) ∙ role))) (λ (t : (i ≢ id) × (get_elem? views i ≡ some x)). t.1) (at_set views id i (caught_up v h) x now)

  still_caught : Still views (set views id (caught_up v h))
  unfolding WasHelper
  still_caught = record {
    workers = λ i x u a e. other_role i x (Worker u) (λ z. absurd (let never : Worker u ≡ Helper n = z in cc)) a e;
    helpers = λ i x m a e. ⊎_elim
        (λ (t : (i ≡ id) × (caught_up v h ≡ x)). (v, subst (λ (z : ℕ). get_elem? views z ≡ some v) (sym t.0) at, ap (λ (z : View). z.role) t.1 ∙ e, ap (λ (z : View). z.plan) t.1, ap (λ (z : View). z.notes) t.1, ap (λ (z : View). z.gathered) t.1))
        (λ (t : (i ≢ id) × (get_elem? views i ≡ some x)). was_same views i x m t.1 e) (at_set views id i (caught_up v h) x a);
    missed = let a = late_set views id v (caught_up v h) at in omega arith;
    counts = let a = most_set views id v (caught_up v h) at in omega arith;
  }

  tells_caught : Tells h (set views id (caught_up v h))
  tells_caught = record {
    witnesses = λ i x u a e. r.witnesses i x u (other_role i x (Witness u) (λ z. absurd (let never : Witness u ≡ Helper n = z in cc)) a e) e;
    begins = λ i x m a e. ⊎_elim (λ (t : (i ≡ id) × (caught_up v h ≡ x)). subst (λ (z : View). GoesOn h z.history) t.1 (goes_same h)) (λ (t : (i ≢ id) × (get_elem? views i ≡ some x)). r.begins i x m t.1 e) (at_set views id i (caught_up v h) x a);
    heard = λ i x m a e j p has. ⊎_elim (λ (t : (i ≡ id) × (caught_up v h ≡ x)). absurd (some-ne-none p (sym (subst (λ (z : View). get_elem? z.heard j ≡ some p) (sym t.1) has)))) (λ (t : (i ≢ id) × (get_elem? views i ≡ some x)). r.heard i j x m p t.1 e has) (at_set views id i (caught_up v h) x a);
  }

pub catch_allowed : (k : Plan) (slots id : ℕ) (m : Sat) (n i : ℕ) → m.0.role ≡ Helper n → m.0.plan ≡ k → i ≡ place k CountAt → Allows (Kept k) slots id m i (λ x. x) (catches_up (step 0 i 0 0 none) m)
catch_allowed k slots id m n i role plan is s r _ here _ = let v : View = m.0 in let h : List (ℕ × Event) = r.history in let u : View = caught_up v h in let w : Words = spread k s.words in let x : ℕ = get_or s.words i 0 in
    let found : word_at w CountAt ≡ x = word_here k CountAt s.words tt ∙ ap (λ (z : ℕ). get_or s.words z 0) (sym is) in
    let words : spread k (set s.words i x) ≡ w = ap (λ (z : ℕ). spread k (set s.words z x)) is ∙ spread_set k s.words x r.wide CountAt tt ∙ ap (λ (z : ℕ). with_word w CountAt z) (sym found) ∙ unwritten w CountAt in
    let st : State = state_after (setting_of k) h in let t = still_caught h s.views id n v r.seated here role in (
      u,
      keeps,
      tt,
      record {
        history = h;
        legal = r.legal;
        wide = length-set s.words i x ∙ r.wide;
        facts = subst (λ (z : Words). Facts k z st (set s.views id u)) (sym words) (facts_still k w st s.views (set s.views id u) r.facts t);
        seated = seated_still h s.views (set s.views id u) r.seated t (tells_caught h s.views id n v r.seated here role);
        last = r.last;
      },
      (h, subst (λ (z : Plan). IsLegalHistory (setting_of z) h) (sym plan) r.legal, r.seated.begins id v n here role, (λ j p has. r.seated.heard id j v n p here role has), refl, refl),
    )

-- a lane's seat sees the history so far

pub see_allowed : (k : Plan) (slots id : ℕ) (m : Sat) (l : Lane) (i : ℕ) → m.0.role ≡ Worker l → m.0.plan ≡ k → i ≡ place k CountAt → Allows (Kept k) slots id m i (λ x. x) (sees (step 0 i 0 0 none) m)
see_allowed k slots id m l i role plan is s r _ here _ = let v : View = m.0 in let h : List (ℕ × Event) = r.history in let u : View = caught_up v h in let w : Words = spread k s.words in let x : ℕ = get_or s.words i 0 in
    let found : word_at w CountAt ≡ x = word_here k CountAt s.words tt ∙ ap (λ (z : ℕ). get_or s.words z 0) (sym is) in
    let words : spread k (set s.words i x) ≡ w = ap (λ (z : ℕ). spread k (set s.words z x)) is ∙ spread_set k s.words x r.wide CountAt tt ∙ ap (λ (z : ℕ). with_word w CountAt z) (sym found) ∙ unwritten w CountAt in
    let st : State = state_after (setting_of k) h in let goes : GoesOn h v.history = r.seated.known id v l here role in
    let part : lane (lane_of v).0 h ≡ v.events = ap (λ (z : Role). lane (lane_in z).0 h) role ∙ r.seated.parts id v l here role in
    let legal : IsLegalHistory (setting_of v.plan) h = subst (λ (z : Plan). IsLegalHistory (setting_of z) h) (sym plan) r.legal in
    let t = r.facts.truths id v l here role in
    let facts : Facts k w st (set s.views id u) = facts_after k l v u w w st st s.views id r.facts here role role (λ j y a ry. r.seated.apart j id y v l a here ry role) record {
      locks = r.facts.locks;
      cells = r.facts.cells;
      waits = r.facts.waits;
      slots = r.facts.slots;
      stays = stays_quiet k l v w w st st (quiet_none k l w st) (by_none st l.0);
      truth = record { planned = t.planned; lane = t.lane; fat = t.fat; word = t.word; thin = t.thin; clear = t.clear; joined = t.joined; known = t.known; removed = t.removed; seen = t.seen; claimed = t.claimed; ready = t.ready; notes = t.notes };
      claim = λ j c. inl c;
      counts = facts.same refl (omega arith);
      posts = λ p. refl;
      reads = reads_none w v u refl;
    } in (
      u,
      keeps,
      tt,
      record {
        history = h;
        legal = r.legal;
        wide = length-set s.words i x ∙ r.wide;
        facts = subst (λ (z : Words). Facts k z st (set s.views id u)) (sym words) facts;
        seated = seated_same h s.views id v u r.seated here refl refl refl (goes_same h) (λ j p has. absurd (some-ne-none p (sym has)));
        last = r.last;
      },
      (h, legal, part, goes, (refl, record { history = h; legal = legal; part = part; later = goes_same h }, refl)),
    )
