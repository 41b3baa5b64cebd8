-- The records of a replay may be pushed into a graph, one after the other.
use Rattle.std.proofs.Common.{ℕ, ◌≡◌, ◌+◌, ◌<◌, ◌≤◌, ◌==◌, if◌then◌else◌, ◌++◌, Bool, true, false, List, [], ◌∷◌, length, map, get_or, take, drop, reverse, refl, sym, ap, ◌∙◌, subst, inl, inr, arith, Option, Some, None, Contains}
use Rattle.std.proofs.lemmas.Bool.Decides.{eqb_tells}
use Rattle.std.proofs.lemmas.List.{map-append, take-append-drop, take_more, reverse-append}
use Rattle.heap_model.specs.Log.{lane}
use Rattle.heap_model.specs.Sections.{Action, Takes, Frees, Stores, undo_action, without, holding, ended}
use Rattle.heap_model.specs.declared.ids.Lane.{Lane}
use Rattle.heap_model.specs.declared.ids.ObjectId.{ObjectId}
use Rattle.heap_model.specs.declared.record.UndoRecord.{UndoRecord}
use Rattle.heap_model.specs.declared.record.UndoRecord.TheVariants.{Acq, Rel, WaitRel, Put}
use Rattle.dependence.specs.Next.{IsBelow, IsNext}
use Rattle.recover_logs.specs.declared.step.Step.{Step}
use Rattle.recover_logs.specs.Replay.{holder, number, IsAllowed, IsGreedy}
use Rattle.recover_logs.specs.Tables.{log_of}
use Rattle.recover.specs.Dropping.{acts_in}
use Rattle.recover.specs.Live.{ArePushable}
use Rattle.recover_logs.proofs.ReplayLemmas.{log_more}
use Rattle.recover_logs.proofs.TallyLemmas.{held_by}

-- a lane's actions are what its records did
pub lane_acts : (l : ℕ) (done : List (ℕ × UndoRecord)) → lane l (acts_in done) ≡ map undo_action (lane l done)
lane_acts l [] = refl
lane_acts l ((m, r) ∷ older) = elim (m == l) as (λ b. (if b then undo_action r ∷ lane l (acts_in older) else lane l (acts_in older)) ≡ map undo_action (if b then r ∷ lane l older else lane l older)) [
  | true ↦ ap (λ (xs : List Action). undo_action r ∷ xs) (lane_acts l older)
  | false ↦ lane_acts l older
]

below_wider : (o t f t' f' : ℕ) (log : List (ℕ × Action)) → t ≤ t' → f ≤ f' → IsBelow o t f log → IsBelow o t' f' log
below_wider o t f t' f' [] le le' h = tt
below_wider o t f t' f' ((l, Takes p n) ∷ older) le le' h = ((λ e. omega (arith, h.0 e)), below_wider o t f t' f' older le le' h.1)
below_wider o t f t' f' ((l, Frees p n) ∷ older) le le' h = ((λ e. omega (arith, h.0 e)), below_wider o t f t' f' older le le' h.1)
below_wider o t f t' f' ((l, Stores) ∷ older) le le' h = below_wider o t f t' f' older le le' h

-- a release, by its object and number
below_freed : (o p k N : ℕ) (older : List (ℕ × Action)) → IsBelow o (N + 1) N older → (p ≡ o → N ≡ k) →
    (p ≡ o → k < (if p == o then k + 1 else N)) × IsBelow o ((if p == o then k + 1 else N) + 1) (if p == o then k + 1 else N) older
below_freed o p k N older h at = elim (eqb_tells p o) [
  | inl e ↦ subst (λ (b : Bool). (p ≡ o → k < (if b then k + 1 else N)) × IsBelow o ((if b then k + 1 else N) + 1) (if b then k + 1 else N) older) (sym e.0)
      ((λ same. omega arith), below_wider o (N + 1) N (k + 1 + 1) (k + 1) older (omega (arith, at e.1)) (omega (arith, at e.1)) h)
  | inr e ↦ subst (λ (b : Bool). (p ≡ o → k < (if b then k + 1 else N)) × IsBelow o ((if b then k + 1 else N) + 1) (if b then k + 1 else N) older) (sym e.0)
      ((λ same. absurd (e.1 same)), h)
]

-- an object was taken up to its number, and freed below it
below_number : (guard : ℕ → Option ObjectId) (first : ℕ → ℕ) (lanes : ℕ → List UndoRecord) (o : ℕ) (done : List (ℕ × UndoRecord)) → IsGreedy guard first lanes done → IsBelow o (number first o done + 1) (number first o done) (acts_in done)
below_number guard first lanes o [] h = tt
below_number guard first lanes o ((l, Acq p k) ∷ older) h = ((λ e. (let at : number first o older ≡ k = ap (λ (x : ℕ). number first x older) (sym e) ∙ h.1.allowed.1 in omega arith)), below_number guard first lanes o older h.0)
below_number guard first lanes o ((l, Rel p k) ∷ older) h = below_freed o p.0 k (number first o older) (acts_in older) (below_number guard first lanes o older h.0) (λ e. ap (λ (x : ℕ). number first x older) (sym e) ∙ h.1.allowed.1)
below_number guard first lanes o ((l, WaitRel p k) ∷ older) h = below_freed o p.0 k (number first o older) (acts_in older) (below_number guard first lanes o older h.0) (λ e. ap (λ (x : ℕ). number first x older) (sym e) ∙ h.1.allowed.1)
below_number guard first lanes o ((l, Put f v) ∷ older) h = below_number guard first lanes o older h.0

-- a free object was taken below its number too
free_freed : (o p k N : ℕ) (was : Option Lane) (older : List (ℕ × Action)) → IsBelow o (N + 1) N older → (p ≡ o → N ≡ k) → (was ≡ None → IsBelow o N N older) → (if p == o then None else was) ≡ None →
    (p ≡ o → k < (if p == o then k + 1 else N)) × IsBelow o (if p == o then k + 1 else N) (if p == o then k + 1 else N) older
free_freed o p k N was older h at rest free = elim (eqb_tells p o) [
  | inl e ↦ subst (λ (b : Bool). (p ≡ o → k < (if b then k + 1 else N)) × IsBelow o (if b then k + 1 else N) (if b then k + 1 else N) older) (sym e.0)
      ((λ same. omega arith), below_wider o (N + 1) N (k + 1) (k + 1) older (omega (arith, at e.1)) (omega (arith, at e.1)) h)
  | inr e ↦ subst (λ (b : Bool). (p ≡ o → k < (if b then k + 1 else N)) × IsBelow o (if b then k + 1 else N) (if b then k + 1 else N) older) (sym e.0)
      ((λ same. absurd (e.1 same)), rest (subst (λ (b : Bool). (if b then None else was) ≡ None) e.0 free))
]

below_free : (guard : ℕ → Option ObjectId) (first : ℕ → ℕ) (lanes : ℕ → List UndoRecord) (o : ℕ) (done : List (ℕ × UndoRecord)) → IsGreedy guard first lanes done → holder o done ≡ None → IsBelow o (number first o done) (number first o done) (acts_in done)
below_free guard first lanes o [] h free = tt
below_free guard first lanes o ((l, Acq p k) ∷ older) h free = elim (eqb_tells p.0 o) [
  | inl e ↦ absurd (let it : Option Lane = Some (record { 0 = l }) in let some : it ≡ None = subst (λ (b : Bool). (if b then it else holder o older) ≡ None) e.0 free in cc)
  | inr e ↦ let it : Option Lane = Some (record { 0 = l }) in
      ((λ same. absurd (e.1 same)), below_free guard first lanes o older h.0 (subst (λ (b : Bool). (if b then it else holder o older) ≡ None) e.0 free))
]
below_free guard first lanes o ((l, Rel p k) ∷ older) h free = free_freed o p.0 k (number first o older) (holder o older) (acts_in older) (below_number guard first lanes o older h.0)
    (λ e. ap (λ (x : ℕ). number first x older) (sym e) ∙ h.1.allowed.1) (below_free guard first lanes o older h.0) free
below_free guard first lanes o ((l, WaitRel p k) ∷ older) h free = free_freed o p.0 k (number first o older) (holder o older) (acts_in older) (below_number guard first lanes o older h.0)
    (λ e. ap (λ (x : ℕ). number first x older) (sym e) ∙ h.1.allowed.1) (below_free guard first lanes o older h.0) free
below_free guard first lanes o ((l, Put f v) ∷ older) h free = below_free guard first lanes o older h.0 free

frees_next : (guard : ℕ → Option ObjectId) (first : ℕ → ℕ) (lanes : ℕ → List UndoRecord) (l o n : ℕ) (older : List (ℕ × UndoRecord)) → IsGreedy guard first lanes older → holder o older ≡ Some (record { 0 = l }) → number first o older ≡ n → IsNext (acts_in older) l (Frees o n)
frees_next guard first lanes l o n older h held at = (
  subst (λ (xs : List Action). Contains (holding xs) o) (sym (lane_acts l older)) (held_by l o older held),
  subst (λ (x : ℕ). IsBelow o (x + 1) x (acts_in older)) at (below_number guard first lanes o older h),
)

allowed_next : (guard : ℕ → Option ObjectId) (first : ℕ → ℕ) (lanes : ℕ → List UndoRecord) (l : ℕ) (r : UndoRecord) (older : List (ℕ × UndoRecord)) → IsGreedy guard first lanes older → IsAllowed guard first older l r → IsNext (acts_in older) l (undo_action r)
allowed_next guard first lanes l (Acq o n) older h allowed = subst (λ (x : ℕ). IsBelow o.0 x x (acts_in older)) allowed.1 (below_free guard first lanes o.0 older h allowed.0)
allowed_next guard first lanes l (Rel o n) older h allowed = frees_next guard first lanes l o.0 n older h allowed.0 allowed.1
allowed_next guard first lanes l (WaitRel o n) older h allowed = frees_next guard first lanes l o.0 n older h allowed.0 allowed.1
allowed_next guard first lanes l (Put f v) older h allowed = tt

-- what a greedy replay did may be pushed in its order
pub pushable : (guard : ℕ → Option ObjectId) (first : ℕ → ℕ) (lanes : ℕ → List UndoRecord) (done : List (ℕ × UndoRecord)) → IsGreedy guard first lanes done → ArePushable (acts_in done)
pushable guard first lanes [] h = tt
pushable guard first lanes ((l, r) ∷ older) h = (allowed_next guard first lanes l r older h.0 h.1.allowed, pushable guard first lanes older h.0)

pushable_behind : (newer older : List (ℕ × Action)) → ArePushable (newer ++ older) → ArePushable older
pushable_behind [] older h = h
pushable_behind (x ∷ newer) older h = pushable_behind newer older h.1

-- the log has the first steps at its end
pub log_parts : (steps : List Step) (i : ℕ) → log_of steps ≡ log_of (drop i steps) ++ log_of (take i steps)
log_parts steps i =
    let pair : Step → ℕ × UndoRecord = (λ s. (s.lane.0, s.entry)) in
    ap log_of (sym (take-append-drop i steps)) ∙ ap (map pair) (reverse-append (take i steps) (drop i steps)) ∙ map-append pair (reverse (drop i steps)) (reverse (take i steps))

-- the log of the first steps and one more
pub log_step : (steps : List Step) (i : ℕ) (d : Step) → i < length steps → log_of (take (i + 1) steps) ≡ ((get_or steps i d).lane.0, (get_or steps i d).entry) ∷ log_of (take i steps)
log_step steps i d lt = ap log_of (take_more steps i d lt) ∙ log_more (take i steps) (get_or steps i d)

-- each step may be pushed after those before it
pub step_next : (steps : List Step) (i : ℕ) (d : Step) → i < length steps → ArePushable (acts_in (log_of steps)) → IsNext (acts_in (log_of (take i steps))) (get_or steps i d).lane.0 (undo_action (get_or steps i d).entry)
step_next steps i d lt h =
    let did : ℕ × UndoRecord → ℕ × Action = (λ x. (x.0, undo_action x.1)) in
    let parts : acts_in (log_of steps) ≡ acts_in (log_of (drop (i + 1) steps)) ++ acts_in (log_of (take (i + 1) steps)) =
    ap acts_in (log_parts steps (i + 1)) ∙ map-append did (log_of (drop (i + 1) steps)) (log_of (take (i + 1) steps)) in
    let first : ArePushable (acts_in (log_of (take (i + 1) steps))) = pushable_behind (acts_in (log_of (drop (i + 1) steps))) (acts_in (log_of (take (i + 1) steps))) (subst ArePushable parts h) in
    (subst (λ (done : List (ℕ × UndoRecord)). ArePushable (acts_in done)) (log_step steps i d lt) first).0

-- no more sections have ended than there are records
pub ended_short : (xs : List Action) → ended xs ≤ length xs
ended_short [] = omega arith
ended_short (Takes o n ∷ xs) = omega (arith, ended_short xs)
ended_short (Frees o n ∷ xs) = elim (length (without o (holding xs)) == 0) as (λ b. (if b then ended xs + 1 else ended xs) ≤ length (Frees o n ∷ xs)) [ true ↦ omega (arith, ended_short xs) | false ↦ omega (arith, ended_short xs) ]
ended_short (Stores ∷ xs) = omega (arith, ended_short xs)

lane_few : (l : ℕ) (log : List (ℕ × Action)) → length (lane l log) ≤ length log
lane_few l [] = omega arith
lane_few l ((m, x) ∷ older) = elim (m == l) as (λ t. length (if t then x ∷ lane l older else lane l older) ≤ length ((m, x) ∷ older)) [ true ↦ omega (arith, lane_few l older) | false ↦ omega (arith, lane_few l older) ]

-- no more sections of a lane have ended than there are records of all lanes
pub ended_few : (l : ℕ) (log : List (ℕ × Action)) → ended (lane l log) ≤ length log
ended_few l log = omega (arith, ended_short (lane l log), lane_few l log)
