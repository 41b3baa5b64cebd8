-- A record that is next, and within the sessions' limits, isn't refused.
use Rattle.std.proofs.Common.{ℕ, ◌≡◌, ◌≢◌, ◌+◌, ◌<◌, ◌≤◌, ◌^◌, ◌==◌, if◌then◌else◌, Bool, List, [], ◌∷◌, ◌++◌, map, length, reverse, Option, None, Some, MatchOption, refl, sym, ap, ◌∙◌, subst, inl, inr, ⊎_elim, arith}
use Rattle.std.proofs.lemmas.Bool.{cases_lt}
use Rattle.std.proofs.lemmas.Bool.Decides.{eqb_tells}
use Rattle.std.proofs.lemmas.List.{append_assoc, reverse-append}
use Rattle.heap_model.specs.declared.record.Record.{Record}
use Rattle.heap_model.specs.declared.record.Record.TheVariants.{Acq, Rel, WaitRel, Put}
use Rattle.heap_model.specs.Setting.{Setting}
use Rattle.heap_model.specs.Log.{lane, holder, number, IsLegal}
use Rattle.law_histories.specs.Laws.{NextLaw}
use Rattle.heap_model.specs.Sections.{Action, action, actions, holding, open_section}
use Rattle.law_cuts.proofs.Lanes.{lane_actions}
use Rattle.block_disk.specs.Device.{Device}
use Rattle.heap_model.specs.declared.store_error.StoreError.{StoreError}
use Rattle.heap_model.specs.declared.store_error.StoreError.TheVariants.{Failed, BadLane, BadId, Worn, NotNext, TooLong, LogFull, Unwritten, Fault, Unfinished}
use Rattle.store_memory.specs.Apply.{HasLastNumber}
use Rattle.undo_log.specs.Dropped.{undo_logs, records_in}
use Rattle.store_memory.specs.Memory.{lane_in}
use Rattle.store_rounds.specs.Steps.{RefusesApply}
use Rattle.heap_model.specs.Past.{Past, applied}
use Rattle.store_memory.specs.Remembers.{held_of, section_of, place_of}
use Rattle.store_memory.specs.Remembers as memory
use Rattle.store_rounds.specs.Store.{Known, HasPast}
use Rattle.trim_helper.specs.Rings.{received_of, known_of, held_back, waiting_in, stream}
use Rattle.trim_helper.specs.Limits.{FitsNext, KeepsLimits}
use Rattle.trim_helper.specs.Taken.{Taking, HasTaken, IsLaneStuck, IsRefused, trimmed_of}
use Rattle.trim_helper.proofs.Progress.{longer_lane, all_done, nothing_left}

-- who holds an object took it at a number below the last
pub held_low : (s : Setting) (log : List (ℕ × Record)) (o l : ℕ) → IsLegal s log → holder o log ≡ Some l → number o log < s.last
held_low s [] o l legal held = absurd (let no : None ≡ Some l = held in cc)
held_low s ((m, Acq p n) ∷ older) o l legal held = elim (eqb_tells p.0 o) [
  | inl e ↦ let at : number o older ≡ n = ap (λ x. number x older) (sym e.1) ∙ legal.1.1 in let low : n < s.last = legal.1.2 in omega arith
  | inr e ↦ held_low s older o l legal.0 (subst (λ (b : Bool). (if b then Some m else holder o older) ≡ Some l) e.0 held)
]
held_low s ((m, Rel p n) ∷ older) o l legal held = elim (eqb_tells p.0 o) [
  | inl e ↦ absurd (let no : None ≡ Some l = subst (λ (b : Bool). (if b then None else holder o older) ≡ Some l) e.0 held in cc)
  | inr e ↦ subst (λ (b : Bool). (if b then n + 1 else number o older) < s.last) (sym e.0) (held_low s older o l legal.0 (subst (λ (b : Bool). (if b then None else holder o older) ≡ Some l) e.0 held))
]
held_low s ((m, WaitRel p n) ∷ older) o l legal held = elim (eqb_tells p.0 o) [
  | inl e ↦ absurd (let no : None ≡ Some l = subst (λ (b : Bool). (if b then None else holder o older) ≡ Some l) e.0 held in cc)
  | inr e ↦ subst (λ (b : Bool). (if b then n + 1 else number o older) < s.last) (sym e.0) (held_low s older o l legal.0 (subst (λ (b : Bool). (if b then None else holder o older) ≡ Some l) e.0 held))
]
held_low s ((m, Put f v w) ∷ older) o l legal held = held_low s older o l legal.0 held

-- a record that may be next has no last number
pub not_last : (s : Setting) (older : List (ℕ × Record)) (l : ℕ) (r : Record) → IsLegal s ((l, r) ∷ older) → HasLastNumber s.last r → ⊥
not_last s older l (Acq o n) legal last = let low : n < s.last = legal.1.2 in omega arith
not_last s older l (Rel o n) legal last = let low = held_low s older o.0 l legal.0 legal.1.0 in let same : number o.0 older ≡ n = legal.1.1 in omega arith
not_last s older l (WaitRel o n) legal last = let low = held_low s older o.0 l legal.0 legal.1.0 in let same : number o.0 older ≡ n = legal.1.1 in omega arith
not_last s older l (Put f v w) legal last = elim last [ ]

-- the store's open section is the lane's
same_section : (done : List Action) → memory.open_section done ≡ open_section done
same_section [] = refl
same_section (a ∷ older) = ap (λ (xs : List Action). if length (holding (a ∷ older)) == 0 then [] else a ∷ xs) (same_section older)

module _ (x : Known) (s : Setting) (p : Past) (d : Device) (l : ℕ) (r : Record) (has : HasPast x s p d) (low : l < x.threads) (legal : IsLegal s ((l, r) ∷ applied p))
    (fits : FitsNext (trimmed_of p l) x.layout.capacity (lane l (applied p)) r) where
  acts : lane l (actions (applied p)) ≡ map action (lane l (applied p))
  acts = lane_actions l (applied p)

  held_is : held_of p l ≡ length (holding (map action (lane l (applied p))))
  held_is = ap (λ (xs : List Action). length (holding xs)) acts

  section_is : section_of p l ≡ length (open_section (map action (lane l (applied p))))
  section_is = ap (λ (xs : List Action). length (memory.open_section xs)) acts ∙ ap (λ (xs : List Action). length xs) (same_section (map action (lane l (applied p))))

  held_then : length (holding (action r ∷ lane l (actions (applied p)))) ≡ length (holding (action r ∷ map action (lane l (applied p))))
  held_then = ap (λ (xs : List Action). length (holding (action r ∷ xs))) acts

  taken_then : (e : StoreError) → e ≢ Failed → RefusesApply x s p l r e → ⊥
  taken_then Failed not why = not refl
  taken_then BadLane not why = let past : length x.memory.lanes ≤ l = why.1 in omega (arith, has.layout.lanes)
  taken_then BadId not why = why.1.1 legal.3
  taken_then Worn not why = ⊎_elim (λ last. not_last s (applied p) l r legal last) (λ (z : (held_of p l ≡ 0) × (2 ^ 62 ≤ place_of p l)).
      let below : length (lane l (applied p)) < 2 ^ 62 = fits.low (sym held_is ∙ z.0) in omega (arith, z.1)) why.1.2
  taken_then NotNext not why = why.1.3 (legal.1, legal.2)
  taken_then TooLong not why = let long = why.1.4 in omega (arith, long, fits.short, section_is, held_then)
  taken_then LogFull not why =
      let full = why.1.5 in
      let room : length (lane l (applied p)) + 1000 ≤ trimmed_of p l + x.layout.capacity = fits.room (sym held_is ∙ full.0) in
      let at : (lane_in x.memory.lanes l).start ≡ trimmed_of p l = has.starts l (omega arith) ∙ ap (λ (n : ℕ). records_in n (undo_logs p.logged l)) (sym (has.trimmed l)) in
      omega (arith, full.1, at, has.layout.capacity)
  taken_then Unwritten not why = elim why.1 [ ]
  taken_then Fault not why = elim why.1 [ ]
  taken_then Unfinished not why = elim why.1 [ ]

  pub not_refused : IsRefused x s p l r → ⊥
  not_refused (e, not, why) = taken_then e not why

-- a record of the lane fitted after those before it
pub fitted : (start capacity : ℕ) (newer older : List Record) (r : Record) → KeepsLimits start capacity (newer ++ r ∷ older) → FitsNext start capacity older r
fitted start capacity [] older r keeps = keeps.1
fitted start capacity (q ∷ newer) older r keeps = fitted start capacity newer older r keeps.0

module _ {D : Type 0} (device : D → Device) (t : Taking D) (s : Setting) (p : Past) (taken : HasTaken device t s p)
    (log : List (ℕ × Record)) (legal : IsLegal s log) (next : NextLaw)
    (held : (l : ℕ) → stream l log ≡ received_of t.rings l ++ known_of t.rings l) (none : (l : ℕ) → t.store.known.threads ≤ l → lane l log ≡ [])
    (limits : (l : ℕ) → l < t.store.known.threads → KeepsLimits (trimmed_of p l) t.store.known.layout.capacity (lane l log))
    (stuck : (l : ℕ) → l < t.store.known.threads → IsLaneStuck t.store.known t.rings t.waiting s p l) where
  abbrev rest : ℕ → List Record
  rest l = held_back (waiting_in t.waiting l) ++ known_of t.rings l

  all : (l : ℕ) → stream l log ≡ stream l (applied p) ++ rest l
  all l = held l ∙ ap (λ (xs : List Record). xs ++ known_of t.rings l) (taken.taken l) ∙ append_assoc (stream l (applied p)) (held_back (waiting_in t.waiting l)) (known_of t.rings l)

  -- the lane's next record is the one that waits, since else none is known
  next_waits : (w : Option Record) (known : List Record) (Q : Record → Type 0) (r : Record) (more : List Record) → held_back w ++ known ≡ r ∷ more → MatchOption w (known ≡ []) Q → Q r
  next_waits None known Q r more e m = absurd (let no : [] ≡ r ∷ more = sym m ∙ e in cc)
  next_waits (Some q) known Q r more e m = let same : q ≡ r = cc in subst Q same m

  contradicts : (l : ℕ) (r : Record) (more : List Record) → rest l ≡ r ∷ more → IsLegal s ((l, r) ∷ applied p) → ⊥
  contradicts l r more is may =
      let whole : stream l log ≡ stream l (applied p) ++ (r ∷ more) = all l ∙ ap (λ (xs : List Record). stream l (applied p) ++ xs) is in
      let log_is : lane l log ≡ reverse (r ∷ more) ++ lane l (applied p) = longer_of l whole in
      elim (cases_lt l t.store.known.threads) [
        | inl low ↦ not_refused t.store.known s p (device t.store.disk) l r taken.has low may
            (fitted (trimmed_of p l) t.store.known.layout.capacity (reverse more) (lane l (applied p)) r (subst (KeepsLimits (trimmed_of p l) t.store.known.layout.capacity) (log_is ∙ split) (limits l low)))
            (next_waits (waiting_in t.waiting l) (known_of t.rings l) (λ q. IsRefused t.store.known s p l q) r more is (stuck l low))
        | inr high ↦ absurd (let no : [] ≡ stream l (applied p) ++ (r ∷ more) = ap (λ (xs : List Record). reverse xs) (sym (none l high)) ∙ whole in never (stream l (applied p)) no)
      ]
    where
      never : (xs : List Record) → [] ≡ xs ++ (r ∷ more) → ⊥
      never [] e = absurd cc
      never (y ∷ ys) e = absurd cc

      longer_of : (k : ℕ) → stream k log ≡ stream k (applied p) ++ (r ∷ more) → lane k log ≡ reverse (r ∷ more) ++ lane k (applied p)
      longer_of k e = longer_lane k (applied p) log (r ∷ more) e

      split : reverse (r ∷ more) ++ lane l (applied p) ≡ reverse more ++ r ∷ lane l (applied p)
      split = ap (λ (xs : List Record). xs ++ lane l (applied p)) (reverse-append (r ∷ []) more) ∙ append_assoc (reverse more) (r ∷ []) (lane l (applied p))

  -- The applied records are those of the log, lane by lane.
  pub drained : (l : ℕ) → lane l (applied p) ≡ lane l log
  drained = all_done s log (applied p) rest next legal taken.has.past.legal all contradicts

  pub none_waits : (l : ℕ) → held_back (waiting_in t.waiting l) ++ known_of t.rings l ≡ []
  none_waits = nothing_left s log (applied p) rest next legal taken.has.past.legal all contradicts
