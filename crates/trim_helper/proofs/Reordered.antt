-- A whole closed cut is one of each legal list that has the lanes' records, in whatever order the lanes come, and in a longer one.
use Rattle.std.proofs.Common.{ℕ, ◌≡◌, ◌+◌, ◌<◌, ◌≤◌, ◌⊎◌, ◌==◌, if◌then◌else◌, true, false, List, [], ◌∷◌, ◌++◌, map, refl, sym, ap, ◌∙◌, subst, inl, inr, arith}
use Rattle.std.proofs.lemmas.Bool.Decides.{eqb_tells}
use Rattle.std.proofs.lemmas.List.{map-append}
use Rattle.heap_model.specs.declared.record.Record.{Record}
use Rattle.heap_model.specs.declared.record.Record.TheVariants.{Acq, Rel, WaitRel, Put}
use Rattle.heap_model.specs.Setting.{Setting}
use Rattle.heap_model.specs.Log.{lane, number, IsLegal, IsLaneWisePrefix}
use Rattle.heap_model.specs.Sections.{Action, Takes, Frees, Stores, action, actions, ended, Section, Did, Earlier, Took}
use Rattle.heap_model.specs.Cuts.{Counts, IsWhole, IsClosed, IsStable}
use Rattle.law_cuts.proofs.Chain.{took_had, Freed, freed_below}
use Rattle.law_cuts.proofs.Lanes.{lane_actions, lane_append}
use Rattle.law_cuts.proofs.Next.{freed_past}
use Rattle.law_cuts.proofs.Stores.{ended_rises}
use Rattle.law_histories.proofs.Own.{by_test}
use Rattle.trim_helper.specs.Counts.{IsCutCount}

-- What a section did is told by its lane alone.

abbrev LaneDid : List Action → (number : ℕ) → Action → Type 0
LaneDid [] k act = ⊥
LaneDid (x ∷ older) k act = ((k ≡ ended older + 1) × (act ≡ x)) ⊎ LaneDid older k act

lane_own : (l m : ℕ) (x : Action) (older : List (ℕ × Action)) → m ≡ l → lane l ((m, x) ∷ older) ≡ x ∷ lane l older
lane_own l m x older same = by_test m l (λ b. (if b then x ∷ lane l older else lane l older) ≡ x ∷ lane l older) (λ e. refl) (λ other. absurd (other same))

lane_did : (log : List (ℕ × Action)) (a : Section) (act : Action) → Did log a act → LaneDid (lane a.lane log) a.number act
lane_did [] a act did = elim did [ ]
lane_did ((m, x) ∷ older) a act (inl here) =
    let lanes : m ≡ a.lane = ap (λ (s : Section). s.lane) (sym here.0) in
    subst (λ (xs : List Action). LaneDid xs a.number act) (sym (lane_own a.lane m x older lanes))
    (inl (ap (λ (s : Section). s.number) here.0 ∙ ap (λ (k : ℕ). ended (lane k older) + 1) lanes, here.1))
lane_did ((m, x) ∷ older) a act (inr did) = elim (m == a.lane) as (λ b. LaneDid (if b then x ∷ lane a.lane older else lane a.lane older) a.number act) [
  | true ↦ inr (lane_did older a act did)
  | false ↦ lane_did older a act did
]

did_lane : (log : List (ℕ × Action)) (a : Section) (act : Action) → LaneDid (lane a.lane log) a.number act → Did log a act
did_lane [] a act did = elim did [ ]
did_lane ((m, x) ∷ older) a act did = elim (eqb_tells m a.lane) [
  | inl e ↦ elim (subst (λ (xs : List Action). LaneDid xs a.number act) (lane_own a.lane m x older e.1) did) [
    | inl here ↦
        let numbers : a.number ≡ ended (lane m older) + 1 = here.0 ∙ ap (λ (k : ℕ). ended (lane k older) + 1) (sym e.1) in
        inl ((λ i. record { lane = sym e.1 i; number = numbers i }), here.1)
    | inr before ↦ inr (did_lane older a act before)
  ]
  | inr e ↦ inr (did_lane older a act (subst (λ (b : _). LaneDid (if b then x ∷ lane a.lane older else lane a.lane older) a.number act) e.0 did))
]

ended_more : (more xs : List Action) → ended xs ≤ ended (more ++ xs)
ended_more [] xs = omega arith
ended_more (x ∷ more) xs = omega (arith, ended_more more xs, ended_rises x (more ++ xs))

-- what a section that has ended did stands already
did_first : (more xs : List Action) (k : ℕ) (act : Action) → LaneDid (more ++ xs) k act → k ≤ ended xs → LaneDid xs k act
did_first [] xs k act did le = did
did_first (x ∷ more) xs k act (inl here) le = absurd (omega (arith, here.0, le, ended_more more xs))
did_first (x ∷ more) xs k act (inr did) le = did_first more xs k act did le

did_more : (more xs : List Action) (k : ℕ) (act : Action) → LaneDid xs k act → LaneDid (more ++ xs) k act
did_more [] xs k act did = did
did_more (x ∷ more) xs k act did = inr (did_more more xs k act did)

-- An object is freed once under each number.

frees_anew : (s : Setting) (older : List (ℕ × Record)) (o n p k : ℕ) (b : Section) → IsLegal s older → number p older ≡ k → Frees o n ≡ Frees p k → Did (actions older) b (Frees o n) → ⊥
frees_anew s older o n p k b legal e act h =
    let objects : p ≡ o = cc in
    let numbers : n ≡ k = cc in
    let same : number o older ≡ k = ap (λ (x : ℕ). number x older) (sym objects) ∙ e in
    omega (arith, same, numbers, freed_past s older o n b legal h)

same_freer : (s : Setting) (log : List (ℕ × Record)) (o n : ℕ) (a b : Section) → IsLegal s log → Did (actions log) a (Frees o n) → Did (actions log) b (Frees o n) → a ≡ b
same_freer s [] o n a b legal h i = elim h [ ]
same_freer s ((m, r) ∷ older) o n a b legal (inl h) (inl i) = h.0 ∙ sym i.0
same_freer s ((m, r) ∷ older) o n a b legal (inr h) (inr i) = same_freer s older o n a b legal.0 h i
same_freer s ((m, Rel p k) ∷ older) o n a b legal (inl h) (inr i) = absurd (frees_anew s older o n p.0 k b legal.0 legal.1.1 h.1 i)
same_freer s ((m, Rel p k) ∷ older) o n a b legal (inr h) (inl i) = absurd (frees_anew s older o n p.0 k a legal.0 legal.1.1 i.1 h)
same_freer s ((m, WaitRel p k) ∷ older) o n a b legal (inl h) (inr i) = absurd (frees_anew s older o n p.0 k b legal.0 legal.1.1 h.1 i)
same_freer s ((m, WaitRel p k) ∷ older) o n a b legal (inr h) (inl i) = absurd (frees_anew s older o n p.0 k a legal.0 legal.1.1 i.1 h)
same_freer s ((m, Acq p k) ∷ older) o n a b legal (inl h) (inr i) = absurd (let act : Frees o n ≡ Takes p.0 k = h.1 in cc)
same_freer s ((m, Acq p k) ∷ older) o n a b legal (inr h) (inl i) = absurd (let act : Frees o n ≡ Takes p.0 k = i.1 in cc)
same_freer s ((m, Put f v w) ∷ older) o n a b legal (inl h) (inr i) = absurd (let act : Frees o n ≡ Stores = h.1 in cc)
same_freer s ((m, Put f v w) ∷ older) o n a b legal (inr h) (inl i) = absurd (let act : Frees o n ≡ Stores = i.1 in cc)

module _ (s : Setting) (log longer : List (ℕ × Record)) (legal : IsLegal s log) (all_legal : IsLegal s longer) (first : IsLaneWisePrefix log longer) (cut : ℕ → ℕ) (whole : IsWhole (actions log) cut) where
  abbrev later : ℕ → List Action
  later l = map action (first l).0

  lane_longer : (l : ℕ) → lane l (actions longer) ≡ later l ++ lane l (actions log)
  lane_longer l = lane_actions l longer ∙ ap (map action) (first l).1 ∙ map-append action (first l).0 (lane l log) ∙ ap (λ (xs : List Action). later l ++ xs) (sym (lane_actions l log))

  whole_there : IsWhole (actions longer) cut
  whole_there l = omega (arith, whole l, ended_more (later l) (lane l (actions log)), ap ended (lane_longer l))

  did_here : (a : Section) (act : Action) → Counts cut a → Did (actions longer) a act → Did (actions log) a act
  did_here a act counted did = did_lane (actions log) a act
      (did_first (later a.lane) (lane a.lane (actions log)) a.number act
      (subst (λ (xs : List Action). LaneDid xs a.number act) (lane_longer a.lane) (lane_did (actions longer) a act did)) (omega (arith, counted, whole a.lane)))

  did_there : (a : Section) (act : Action) → Did (actions log) a act → Did (actions longer) a act
  did_there a act did = did_lane (actions longer) a act
      (subst (λ (xs : List Action). LaneDid xs a.number act) (sym (lane_longer a.lane)) (did_more (later a.lane) (lane a.lane (actions log)) a.number act (lane_did (actions log) a act did)))

  closed_there : IsClosed (actions log) cut → IsClosed (actions longer) cut
  closed_there closed a b counted (Earlier e lt) = closed a b counted (Earlier e lt)
  closed_there closed a b counted (Took o n took freed differ) =
      let took_here : Did (actions log) a (Takes o (n + 1)) = did_here a (Takes o (n + 1)) counted took in
      let upto : n < number o log = elim (took_had s log o (n + 1) a legal took_here) [ inl p ↦ omega (arith, p.0) | inr p ↦ omega (arith, p.0) ] in
      let f : Freed log o n = freed_below s log o n legal upto in
      let same : f.by ≡ b = same_freer s longer o n f.by b all_legal (did_there f.by (Frees o n) f.freed) freed in
      subst (λ (x : Section). Counts cut x) same (closed a f.by counted (Took o n took_here f.freed (λ e. differ (e ∙ same))))

-- the count of a lane in such a cut stays one
pub count_there : (s : Setting) (log longer : List (ℕ × Record)) (l n : ℕ) → IsLegal s log → IsLegal s longer → IsLaneWisePrefix log longer → IsCutCount log l n → IsCutCount longer l n
count_there s log longer l n legal all_legal first is = record {
  cut = is.cut;
  counted = is.counted;
  whole = whole_there s log longer legal all_legal first is.cut is.whole;
  closed = closed_there s log longer legal all_legal first is.cut is.whole is.closed;
}

-- a list that has grown at its end, or in another order of the lanes
pub grown : (newer log longer : List (ℕ × Record)) → ((l : ℕ) → lane l (newer ++ log) ≡ lane l longer) → IsLaneWisePrefix log longer
grown newer log longer same l = (lane l newer, sym (same l) ∙ lane_append l newer log)

-- sections are numbered from 1
did_some : (log : List (ℕ × Action)) (a : Section) (act : Action) → Did log a act → 0 < a.number
did_some [] a act did = elim did [ ]
did_some (x ∷ older) a act (inl here) = let e : a.number ≡ ended (lane x.0 older) + 1 = ap (λ (s : Section). s.number) here.0 in omega (arith, e)
did_some (x ∷ older) a act (inr did) = did_some older a act did

none_closed : (log : List (ℕ × Action)) → IsClosed log (λ l. 0)
none_closed log a b counted (Earlier same less) = absurd (omega (arith, counted, less))
none_closed log a b counted (Took o n took freed differ) = absurd (omega (arith, counted, did_some log a (Takes o (n + 1)) took))

-- no section at all is a cut of each list
pub count_none : (log : List (ℕ × Record)) (l n : ℕ) → n ≡ 0 → IsCutCount log l n
count_none log l n none = record { cut = λ k. 0; counted = sym none; whole = λ k. omega arith; closed = none_closed (actions log) }

-- of no records it is the stable one
pub stable_none : IsStable [] (λ l. 0)
stable_none = record { whole = λ l. omega arith; closed = none_closed []; greatest = λ other whole closed l. whole l }
