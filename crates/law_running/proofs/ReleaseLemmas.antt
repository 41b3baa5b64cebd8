-- A lane up to its last release.
use Rattle.std.proofs.Common.{ℕ, ◌≡◌, ◌<◌, ◌≤◌, if◌then◌else◌, true, false, List, [], ◌∷◌, ◌++◌, map, refl, sym, ap, ◌∙◌, inl, inr, arith, append_assoc}
use Rattle.std.proofs.lemmas.Bool.{ltb-true, ltb-false}
use Rattle.std.proofs.lemmas.Bool.Decides.{eqb_tells}
use Rattle.heap_model.specs.declared.record.Record.{Record}
use Rattle.heap_model.specs.declared.record.Record.TheVariants.{Acq, Rel, WaitRel, Put}
use Rattle.heap_model.specs.Log.{lane}
use Rattle.heap_model.specs.Sections.{Action, Takes, Frees, Stores, action, actions, ended}
use Rattle.heap_model.specs.Cuts.{is_counted}
use Rattle.heap_model.specs.Base.{records_until}
use Rattle.thread_rings.specs.Following.{from_release, is_release}
use Rattle.law_cuts.proofs.Lanes.{lane_append}
use Rattle.law_cuts.proofs.Stores.{lane_same}
use Rattle.law_running.specs.Released.{OlderLaw}
use Rattle.law_running.proofs.InLanes.{DidIn}

-- what stands behind the last release, and the rest
pub parts : (log : List Record) → (behind : List Record) × (log ≡ behind ++ from_release log)
parts [] = ([], refl)
parts (Acq o n ∷ older) = ((Acq o n ∷ (parts older).0), ap (λ (xs : List Record). Acq o n ∷ xs) (parts older).1)
parts (Rel o n ∷ older) = ([], refl)
parts (WaitRel o n ∷ older) = ([], refl)
parts (Put f v w ∷ older) = ((Put f v w ∷ (parts older).0), ap (λ (xs : List Record). Put f v w ∷ xs) (parts older).1)

-- a longer lane has no less up to its last release
whole_front : (r : Record) (more log : List Record) → r ∷ (more ++ log) ≡ (r ∷ (more ++ (parts log).0)) ++ from_release log
whole_front r more log = ap (λ (xs : List Record). r ∷ xs) (ap (λ (xs : List Record). more ++ xs) (parts log).1 ∙ sym (append_assoc more (parts log).0 (from_release log)))

pub from_more : (more log : List Record) → (front : List Record) × (from_release (more ++ log) ≡ front ++ from_release log)
from_more [] log = ([], refl)
from_more (Acq o n ∷ more) log = from_more more log
from_more (Rel o n ∷ more) log = (Rel o n ∷ (more ++ (parts log).0), whole_front (Rel o n) more log)
from_more (WaitRel o n ∷ more) log = (WaitRel o n ∷ (more ++ (parts log).0), whole_front (WaitRel o n) more log)
from_more (Put f v w ∷ more) log = from_more more log

-- sections end at releases
pub ended_released : (log : List Record) → ended (map action (from_release log)) ≡ ended (map action log)
ended_released [] = refl
ended_released (Acq o n ∷ older) = ended_released older
ended_released (Rel o n ∷ older) = refl
ended_released (WaitRel o n ∷ older) = refl
ended_released (Put f v w ∷ older) = ended_released older

-- what freed an object is a release
pub frees_released : (log : List Record) (k o n : ℕ) → DidIn log k (Frees o n) → DidIn (from_release log) k (Frees o n)
frees_released [] k o n h = h
frees_released (Acq p i ∷ older) k o n (inl h) = absurd (let act : Frees o n ≡ Takes p.0 i = h.1 in cc)
frees_released (Acq p i ∷ older) k o n (inr h) = frees_released older k o n h
frees_released (Rel p i ∷ older) k o n h = h
frees_released (WaitRel p i ∷ older) k o n h = h
frees_released (Put f v w ∷ older) k o n (inl h) = absurd (let act : Frees o n ≡ Stores = h.1 in cc)
frees_released (Put f v w ∷ older) k o n (inr h) = frees_released older k o n h

-- a record at which a section ends is a release
ends_released : (r : Record) (older : List Action) → ended older < ended (action r ∷ older) → is_release r ≡ true
ends_released (Acq o n) older lt = absurd (omega (arith, lt))
ends_released (Rel o n) older lt = refl
ends_released (WaitRel o n) older lt = refl
ends_released (Put f v w) older lt = absurd (omega (arith, lt))

-- The sections of a cut, once they have ended, have nothing behind the last release.
pub until_released : (cut : ℕ → ℕ) (l : ℕ) (log : List (ℕ × Record)) → cut l ≤ ended (lane l (actions log)) → from_release (lane l (records_until cut log)) ≡ lane l (records_until cut log)
until_released cut l [] le = refl
until_released cut l ((m, r) ∷ older) le = elim (eqb_tells m l) [
  | inl e ↦
      let here : ended (lane l (actions ((m, r) ∷ older))) ≡ ended (action r ∷ lane l (actions older)) = ap (λ b. ended (if b then action r ∷ lane l (actions older) else lane l (actions older))) e.0 in
      let lanes : ended (lane m (actions older)) ≡ ended (lane l (actions older)) = ap (λ (x : ℕ). ended (lane x (actions older))) e.1 in
      let counts : cut m ≡ cut l = ap cut e.1 in
      elim (is_counted cut m (actions older)) as (λ t. is_counted cut m (actions older) ≡ t → from_release (lane l (if t then (m, r) ∷ records_until cut older else records_until cut older)) ≡ lane l (if t then (m, r) ∷ records_until cut older else records_until cut older)) [
        | true ↦ λ t.
            let lt : ended (lane l (actions older)) < ended (action r ∷ lane l (actions older)) = omega (arith, ltb-true _ _ t, here, lanes, counts, le) in
            let kept : List Record = lane l (records_until cut older) in
            let all : lane l ((m, r) ∷ records_until cut older) ≡ r ∷ kept = lane_same l m r (records_until cut older) e.1 in
            ap from_release all ∙ ap (λ b. if b then r ∷ kept else from_release kept) (ends_released r (lane l (actions older)) lt) ∙ sym all
        | false ↦ λ t. until_released cut l older (omega (arith, ltb-false _ _ t, lanes, counts))
      ] refl
  | inr e ↦
      let here : ended (lane l (actions ((m, r) ∷ older))) ≡ ended (lane l (actions older)) = ap (λ b. ended (if b then action r ∷ lane l (actions older) else lane l (actions older))) e.0 in
      let before = until_released cut l older (omega (arith, here, le)) in
      let skip : lane l ((m, r) ∷ records_until cut older) ≡ lane l (records_until cut older) = ap (λ b. if b then r ∷ lane l (records_until cut older) else lane l (records_until cut older)) e.0 in
      elim (is_counted cut m (actions older)) as (λ t. from_release (lane l (if t then (m, r) ∷ records_until cut older else records_until cut older)) ≡ lane l (if t then (m, r) ∷ records_until cut older else records_until cut older)) [
        | true ↦ ap from_release skip ∙ before ∙ sym skip
        | false ↦ before
      ]
]

-- the beginning of a log has no more up to the lanes' last releases
pub older_released : OlderLaw
older_released newer log longer first l =
    let front = from_more (lane l newer) (lane l log) in (
      (first l).0 ++ front.0,
      (first l).1 ∙ ap (λ (xs : List Record). (first l).0 ++ from_release xs) (lane_append l newer log)
          ∙ ap (λ (xs : List Record). (first l).0 ++ xs) front.1 ∙ sym (append_assoc (first l).0 front.0 (from_release (lane l log))),
    )
