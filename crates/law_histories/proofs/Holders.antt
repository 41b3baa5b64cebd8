-- What holders hold, and how their sections end.
use Rattle.std.proofs.Common.{ℕ, ◌≡◌, ◌+◌, ◌≤◌, ◌==◌, if◌then◌else◌, Bool, true, false, List, [], ◌∷◌, length, Contains, Some, sym, ap, ◌∙◌, inl, inr, arith}
use Rattle.std.proofs.lemmas.Bool.{eq-eqb, ne_eqb}
use Rattle.std.proofs.lemmas.Bool.Decides.{eqb_tells}
use Rattle.heap_model.specs.declared.record.Record.{Record}
use Rattle.heap_model.specs.Log.{lane, holder}
use Rattle.heap_model.specs.Sections.{Action, Frees, actions, without, holding, ended, open_section}
use Rattle.heap_model.specs.declared.limits.TheConstants.{SECTION_RECORDS}
use Rattle.heap_model.specs.Limits.{IsWithinLimits}
use Rattle.law_cuts.proofs.Chain.{In, holder_holds}
use Rattle.law_histories.proofs.Holding.{in_contains, contains_in}

pub holder_contains : (log : List (ℕ × Record)) (l o : ℕ) → holder o log ≡ Some l → Contains (holding (lane l (actions log))) o
holder_contains log l o h = in_contains o _ (holder_holds log o l h)

one_less : (o : ℕ) (ps : List ℕ) → In o ps → length (without o ps) + 1 ≡ length ps
one_less o [] h = elim h [ ]
one_less o (p ∷ ps) h = elim (eqb_tells p o) [
  | inl e ↦ ap (λ (b : Bool). length (if b then ps else p ∷ without o ps) + 1) e.0 ∙ omega arith
  | inr e ↦ ap (λ (b : Bool). length (if b then ps else p ∷ without o ps) + 1) e.0 ∙ elim h [ inl is ↦ absurd (e.1 is) | inr rest ↦ (let less : length (without o ps) + 1 ≡ length ps = one_less o ps rest in omega arith) ]
]

pub freed_less : (older : List Action) (o n : ℕ) → Contains (holding older) o → length (holding (Frees o n ∷ older)) + 1 ≡ length (holding older)
freed_less older o n here = one_less o (holding older) (contains_in o (holding older) here)

pub freed_ends : (older : List Action) (o n : ℕ) → Contains (holding older) o → ended (Frees o n ∷ older) ≡ (if length (holding older) == 1 then ended older + 1 else ended older)
freed_ends older o n here =
    let less : length (without o (holding older)) + 1 ≡ length (holding older) = freed_less older o n here in
    elim (eqb_tells (length (holding older)) 1) [
      | inl one ↦
          ap (λ (b : Bool). if b then ended older + 1 else ended older) (eq-eqb (length (without o (holding older))) 0 (omega (arith, one.1)))
          ∙ ap (λ (b : Bool). if b then ended older + 1 else ended older) (sym one.0)
      | inr more ↦
          ap (λ (b : Bool). if b then ended older + 1 else ended older) (ne_eqb (length (without o (holding older))) 0 (λ z. more.1 (omega arith)))
          ∙ ap (λ (b : Bool). if b then ended older + 1 else ended older) (sym more.0)
    ]

-- the open section of a lane within its limits leaves room for its releases
pub leaves_room : (acts : List Action) → IsWithinLimits acts → length (open_section acts) + length (holding acts) ≤ SECTION_RECORDS
leaves_room [] within = omega arith
leaves_room (a ∷ older) within = elim (length (holding (a ∷ older)) == 0) as (λ b. length (if b then [] else a ∷ open_section older) + length (holding (a ∷ older)) ≤ SECTION_RECORDS) [
  | true ↦ omega (arith, within.1)
  | false ↦ omega (arith, within.1)
]
