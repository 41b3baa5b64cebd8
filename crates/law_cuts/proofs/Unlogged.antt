-- No store to a field that isn't logged stands in a legal log.
use Rattle.std.proofs.Common.{ℕ, ◌≡◌, ◌==◌, if◌then◌else◌, true, false, List, [], ◌∷◌, refl, sym, ap, ◌∙◌}
use Rattle.std.proofs.lemmas.Bool.{eqb-true}
use Rattle.heap_model.specs.declared.record.Record.{Record}
use Rattle.heap_model.specs.declared.record.Record.TheVariants.{Acq, Rel, WaitRel, Put}
use Rattle.heap_model.specs.Setting.{Setting}
use Rattle.heap_model.specs.Log.{value, IsLegal}
use Rattle.heap_model.specs.Sections.{actions}
use Rattle.heap_model.specs.Cuts.{is_counted}
use Rattle.heap_model.specs.KeptHeap.{kept_value}

-- a store to a logged field is to another one
elsewhere : (s : Setting) (g f x y : ℕ) → s.is_logged g ≡ true → s.is_logged f ≡ false → (if g == f then x else y) ≡ y
elsewhere s g f x y is not = elim (g == f) as (λ b. (g == f) ≡ b → (if b then x else y) ≡ y)
    [ true ↦ λ e. absurd (let both : true ≡ false = sym is ∙ ap s.is_logged (eqb-true g f e) ∙ not in cc) | false ↦ λ e. refl ] refl

pub first_stays : (s : Setting) (log : List (ℕ × Record)) (f : ℕ) → IsLegal s log → s.is_logged f ≡ false → value s.first f log ≡ s.first f
first_stays s [] f legal not = refl
first_stays s ((l, Acq o n) ∷ older) f legal not = first_stays s older f legal.0 not
first_stays s ((l, Rel o n) ∷ older) f legal not = first_stays s older f legal.0 not
first_stays s ((l, WaitRel o n) ∷ older) f legal not = first_stays s older f legal.0 not
first_stays s ((l, Put g before after) ∷ older) f legal not = elsewhere s g.0 f after (value s.first f older) legal.3.1 not ∙ first_stays s older f legal.0 not

pub first_kept : (s : Setting) (log : List (ℕ × Record)) (f : ℕ) → IsLegal s log → s.is_logged f ≡ false → (cut : ℕ → ℕ) → kept_value s.first cut f log ≡ s.first f
first_kept s [] f legal not cut = refl
first_kept s ((l, Acq o n) ∷ older) f legal not cut = first_kept s older f legal.0 not cut
first_kept s ((l, Rel o n) ∷ older) f legal not cut = first_kept s older f legal.0 not cut
first_kept s ((l, WaitRel o n) ∷ older) f legal not cut = first_kept s older f legal.0 not cut
first_kept s ((l, Put g before after) ∷ older) f legal not cut =
    elsewhere s g.0 f (if is_counted cut l (actions older) then after else kept_value s.first cut f older) (kept_value s.first cut f older) legal.3.1 not ∙ first_kept s older f legal.0 not cut
