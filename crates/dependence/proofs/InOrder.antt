-- An object's numbers by the places of the steps.
use Rattle.std.proofs.Common.{ℕ, zero, suc, ◌≡◌, ◌+◌, ◌-◌, ◌<◌, List, [], ◌∷◌, length, map, reverse, refl, sym, ap, ◌∙◌, arith}
use Rattle.std.proofs.lemmas.List.{get_or_past}
use Rattle.heap_model.specs.Sections.{Action, Takes, Frees, Stores, undo_action}
use Rattle.dependence.specs.declared.step.Step.{Step}
use Rattle.dependence.specs.Next.{IsBelow}
use Rattle.dependence.specs.Steps.{log_of}
use Rattle.dependence.specs.Links.{acts_in, act_at}
use Rattle.dependence.specs.Kept.{IsInOrder}
use Rattle.dependence.proofs.Places.{at_reverse, map_reverse}
use Rattle.dependence.proofs.Pairs.{AreBelow, AreInOrder, there}

taken_below : (o t f : ℕ) (log : List (ℕ × Action)) → IsBelow o t f log → (i n : ℕ) → act_at (map (λ x. x.1) log) i ≡ Takes o n → n < t
taken_below o t f [] b i n h = absurd (let e : Stores ≡ Takes o n = sym (get_or_past [] i Stores (omega arith)) ∙ h in cc)
taken_below o t f ((l, Takes p m) ∷ older) b zero n h = let objects : p ≡ o = cc in let numbers : m ≡ n = cc in omega (arith, b.0 objects)
taken_below o t f ((l, Takes p m) ∷ older) b (suc i) n h = taken_below o t f older b.1 i n h
taken_below o t f ((l, Frees p m) ∷ older) b zero n h = absurd cc
taken_below o t f ((l, Frees p m) ∷ older) b (suc i) n h = taken_below o t f older b.1 i n h
taken_below o t f ((l, Stores) ∷ older) b zero n h = absurd cc
taken_below o t f ((l, Stores) ∷ older) b (suc i) n h = taken_below o t f older b i n h

freed_below : (o t f : ℕ) (log : List (ℕ × Action)) → IsBelow o t f log → (i n : ℕ) → act_at (map (λ x. x.1) log) i ≡ Frees o n → n < f
freed_below o t f [] b i n h = absurd (let e : Stores ≡ Frees o n = sym (get_or_past [] i Stores (omega arith)) ∙ h in cc)
freed_below o t f ((l, Frees p m) ∷ older) b zero n h = let objects : p ≡ o = cc in let numbers : m ≡ n = cc in omega (arith, b.0 objects)
freed_below o t f ((l, Frees p m) ∷ older) b (suc i) n h = freed_below o t f older b.1 i n h
freed_below o t f ((l, Takes p m) ∷ older) b zero n h = absurd cc
freed_below o t f ((l, Takes p m) ∷ older) b (suc i) n h = freed_below o t f older b.1 i n h
freed_below o t f ((l, Stores) ∷ older) b zero n h = absurd cc
freed_below o t f ((l, Stores) ∷ older) b (suc i) n h = freed_below o t f older b i n h

acts_log : (steps : List Step) → map (λ x. x.1) (log_of steps) ≡ acts_in steps
acts_log [] = refl
acts_log (s ∷ steps) = ap (λ (xs : List Action). undo_action s.entry ∷ xs) (acts_log steps)

-- the actions of the log, the oldest first
pub acts_of_log : (steps : List Step) → map (λ x. x.1) (log_of (reverse steps)) ≡ reverse (acts_in steps)
acts_of_log steps = acts_log (reverse steps) ∙ map_reverse (λ (s : Step). undo_action s.entry) steps

below_steps : (steps : List Step) (o t f : ℕ) → IsBelow o t f (log_of (reverse steps)) → AreBelow (acts_in steps) o t f
below_steps steps o t f b = record {
  taken = λ i n h. taken_below o t f (log_of (reverse steps)) b (length (acts_in steps) - 1 - i) n (back i (there (acts_in steps) i (λ e. absurd cc)) ∙ h);
  freed = λ i n h. freed_below o t f (log_of (reverse steps)) b (length (acts_in steps) - 1 - i) n (back i (there (acts_in steps) i (λ e. absurd cc)) ∙ h);
}
  where
    back : (i : ℕ) → i < length (acts_in steps) → act_at (map (λ x. x.1) (log_of (reverse steps))) (length (acts_in steps) - 1 - i) ≡ act_at (acts_in steps) i
    back i lt = ap (λ (xs : List Action). act_at xs (length (acts_in steps) - 1 - i)) (acts_of_log steps) ∙ at_reverse (acts_in steps) i Stores lt

pub in_order : (steps : List Step) (a : Action) → IsInOrder (log_of (reverse steps)) a → AreInOrder (acts_in steps) a
in_order steps (Takes o n) h = below_steps steps o n n h
in_order steps (Frees o n) h = below_steps steps o (n + 1) n h
in_order steps Stores h = tt
