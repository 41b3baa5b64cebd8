-- A section that has no release yet has not ended.
use Rattle.std.proofs.Common.{ℕ, zero, suc, ◌≡◌, ◌+◌, List, [], ◌∷◌, refl, ap, inl, inr, arith}
use Rattle.heap_model.specs.declared.ids.ObjectId.{ObjectId}
use Rattle.heap_model.specs.declared.record.Record.{Record}
use Rattle.heap_model.specs.declared.record.Record.TheVariants.{Acq, Rel}
use Rattle.heap_model.specs.Sections.{Takes, Frees, actions, Section, Did, Earlier, Took}
use Rattle.heap_model.specs.Cuts.{IsWhole, IsClosed}
use Rattle.law_running.specs.Released.{NeededLaw}

abbrev object : ObjectId
object = record { 0 = 0 }

-- lane 0 took the object
abbrev held : List (ℕ × Record)
held = (0, Acq object 0) ∷ []

-- and freed it
abbrev ended_one : List (ℕ × Record)
ended_one = (0, Rel object 0) ∷ held

-- its section
abbrev one : ℕ → ℕ
one zero = 1
one (suc l) = 0

one_whole : IsWhole (actions ended_one) one
one_whole zero = omega arith
one_whole (suc l) = omega arith

-- no object was taken under a number above 0
never_took : (a : Section) (o n : ℕ) → Did (actions ended_one) a (Takes o (n + 1)) → ⊥
never_took a o n (inl h) = let act : Takes o (n + 1) ≡ Frees 0 0 = h.1 in absurd cc
never_took a o n (inr (inl h)) =
    let act : Takes o (n + 1) ≡ Takes 0 0 = h.1 in
    let numbers : n + 1 ≡ 0 = cc in
    omega (arith, numbers)
never_took a o n (inr (inr h)) = h

one_closed : IsClosed (actions ended_one) one
one_closed a b counted (Earlier e lt) = omega (arith, counted, lt, ap one e)
one_closed a b counted (Took o n took freed differ) = absurd (never_took a o n took)

pub lacks_section : NeededLaw
lacks_section s some low = record {
  log = ended_one;
  shorter = held;
  last = (0, Rel object 0);
  is_last = refl;
  release = refl;
  cut = one;
  legal = ((tt, (refl, refl, low), tt, some), (refl, refl), tt, some);
  shorter_legal = (tt, (refl, refl, low), tt, some);
  whole = one_whole;
  closed = one_closed;
  lacks = λ whole. let first = whole 0 in omega (arith, first);
}
