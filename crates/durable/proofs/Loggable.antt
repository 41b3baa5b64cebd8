-- The records of a legal list fit the lanes' areas.
use Rattle.std.proofs.Common.{◌≡◌, inl, inr, ℕ, ◌+◌, ◌<◌, ◌==◌, true, false, if◌then◌else◌, List, [], ◌∷◌, ◌++◌, map, Some, None, subst, arith}
use Rattle.std.specs.Prelude.{All}
use Rattle.std.proofs.lemmas.Bool.Decides.{eqb_tells}
use Rattle.std.proofs.lemmas.List.Elements.{All-nil, All-cons}
use Rattle.heap_model.specs.declared.record.Record.{Record}
use Rattle.heap_model.specs.declared.record.Record.TheVariants.{Acq, Rel, WaitRel, Put}
use Rattle.heap_model.specs.Record.{undo_of}
use Rattle.heap_model.specs.Setting.{Setting}
use Rattle.heap_model.specs.Log.{lane, holder, number, IsAllowed, IsLegal, IsRecordOf}
use Rattle.image_parts.specs.Layout.{IsLayout}
use Rattle.image_parts.specs.declared.layout.Layout.{Layout}
use Rattle.undo_log.specs.Area.{IsLoggable}
use Rattle.undo_log.specs.Dropped.{undo_logs}
use Rattle.store_memory.specs.Limits.{FitsWord, FitWords}
use Rattle.durable.specs.Store.{FitsImage}

-- an object that is held was taken below the last number
held_low : (s : Setting) (log : List (ℕ × Record)) (o k : ℕ) → IsLegal s log → holder o log ≡ Some k → number o log < s.last
held_low s [] o k legal held = absurd (let no : None ≡ Some k = held in cc)
held_low s ((l, Acq p n) ∷ older) o k legal held = elim (eqb_tells p.0 o) [
  | inl e ↦ subst (λ j. number j older < s.last) e.1 (omega (arith, legal.1.1, legal.1.2))
  | inr e ↦ held_low s older o k legal.0 (subst (λ b. (if b then Some l else holder o older) ≡ Some k) e.0 held)
]
held_low s ((l, Rel p n) ∷ older) o k legal held =
    elim (p.0 == o) as (λ b. (if b then None else holder o older) ≡ Some k → (if b then n + 1 else number o older) < s.last) [
      | true ↦ λ now. absurd (let no : None ≡ Some k = now in cc)
      | false ↦ λ now. held_low s older o k legal.0 now
    ] held
held_low s ((l, WaitRel p n) ∷ older) o k legal held =
    elim (p.0 == o) as (λ b. (if b then None else holder o older) ≡ Some k → (if b then n + 1 else number o older) < s.last) [
      | true ↦ λ now. absurd (let no : None ≡ Some k = now in cc)
      | false ↦ λ now. held_low s older o k legal.0 now
    ] held
held_low s ((l, Put f before after) ∷ older) o k legal held = held_low s older o k legal.0 held

module _ (l : Layout) (s : Setting) (limits : IsLayout l) (fits : FitsImage l s) where
  one_loggable : (older : List (ℕ × Record)) (m : ℕ) (r : Record) → IsLegal s older → IsAllowed s older m r → IsRecordOf s r → FitsWord r → IsLoggable l (undo_of r)
  one_loggable older m (Acq o n) legal allowed of fit = record {
    range = (omega (arith, of, fits.objects, limits.objects.1), omega (arith, allowed.2, fits.last));
    named = omega (arith, of, fits.objects);
  }
  one_loggable older m (Rel o n) legal allowed of fit = record {
    range = (omega (arith, of, fits.objects, limits.objects.1), omega (arith, held_low s older o.0 m legal allowed.0, allowed.1, fits.last));
    named = omega (arith, of, fits.objects);
  }
  one_loggable older m (WaitRel o n) legal allowed of fit = record {
    range = (omega (arith, of, fits.objects, limits.objects.1), omega (arith, held_low s older o.0 m legal allowed.0, allowed.1, fits.last));
    named = omega (arith, of, fits.objects);
  }
  one_loggable older m (Put f before after) legal allowed of fit = record {
    range = (omega (arith, of.0, fits.fields, limits.fields.1), fit);
    named = omega (arith, of.0, fits.fields);
  }

  pub all_loggable : (newer older : List (ℕ × Record)) → IsLegal s (newer ++ older) → FitWords newer → (k : ℕ) → All (IsLoggable l) (undo_logs newer k)
  all_loggable [] older legal fit k = All-nil (IsLoggable l)
  all_loggable ((m, r) ∷ newer) older legal fit k =
      elim (m == k) as (λ b. All (IsLoggable l) (map undo_of (if b then r ∷ lane k newer else lane k newer))) [
        | true ↦ All-cons (IsLoggable l) (undo_of r) (undo_logs newer k) (one_loggable (newer ++ older) m r legal.0 legal.1 legal.3 fit.0) (all_loggable newer older legal.0 fit.1 k)
        | false ↦ all_loggable newer older legal.0 fit.1 k
      ]
