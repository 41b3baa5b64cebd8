-- Calls of a store that were made one after another.
use Rattle.std.proofs.Common.{ℕ, ◌≡◌, ◌≤◌, ◌+◌, ◌⊎◌, List, [], ◌∷◌, ◌++◌, Result, Ok, Err, MatchResult, refl, sym, ap, ◌∙◌, subst, inl, inr, arith}
use Rattle.std.proofs.lemmas.List.{append_assoc}
use Rattle.heap_model.specs.declared.record.Record.{Record}
use Rattle.heap_model.specs.Cuts.{IsStable}
use Rattle.heap_model.specs.Sections.{actions}
use Rattle.heap_model.specs.Setting.{Setting}
use Rattle.block_disk.specs.Device.{Device}
use Rattle.block_disk.specs.Images.{LeavesOnly}
use Rattle.block_disk.proofs.Images.{and_then, begin, weaker}
use Rattle.image_parts.specs.declared.layout.Layout.{Layout}
use Rattle.heap_model.specs.declared.store_error.StoreError.{StoreError}
use Rattle.heap_model.specs.Past.{Past, after_apply, after_log, applied}
use Rattle.store_helper_sections.specs.Image.{ShowsCutOf}
use Rattle.store_rounds.specs.Runs.{ApplyRuns, FlushRuns, HasRun, IsRunTo, RoundRuns, TakesSequences}
use Rattle.store_rounds.specs.Steps.{Applies, Flushes, IsPastOf, MakesRound, Writes, after_round}
use Rattle.store_rounds.specs.Store.{Parts}
use Rattle.store_rounds.proofs.Shown.{shows_more}

-- a run of no calls
pub run_none : (l : Layout) (threads : ℕ) (s : Setting) (p : Past) (d : Device) → HasRun l threads s p d p d
run_none l threads s p d = record { newer = []; same = refl; cut = λ lane. omega arith; shown = begin d (ShowsCutOf l threads s (applied p) p.cut) }

-- one run behind another
pub run_on : (l : Layout) (threads : ℕ) (s : Setting) (p q r : Past) (a b c : Device) → HasRun l threads s p a q b → HasRun l threads s q b r c → HasRun l threads s p a r c
run_on l t s p q r a b c was on = record {
  newer = on.newer ++ was.newer;
  same = on.same ∙ ap (λ (xs : List (ℕ × Record)). on.newer ++ xs) was.same ∙ sym (append_assoc on.newer was.newer (applied p));
  cut = λ lane. let first = was.cut lane in let then = on.cut lane in omega (arith, first, then);
  shown = and_then a b c (ShowsCutOf l t s (applied r) p.cut)
      (weaker a b (ShowsCutOf l t s (applied q) p.cut) (ShowsCutOf l t s (applied r) p.cut) (λ image. shows_more l t s on.newer (applied q) (applied r) p.cut p.cut image on.same (λ lane. omega arith)) was.shown)
      (weaker b c (ShowsCutOf l t s (applied r) q.cut) (ShowsCutOf l t s (applied r) p.cut) (λ image. shows_more l t s [] (applied r) (applied r) p.cut q.cut image refl was.cut) on.shown);
}

module _ {D : Type 0} (device : D → Device) (x y : Parts D) where
  -- a call that writes is a run to each past of the same records with no section less
  module _ (last : ℕ) (result : Result (Unit {0}) StoreError) (writes : Writes device last x y result) where
    pub run_to : (s : Setting) (p q : Past) → IsPastOf device x s p → applied q ≡ applied p → ((lane : ℕ) → p.cut lane ≤ q.cut lane) → IsPastOf device y s q → IsRunTo device x y s p q
    run_to s p q was same more is = record {
      is = is;
      ran = record {
        newer = [];
        same = same;
        cut = more;
        shown = subst (λ (log : List (ℕ × Record)). LeavesOnly (device x.disk) (device y.disk) (ShowsCutOf x.known.layout x.known.threads s log p.cut)) (sym same) (writes.shown s p was);
      };
    }

  pub takes : (most : ℕ) (result : Result (Unit {0}) StoreError) → Writes device (x.known.committed.sequence + most) x y result → TakesSequences most x.known (device x.disk) y.known (device y.disk)
  takes most result writes = record { known = writes.sequence; shown = writes.any_sequence }

  -- a round
  pub round_runs : (result : Result (Unit {0}) StoreError) → MakesRound device x y result → RoundRuns device x y result
  round_runs result makes = record { runs = runs result makes; takes = takes 2 result makes.writes }
    where
      runs : (result : Result (Unit {0}) StoreError) → MakesRound device x y result → (s : Setting) (p : Past) → IsPastOf device x s p →
          MatchResult result (λ done. (cut : ℕ → ℕ) → IsStable (actions (applied p)) cut → IsRunTo device x y s p (after_round p cut)) (λ e. IsRunTo device x y s p p ⊎ IsRunTo device x y s p (after_log p))
      runs (Ok done) makes s p was = λ cut stable. run_to (x.known.committed.sequence + 2) (Ok done) makes.writes s p (after_round p cut) was refl (stable.greatest p.cut was.sections.whole was.sections.closed) (makes.ok s p cut was stable)
      runs (Err e) makes s p was = elim (makes.kept s p was) [
        | inl still ↦ inl (run_to (x.known.committed.sequence + 2) (Err e) makes.writes s p p was refl (λ lane. omega arith) still)
        | inr logged ↦ inr (run_to (x.known.committed.sequence + 2) (Err e) makes.writes s p (after_log p) was refl (λ lane. omega arith) logged)
      ]

  -- a flush
  pub flush_runs : (result : Result (Unit {0}) StoreError) → Flushes device x y result → FlushRuns device x y result
  flush_runs result makes = record { runs = runs result makes; takes = takes 1 result makes.writes }
    where
      runs : (result : Result (Unit {0}) StoreError) → Flushes device x y result → (s : Setting) (p : Past) → IsPastOf device x s p →
          MatchResult result (λ done. IsRunTo device x y s p (after_log p)) (λ e. IsRunTo device x y s p p)
      runs (Ok done) makes s p was = run_to (x.known.committed.sequence + 1) (Ok done) makes.writes s p (after_log p) was refl (λ lane. omega arith) (makes.ok s p was)
      runs (Err e) makes s p was = run_to (x.known.committed.sequence + 1) (Err e) makes.writes s p p was refl (λ lane. omega arith) (makes.kept s p was)

  -- a record that is applied
  pub apply_runs : (lane : ℕ) (next : Record) (result : Result (Unit {0}) StoreError) → Applies device x y lane next result → ApplyRuns device x y lane next result
  apply_runs lane next result makes = runs result makes
    where
      runs : (result : Result (Unit {0}) StoreError) → Applies device x y lane next result → ApplyRuns device x y lane next result
      runs (Ok done) makes s p was = record {
        is = makes.ok s p was;
        ran = record {
          newer = (lane, next) ∷ [];
          same = refl;
          cut = λ k. omega arith;
          shown = subst (λ (e : D). LeavesOnly (device x.disk) (device e) (ShowsCutOf x.known.layout x.known.threads s (applied (after_apply p lane next)) p.cut)) (sym makes.disk)
              (begin (device x.disk) (ShowsCutOf x.known.layout x.known.threads s (applied (after_apply p lane next)) p.cut));
        };
      }
      runs (Err e) makes s p was = record {
        is = subst (λ (z : Parts D). IsPastOf device z s p) (sym makes.err) was;
        ran = record {
          newer = [];
          same = refl;
          cut = λ k. omega arith;
          shown = subst (λ (e : D). LeavesOnly (device x.disk) (device e) (ShowsCutOf x.known.layout x.known.threads s (applied p) p.cut)) (sym makes.disk)
              (begin (device x.disk) (ShowsCutOf x.known.layout x.known.threads s (applied p) p.cut));
        };
      }
