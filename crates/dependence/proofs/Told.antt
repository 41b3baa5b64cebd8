-- What a reason tells of the graph.
use Rattle.std.proofs.Common.{ℕ, ◌≡◌, ◌+◌, ◌<◌, ◌≤◌, ◌↔◌, reverse, slice_index, Option, Some, None, IsSome, IfSome, MatchOption, true, false, refl, ap, inl, inr, arith}
use Rattle.heap_model.specs.Cuts.{IsStable}
use Rattle.law_cuts.proofs.Existence.{stable_once}
use Rattle.dependence.specs.declared.section.Dependence.{Dependence}
use Rattle.dependence.specs.declared.graph.Graph.TheInside.{Inside}
use Rattle.dependence.specs.Trace.{section_since, IsStableOf}
use Rattle.dependence.specs.Steps.{log_of}
use Rattle.dependence.specs.Search.{IsLeftOutBy, HasNoReason}
use Rattle.dependence.specs.Reason.{IsLeftOut, IsReason}
use Rattle.dependence.specs.Inside.{trace_of, IsKept}
use Rattle.dependence.proofs.Reasons.{reason_there, reason_is}

module _ (g : Inside) (cut : ℕ → ℕ) (kept : IsKept g) (stable : IsStableOf (trace_of g) cut) (l k : ℕ) where
  -- what is answered, by the places of the steps
  abbrev pub Answer : Option Dependence → Type 0
  Answer result = MatchOption result (HasNoReason g.steps.items (slice_index g.ended) cut l k) (λ d. IsLeftOutBy g.steps.items (slice_index g.ended) cut l k d.lane.0 d.section)

  above : (m : ℕ) → slice_index g.base m ≤ cut m
  above m = omega (arith, stable.counts m)

  apart : (more : ℕ → ℕ) → IsStable (log_of (reverse g.steps.items)) more → (m : ℕ) → cut m ≡ slice_index g.base m + more m
  apart more is_stable m = omega (arith, stable.counts m, stable_once (log_of (reverse g.steps.items)) stable.since more stable.stable is_stable m)

  pub told_some : (result : Option Dependence) → Answer result → (more : ℕ → ℕ) → IsStable (log_of (reverse g.steps.items)) more → IsSome result ↔ IsLeftOut (log_of (reverse g.steps.items)) more (section_since (trace_of g) l k)
  told_some None none more is_stable = (
    (λ some. absurd (let no : false ≡ true = some in cc)),
    (λ left.
        let out : cut l < k = omega (arith, left.outside, apart more is_stable l) in
        let whole : k ≤ slice_index g.ended l = omega (arith, left.whole, left.outside, kept.counted.whole l) in
        absurd (reason_there (slice_index g.base) cut more g.steps.items kept.numbered (apart more is_stable) l k is_stable (omega (arith, kept.counted.whole l)) out (none (whole, out)).0 (none (whole, out)).1)),
  )
  told_some (Some d) by more is_stable = (
    (λ some. record { whole = omega (arith, by.0.0, kept.counted.whole l); outside = omega (arith, by.0.1, apart more is_stable l) }),
    (λ left. refl),
  )

  pub told_first : (result : Option Dependence) → Answer result → (more : ℕ → ℕ) → IsStable (log_of (reverse g.steps.items)) more →
      IfSome result (λ d. IsReason (log_of (reverse g.steps.items)) more (section_since (trace_of g) l k) (section_since (trace_of g) d.lane.0 d.section))
  told_first None none more is_stable = tt
  told_first (Some d) by more is_stable = reason_is (slice_index g.base) cut more g.steps.items kept.numbered (apart more is_stable) (slice_index g.ended) l k d.lane.0 d.section above by

  pub told_kept : (result : Option Dependence) → Answer result → IfSome result (λ d. slice_index g.base d.lane.0 < d.section)
  told_kept None none = tt
  told_kept (Some d) (left, inl previous) =
      let same : slice_index g.base d.lane.0 ≡ slice_index g.base l = ap (slice_index g.base) previous.0 in
      omega (arith, previous.2, above l)
  told_kept (Some d) (left, inr releaser) = omega (arith, releaser.1.took.outside, above d.lane.0)
