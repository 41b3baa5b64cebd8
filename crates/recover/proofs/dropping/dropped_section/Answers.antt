use Rattle.std.proofs.Common.{ℕ, ◌+◌, refl, ap}
use Rattle.recover.specs.Live.{trimmed_at}
use Rattle.recover.proofs.dropping.dropped_section.Goals as goal

pub returns-clause-entry : goal.returns-clause-entry
returns-clause-entry c = λ cut stable.
    record {
      called = record { lane_is = refl; number_is = ap (λ (i : ℕ). trimmed_at c.args.counts.now i + c.args.section) c.from.ensures };
      why_is = c.why_dropped.ensures.why cut stable;
    }
