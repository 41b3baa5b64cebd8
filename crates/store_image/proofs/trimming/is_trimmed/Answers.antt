use Rattle.store_image.proofs.Freeing.{trimmed_starts, starts_trimmed}
use Rattle.store_image.proofs.trimming.is_trimmed.Goals as goal

pub returns : goal.returns
returns c = λ l s p d is. (
  (λ yes. starts_trimmed l s p c.args.committed.now d is (c.start_settled.ensures.0 yes)),
  (λ trimmed. c.start_settled.ensures.1 (λ k below. trimmed_starts l s p c.args.committed.now d is trimmed k)),
)
