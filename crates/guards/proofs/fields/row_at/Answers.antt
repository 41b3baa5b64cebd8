use Rattle.std.proofs.Common.{refl, false}
use Rattle.guards.proofs.FieldLemmas.{part-at}
use Rattle.guards.proofs.fields.row_at.Goals as goal

pub returns-clause-owner : goal.returns-clause-owner
returns-clause-owner c = part-at (λ f. f.owner) (λ r. r.owner.0) (λ _. refl) 0 c.args.fields.now.entries c.args.number c.value_at.result c.value_at.ensures

pub returns-clause-guard : goal.returns-clause-guard
returns-clause-guard c = part-at (λ f. f.guard) (λ r. r.guard.0) (λ _. refl) 0 c.args.fields.now.entries c.args.number c.value_at.result c.value_at.ensures

pub returns-clause-first : goal.returns-clause-first
returns-clause-first c = part-at (λ f. f.first) (λ r. r.first) (λ _. refl) 0 c.args.fields.now.entries c.args.number c.value_at.result c.value_at.ensures

pub returns-clause-mark : goal.returns-clause-mark
returns-clause-mark c = part-at (λ f. f.is_transient) (λ r. r.is_transient) (λ _. refl) false c.args.fields.now.entries c.args.number c.value_at.result c.value_at.ensures
