use Rattle.std.proofs.Common.{subst}
use Rattle.script_machine.specs.OfSchema.{IsDiskOf}
use Rattle.script_machine.specs.States.{Wreck}
use Rattle.script_machine.proofs.down.Down.into_parts.Goals as goal

pub returns-clause-of_schema : goal.returns-clause-of_schema
returns-clause-of_schema c = subst (λ (w : Wreck). IsDiskOf w.schema w.disk) c.self.view_is c.self.invariant
