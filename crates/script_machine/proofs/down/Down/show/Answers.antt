use Rattle.std.proofs.Common.{◌∙◌, sym, inl, inr, refl, subst, IfOk, ap}
use Rattle.script_machine.specs.States.{Wreck}
use Rattle.script_machine.specs.Machine.{Down, ShowsImage}
use Rattle.script_machine.specs.declared.answer.Answer.TheVariants.{Shown}
use Rattle.script_machine.proofs.SchemaLemmas.{same_of}
use Rattle.script_machine.proofs.down.Down.show.Goals as goal
use Rattle.script_machine.proofs.down.Down.show.Goals.{in-Ok, in-Err+in_ok-refused_recovery-in-Err}

pub of-requires : goal.of-requires
of-requires c = record { image = _; studied = c.in-Ok.ensures.exact }

pub returns : goal.returns
returns c =
    let after = Down (record { schema = c.self.inside.schema; disk = c.study.new.disk }) in
    subst (λ (w : Wreck). IfOk c.match-study.result (λ answer. ShowsImage (Down w) answer after w)) c.self.view_is
    (elim c.match-study.branch [
      | in-Ok w ↦ rw w.result-is (inl (record {
        study = w.in-Ok.study;
        disk = c.study.new.disk;
        answers = ap Shown w.of.ensures;
        stays = refl;
        studied = rw w.in-Ok.is at c.study.ensures.exact;
        same = c.study.ensures.same;
      }))
      | in-Err+in_ok-refused_recovery-in-Err w ↦ rw w.result-is (inr (record {
        reason = w.in-Err.why;
        refusal = w.in_ok-refused_recovery-in-Err.field-0;
        disk = c.study.new.disk;
        told = sym w.refused_recovery.ensures ∙ w.in_ok-refused_recovery-in-Err.was;
        answers = refl;
        stays = refl;
        because = rw w.in-Err.is at c.study.ensures.exact;
        same = c.study.ensures.same;
      }))
    ])

pub invariant_of-self-2 : goal.invariant_of-self-2
invariant_of-self-2 c = same_of c.self.inside.schema c.self.inside.disk c.study.new.disk c.study.ensures.same c.self.invariant
