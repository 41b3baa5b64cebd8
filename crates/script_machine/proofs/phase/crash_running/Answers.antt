use Rattle.std.proofs.Common.{ℕ, List, refl, sym, ◌∙◌, ap, subst, arith}
use Rattle.guards.specs.Schema.{Declarations}
use Rattle.block_disk.specs.Crash.{done_at, LeftSinceStop}
use Rattle.block_disk.specs.Device.{Image}
use Rattle.block_disk.specs.Memory.{Memory, moment_after}
use Rattle.script_machine.specs.Machine as machine
use Rattle.script_machine.specs.OfSchema.{IsDiskOf}
use Rattle.script_machine.specs.States.{begun_at, crash_back}
use Rattle.script_machine.proofs.SchemaLemmas.{crashed_of, fresh_of}
use Rattle.script_machine.proofs.phase.crash_running.Goals as goal

pub returns-in-Ok-Some : goal.returns-in-Ok-Some
returns-in-Ok-Some c =
    let d = c.args.running.store.disk in
    let image = rw c.in-Ok-Some.field-0-is at c.in-Ok-Some.ensures.image in
    let enough = image.0 in
    let bytes = ap (λ (left : Memory). left.first) image.1 in
    record {
      refused = λ few. absurd (omega (arith, few, enough));
      passed = λ some. record {
        answers = refl;
        agrees = c.crash_image.ensures.agrees;
        down = ap machine.Down (c.new-down.ensures ∙ (λ i. record { schema = c.into_schema.ensures i; disk = image.1 i }));
        possible = subst (λ (xs : List ℕ). Image (moment_after d.first (done_at (begun_at c.args.back d) d.stops)) xs) bytes (rw c.in-Ok-Some.field-0-is at c.in-Ok-Some.ensures.possible);
        any_moment = subst (λ (xs : List ℕ). LeftSinceStop (begun_at c.args.back d) d xs) bytes (rw c.in-Ok-Some.field-0-is at c.in-Ok-Some.ensures.any_moment);
        of_schema = crashed_of c.args.running.monitors.schema d (begun_at c.args.back d) (crash_back c.args.fill c.args.back d) c.crash_image.ensures.agrees.of_schema
            (subst (λ (xs : List ℕ). LeftSinceStop (begun_at c.args.back d) d xs) bytes (rw c.in-Ok-Some.field-0-is at c.in-Ok-Some.ensures.any_moment));
      };
    }

pub new-down-requires : goal.new-down-requires
new-down-requires c =
    let d = c.args.running.store.disk in
    let image = rw c.in-Ok-Some.field-0-is at c.in-Ok-Some.ensures.image in
    let bytes = ap (λ (left : Memory). left.first) image.1 in
    let of = crashed_of c.args.running.monitors.schema d (begun_at c.args.back d) (crash_back c.args.fill c.args.back d) c.crash_image.ensures.agrees.of_schema
    (subst (λ (xs : List ℕ). LeftSinceStop (begun_at c.args.back d) d xs) bytes (rw c.in-Ok-Some.field-0-is at c.in-Ok-Some.ensures.any_moment)) in
    subst (λ (s : Declarations). IsDiskOf s c.in-Ok-Some.disk) (sym c.into_schema.ensures)
    (subst (IsDiskOf c.args.running.monitors.schema) (sym image.1) (fresh_of c.args.running.monitors.schema (crash_back c.args.fill c.args.back d) of))

pub returns-in-Ok-None : goal.returns-in-Ok-None
returns-in-Ok-None c = record { refused = λ few. (refl, refl); passed = λ enough. absurd (enough (rw c.in-Ok-None.field-0-is at c.in-Ok-None.ensures.image)) }
