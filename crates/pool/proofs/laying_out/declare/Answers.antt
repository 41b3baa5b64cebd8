use Rattle.std.proofs.Common.{◌≡◌, ◌≢◌, sym, subst, arith}
use Rattle.std.proofs.lemmas.Result.{err_from_is_err_and}
use Rattle.guards.specs.declared.error.SchemaError.TheVariants.{TooMany}
use Rattle.guards.specs.Schema.{Declarations, object_count}
use Rattle.pool.specs.LaidOut.{with_head}
use Rattle.pool.specs.Declaring.{AreNewSlots}
use Rattle.pool.proofs.DeclaringLemmas.{new_behind_head}
use Rattle.pool.proofs.LayingOut.{is_no_error, behind_head, part_of}
use Rattle.pool.proofs.laying_out.declare.Goals as goal

pub declare_slots-requires-clause-new : goal.declare_slots-requires-clause-new
declare_slots-requires-clause-new c =
    let d = c.args.builder.now in
    let object = c.in_ok-object.ensures.ok in
    let head : c.declare_cell.new.builder ≡ with_head d c.args.name.now = behind_head d c.object.new.self c.declare_cell.new.builder c.args.name.now c.in_ok-object.object.0 object.0 object.1 c.in_ok-declare_cell.ensures.ok in
    subst (λ (b : Declarations). AreNewSlots b c.args.name.now c.args.slots) (sym head) (new_behind_head d c.args.name.now c.args.slots (omega arith) c.requires.new)

pub returns-in_err-declare_slots : goal.returns-in_err-declare_slots
returns-in_err-declare_slots c =
    let d = c.args.builder.now in
    let object = c.in_ok-object.ensures.ok in
    let head : c.declare_cell.new.builder ≡ with_head d c.args.name.now = behind_head d c.object.new.self c.declare_cell.new.builder c.args.name.now c.in_ok-object.object.0 object.0 object.1 c.in_ok-declare_cell.ensures.ok in
    let part = part_of d c.declare_cell.new.builder c.declare_slots.new.builder c.args.name.now c.in_ok-object.object.0 c.args.slots object.0 head c.in_err-declare_slots.ensures.err.1 in
    let not_full : object_count d ≢ 4096 = (λ full. is_no_error c.object.result c.in_ok-object.object TooMany c.in_ok-object.was (c.object.ensures.too_many.1 ((c.requires.new.named, c.requires.new.object), full))) in
    let p = err_from_is_err_and c.from_residual-in_err-declare_slots.result c.from_residual-in_err-declare_slots.ensures.1 in
    rw (p.1, p.2, c.in_err-declare_slots.ensures.err.0) (record { answer = (not_full, part) })
