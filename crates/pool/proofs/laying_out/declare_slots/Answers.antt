use Rattle.std.proofs.Common.{ℕ, ◌≡◌, ◌+◌, ◌<◌, ◌≤◌, List, length, sym, ap, ◌∙◌, subst, arith}
use Rattle.guards.specs.Schema.{Declarations, object_count, field_count, names_of, IsNewName}
use Rattle.pool.specs.LaidOut.{cell_name, with_slots}
use Rattle.pool.proofs.DeclaringLemmas.{same_objects, more_fields, next_is_new}
use Rattle.pool.proofs.laying_out.declare_slots.Goals as goal

pub declare_cell-requires-clause-new : goal.declare_cell-requires-clause-new
declare_cell-requires-clause-new c =
    let d = c.args.builder.now in
    let name = c.args.name.now in
    let o = c.args.object.0 in
    let n = c.args.slots in
    let k = c.loop-slot.slot in
    let new = next_is_new d name o n k (omega arith) c.loop-slot-test.true c.requires.named c.requires.new in
    subst (λ (b : Declarations). IsNewName (names_of b.fields) (cell_name name c.format.result.now)) (sym c.loop-slot.invariant)
    (subst (λ (text : List ℕ). IsNewName (names_of (with_slots d name o n k).fields) (cell_name name text)) (sym c.format.ensures.text) new)

pub declare_cell-requires-clause-object : goal.declare_cell-requires-clause-object
declare_cell-requires-clause-object c =
    let d = c.args.builder.now in
    let o = c.args.object.0 in
    subst (λ (b : Declarations). o < object_count b) (sym c.loop-slot.invariant)
    (subst (λ (names : List (List ℕ)). o < length names) (sym (same_objects d c.args.name.now o c.args.slots c.loop-slot.slot)) c.requires.object)

pub declare_cell-requires-clause-room : goal.declare_cell-requires-clause-room
declare_cell-requires-clause-room c =
    let d = c.args.builder.now in
    let count : field_count c.loop-slot.builder ≡ field_count d + c.loop-slot.slot =
    ap (λ (b : Declarations). field_count b) c.loop-slot.invariant ∙ more_fields d c.args.name.now c.args.object.0 c.args.slots c.loop-slot.slot in
    let low : c.loop-slot.slot < c.args.slots = c.loop-slot-test.true in
    let room : field_count d + c.args.slots ≤ 16384 = c.requires.room in
    omega arith
