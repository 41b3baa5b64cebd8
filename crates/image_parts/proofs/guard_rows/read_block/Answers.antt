use Rattle.std.proofs.Common.{◌≡◌, ◌*◌, ◌∙◌, ℕ, length, ap, sym, subst, arith}
use Rattle.block_disk.specs.Bytes.{part}
use Rattle.image_parts.specs.Blocks.{HoldsNoRow, HoldsRows}
use Rattle.image_parts.proofs.GuardLemmas.{block_there, block_named, block_whole}
use Rattle.image_parts.proofs.guard_rows.read_block.Goals as goal

pub returns-then-not-decode_guards-clause-refused : goal.returns-then-not-decode_guards-clause-refused
returns-then-not-decode_guards-clause-refused g c = λ others has.
    let image = (g.D.Disk.device c.args.disk.now).now.bytes in
    let n = c.min-count.result in
    let long : length c.decode_guards.new.rows ≡ n = omega arith in
    let all : length c.read_within.new.out ≡ 16 * n = c.decode_guards.ensures.size ∙ ap (λ (k : ℕ). 16 * k) long in
    let read : c.read_within.new.out ≡ part c.guard_row.result (16 * n) image = c.in_ok-read_within.ensures.ok ∙ ap (λ (k : ℕ). part c.guard_row.result k image) (sym c.read_within.auto.out ∙ all) in
    let none : HoldsNoRow c.read_within.new.out n = subst (HoldsNoRow c.read_within.new.out) long (c.decode_guards.ensures.none c.if-not-decode_guards.true) in
    block_whole c.args.layout.now c.args.first n image c.read_within.new.out c.guard_row.result c.guard_row.ensures read others has (omega arith) none

pub returns-then-not-name_objects-clause-refused : goal.returns-then-not-name_objects-clause-refused
returns-then-not-name_objects-clause-refused g c = λ others has.
    let image = (g.D.Disk.device c.args.disk.now).now.bytes in
    let n = c.min-count.result in
    let long : length c.decode_guards.new.rows ≡ n = omega arith in
    let all : length c.read_within.new.out ≡ 16 * n = c.decode_guards.ensures.size ∙ ap (λ (k : ℕ). 16 * k) long in
    let read : c.read_within.new.out ≡ part c.guard_row.result (16 * n) image = c.in_ok-read_within.ensures.ok ∙ ap (λ (k : ℕ). part c.guard_row.result k image) (sym c.read_within.auto.out ∙ all) in
    let holds : HoldsRows c.read_within.new.out n c.decode_guards.new.rows = subst (λ (k : ℕ). HoldsRows c.read_within.new.out k c.decode_guards.new.rows) long (c.decode_guards.ensures.rows c.if-not-decode_guards.false) in
    let named = c.name_objects.ensures.1 (block_named c.args.layout.now c.args.first n image c.read_within.new.out c.decode_guards.new.rows
    c.guard_row.result c.guard_row.ensures read holds long others has (omega arith)) in
    let no = c.if-not-name_objects.true in cc

pub returns-clause-ok : goal.returns-clause-ok
returns-clause-ok g c =
    let image = (g.D.Disk.device c.args.disk.now).now.bytes in
    let n = c.min-count.result in
    let long : length c.decode_guards.new.rows ≡ n = omega arith in
    let all : length c.read_within.new.out ≡ 16 * n = c.decode_guards.ensures.size ∙ ap (λ (k : ℕ). 16 * k) long in
    let read : c.read_within.new.out ≡ part c.guard_row.result (16 * n) image = c.in_ok-read_within.ensures.ok ∙ ap (λ (k : ℕ). part c.guard_row.result k image) (sym c.read_within.auto.out ∙ all) in
    let holds : HoldsRows c.read_within.new.out n c.decode_guards.new.rows = subst (λ (k : ℕ). HoldsRows c.read_within.new.out k c.decode_guards.new.rows) long (c.decode_guards.ensures.rows c.if-not-decode_guards.false) in
    block_there c.args.layout.now c.args.first n image c.read_within.new.out c.decode_guards.new.rows
    c.guard_row.result c.guard_row.ensures read holds long (c.name_objects.ensures.0 c.if-not-name_objects.false) _
