use Rattle.std.proofs.Common.{◌≡◌, ◌*◌, ◌∙◌, ℕ, length, ap, sym, subst, refl, arith, rules}
use Rattle.std.proofs.lemmas.Grind.{common_steps}
use Rattle.std.proofs.lemmas.List.{take-append-le}
use Rattle.block_disk.specs.Bytes.{part}
use Rattle.undo_log.specs.Area.{HasRecords}
use Rattle.undo_log.specs.Runs.{HoldsFirst}
use Rattle.undo_log.proofs.Runs.{first_there, broken}
use Rattle.undo_log.proofs.reading.read_run.Goals as goal

pub returns-in-Ok-clause-ok : goal.returns-in-Ok-clause-ok
returns-in-Ok-clause-ok g c =
    let l = c.args.layout.now in
    let image = (g.D.Disk.device c.args.disk.now).now.bytes in
    let n = c.run_length-count.result in
    let records = c.decode_run.new.records in
    let bytes = c.read_within.new.out in
    let long : length records ≡ n = omega arith in
    let all : length bytes ≡ 16 * n = search rules in
    let read : bytes ≡ part c.record.result (16 * n) image = c.in_ok-read_within.ensures.ok ∙ ap (λ (k : ℕ). part c.record.result k image) (sym c.read_within.auto.out ∙ all) in
    let holds : HoldsFirst l bytes n records = subst (λ (k : ℕ). HoldsFirst l bytes k records) long c.in-Ok.ensures.ok in
    subst (HasRecords l c.args.lane.0 c.args.place image) (sym (take-append-le n records _ (omega (arith, long))))
    (first_there l c.args.lane.0 c.args.place n image bytes records c.record.result c.record.ensures read c.run_length-count.ensures.in_area long n (omega arith) holds)

pub returns-in-Err-clause-refused : goal.returns-in-Err-clause-refused
returns-in-Err-clause-refused g c =
    let l = c.args.layout.now in
    let image = (g.D.Disk.device c.args.disk.now).now.bytes in
    let n = c.run_length-count.result in
    let records = c.decode_run.new.records in
    let bytes = c.read_within.new.out in
    let long : length records ≡ n = omega arith in
    let all : length bytes ≡ 16 * n = grind (arith, common_steps) in
    let read : bytes ≡ part c.record.result (16 * n) image = c.in_ok-read_within.ensures.ok ∙ ap (λ (k : ℕ). part c.record.result k image) (sym c.read_within.auto.out ∙ all) in
    broken l c.args.lane.0 c.args.place n image bytes records c.record.result c.record.ensures read c.run_length-count.ensures.in_area long
    c.in-Err.bad c.in-Err.ensures.bad c.args.lane refl c.args.to c.run_length-count.ensures.within
