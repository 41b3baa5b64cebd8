use Rattle.std.proofs.Common.{◌++◌, subst, sym}
use Rattle.std.proofs.lemmas.Result.{on_err_weaker, on_ok_weaker}
use Rattle.block_disk.proofs.Ranges.{clear_left}
use Rattle.disk_file.specs.Backing.{KeepsBut}
use Rattle.disk_file.proofs.Again.{keeps_mended, keeps_settled, keeps_unsettled, reads_near, reads_unsettled, waits_unsettled}
use Rattle.disk_file.proofs.buffered.flush.Goals as goal

pub returns-clause-near : goal.returns-clause-near
returns-clause-near g c =
    on_err_weaker c.settle.result
    (λ un. reads_unsettled c.args.spans.now c.args.bytes.now (g.F.BackingFile.holds c.write_spans.new.file) (g.F.BackingFile.holds c.settle.new.self) un
    (reads_near c.args.spans.now c.args.bytes.now (g.F.BackingFile.holds c.write_spans.new.file) c.in_ok-write_spans.ensures.ok))
    c.settle.ensures.err

pub returns-clause-waits : goal.returns-clause-waits
returns-clause-waits g c =
    on_err_weaker c.settle.result
    (λ un. waits_unsettled c.args.spans.now (g.F.BackingFile.holds c.write_spans.new.file) (g.F.BackingFile.holds c.settle.new.self) un c.in_ok-write_spans.ensures.waits)
    c.settle.ensures.err

pub returns-clause-still : goal.returns-clause-still
returns-clause-still g c =
    on_err_weaker c.settle.result
    (λ un stale had. keeps_unsettled c.args.spans.now (c.args.spans.now ++ stale) c.args.bytes.now (g.F.BackingFile.holds c.write_spans.new.file)
    (g.F.BackingFile.holds c.settle.new.self) (λ i clear. clear_left i c.args.spans.now stale clear) un
    (keeps_mended c.args.spans.now stale c.args.bytes.now (g.F.BackingFile.holds c.write_spans.new.file) (c.in_ok-write_spans.ensures.kept stale had))
    c.in_ok-write_spans.ensures.waits)
    c.settle.ensures.err

pub returns-clause-kept : goal.returns-clause-kept
returns-clause-kept g c =
    on_ok_weaker c.settle.result
    (λ done stale had. subst (λ h. KeepsBut stale c.args.bytes.now h) (sym done)
    (keeps_settled stale c.args.bytes.now (g.F.BackingFile.holds c.write_spans.new.file) (c.in_ok-write_spans.ensures.kept stale had)))
    c.settle.ensures.ok
