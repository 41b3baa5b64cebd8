use Rattle.std.proofs.Common.{◌+◌, ◌≤◌, List, ℕ, length, refl, sym, ◌∙◌, ap, subst, rules, vec_len, vec_capacity}
use Rattle.block_disk.specs.Bytes.{spliced}
use Rattle.block_disk.specs.Calls.{stops_of}
use Rattle.block_disk.specs.Memory.{Wrote, WriteFailed, bytes_after}
use Rattle.block_disk.proofs.Kept.{kept_same, kept_length, spare_kept, spare_taken}
use Rattle.block_disk.proofs.memory.MemDiskDisk.write_at.Goals as goal

pub invariant_of-self-then-due-2 : goal.invariant_of-self-then-due-2
invariant_of-self-then-due-2 c =
    let d = c.self.inside in
    let same = kept_length d.first.items d.bytes.items d.calls.items c.self.invariant.0 in
    let fits : c.args.at + length c.args.bytes.now ≤ length d.bytes.items = search rules in (
      kept_same d.first.items d.bytes.items d.calls.items c.keep_failed-kept.new.calls.items (WriteFailed c.args.at (length c.args.bytes.now)) c.keep_failed-kept.result
          c.self.invariant.0 refl c.keep_failed-kept.ensures.kept
          (c.keep_failed-kept.ensures.fits (length d.first.items) (subst (λ (n : ℕ). c.args.at + length c.args.bytes.now ≤ n) same fits) c.self.invariant.0.fits),
      spare_taken (stops_of d.calls.items) (stops_of c.keep_failed-kept.new.calls.items) (vec_len d.calls) (vec_capacity d.calls) (vec_len c.keep_failed-kept.new.calls) (vec_capacity c.keep_failed-kept.new.calls)
          (WriteFailed c.args.at (length c.args.bytes.now)) c.keep_failed-kept.result tt c.self.invariant.1 c.keep_failed-kept.ensures.kept c.keep_failed-kept.ensures.room,
    )

pub invariant_of-self-then-not-keep_write : goal.invariant_of-self-then-not-keep_write
invariant_of-self-then-not-keep_write c =
    let d = c.self.inside in
    let same = kept_length d.first.items d.bytes.items d.calls.items c.self.invariant.0 in
    let fits : c.args.at + length c.args.bytes.now ≤ length d.bytes.items = search rules in (
      record {
        reads = c.self.invariant.0.reads ∙ sym (ap (bytes_after d.first.items) (c.if-not-keep_write.ensures.kept));
        fits = c.keep_write.ensures.fits (length d.first.items) (subst (λ (n : ℕ). c.args.at + length c.args.bytes.now ≤ n) same fits) c.self.invariant.0.fits;
      },
      spare_kept (stops_of d.calls.items) (stops_of c.keep_write.new.calls.items) (vec_len d.calls) (vec_capacity d.calls) (vec_len c.keep_write.new.calls) (vec_capacity c.keep_write.new.calls)
          (Wrote c.args.at c.args.bytes.now) c.keep_write.result c.self.invariant.1 c.keep_write.ensures.kept c.keep_write.ensures.spare c.keep_write.ensures.len c.keep_write.ensures.capacity,
    )

pub invariant_of-self-2 : goal.invariant_of-self-2
invariant_of-self-2 c =
    let d = c.self.inside in
    let same = kept_length d.first.items d.bytes.items d.calls.items c.self.invariant.0 in
    let fits : c.args.at + length c.args.bytes.now ≤ length d.bytes.items = search rules in (
      record {
        reads = c.put.ensures ∙ ap (λ (bytes : List ℕ). spliced bytes c.args.at c.args.bytes.now) c.self.invariant.0.reads
            ∙ sym (ap (bytes_after d.first.items) (c.if-not-keep_write.ensures.kept));
        fits = c.keep_write.ensures.fits (length d.first.items) (subst (λ (n : ℕ). c.args.at + length c.args.bytes.now ≤ n) same fits) c.self.invariant.0.fits;
      },
      spare_kept (stops_of d.calls.items) (stops_of c.keep_write.new.calls.items) (vec_len d.calls) (vec_capacity d.calls) (vec_len c.keep_write.new.calls) (vec_capacity c.keep_write.new.calls)
          (Wrote c.args.at c.args.bytes.now) c.keep_write.result c.self.invariant.1 c.keep_write.ensures.kept c.keep_write.ensures.spare c.keep_write.ensures.len c.keep_write.ensures.capacity,
    )
