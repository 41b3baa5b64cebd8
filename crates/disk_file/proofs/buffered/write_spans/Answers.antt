use Rattle.std.proofs.Common.{◌≡◌, List, ◌∷◌, ◌++◌, length, subst, rules}
use Rattle.disk_file.specs.Backing.{KeepsBut, ReadsBut}
use Rattle.block_disk.specs.Device.{Range, IsClear}
use Rattle.disk_file.proofs.Again.{clear_too, keeps_more, reads_more}
use Rattle.disk_file.specs.Buffered.{AllWithin}
use Rattle.disk_file.proofs.Spans.{none_left, reads_empty, within_rest}
use Rattle.disk_file.proofs.buffered.write_spans.Goals as goal

pub returns-in-Err-clause-near : goal.returns-in-Err-clause-near
returns-in-Err-clause-near g c =
    let file = g.F.BackingFile.holds c.write_span.new.file in
    let split : c.loop-first.rest.now ≡ c.in-Some.first.now ∷ c.in-Some.later.now = search rules in
    let was = subst (λ (rs : List Range). ReadsBut rs c.args.bytes.now (g.F.BackingFile.holds c.loop-first.file)) split c.loop-first.invariant.0 in
    reads_more (c.in-Some.first.now ∷ c.in-Some.later.now) c.args.spans.now c.args.bytes.now file
    (λ i clear. subst (λ (rs : List Range). IsClear i rs) split (c.loop-first.invariant.2 i clear))
    (c.in-Err.ensures.near.reads c.in-Some.later.now was)

pub returns-in-Err-clause-still : goal.returns-in-Err-clause-still
returns-in-Err-clause-still g c stale had =
    let file = g.F.BackingFile.holds c.write_span.new.file in
    let split : c.loop-first.rest.now ≡ c.in-Some.first.now ∷ c.in-Some.later.now = search rules in
    let was = subst (λ (rs : List Range). KeepsBut (rs ++ stale) c.args.bytes.now (g.F.BackingFile.holds c.loop-first.file)) split (c.loop-first.invariant.4 stale had) in
    keeps_more ((c.in-Some.first.now ∷ c.in-Some.later.now) ++ stale) (c.args.spans.now ++ stale) c.args.bytes.now file
    (λ i clear. clear_too i c.args.spans.now (c.in-Some.first.now ∷ c.in-Some.later.now) stale
    (λ all. subst (λ (rs : List Range). IsClear i rs) split (c.loop-first.invariant.2 i all)) clear)
    (c.in-Err.ensures.near.kept (c.in-Some.later.now ++ stale) was)

pub returns-in-Err-clause-waits : goal.returns-in-Err-clause-waits
returns-in-Err-clause-waits g c =
    let split : c.loop-first.rest.now ≡ c.in-Some.first.now ∷ c.in-Some.later.now = search rules in
    c.write_span.ensures.waits c.args.spans.now
    (λ i clear. (subst (λ (rs : List Range). IsClear i rs) split (c.loop-first.invariant.2 i clear)).0)
    c.loop-first.invariant.3

pub loop-first-preserved : goal.loop-first-preserved
loop-first-preserved g c =
    let split : c.loop-first.rest.now ≡ c.in-Some.first.now ∷ c.in-Some.later.now = search rules in
    let was = subst (λ (rs : List Range). ReadsBut rs c.args.bytes.now (g.F.BackingFile.holds c.loop-first.file)) split c.loop-first.invariant.0 in
    let fit = subst (λ (rs : List Range). AllWithin (length c.args.bytes.now) rs) split c.loop-first.invariant.1 in (
      c.in_default-write_span.ensures.ok.reads c.in-Some.later.now was,
      within_rest (length c.args.bytes.now) c.in-Some.first.now c.in-Some.later.now fit,
      λ i clear. (subst (λ (rs : List Range). IsClear i rs) split (c.loop-first.invariant.2 i clear)).1,
      c.write_span.ensures.waits c.args.spans.now
          (λ i clear. (subst (λ (rs : List Range). IsClear i rs) split (c.loop-first.invariant.2 i clear)).0)
          c.loop-first.invariant.3,
      λ stale had. c.in_default-write_span.ensures.ok.kept (c.in-Some.later.now ++ stale)
          (subst (λ (rs : List Range). KeepsBut (rs ++ stale) c.args.bytes.now (g.F.BackingFile.holds c.loop-first.file)) split (c.loop-first.invariant.4 stale had)),
    )

pub returns-clause-ok : goal.returns-clause-ok
returns-clause-ok g c =
    let empty : length c.loop-first.rest.now ≡ 0 = search rules in
    reads_empty c.loop-first.rest.now c.args.bytes.now (g.F.BackingFile.holds c.loop-first.file) empty c.loop-first.invariant.0

pub returns-clause-kept : goal.returns-clause-kept
returns-clause-kept g c stale had =
    let empty : length c.loop-first.rest.now ≡ 0 = search rules in
    subst (λ (rs : List Range). KeepsBut (rs ++ stale) c.args.bytes.now (g.F.BackingFile.holds c.loop-first.file)) (none_left c.loop-first.rest.now empty)
    (c.loop-first.invariant.4 stale had)
