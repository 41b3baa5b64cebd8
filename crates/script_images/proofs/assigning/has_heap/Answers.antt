use Rattle.std.proofs.Common.{◌≡◌, ◌∙◌, sym, subst}
use Rattle.std.proofs.lemmas.Bool.Decides.{Decides-eqb}
use Rattle.std.proofs.lemmas.Slice.Eq.{slice_eq-Decides}
use Rattle.block_disk.specs.Memory.{Memory, device_of}
use Rattle.recover.specs.Study.{IsStudyOf}
use Rattle.script_images.proofs.assigning.has_heap.Goals as goal

pub returns-in-Ok : goal.returns-in-Ok
returns-in-Ok c = λ same.
    let equal : c.as_slice.result.now ≡ c.args.heap.now = (slice_eq-Decides Decides-eqb _ _ _ c.eq-same.ensures).0 same in
    record {
      study = c.in-Ok.study;
      studied = subst (λ (m : Memory). IsStudyOf (device_of m).now.bytes c.in-Ok.study) c.in_ok-disk.ensures c.in-Ok.ensures.exact;
      heap_is = sym c.as_slice.ensures.value ∙ equal;
    }
