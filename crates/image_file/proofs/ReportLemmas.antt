-- The report on a recovery.
use Rattle.std.proofs.Common.{ℕ, ◌≡◌, ◌∙◌, List}
use Rattle.block_disk.specs.Device.{Device}
use Rattle.image_parts.specs.Recovered.{Parts}
use Rattle.image_parts.specs.declared.layout.Layout.{Layout}
use Rattle.inspect.specs.ReportText.{report_text}
use Rattle.recover.specs.Recovery.{IsRecovery}
use Rattle.recover.specs.declared.report.Report.{Report}
use Rattle.image_file.specs.Telling.{report_of}

-- the report that recovery gives, with the heap and the lanes of what it gives, is that of the study
pub text_is : {D : Type 0} (old new : Device) (r : Parts D) (report : Report) (recovery : IsRecovery old new r report) (heap : List ℕ) (layout : Layout)
    → heap ≡ r.heap → layout ≡ r.layout → report_text report heap layout.lanes ≡ report_of recovery.study
text_is old new r report recovery heap layout heaps layouts =
    let values : heap ≡ recovery.study.heap.items = heaps ∙ recovery.heap_is in
    let shapes : layout ≡ recovery.study.layout = layouts ∙ recovery.layout_is in
    λ i. report_text (recovery.report_is i) (values i) (shapes i).lanes
