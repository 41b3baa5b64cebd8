use Rattle.std.proofs.Common.{◌≡◌, List, length, ap, sym, ◌∙◌, subst, arith}
use Rattle.block_disk.specs.Device.{Device, synced}
use Rattle.block_disk.specs.Images.{LeavesOnly}
use Rattle.block_disk.specs.Memory.{Memory, device_of}
use Rattle.disk_deferred.specs.Host.{host_name}
use Rattle.guards.specs.Schema.{Declarations}
use Rattle.image_parts.specs.Guards.{NamesObjects}
use Rattle.image_parts.specs.declared.guard_row.GuardRow.{GuardRow}
use Rattle.image_parts.specs.declared.layout.Layout.{Layout}
use Rattle.recover.specs.Recovery.{IsOnTheWay, IsRecovery, IsTooOld, RefusesOf}
use Rattle.recover.specs.Study.{IsStudyOf}
use Rattle.recover.specs.declared.studied.Study.{Study}
use Rattle.std.specs.List.{slice_index_or}
use Rattle.trim_helper.specs.Opening.{FitsSchema}
use Rattle.host_heap.specs.Hosting.{hosted_device}
use Rattle.host_heap.specs.Opening.{HasBegun, RefusesOpening, threads_of}
use Rattle.host_heap.specs.declared.error.HostError.{HostError}
use Rattle.image_parts.specs.NumberedRows.{numbered}
use Rattle.host_heap.proofs.Fits.{fits_numbered}
use Rattle.host_heap.proofs.Hosts.{device_is, recovery_name}
use Rattle.host_heap.proofs.Refused.{refuses_as}
use Rattle.image_parts.proofs.Numbered.{only_memory}
use Rattle.host_heap.proofs.opening.open.Goals as goal

pub returns-in-Err : goal.returns-in-Err
returns-in-Err c =
    subst (λ (e : HostError). RefusesOpening c.args.versions c.args.bytes.now e) (sym c.refused.ensures)
    (refuses_as c.args.versions c.args.bytes.now c.in-Err.refusal
    (subst (λ (m : Memory). RefusesOf c.args.versions (device_of m).now.bytes c.in-Err.refusal) c.in-Ok.ensures.disk c.in-Err.ensures.refused))

pub returns-in-Err-declare : goal.returns-in-Err-declare
returns-in-Err-declare c =
    let image = c.layout.ensures.recovered.image in
    let rows = c.guards.result.now in
    let l : Layout = c.layout.result in
    let size : length rows ≡ l.fields = ap (λ (r : List GuardRow). length r) c.guards.ensures.guards ∙ image.guards.size in
    let objects = image.header.limits.objects in
    let fields = image.header.limits.fields in
    only_memory l.objects rows c.in-Err-declare.refusal objects.0 objects.1 (omega (arith, size, fields.0)) (omega (arith, size, fields.1))
    (λ f d low. subst (λ (r : List GuardRow). NamesObjects l.objects (slice_index_or r f d)) (sym c.guards.ensures.guards) (image.guards.each f d (omega (arith, low, size))).objects)
    c.in-Err-declare.ensures.refused

pub begin-requires : goal.begin-requires
begin-requires c =
    let found = c.in-Ok-recover_of.found.0 in
    let schema : c.in-Ok-declare.schema ≡ numbered found.layout.objects found.guards =
    c.in-Ok-declare.ensures.ok ∙ ap (λ (l : Layout). numbered l.objects c.guards.result.now) c.layout.ensures.layout ∙ ap (λ (r : List GuardRow). numbered found.layout.objects r) c.guards.ensures.guards in
    let size : length found.guards ≡ found.layout.fields = c.layout.ensures.recovered.image.guards.size ∙ ap (λ (l : Layout). l.fields) c.layout.ensures.layout in
    record {
      schema = subst (λ (s : Declarations). FitsSchema s found.layout found.guards) (sym schema) (fits_numbered found.layout found.guards size);
      calls = (c.in-Ok.ensures.host.0, c.in-Ok.ensures.host.1);
      host = recovery_name (hosted_device c.in-Ok.disk) (hosted_device found.disk) found c.in-Ok-recover_of.found.1 c.in-Ok-recover_of.ensures.ok ∙ c.in-Ok.ensures.host.2;
    }

pub returns-in-Ok-begin : goal.returns-in-Ok-begin
returns-in-Ok-begin c =
    let found = c.in-Ok-recover_of.found.0 in
    let schema : c.in-Ok-declare.schema ≡ numbered found.layout.objects found.guards =
    c.in-Ok-declare.ensures.ok ∙ ap (λ (l : Layout). numbered l.objects c.guards.result.now) c.layout.ensures.layout ∙ ap (λ (r : List GuardRow). numbered found.layout.objects r) c.guards.ensures.guards in
    record {
      found = found;
      taken = subst (λ (m : Memory). IsTooOld c.args.versions (device_of m).now.bytes → ⊥) c.in-Ok.ensures.disk c.in-Ok-recover_of.ensures.taken;
      recovery = subst (λ (d : Device). IsRecovery d (hosted_device found.disk) found c.in-Ok-recover_of.found.1)
          (device_is c.in-Ok.disk c.in-Ok-begin.heap.calls c.args.bytes.now c.in-Ok.ensures.disk (c.in-Ok.ensures.host.2 ∙ ap host_name (sym c.in-Ok-begin.ensures.calls))) c.in-Ok-recover_of.ensures.ok;
      any_moment = subst (λ (d : Device). (s : Study) → IsStudyOf d.now.bytes s → LeavesOnly (synced d) (hosted_device found.disk) (IsOnTheWay s))
          (device_is c.in-Ok.disk c.in-Ok-begin.heap.calls c.args.bytes.now c.in-Ok.ensures.disk (c.in-Ok.ensures.host.2 ∙ ap host_name (sym c.in-Ok-begin.ensures.calls))) c.in-Ok-recover_of.ensures.any_moment;
      begun = subst (λ (s : Declarations). HasBegun s (threads_of found.layout.lanes c.args.threads) found c.in-Ok-begin.heap) schema c.in-Ok-begin.ensures.begun;
      rings = c.in-Ok-begin.ensures.rings;
    }
