use Rattle.std.proofs.Common.{ℕ, ◌≡◌, ◌∙◌, ap, length, replicate, subst, sym}
use Rattle.std.proofs.lemmas.List.{length-replicate}
use Rattle.block_disk.specs.Device.{Device}
use Rattle.block_disk.specs.Memory.{device_of, fresh}
use Rattle.image_parts.specs.Layout.{size_of}
use Rattle.store_image.specs.Formatting.{layout_with}
use Rattle.thread_drive.specs.Driven.{HasDriven, blank_device}
use Rattle.thread_drive.specs.Refusals.{RefusesWith}
use Rattle.thread_drive.specs.Schemas.{schema_of}
use Rattle.thread_drive.specs.declared.driven.Driven.{Driven}
use Rattle.thread_drive.specs.declared.error.DriveError.{DriveError}
use Rattle.thread_drive.proofs.Refused.{new_with}
use Rattle.thread_drive.proofs.devices.drive_with.Goals as goal

pub returns-in-Ok-drive_new-clause-ok : goal.returns-in-Ok-drive_new-clause-ok
returns-in-Ok-drive_new-clause-ok g c =
    let now = c.in-Ok-drive_new.done.0 in
    let workers = c.args.workers in
    let blank : device_of c.in-Ok.disk ≡ blank_device workers = ap device_of c.in-Ok.ensures ∙ ap (λ (n : ℕ). device_of (fresh (replicate n 0))) c.in_ok-size.ensures.ok in (
      now,
      subst (λ (d : Driven). HasDriven device_of workers (blank_device workers) now d) (sym c.driven_of.ensures)
          (subst (λ (d : Device). HasDriven device_of workers d now c.in-Ok-drive_new.done.1) blank c.in-Ok-drive_new.ensures.ok),
    )

pub returns-in-Err-clause-refused : goal.returns-in-Err-clause-refused
returns-in-Err-clause-refused g c =
    let workers = c.args.workers in
    let back = c.in-Err.back in
    let blank : device_of c.in-Ok.disk ≡ blank_device workers = ap device_of c.in-Ok.ensures ∙ ap (λ (n : ℕ). device_of (fresh (replicate n 0))) c.in_ok-size.ensures.ok in
    let size : length (device_of c.in-Ok.disk).now.bytes ≡ size_of (layout_with (schema_of workers) workers 4000) = ap (λ (d : Device). length d.now.bytes) blank ∙ length-replicate (size_of (layout_with (schema_of workers) workers 4000)) 0 in
    subst (λ (e : DriveError). RefusesWith device_of workers e) (sym c.refusal_of.ensures) (new_with device_of workers (device_of c.in-Ok.disk) (device_of back.0) back.1 blank size c.in-Err.ensures.refused)
