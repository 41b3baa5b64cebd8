use Rattle.std.proofs.Common.{ℕ, false, sym, subst}
use Rattle.image_file.specs.Formatting.{IsImageFor, StaysOrIsMade}
use Rattle.disk_sector_file.specs.declared.image_kind.ImageKind.TheVariants.{Plain}
use Rattle.image_file.specs.declared.new_image.NewImage.{NewImage}
use Rattle.store_image.specs.Formatting.{AreLimits}
use Rattle.thread_files.specs.declared.plan.FilePlan.{FilePlan}
use Rattle.thread_files.proofs.files.made_at.Goals as goal

-- one with so many lanes
abbrev with_lanes : FilePlan → (lanes : ℕ) → NewImage
with_lanes plan n = record { lanes = n; capacity = plan.lane_records; kind = Plain; is_kept = false }

pub returns-in-Ok-clause-ok : goal.returns-in-Ok-clause-ok
returns-in-Ok-clause-ok g c = (
  c.in-Ok.field-0-1,
  subst (λ (n : ℕ). IsImageFor c.args.schema.now (with_lanes c.args.plan n) c.in-Ok.field-0-1 (g.D.Disk.device c.in-Ok.disk)) c.lanes_for.ensures.lanes c.in-Ok.ensures.ok,
)

pub returns-in-Err-clause-refused : goal.returns-in-Err-clause-refused
returns-in-Err-clause-refused g c = record {
  numbers = λ before limits. (c.in-Err.ensures.bad_header before).1 (subst (λ (n : ℕ). AreLimits n c.args.plan.lane_records) (sym c.lanes_for.ensures.lanes) limits);
  left = subst (λ (n : ℕ). StaysOrIsMade c.args.schema.now (with_lanes c.args.plan n) (g.P.Images.holds c.args.images.now c.args.path.now) (g.P.Images.holds c.make_image.new.images c.args.path.now)) c.lanes_for.ensures.lanes c.in-Err.ensures.kept;
}
