use Rattle.std.proofs.Common.{◌≡◌, Err, refl, ap}
use Rattle.image_parts.specs.declared.error.ImageError.TheVariants.{Fault}
use Rattle.store_image.proofs.GoingHome.{home_leaves, home_shows, home_always, home_done, home_up_to}
use Rattle.store_image.proofs.home.write_home.Goals as goal

pub returns-in-Ok : goal.returns-in-Ok
returns-in-Ok g c =
    let l = c.args.layout.now in
    let d = g.D.Disk.device c.args.disk.now in
    let e = g.D.Disk.device c.put_cell.new.disk in
    let left = c.put_cell.ensures.any_moment in
    record {
      ok = λ s p committed may. home_done l s p committed d c.args.field.0 c.args.value may e left c.in-Ok.ensures.written c.in-Ok.ensures.ok;
      only_fault = tt;
      any_moment = λ s p committed may. home_leaves l s p committed d c.args.field.0 c.args.value may e left;
      shown = λ s p committed may. home_shows l s p committed d c.args.field.0 c.args.value may e left;
      any_sequence = λ s p committed may. home_up_to l s p committed d c.args.field.0 c.args.value may e left;
      within = left;
      crash = λ s p committed may. home_always l s p committed d c.args.field.0 c.args.value may e left;
      cause = record { later = c.put_cell.ensures.cause.later; failed = λ is. absurd cc };
    }

pub returns-in-Err : goal.returns-in-Err
returns-in-Err g c =
    let l = c.args.layout.now in
    let d = g.D.Disk.device c.args.disk.now in
    let e = g.D.Disk.device c.put_cell.new.disk in
    let left = c.put_cell.ensures.any_moment in
    record {
      ok = λ s p committed may. tt;
      only_fault = refl;
      any_moment = λ s p committed may. home_leaves l s p committed d c.args.field.0 c.args.value may e left;
      shown = λ s p committed may. home_shows l s p committed d c.args.field.0 c.args.value may e left;
      any_sequence = λ s p committed may. home_up_to l s p committed d c.args.field.0 c.args.value may e left;
      within = left;
      crash = λ s p committed may. home_always l s p committed d c.args.field.0 c.args.value may e left;
      cause = record { later = c.put_cell.ensures.cause.later; failed = λ is. c.in-Err.ensures.cause.failed (ap Err c.in-Err.ensures.only_fault) };
    }
