-- What a crash leaves of a store's run.
use Rattle.std.proofs.Common.{ℕ, length, ⊎_elim, subst, arith}
use Rattle.block_disk.proofs.Images.{left_now}
use Rattle.store_helper_sections.specs.Image.{ShowsCutOf}
use Rattle.image_parts.specs.declared.layout.Layout.{Layout}
use Rattle.store_rounds.proofs.Shown.{shows_more}
use Rattle.heap_model.specs.Past.{applied}
use Rattle.law_running.specs.Runs.{RunShowsLaw}

pub run_shows : RunShowsLaw
run_shows l t s p old new image run left =
    let q = run.now in
    let ran = run.ran in
    ⊎_elim
    (λ was.
    let of_store : ShowsCutOf run.store.layout run.store.threads s (applied p) p.cut image = run.has.images image (left_now old image was) in
    let of_layout : ShowsCutOf l run.store.threads s (applied p) p.cut image =
    subst (λ (k : Layout). ShowsCutOf k run.store.threads s (applied p) p.cut image) run.layout of_store in
    let shown : ShowsCutOf l t s (applied p) p.cut image = subst (λ (n : ℕ). ShowsCutOf l n s (applied p) p.cut image) run.threads of_layout in
    shows_more l t s ran.newer (applied p) (applied q) p.cut p.cut image ran.same (λ lane. omega arith) shown)
    (λ shown. shown)
    (ran.shown.each (length old.past) image (omega arith) left)
