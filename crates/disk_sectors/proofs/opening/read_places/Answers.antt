use Rattle.std.proofs.Common.{◌≡◌, ℕ, Bool, false, ◌+◌, ◌≤◌, List, [], length, sym, ◌∙◌, ap, subst, arith}
use Rattle.std.proofs.lemmas.List.{length-replicate}
use Rattle.block_disk.specs.Bytes.{part}
use Rattle.block_disk.specs.Device.{Device}
use Rattle.disk_sectors.specs.Size.{place_of}
use Rattle.disk_sectors.specs.Places.{area, turn_of}
use Rattle.disk_sectors.proofs.Beginnings.{kept_opened, same_fits, same_now, same_pending}
use Rattle.disk_sectors.proofs.Sizes.{area_fits_all, few_count, gate_fits}
use Rattle.disk_sectors.proofs.opening.read_places.Goals as goal

pub read_gate-requires-clause-fits : goal.read_gate-requires-clause-fits
read_gate-requires-clause-fits g c =
    let old = g.S.Sectors.device c.args.sectors.now in
    let mid = g.S.Sectors.device c.settle.new.sectors in
    gate_fits c.args.size c.args.count (length mid.now.bytes)
    (same_fits old mid (place_of c.args.size (c.args.count + c.args.count + 2)) c.settle.ensures.same c.requires.fits)

pub first_of-first-requires : goal.first_of-first-requires
first_of-first-requires g c =
    let old = g.S.Sectors.device c.args.sectors.now in
    let mid = g.S.Sectors.device c.settle.new.sectors in
    let late = g.S.Sectors.device c.read_gate.new.sectors in
    let same : late.now.bytes ≡ old.now.bytes = same_now mid late c.read_gate.ensures.reads_only.same ∙ c.settle.ensures.same in
    let few = few_count c.args.size c.args.count (length late.now.bytes)
    (same_fits old late (place_of c.args.size (c.args.count + c.args.count + 2)) same c.requires.fits) in
    omega (arith, few)

pub read_area-requires-clause-fits : goal.read_area-requires-clause-fits
read_area-requires-clause-fits g c =
    let old = g.S.Sectors.device c.args.sectors.now in
    let mid = g.S.Sectors.device c.settle.new.sectors in
    let late = g.S.Sectors.device c.read_gate.new.sectors in
    let same : late.now.bytes ≡ old.now.bytes = same_now mid late c.read_gate.ensures.reads_only.same ∙ c.settle.ensures.same in
    subst (λ (f : ℕ). place_of c.args.size (f + c.args.count) ≤ length late.now.bytes) (sym c.first_of-first.ensures)
    (area_fits_all c.args.size c.args.count c.in_ok-turn.turn (length late.now.bytes)
    (same_fits old late (place_of c.args.size (c.args.count + c.args.count + 2)) same c.requires.fits))

pub returns-clause-image : goal.returns-clause-image
returns-clause-image g c =
    let old = g.S.Sectors.device c.args.sectors.now in
    let mid = g.S.Sectors.device c.settle.new.sectors in
    let late = g.S.Sectors.device c.read_gate.new.sectors in
    let same : late.now.bytes ≡ old.now.bytes = same_now mid late c.read_gate.ensures.reads_only.same ∙ c.settle.ensures.same in
    let turn : c.in_ok-turn.turn ≡ turn_of c.args.size old.now.bytes = c.in_ok-turn.ensures.turn ∙ ap (λ (xs : List ℕ). turn_of c.args.size xs) c.settle.ensures.same in
    c.in_ok-image.ensures.area
    ∙ ap (λ (f : ℕ). part (place_of c.args.size f) (place_of c.args.size c.args.count) late.now.bytes) c.first_of-first.ensures
    ∙ ap (λ (t : Bool). area c.args.size c.args.count t late.now.bytes) turn
    ∙ ap (λ (xs : List ℕ). area c.args.size c.args.count (turn_of c.args.size old.now.bytes) xs) same

pub returns-clause-count : goal.returns-clause-count
returns-clause-count g c = ap (λ (xs : List Bool). length xs) c.in_ok-fresh.ensures ∙ length-replicate c.args.count false

pub returns-clause-kept : goal.returns-clause-kept
returns-clause-kept g c =
    let old = g.S.Sectors.device c.args.sectors.now in
    let mid = g.S.Sectors.device c.settle.new.sectors in
    let late = g.S.Sectors.device c.read_gate.new.sectors in
    let new = g.S.Sectors.device c.read_area.new.sectors in
    let pending : mid.now.pending ≡ [] = ap (λ (d : Device). d.now.pending) c.in-Ok.ensures.ok in
    let same : new.now.bytes ≡ late.now.bytes = same_now late new c.read_area.ensures.reads_only.same in
    let before : late.now.bytes ≡ mid.now.bytes = same_now mid late c.read_gate.ensures.reads_only.same in
    let turn : c.in_ok-turn.turn ≡ turn_of c.args.size new.now.bytes =
    c.in_ok-turn.ensures.turn ∙ ap (λ (xs : List ℕ). turn_of c.args.size xs) (sym (same ∙ before)) in
    let image : c.in_ok-image.image.items ≡ area c.args.size c.args.count c.in_ok-turn.turn new.now.bytes =
    c.in_ok-image.ensures.area
    ∙ ap (λ (f : ℕ). part (place_of c.args.size f) (place_of c.args.size c.args.count) late.now.bytes) c.first_of-first.ensures
    ∙ ap (λ (xs : List ℕ). area c.args.size c.args.count c.in_ok-turn.turn xs) (sym same) in
    kept_opened c.args.size c.args.count c.in_ok-turn.turn c.in_ok-fresh.fresh c.in_ok-stale.stale c.in_ok-image.image.items new
    (same_pending late new c.read_area.ensures.reads_only.same (same_pending mid late c.read_gate.ensures.reads_only.same pending))
    (same_fits old new (place_of c.args.size (c.args.count + c.args.count + 2)) (same ∙ before ∙ c.settle.ensures.same) c.requires.fits)
    turn image c.in_ok-fresh.ensures c.in_ok-stale.ensures
