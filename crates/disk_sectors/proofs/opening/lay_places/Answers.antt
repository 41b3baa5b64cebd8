use Rattle.std.proofs.Common.{◌≡◌, ℕ, Bool, true, false, ◌+◌, ◌≤◌, List, [], ◌∷◌, length, sym, ◌∙◌, ap, subst, arith}
use Rattle.std.proofs.lemmas.List.{length-replicate}
use Rattle.std.proofs.lemmas.Result.{on_ok_weaker}
use Rattle.block_disk.specs.Bytes.{part}
use Rattle.block_disk.proofs.Ranges.{outside_trans}
use Rattle.disk_sectors.specs.Size.{place_of}
use Rattle.disk_sectors.specs.Places.{area, sectors_from}
use Rattle.disk_sectors.proofs.Beginnings.{all_marked}
use Rattle.disk_sectors.proofs.Laying.{among_first, among_gate, among_label, kept_laid}
use Rattle.disk_sectors.proofs.Sizes.{area_fits_all, gate_fits}
use Rattle.disk_sectors.proofs.opening.lay_places.Goals as goal

pub put_label-requires-clause-fits : goal.put_label-requires-clause-fits
put_label-requires-clause-fits g c = gate_fits c.args.size c.args.count (length (g.S.Sectors.device c.args.sectors.now).now.bytes) c.requires.fits

pub fill_area-requires-clause-long : goal.fill_area-requires-clause-long
fill_area-requires-clause-long g c =
    let many : length c.args.fresh.now ≡ c.args.count = ap (λ (xs : List Bool). length xs) c.requires.fresh ∙ length-replicate c.args.count true in
    c.requires.long ∙ ap (λ (n : ℕ). place_of c.args.size n) (sym many)

pub fill_area-requires-clause-fits : goal.fill_area-requires-clause-fits
fill_area-requires-clause-fits g c =
    let n = length (g.S.Sectors.device c.put_label.new.sectors).now.bytes in
    let many : length c.args.fresh.now ≡ c.args.count = ap (λ (xs : List Bool). length xs) c.requires.fresh ∙ length-replicate c.args.count true in
    let fits : place_of c.args.size (c.args.count + c.args.count + 2) ≤ n = omega (arith, c.requires.fits, c.put_label.ensures.same.size) in
    subst (λ (k : ℕ). place_of c.args.size (2 + k) ≤ n) (sym many) (area_fits_all c.args.size c.args.count false n fits)

pub fill_area-requires-clause-matches : goal.fill_area-requires-clause-matches
fill_area-requires-clause-matches g c =
    all_marked c.args.size 2 c.args.count c.args.fresh.now c.args.image.now (g.S.Sectors.device c.put_label.new.sectors).now.bytes c.requires.fresh

pub put_gate-requires-clause-fits : goal.put_gate-requires-clause-fits
put_gate-requires-clause-fits g c =
    let fits = gate_fits c.args.size c.args.count (length (g.S.Sectors.device c.args.sectors.now).now.bytes) c.requires.fits in
    omega (arith, fits, c.put_label.ensures.same.size, c.fill_area.ensures.writes_only.same.size)

pub put_label-requires-2-clause-fits : goal.put_label-requires-2-clause-fits
put_label-requires-2-clause-fits g c =
    let fits = gate_fits c.args.size c.args.count (length (g.S.Sectors.device c.args.sectors.now).now.bytes) c.requires.fits in
    omega (arith, fits, c.put_label.ensures.same.size, c.fill_area.ensures.writes_only.same.size, c.put_gate.ensures.writes_only.same.size)

pub returns-in_err-put_label-clause-count : goal.returns-in_err-put_label-clause-count
returns-in_err-put_label-clause-count g c = ap (λ (xs : List Bool). length xs) c.requires.fresh ∙ length-replicate c.args.count true

pub returns-in_err-put_label-clause-beyond : goal.returns-in_err-put_label-clause-beyond
returns-in_err-put_label-clause-beyond g c =
    among_label c.args.size c.args.count (g.S.Sectors.device c.args.sectors.now).now.bytes (g.S.Sectors.device c.put_label.new.sectors).now.bytes c.put_label.ensures.same

pub returns-in_err-fill_area-clause-count : goal.returns-in_err-fill_area-clause-count
returns-in_err-fill_area-clause-count g c =
    c.fill_area.ensures.count ∙ ap (λ (xs : List Bool). length xs) c.requires.fresh ∙ length-replicate c.args.count true

pub returns-in_err-fill_area-clause-beyond : goal.returns-in_err-fill_area-clause-beyond
returns-in_err-fill_area-clause-beyond g c =
    let many : length c.args.fresh.now ≡ c.args.count = ap (λ (xs : List Bool). length xs) c.requires.fresh ∙ length-replicate c.args.count true in
    let all = sectors_from c.args.size 0 (c.args.count + c.args.count + 2) ∷ [] in
    let a = (g.S.Sectors.device c.args.sectors.now).now.bytes in
    let b = (g.S.Sectors.device c.put_label.new.sectors).now.bytes in
    let d = (g.S.Sectors.device c.fill_area.new.sectors).now.bytes in
    outside_trans all a b d (among_label c.args.size c.args.count a b c.put_label.ensures.same) (among_first c.args.size c.args.count (length c.args.fresh.now) b d many c.fill_area.ensures.writes_only.same)

pub returns-in_err-put_gate-clause-count : goal.returns-in_err-put_gate-clause-count
returns-in_err-put_gate-clause-count g c =
    c.fill_area.ensures.count ∙ ap (λ (xs : List Bool). length xs) c.requires.fresh ∙ length-replicate c.args.count true

pub returns-in_err-put_gate-clause-beyond : goal.returns-in_err-put_gate-clause-beyond
returns-in_err-put_gate-clause-beyond g c =
    let many : length c.args.fresh.now ≡ c.args.count = ap (λ (xs : List Bool). length xs) c.requires.fresh ∙ length-replicate c.args.count true in
    let all = sectors_from c.args.size 0 (c.args.count + c.args.count + 2) ∷ [] in
    let a = (g.S.Sectors.device c.args.sectors.now).now.bytes in
    let b = (g.S.Sectors.device c.put_label.new.sectors).now.bytes in
    let d = (g.S.Sectors.device c.fill_area.new.sectors).now.bytes in
    let e = (g.S.Sectors.device c.put_gate.new.sectors).now.bytes in
    outside_trans all a b e (among_label c.args.size c.args.count a b c.put_label.ensures.same)
    (outside_trans all b d e (among_first c.args.size c.args.count (length c.args.fresh.now) b d many c.fill_area.ensures.writes_only.same) (among_gate c.args.size c.args.count d e c.put_gate.ensures.writes_only.same))

pub returns-clause-count : goal.returns-clause-count
returns-clause-count g c =
    c.fill_area.ensures.count ∙ ap (λ (xs : List Bool). length xs) c.requires.fresh ∙ length-replicate c.args.count true

pub returns-clause-beyond : goal.returns-clause-beyond
returns-clause-beyond g c =
    let many : length c.args.fresh.now ≡ c.args.count = ap (λ (xs : List Bool). length xs) c.requires.fresh ∙ length-replicate c.args.count true in
    let all = sectors_from c.args.size 0 (c.args.count + c.args.count + 2) ∷ [] in
    let a = (g.S.Sectors.device c.args.sectors.now).now.bytes in
    let b = (g.S.Sectors.device c.put_label.new.sectors).now.bytes in
    let d = (g.S.Sectors.device c.fill_area.new.sectors).now.bytes in
    let e = (g.S.Sectors.device c.put_gate.new.sectors).now.bytes in
    let f = (g.S.Sectors.device c.put_label-2.new.sectors).now.bytes in
    outside_trans all a b f (among_label c.args.size c.args.count a b c.put_label.ensures.same)
    (outside_trans all b d f (among_first c.args.size c.args.count (length c.args.fresh.now) b d many c.fill_area.ensures.writes_only.same)
    (outside_trans all d e f (among_gate c.args.size c.args.count d e c.put_gate.ensures.writes_only.same) (among_label c.args.size c.args.count e f c.put_label-2.ensures.same)))

pub returns-clause-kept : goal.returns-clause-kept
returns-clause-kept g c =
    let size = c.args.size in
    let count = c.args.count in
    let many : length c.args.fresh.now ≡ count = ap (λ (xs : List Bool). length xs) c.requires.fresh ∙ length-replicate count true in
    let filled = g.S.Sectors.device c.fill_area.new.sectors in
    let fits : place_of size (count + count + 2) ≤ length filled.now.bytes = omega (arith, c.requires.fits, c.put_label.ensures.same.size, c.fill_area.ensures.writes_only.same.size) in
    let whole : area size count false filled.now.bytes ≡ c.args.image.now =
    subst (λ (n : ℕ). part (place_of size 2) (place_of size n) filled.now.bytes ≡ c.args.image.now) many c.in_ok-fill_area.ensures.whole in
    on_ok_weaker c.put_label-2.result
    (λ durable. kept_laid size count c.fill_area.new.marks c.args.stale.now c.args.image.now filled (g.S.Sectors.device c.put_gate.new.sectors) (g.S.Sectors.device c.put_label-2.new.sectors)
    durable fits c.put_gate.ensures.writes_only.same c.in_ok-put_gate.ensures.turned c.put_label-2.ensures.same whole (c.fill_area.ensures.count ∙ many) c.requires.stale c.fill_area.ensures.matches)
    c.put_label-2.ensures.durable
