use Rattle.std.proofs.Common.{◌≡◌, ℕ, ◌+◌, ◌<◌, ◌≤◌, List, [], ◌∷◌, length, sym, ◌∙◌, ap, subst, arith, rules}
use Rattle.block_disk.specs.Device.{Device, SameOutside}
use Rattle.disk_sectors.specs.Places.{Matches, sectors_from}
use Rattle.disk_sectors.specs.Size.{place_of, sector}
use Rattle.disk_sectors.proofs.Filling.{filled_settled, matches_all}
use Rattle.disk_sectors.proofs.Sizes.{whole_area}
use Rattle.disk_sectors.proofs.area.fill_area.Goals as goal

pub returns-in_err-settle-clause-matches : goal.returns-in_err-settle-clause-matches
returns-in_err-settle-clause-matches g c =
    subst (λ (xs : List ℕ). Matches c.args.size c.args.first c.args.marks.now c.args.image.now xs) (sym c.settle.ensures.same) c.write_area.ensures.matches

pub returns-in_err-settle-clause-writes_only : goal.returns-in_err-settle-clause-writes_only
returns-in_err-settle-clause-writes_only g c = record {
  size = search rules;
  same =
      let size = c.args.size in
      subst (λ (xs : List ℕ). SameOutside (sectors_from size c.args.first (length c.args.marks.now) ∷ []) (g.S.Sectors.device c.args.sectors.now).now.bytes xs)
      (sym c.settle.ensures.same) c.write_area.ensures.writes_only.same;
  leaves =
      filled_settled (g.S.Sectors.device c.args.sectors.now) (g.S.Sectors.device c.write_area.new.sectors) (g.S.Sectors.device c.settle.new.sectors)
      (sectors_from c.args.size c.args.first (length c.args.marks.now)) c.write_area.ensures.writes_only.leaves c.settle.ensures.any_moment;
}

pub returns-clause-whole : goal.returns-clause-whole
returns-clause-whole g c =
    let size = c.args.size in
    let old = g.S.Sectors.device c.args.sectors.now in
    let mid = g.S.Sectors.device c.write_area.new.sectors in
    let new = g.S.Sectors.device c.settle.new.sectors in
    let same = c.settle.ensures.same in
    let fits : place_of size (c.args.first + length c.args.marks.now) ≤ length new.now.bytes =
    omega (arith, ap (λ (xs : List ℕ). length xs) same, c.write_area.ensures.writes_only.same.size, c.requires.fits) in
    whole_area size c.args.first (length c.args.marks.now) c.args.image.now new.now.bytes c.requires.long fits
    (λ i less. ap (λ (xs : List ℕ). sector size (c.args.first + i) xs) same ∙ c.in_ok-write_area.ensures.all i less)

pub returns-clause-durable : goal.returns-clause-durable
returns-clause-durable g c = ap (λ (d : Device). d.now.pending) c.in_ok-settle.ensures.ok

pub returns-clause-matches : goal.returns-clause-matches
returns-clause-matches g c =
    let size = c.args.size in
    let long : length c.clear.new.self ≡ length c.args.marks.now = c.clear.ensures in
    matches_all size c.args.first c.clear.new.self c.args.image.now (g.S.Sectors.device c.settle.new.sectors).now.bytes
    (λ i less. ap (λ (xs : List ℕ). sector size (c.args.first + i) xs) c.settle.ensures.same ∙ c.in_ok-write_area.ensures.all i (subst (λ (n : ℕ). i < n) long less))

pub returns-clause-writes_only : goal.returns-clause-writes_only
returns-clause-writes_only g c = record {
  size = search rules;
  same =
      let size = c.args.size in
      subst (λ (xs : List ℕ). SameOutside (sectors_from size c.args.first (length c.args.marks.now) ∷ []) (g.S.Sectors.device c.args.sectors.now).now.bytes xs)
      (sym c.settle.ensures.same) c.write_area.ensures.writes_only.same;
  leaves =
      filled_settled (g.S.Sectors.device c.args.sectors.now) (g.S.Sectors.device c.write_area.new.sectors) (g.S.Sectors.device c.settle.new.sectors)
      (sectors_from c.args.size c.args.first (length c.args.marks.now)) c.write_area.ensures.writes_only.leaves c.settle.ensures.any_moment;
}
