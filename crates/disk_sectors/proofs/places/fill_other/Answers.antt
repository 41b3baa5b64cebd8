use Rattle.std.proofs.Common.{◌≡◌, ℕ, Bool, not, length, refl, sym, ◌∙◌, ap, subst, arith, rules}
use Rattle.block_disk.specs.Images.{Always}
use Rattle.disk_sectors.specs.Places.{Holds, first_sector}
use Rattle.disk_sectors.specs.Size.{place_of}
use Rattle.disk_sectors.proofs.Laying.{among_area, leaves_area}
use Rattle.disk_sectors.proofs.Sizes.{few_count}
use Rattle.disk_sectors.proofs.TwoAreas.{leaves_filled, made_ready, other_fits, other_matches, reads_filled, reads_turned, whole_filled}
use Rattle.disk_sectors.proofs.places.fill_other.Goals as goal

pub first_of-first-requires : goal.first_of-first-requires
first_of-first-requires g c =
    let size = c.args.size in
    let few = few_count size (length c.args.fresh.now) (length (g.S.Sectors.device c.args.sectors.now).now.bytes) c.requires.reads.fits in
    omega (arith, few, c.requires.count)

pub fill_area-requires-clause-long : goal.fill_area-requires-clause-long
fill_area-requires-clause-long g c =
    let size = c.args.size in
    c.requires.reads.long ∙ ap (place_of size) (sym c.requires.count)

pub fill_area-requires-clause-fits : goal.fill_area-requires-clause-fits
fill_area-requires-clause-fits g c =
    let size = c.args.size in
    let first : c.first_of-first.result ≡ first_sector (length c.args.fresh.now) (not c.args.gate.now.turn) =
    c.first_of-first.ensures ∙ ap (λ (n : ℕ). first_sector n (not c.args.gate.now.turn)) (c.count-count.ensures ∙ c.requires.count) in
    other_fits size (length c.args.fresh.now) c.args.gate.now.turn c.args.fresh.now c.args.stale.now c.args.image.now (g.S.Sectors.device c.args.sectors.now).now.bytes c.first_of-first.result
    first c.requires.count c.requires.reads

pub fill_area-requires-clause-matches : goal.fill_area-requires-clause-matches
fill_area-requires-clause-matches g c =
    let size = c.args.size in
    let first : c.first_of-first.result ≡ first_sector (length c.args.fresh.now) (not c.args.gate.now.turn) =
    c.first_of-first.ensures ∙ ap (λ (n : ℕ). first_sector n (not c.args.gate.now.turn)) (c.count-count.ensures ∙ c.requires.count) in
    other_matches size (length c.args.fresh.now) c.args.gate.now.turn c.args.fresh.now c.args.stale.now c.args.image.now (g.S.Sectors.device c.args.sectors.now).now.bytes c.first_of-first.result
    first c.requires.reads

pub returns-in_err-fill_area-clause-reads : goal.returns-in_err-fill_area-clause-reads
returns-in_err-fill_area-clause-reads g c =
    let size = c.args.size in
    let first : c.first_of-first.result ≡ first_sector (length c.args.fresh.now) (not c.args.gate.now.turn) =
    c.first_of-first.ensures ∙ ap (λ (n : ℕ). first_sector n (not c.args.gate.now.turn)) (c.count-count.ensures ∙ c.requires.count) in
    reads_filled size (length c.args.fresh.now) c.args.gate.now.turn c.args.fresh.now c.args.stale.now c.fill_area.new.marks c.args.image.now
    (g.S.Sectors.device c.args.sectors.now).now.bytes (g.S.Sectors.device c.fill_area.new.sectors).now.bytes c.first_of-first.result first refl c.requires.count
    c.fill_area.ensures.writes_only.same c.fill_area.ensures.matches c.requires.reads

pub returns-in_err-fill_area-clause-crash : goal.returns-in_err-fill_area-clause-crash
returns-in_err-fill_area-clause-crash g c = λ label m bytes always.
    let size = c.args.size in
    let count = length c.args.fresh.now in
    let turn = c.args.gate.now.turn in
    let new = g.S.Sectors.device c.fill_area.new.sectors in
    let first : c.first_of-first.result ≡ first_sector (length c.args.fresh.now) (not c.args.gate.now.turn) =
    c.first_of-first.ensures ∙ ap (λ (n : ℕ). first_sector n (not c.args.gate.now.turn)) (c.count-count.ensures ∙ c.requires.count) in
    let kept = leaves_filled size count turn label m (g.S.Sectors.device c.args.sectors.now) new c.first_of-first.result (length c.args.stale.now) first c.requires.count c.fill_area.ensures.writes_only.leaves always in
    subst (λ (f : Bool). Always new (Holds size count f turn label m)) (sym c.requires.firm) kept.1

pub returns-in_err-fill_area-clause-any_moment : goal.returns-in_err-fill_area-clause-any_moment
returns-in_err-fill_area-clause-any_moment g c = λ label m always.
    let size = c.args.size in
    let first : c.first_of-first.result ≡ first_sector (length c.args.fresh.now) (not c.args.gate.now.turn) =
    c.first_of-first.ensures ∙ ap (λ (n : ℕ). first_sector n (not c.args.gate.now.turn)) (c.count-count.ensures ∙ c.requires.count) in
    (leaves_filled size (length c.args.fresh.now) c.args.gate.now.turn label m (g.S.Sectors.device c.args.sectors.now) (g.S.Sectors.device c.fill_area.new.sectors) c.first_of-first.result
    (length c.args.stale.now) first c.requires.count c.fill_area.ensures.writes_only.leaves always).0

pub returns-in_err-fill_area-clause-writes_only : goal.returns-in_err-fill_area-clause-writes_only
returns-in_err-fill_area-clause-writes_only g c = record {
  size = search rules;
  same =
      let first : c.first_of-first.result ≡ first_sector (length c.args.fresh.now) (not c.args.gate.now.turn) =
      c.first_of-first.ensures ∙ ap (λ (n : ℕ). first_sector n (not c.args.gate.now.turn)) (c.count-count.ensures ∙ c.requires.count) in
      among_area c.args.size (length c.args.fresh.now) (not c.args.gate.now.turn) c.first_of-first.result (length c.args.stale.now) (g.S.Sectors.device c.args.sectors.now).now.bytes
      (g.S.Sectors.device c.fill_area.new.sectors).now.bytes first c.requires.count c.fill_area.ensures.writes_only.same;
  leaves =
      let first : c.first_of-first.result ≡ first_sector (length c.args.fresh.now) (not c.args.gate.now.turn) =
      c.first_of-first.ensures ∙ ap (λ (n : ℕ). first_sector n (not c.args.gate.now.turn)) (c.count-count.ensures ∙ c.requires.count) in
      leaves_area c.args.size (length c.args.fresh.now) (not c.args.gate.now.turn) c.first_of-first.result (length c.args.stale.now) (g.S.Sectors.device c.args.sectors.now)
      (g.S.Sectors.device c.fill_area.new.sectors) first c.requires.count c.fill_area.ensures.writes_only.leaves;
}

pub returns-clause-count : goal.returns-clause-count
returns-clause-count g c = rw (c.swap.ensures.x_after, c.swap.ensures.y_after) (c.fill_area.ensures.count ∙ c.requires.count, refl)

pub returns-clause-whole : goal.returns-clause-whole
returns-clause-whole g c =
    let size = c.args.size in
    let first : c.first_of-first.result ≡ first_sector (length c.args.fresh.now) (not c.args.gate.now.turn) =
    c.first_of-first.ensures ∙ ap (λ (n : ℕ). first_sector n (not c.args.gate.now.turn)) (c.count-count.ensures ∙ c.requires.count) in
    whole_filled size (length c.args.fresh.now) (not c.args.gate.now.turn) c.args.image.now (g.S.Sectors.device c.fill_area.new.sectors).now.bytes c.first_of-first.result (length c.args.stale.now)
    first c.requires.count c.in_ok-fill_area.ensures.whole

pub returns-clause-reads : goal.returns-clause-reads
returns-clause-reads g c =
    let size = c.args.size in
    let count = length c.args.fresh.now in
    let turn = c.args.gate.now.turn in
    let on = (g.S.Sectors.device c.fill_area.new.sectors).now.bytes in
    let first : c.first_of-first.result ≡ first_sector (length c.args.fresh.now) (not c.args.gate.now.turn) =
    c.first_of-first.ensures ∙ ap (λ (n : ℕ). first_sector n (not c.args.gate.now.turn)) (c.count-count.ensures ∙ c.requires.count) in
    rw (c.swap.ensures.x_after, c.swap.ensures.y_after)
    (reads_turned size count turn c.args.fresh.now c.fill_area.new.marks c.args.image.now on
    (reads_filled size count turn c.args.fresh.now c.args.stale.now c.fill_area.new.marks c.args.image.now (g.S.Sectors.device c.args.sectors.now).now.bytes on c.first_of-first.result first refl
    c.requires.count c.fill_area.ensures.writes_only.same c.fill_area.ensures.matches c.requires.reads))

pub returns-clause-crash : goal.returns-clause-crash
returns-clause-crash g c = λ label m bytes always.
    let size = c.args.size in
    let count = length c.args.fresh.now in
    let turn = c.args.gate.now.turn in
    let new = g.S.Sectors.device c.fill_area.new.sectors in
    let first : c.first_of-first.result ≡ first_sector (length c.args.fresh.now) (not c.args.gate.now.turn) =
    c.first_of-first.ensures ∙ ap (λ (n : ℕ). first_sector n (not c.args.gate.now.turn)) (c.count-count.ensures ∙ c.requires.count) in
    let kept = leaves_filled size count turn label m (g.S.Sectors.device c.args.sectors.now) new c.first_of-first.result (length c.args.stale.now) first c.requires.count c.fill_area.ensures.writes_only.leaves always in
    let whole = whole_filled size count (not turn) c.args.image.now new.now.bytes c.first_of-first.result (length c.args.stale.now) first c.requires.count c.in_ok-fill_area.ensures.whole in
    made_ready size count turn label m new c.in_ok-fill_area.ensures.durable (whole ∙ sym bytes) kept.1

pub returns-clause-any_moment : goal.returns-clause-any_moment
returns-clause-any_moment g c = λ label m always.
    let size = c.args.size in
    let first : c.first_of-first.result ≡ first_sector (length c.args.fresh.now) (not c.args.gate.now.turn) =
    c.first_of-first.ensures ∙ ap (λ (n : ℕ). first_sector n (not c.args.gate.now.turn)) (c.count-count.ensures ∙ c.requires.count) in
    (leaves_filled size (length c.args.fresh.now) c.args.gate.now.turn label m (g.S.Sectors.device c.args.sectors.now) (g.S.Sectors.device c.fill_area.new.sectors) c.first_of-first.result
    (length c.args.stale.now) first c.requires.count c.fill_area.ensures.writes_only.leaves always).0

pub returns-clause-writes_only : goal.returns-clause-writes_only
returns-clause-writes_only g c = record {
  size = search rules;
  same =
      let first : c.first_of-first.result ≡ first_sector (length c.args.fresh.now) (not c.args.gate.now.turn) =
      c.first_of-first.ensures ∙ ap (λ (n : ℕ). first_sector n (not c.args.gate.now.turn)) (c.count-count.ensures ∙ c.requires.count) in
      among_area c.args.size (length c.args.fresh.now) (not c.args.gate.now.turn) c.first_of-first.result (length c.args.stale.now) (g.S.Sectors.device c.args.sectors.now).now.bytes
      (g.S.Sectors.device c.fill_area.new.sectors).now.bytes first c.requires.count c.fill_area.ensures.writes_only.same;
  leaves =
      let first : c.first_of-first.result ≡ first_sector (length c.args.fresh.now) (not c.args.gate.now.turn) =
      c.first_of-first.ensures ∙ ap (λ (n : ℕ). first_sector n (not c.args.gate.now.turn)) (c.count-count.ensures ∙ c.requires.count) in
      leaves_area c.args.size (length c.args.fresh.now) (not c.args.gate.now.turn) c.first_of-first.result (length c.args.stale.now) (g.S.Sectors.device c.args.sectors.now)
      (g.S.Sectors.device c.fill_area.new.sectors) first c.requires.count c.fill_area.ensures.writes_only.leaves;
}
