use Rattle.std.proofs.Common.{Bool, [], ◌∷◌, subst, rules}
use Rattle.block_disk.specs.Images.{Always, ImageBut}
use Rattle.block_disk.proofs.Images.{begin}
use Rattle.block_disk.proofs.Ranges.{outside_refl}
use Rattle.disk_sectors.specs.Places.{Holds, Shows, one_sector}
use Rattle.disk_sectors.proofs.gate.confirm.Goals as goal

pub returns-then-is_firm-clause-writes_only : goal.returns-then-is_firm-clause-writes_only
returns-then-is_firm-clause-writes_only g c = record {
  size = search rules;
  same = outside_refl (one_sector c.args.size 1 ∷ []) (g.S.Sectors.device c.args.sectors.now).now.bytes;
  leaves =
      let old = g.S.Sectors.device c.args.sectors.now in
      begin old (ImageBut old (one_sector c.args.size 1 ∷ []));
}

pub returns-then-is_firm-clause-crash : goal.returns-then-is_firm-clause-crash
returns-then-is_firm-clause-crash g c = λ count label m always. always

pub returns-then-is_firm-clause-any_moment : goal.returns-then-is_firm-clause-any_moment
returns-then-is_firm-clause-any_moment g c = λ count label m always.
    begin (g.S.Sectors.device c.args.sectors.now) (Shows c.args.size count label m)

pub returns-clause-crash : goal.returns-clause-crash
returns-clause-crash g c = λ count label m always.
    let size = c.args.size in
    let old = g.S.Sectors.device c.args.sectors.now in
    c.turn_gate.ensures.crash count label m (subst (λ (f : Bool). Always old (Holds size count f c.args.gate.now.turn label m)) c.if-is_firm.false always)

pub returns-clause-any_moment : goal.returns-clause-any_moment
returns-clause-any_moment g c = λ count label m always.
    let size = c.args.size in
    let old = g.S.Sectors.device c.args.sectors.now in
    c.turn_gate.ensures.any_moment count label m (subst (λ (f : Bool). Always old (Holds size count f c.args.gate.now.turn label m)) c.if-is_firm.false always)
