use Rattle.std.proofs.Common.{ℕ, List, [], ◌∷◌, sym, ◌∙◌, ap, subst, rules}
use Rattle.std.proofs.lemmas.Result.{on_ok_weaker}
use Rattle.block_disk.specs.Device.{SameOutside}
use Rattle.disk_sectors.specs.Places.{one_sector, turn_of}
use Rattle.disk_sectors.proofs.Filling.{filled_settled}
use Rattle.disk_sectors.proofs.gate.put_gate_once.Goals as goal

pub returns-clause-turned : goal.returns-clause-turned
returns-clause-turned g c =
    on_ok_weaker c.settle.result (λ ok. ap (λ (xs : List ℕ). turn_of c.args.size xs) c.settle.ensures.same ∙ c.in_ok-say_gate.ensures.turned) c.settle.ensures.ok

pub returns-clause-writes_only : goal.returns-clause-writes_only
returns-clause-writes_only g c = record {
  size = search rules;
  same =
      let size = c.args.size in
      subst (λ (xs : List ℕ). SameOutside (one_sector size 1 ∷ []) (g.S.Sectors.device c.args.sectors.now).now.bytes xs) (sym c.settle.ensures.same) c.say_gate.ensures.writes_only.same;
  leaves =
      let size = c.args.size in
      filled_settled (g.S.Sectors.device c.args.sectors.now) (g.S.Sectors.device c.say_gate.new.sectors) (g.S.Sectors.device c.settle.new.sectors) (one_sector size 1)
      c.say_gate.ensures.writes_only.leaves c.settle.ensures.any_moment;
}
