use Rattle.std.proofs.Common.{[], ◌∷◌, arith, rules}
use Rattle.block_disk.proofs.Ranges.{outside_trans}
use Rattle.disk_sectors.specs.Places.{one_sector}
use Rattle.disk_sectors.proofs.Sizes.{leaves_then}
use Rattle.disk_sectors.proofs.gate.put_gate.Goals as goal

pub returns-in-Err-clause-writes_only : goal.returns-in-Err-clause-writes_only
returns-in-Err-clause-writes_only g c =
    let gate = one_sector c.args.size 1 in
    let old = g.S.Sectors.device c.args.sectors.now in
    let mid = g.S.Sectors.device c.put_gate_once.new.sectors in
    let new = g.S.Sectors.device c.put_gate_once-in-Err.new.sectors in
    let first = c.put_gate_once.ensures.writes_only in
    let second = c.put_gate_once-in-Err.ensures.writes_only in
    record {
      size = search rules;
      same = outside_trans (gate ∷ []) old.now.bytes mid.now.bytes new.now.bytes first.same second.same;
      leaves = leaves_then old mid new gate gate (omega arith) (omega arith) first.leaves second.leaves;
    }
