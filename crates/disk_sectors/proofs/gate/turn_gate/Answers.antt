use Rattle.std.proofs.Common.{Bool, sym, subst}
use Rattle.block_disk.specs.Images.{Always}
use Rattle.disk_sectors.specs.Places.{Holds}
use Rattle.disk_sectors.proofs.TwoAreas.{gate_leaves, made_firm}
use Rattle.disk_sectors.proofs.gate.turn_gate.Goals as goal

pub returns-in_err-put_gate-clause-crash : goal.returns-in_err-put_gate-clause-crash
returns-in_err-put_gate-clause-crash g c = λ count label m always.
    let size = c.args.size in
    let new = g.S.Sectors.device c.put_gate.new.sectors in
    let kept = gate_leaves size count c.args.gate.now.turn label m (g.S.Sectors.device c.args.sectors.now) new c.put_gate.ensures.writes_only.leaves always in
    subst (λ (f : Bool). Always new (Holds size count f c.args.gate.now.turn label m)) (sym c.requires.waits) kept.1

pub returns-in_err-put_gate-clause-any_moment : goal.returns-in_err-put_gate-clause-any_moment
returns-in_err-put_gate-clause-any_moment g c = λ count label m always.
    let size = c.args.size in
    (gate_leaves size count c.args.gate.now.turn label m (g.S.Sectors.device c.args.sectors.now) (g.S.Sectors.device c.put_gate.new.sectors) c.put_gate.ensures.writes_only.leaves always).0

pub returns-clause-crash : goal.returns-clause-crash
returns-clause-crash g c = λ count label m always.
    let size = c.args.size in
    let new = g.S.Sectors.device c.put_gate.new.sectors in
    let kept = gate_leaves size count c.args.gate.now.turn label m (g.S.Sectors.device c.args.sectors.now) new c.put_gate.ensures.writes_only.leaves always in
    made_firm size count c.args.gate.now.turn label m new c.in_ok-put_gate.ensures.durable c.in_ok-put_gate.ensures.turned kept.1

pub returns-clause-any_moment : goal.returns-clause-any_moment
returns-clause-any_moment g c = λ count label m always.
    let size = c.args.size in
    (gate_leaves size count c.args.gate.now.turn label m (g.S.Sectors.device c.args.sectors.now) (g.S.Sectors.device c.put_gate.new.sectors) c.put_gate.ensures.writes_only.leaves always).0
