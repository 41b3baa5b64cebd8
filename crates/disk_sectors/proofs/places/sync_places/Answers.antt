use Rattle.std.proofs.Common.{◌≡◌, ◌+◌, Bool, true, false, [], ◌∷◌, length, refl, sym, subst, rules}
use Rattle.block_disk.specs.Images.{Always}
use Rattle.block_disk.proofs.Images.{and_then}
use Rattle.block_disk.proofs.Ranges.{outside_trans}
use Rattle.disk_sectors.specs.Places.{Holds, Reads, Shows, sectors_from}
use Rattle.disk_sectors.proofs.Calls.{on_ok_two}
use Rattle.disk_sectors.proofs.Laying.{among_gate, leaves_both, leaves_gate}
use Rattle.disk_sectors.proofs.Sizes.{gate_fits}
use Rattle.disk_sectors.proofs.TwoAreas.{finished, reads_gate}
use Rattle.disk_sectors.proofs.places.sync_places.Goals as goal

pub confirm-requires-clause-fits : goal.confirm-requires-clause-fits
confirm-requires-clause-fits g c = gate_fits c.args.size (length c.args.fresh.now) (length (g.S.Sectors.device c.args.sectors.now).now.bytes) c.requires.reads.fits

pub fill_other-requires-clause-reads : goal.fill_other-requires-clause-reads
fill_other-requires-clause-reads g c =
    let count = length c.args.fresh.now in
    let old = g.S.Sectors.device c.args.sectors.now in
    let mid = g.S.Sectors.device c.confirm.new.sectors in
    subst (λ (t : Bool). Reads c.args.size count t c.args.fresh.now c.args.stale.now c.args.image.now mid.now.bytes) (sym c.confirm.ensures.turn)
    (reads_gate c.args.size count c.args.gate.now.turn c.args.fresh.now c.args.stale.now c.args.image.now old.now.bytes mid.now.bytes refl c.requires.count c.confirm.ensures.writes_only.same c.requires.reads)

pub turn_gate-requires-clause-fits : goal.turn_gate-requires-clause-fits
turn_gate-requires-clause-fits g c = gate_fits c.args.size (length c.args.fresh.now) (length (g.S.Sectors.device c.fill_other.new.sectors).now.bytes) c.fill_other.ensures.reads.fits

pub returns-in_err-confirm-clause-reads : goal.returns-in_err-confirm-clause-reads
returns-in_err-confirm-clause-reads g c =
    let count = length c.args.fresh.now in
    let old = g.S.Sectors.device c.args.sectors.now in
    let mid = g.S.Sectors.device c.confirm.new.sectors in
    subst (λ (t : Bool). Reads c.args.size count t c.args.fresh.now c.args.stale.now c.args.image.now mid.now.bytes) (sym c.confirm.ensures.turn)
    (reads_gate c.args.size count c.args.gate.now.turn c.args.fresh.now c.args.stale.now c.args.image.now old.now.bytes mid.now.bytes refl c.requires.count c.confirm.ensures.writes_only.same c.requires.reads)

pub returns-in_err-confirm-clause-crash : goal.returns-in_err-confirm-clause-crash
returns-in_err-confirm-clause-crash g c = λ label m is always. c.confirm.ensures.crash (length c.args.fresh.now) label m always

pub returns-in_err-confirm-clause-any_moment : goal.returns-in_err-confirm-clause-any_moment
returns-in_err-confirm-clause-any_moment g c = λ label m is always. c.confirm.ensures.any_moment (length c.args.fresh.now) label m always

pub returns-in_err-confirm-clause-writes_only : goal.returns-in_err-confirm-clause-writes_only
returns-in_err-confirm-clause-writes_only g c = record {
  size = search rules;
  same = among_gate c.args.size (length c.args.fresh.now) (g.S.Sectors.device c.args.sectors.now).now.bytes (g.S.Sectors.device c.confirm.new.sectors).now.bytes c.confirm.ensures.writes_only.same;
  leaves = leaves_gate c.args.size (length c.args.fresh.now) (g.S.Sectors.device c.args.sectors.now) (g.S.Sectors.device c.confirm.new.sectors) c.confirm.ensures.writes_only.leaves;
}

pub returns-in_err-fill_other-clause-crash : goal.returns-in_err-fill_other-clause-crash
returns-in_err-fill_other-clause-crash g c = λ label m is always.
    let count = length c.args.fresh.now in
    let mid = g.S.Sectors.device c.confirm.new.sectors in
    let firm : Always mid (Holds c.args.size count true c.confirm.new.gate.turn label m) =
    subst (λ (f : Bool). Always mid (Holds c.args.size count f c.confirm.new.gate.turn label m)) c.in_ok-confirm.ensures.ok (c.confirm.ensures.crash count label m always) in
    c.fill_other.ensures.crash label m is firm

pub returns-in_err-fill_other-clause-any_moment : goal.returns-in_err-fill_other-clause-any_moment
returns-in_err-fill_other-clause-any_moment g c = λ label m is always.
    let count = length c.args.fresh.now in
    let mid = g.S.Sectors.device c.confirm.new.sectors in
    let firm : Always mid (Holds c.args.size count true c.confirm.new.gate.turn label m) =
    subst (λ (f : Bool). Always mid (Holds c.args.size count f c.confirm.new.gate.turn label m)) c.in_ok-confirm.ensures.ok (c.confirm.ensures.crash count label m always) in
    and_then (g.S.Sectors.device c.args.sectors.now) mid (g.S.Sectors.device c.fill_other.new.sectors) (Shows c.args.size count label m)
    (c.confirm.ensures.any_moment count label m always) (c.fill_other.ensures.any_moment label m firm)

pub returns-in_err-fill_other-clause-writes_only : goal.returns-in_err-fill_other-clause-writes_only
returns-in_err-fill_other-clause-writes_only g c = record {
  size = search rules;
  same =
      let count = length c.args.fresh.now in
      let a = (g.S.Sectors.device c.args.sectors.now).now.bytes in
      let b = (g.S.Sectors.device c.confirm.new.sectors).now.bytes in
      outside_trans (sectors_from c.args.size 0 (count + count + 2) ∷ []) a b (g.S.Sectors.device c.fill_other.new.sectors).now.bytes (among_gate c.args.size count a b c.confirm.ensures.writes_only.same)
      c.fill_other.ensures.writes_only.same;
  leaves =
      let count = length c.args.fresh.now in
      let old = g.S.Sectors.device c.args.sectors.now in
      let mid = g.S.Sectors.device c.confirm.new.sectors in
      leaves_both old mid (g.S.Sectors.device c.fill_other.new.sectors) (sectors_from c.args.size 0 (count + count + 2)) (leaves_gate c.args.size count old mid c.confirm.ensures.writes_only.leaves)
      c.fill_other.ensures.writes_only.leaves;
}

pub returns-clause-reads : goal.returns-clause-reads
returns-clause-reads g c =
    let count = length c.args.fresh.now in
    let mid = g.S.Sectors.device c.fill_other.new.sectors in
    let new = g.S.Sectors.device c.turn_gate.new.sectors in
    subst (λ (t : Bool). Reads c.args.size count t c.fill_other.new.fresh c.fill_other.new.stale c.args.image.now new.now.bytes) (sym c.turn_gate.ensures.turn)
    (reads_gate c.args.size count c.fill_other.new.gate.turn c.fill_other.new.fresh c.fill_other.new.stale c.args.image.now mid.now.bytes new.now.bytes
    c.fill_other.ensures.count.0 c.fill_other.ensures.count.1 c.turn_gate.ensures.writes_only.same c.fill_other.ensures.reads)

pub returns-clause-crash : goal.returns-clause-crash
returns-clause-crash g c = λ label m is always.
    let count = length c.args.fresh.now in
    let mid = g.S.Sectors.device c.confirm.new.sectors in
    let late = g.S.Sectors.device c.fill_other.new.sectors in
    let firm : Always mid (Holds c.args.size count true c.confirm.new.gate.turn label m) =
    subst (λ (f : Bool). Always mid (Holds c.args.size count f c.confirm.new.gate.turn label m)) c.in_ok-confirm.ensures.ok (c.confirm.ensures.crash count label m always) in
    let loose : Always late (Holds c.args.size count false c.fill_other.new.gate.turn label m) =
    subst (λ (f : Bool). Always late (Holds c.args.size count f c.fill_other.new.gate.turn label m)) c.in_ok-fill_other.ensures.ok (c.fill_other.ensures.crash label m is firm) in
    c.turn_gate.ensures.crash count label m loose

pub returns-clause-durable : goal.returns-clause-durable
returns-clause-durable g c = λ label m.
    let count = length c.args.fresh.now in
    let old = g.S.Sectors.device c.args.sectors.now in
    let late = g.S.Sectors.device c.fill_other.new.sectors in
    let new = g.S.Sectors.device c.turn_gate.new.sectors in
    let gate = c.turn_gate.new.gate in
    on_ok_two c.turn_gate.result (gate.is_firm ≡ true) (new.now.pending ≡ [])
    (m.bytes ≡ c.args.image.now → Always old (Holds c.args.size count c.args.gate.now.is_firm c.args.gate.now.turn label m)
    → Always new (Holds c.args.size count gate.is_firm gate.turn label (record { bytes = m.bytes; pending = [] })))
    (λ firm durable is always.
    finished c.args.size count c.fill_other.new.gate.turn gate.turn gate.is_firm label c.args.image.now m late new c.turn_gate.ensures.turn firm durable c.turn_gate.ensures.writes_only.same
    c.fill_other.ensures.reads.fits c.in_ok-fill_other.ensures.whole is (returns-clause-crash g c label m is always))
    c.turn_gate.ensures.ok c.turn_gate.ensures.durable

pub returns-clause-any_moment : goal.returns-clause-any_moment
returns-clause-any_moment g c = λ label m is always.
    let count = length c.args.fresh.now in
    let old = g.S.Sectors.device c.args.sectors.now in
    let mid = g.S.Sectors.device c.confirm.new.sectors in
    let late = g.S.Sectors.device c.fill_other.new.sectors in
    let new = g.S.Sectors.device c.turn_gate.new.sectors in
    let P = Shows c.args.size count label m in
    let firm : Always mid (Holds c.args.size count true c.confirm.new.gate.turn label m) =
    subst (λ (f : Bool). Always mid (Holds c.args.size count f c.confirm.new.gate.turn label m)) c.in_ok-confirm.ensures.ok (c.confirm.ensures.crash count label m always) in
    let loose : Always late (Holds c.args.size count false c.fill_other.new.gate.turn label m) =
    subst (λ (f : Bool). Always late (Holds c.args.size count f c.fill_other.new.gate.turn label m)) c.in_ok-fill_other.ensures.ok (c.fill_other.ensures.crash label m is firm) in
    and_then old late new P
    (and_then old mid late P (c.confirm.ensures.any_moment count label m always) (c.fill_other.ensures.any_moment label m firm))
    (c.turn_gate.ensures.any_moment count label m loose)

pub returns-clause-writes_only : goal.returns-clause-writes_only
returns-clause-writes_only g c = record {
  size = search rules;
  same =
      let size = c.args.size in
      let count = length c.args.fresh.now in
      let all = sectors_from size 0 (count + count + 2) ∷ [] in
      let a = (g.S.Sectors.device c.args.sectors.now).now.bytes in
      let b = (g.S.Sectors.device c.confirm.new.sectors).now.bytes in
      let d = (g.S.Sectors.device c.fill_other.new.sectors).now.bytes in
      let e = (g.S.Sectors.device c.turn_gate.new.sectors).now.bytes in
      outside_trans all a d e (outside_trans all a b d (among_gate size count a b c.confirm.ensures.writes_only.same) c.fill_other.ensures.writes_only.same) (among_gate size count d e c.turn_gate.ensures.writes_only.same);
  leaves =
      let size = c.args.size in
      let count = length c.args.fresh.now in
      let old = g.S.Sectors.device c.args.sectors.now in
      let mid = g.S.Sectors.device c.confirm.new.sectors in
      let late = g.S.Sectors.device c.fill_other.new.sectors in
      let new = g.S.Sectors.device c.turn_gate.new.sectors in
      let all = sectors_from size 0 (count + count + 2) in
      leaves_both old late new all (leaves_both old mid late all (leaves_gate size count old mid c.confirm.ensures.writes_only.leaves) c.fill_other.ensures.writes_only.leaves)
      (leaves_gate size count late new c.turn_gate.ensures.writes_only.leaves);
}
