use Rattle.disk_sectors.proofs.Sizes.{ends_before, gate_written, some_bytes}
use Rattle.std.proofs.Common.{◌≡◌, length, arith, rules}
use Rattle.disk_sectors.specs.Size.{bytes_in}
use Rattle.std.proofs.lemmas.Result.{on_ok_weaker}
use Rattle.disk_sectors.proofs.gate.say_in.Goals as goal

pub returns-clause-turned : goal.returns-clause-turned
returns-clause-turned g c =
    let long : length c.say_turn.new.bytes ≡ bytes_in c.args.size = search (rules, c.requires.whole) in
    on_ok_weaker c.put_sector.result
    (λ ok. gate_written c.args.size c.args.turn c.say_turn.new.bytes (g.S.Sectors.device c.args.sectors.now) (g.S.Sectors.device c.put_sector.new.sectors) long c.requires.fits c.say_turn.ensures ok)
    c.put_sector.ensures.ok

pub say_turn-requires : goal.say_turn-requires
say_turn-requires g c =
    let some = some_bytes c.args.size in
    omega (arith, some, c.requires.whole)

pub put_sector-requires-clause-fits : goal.put_sector-requires-clause-fits
put_sector-requires-clause-fits g c =
    let ends = ends_before c.args.size 1 2 (omega arith) in
    omega (arith, ends, c.requires.fits)
