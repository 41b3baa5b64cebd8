use Rattle.std.proofs.Common.{ℕ, List, [], ◌∷◌, take, sym, ◌∙◌, ap, subst}
use Rattle.std.proofs.lemmas.Result.{on_ok_weaker}
use Rattle.block_disk.specs.Device.{SameOutside}
use Rattle.disk_sectors.specs.Places.{one_sector}
use Rattle.disk_sectors.proofs.label.put_label.Goals as goal

pub returns-clause-said : goal.returns-clause-said
returns-clause-said g c =
    on_ok_weaker c.settle.result (λ ok. ap (λ (xs : List ℕ). take 16 xs) c.settle.ensures.same ∙ c.in_ok-write_label.ensures.said) c.settle.ensures.ok

pub returns-clause-same : goal.returns-clause-same
returns-clause-same g c =
    subst (λ (xs : List ℕ). SameOutside (one_sector c.args.size 0 ∷ []) (g.S.Sectors.device c.args.sectors.now).now.bytes xs) (sym c.settle.ensures.same) c.write_label.ensures.same
