use Rattle.std.proofs.Common.{ap, slice_index, ◌==◌, ◌/◌, ◌%◌}
use Rattle.std.proofs.lemmas.Nat.Bits.{shr_and_one}
use Rattle.store_memory.proofs.bits.has.Goals as goal

pub returns : goal.returns
returns c = ap (λ n. n == 1) (shr_and_one (slice_index c.args.words.now (c.args.at / 64)) (c.args.at % 64))
