-- A list of calls after another.
use Rattle.std.proofs.Common.{◌≡◌, List, [], ◌∷◌, ◌++◌, refl}
use Rattle.block_disk.specs.Device.{Device}
use Rattle.image_parts.specs.Calls.{Call, after, after_one}

-- calls, and then others
pub after-append : (xs ys : List Call) (d : Device) → after (xs ++ ys) d ≡ after ys (after xs d)
after-append [] ys d = refl
after-append (x ∷ xs) ys d = after-append xs ys (after_one x d)
