-- An empty handle.
use Rattle.std.proofs.Common.{◌≡◌, ◌↔◌, Option, Some, None, IsSome, IsTrue, false, true, refl, sym, ◌∙◌}
use Rattle.zelamiku.specs.Ended.{still_held}
use Rattle.zelamiku.specs.Own.{Held}

pub nothing_there : {A : Type 0} (h : Option A) → (IsTrue false ↔ IsSome h) → h ≡ None
nothing_there None tells = refl
nothing_there (Some s) tells = let is_open : false ≡ true = tells.1 refl in absurd cc

-- nothing is there once what has ended was let go
pub nothing_still : (old new : Held) → new ≡ still_held old → (IsTrue false ↔ IsSome new) → still_held old ≡ None
nothing_still old new still tells = sym still ∙ nothing_there new tells
