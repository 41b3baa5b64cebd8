-- A handle that is open owns what a box at the same types owns.
use mathlib.Core.Bool.{Bool, not}
use mathlib.Core.Path.{◌≡◌, refl, subst}
use lib.Dec.{T}
use mir.Syntax.{impl, tnil, dnil}
use mathlib.Core.List.{[]}
use denote.Signature.{Slot, plain}
use Rattle.std.specs.Prelude.{Some, None, IsSome}
use Rattle.std_alloc.proofs.BoxSteps.Form.{Bx}
use Rattle.std_heap.specs.contracts.Global as Heap
use Rattle.std_heap.specs.contracts.GlobalAllocator.TheImpl.{ghosts, dict}
use Rattle.std_heap.proofs.Global.TheLaws as heap
use Rattle.zelamiku.specs.Own.{Held}
use Rattle.zelamiku.specs.contracts.state.Inner as Inner
use Rattle.zelamiku.proofs.state.Inner.TheLaws as inner
use Rattle.zelamiku.specs.contracts.loose.Loose as Loose

abbrev pub E : Bx
E = record { row = Inner.the_row; laws = inner.the_row_laws; al = record { row = Heap.the_row; laws = heap.the_row_laws; g = ghosts; d = dict; drops = impl [] tnil dnil } }

abbrev pub FromLoose : Slot 0
FromLoose = plain (λ _. Loose.the_row Inner.the_row Heap.the_row ghosts)

-- what a handle has that is open
pub opened : (o : Held) → IsSome o → (x : E.row.Denot) × (o ≡ Some x)
opened (Some x) is = (x, refl)
opened None is = absurd (subst (λ (b : Bool). T (not b)) is tt)
