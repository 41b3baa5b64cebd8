-- What the parts of laying out a pool make together.
use Rattle.std.proofs.Common.{ℕ, ◌≡◌, ◌<◌, List, codes, Result, Ok, Err, inr, sym, ap, ◌∙◌, subst}
use Rattle.guards.specs.Schema.{Declarations, object_count, field_count, with_object, with_field}
use Rattle.pool.specs.FreeList.{Place, IsFreeList}
use Rattle.pool.specs.LaidOut.{cell_name, head_name, cell_field, with_slots, with_head, with_part, first_values, IsNewPool, HasRoom, LaysOut, IsPart}
use Rattle.pool.specs.Declaring.{IsPartOfSlots}
use Rattle.pool.proofs.FirstLists.{first_list}
use Rattle.std.specs.List.{range_with_len}

-- what was answered is no refusal
pub is_no_error : {T E : Type 0} (r : Result T E) (x : T) (e : E) → r ≡ Ok x → r ≡ Err e → ⊥
is_no_error {T} {E} r x e ok err = let clash : ◌≡◌ {A = Result T E} (Ok x) (Err e) = sym ok ∙ err in cc

-- the object and then the head's field
pub behind_head : (d b e : Declarations) (name : List ℕ) (o : ℕ) → o ≡ object_count d → b ≡ with_object d name → e ≡ with_field b (cell_field (cell_name name (codes "head")) o 1) → e ≡ with_head d name
behind_head d b e name o number object head = head
    ∙ ap (λ (x : Declarations). with_field x (cell_field (head_name name) o 1)) object
    ∙ ap (λ (x : ℕ). with_field (with_object d name) (cell_field (head_name name) x 1)) number

-- and some slots
pub part_of : (d b e : Declarations) (name : List ℕ) (o n : ℕ) → o ≡ object_count d → b ≡ with_head d name → IsPartOfSlots b e name o n → IsPart d e name n
part_of d b e name o n number head part = inr (
  part.0,
  part.1,
  part.2 ∙ ap (λ (x : Declarations). with_slots x name o n part.0) head ∙ ap (λ (x : ℕ). with_slots (with_head d name) name x n part.0) number,
)

-- a pool whose fields are declared
pub lays_out : (d e : Declarations) (name : List ℕ) (n : ℕ) (p : Place) → 0 < n → IsNewPool d name n → HasRoom d n → e ≡ with_part d name n n → p.head ≡ field_count d → p.slots ≡ n → LaysOut d e name n p
lays_out d e name n p some new room declared head slots =
    let q : Place = record { head = field_count d; slots = n } in
    let place : p ≡ q = (λ i. record { head = head i; slots = slots i }) in record {
      new = new;
      room = room;
      place = place;
      declared = declared;
      free = subst (λ (x : Place). IsFreeList x (first_values e) (range_with_len 0 n)) (sym place)
          (subst (λ (x : Declarations). IsFreeList q (first_values x) (range_with_len 0 n)) (sym declared) (first_list d name n some));
    }
