-- The names of a pool's fields, as they are looked for.
use Rattle.std.proofs.Common.{ℕ, ◌≡◌, ◌≢◌, ◌^◌, ◌<◌, List, ◌++◌, codes, decimal, Result, Ok, inl, inr, refl, sym, ap, ◌∙◌, subst, append_assoc, arith}
use Rattle.std.proofs.lemmas.List.{append_cancel_left}
use Rattle.std.proofs.lemmas.Fmt.{parse-decimal}
use Rattle.std.specs.Str.Parse.{ParsesUnsigned}
use Rattle.pool.specs.LaidOut.{cell_name}
use Rattle.pool.specs.Names.{IsCell, IsCellName}

-- what is printed for a slot is read as that slot
pub read_back : {E : Type 0} (cell : List ℕ) (r : Result ℕ E) (s n : ℕ) → ParsesUnsigned 32 10 cell r → s < n → n < 2 ^ 32 → cell ≡ decimal s → r ≡ Ok s
read_back cell r s n reads low small is = parse-decimal 32 s cell r (omega arith) (omega arith) is reads

-- a pool's name is the prefix, a dot, and a name of its own
cell_text : (name text rest cell : List ℕ) → text ≡ name ++ rest → rest ≡ codes "." ++ cell → text ≡ cell_name name cell
cell_text name text rest cell is dot = is ∙ ap (λ x. name ++ x) dot ∙ sym (append_assoc name (codes ".") cell)

pub is_own : (name text rest cell : List ℕ) (n : ℕ) → text ≡ name ++ rest → rest ≡ codes "." ++ cell → IsCell n cell → IsCellName name n text
is_own name text rest cell n is dot (inl head) = inl (cell_text name text rest cell is dot ∙ ap (cell_name name) head)
is_own name text rest cell n is dot (inr slot) = inr (slot.0, slot.1, cell_text name text rest cell is dot ∙ ap (cell_name name) slot.2)

-- and no other text is
own_name : (name text : List ℕ) (n : ℕ) → IsCellName name n text → (cell : List ℕ) × (text ≡ name ++ (codes "." ++ cell)) × IsCell n cell
own_name name text n (inl head) = (codes "head", head ∙ append_assoc name (codes ".") (codes "head"), inl refl)
own_name name text n (inr slot) = (decimal slot.0, slot.2 ∙ append_assoc name (codes ".") (decimal slot.0), inr (slot.0, slot.1, refl))

pub not_behind : (name text : List ℕ) (n : ℕ) → ((rest : List ℕ) → text ≢ name ++ rest) → IsCellName name n text → ⊥
not_behind name text n lacks is = let o = own_name name text n is in lacks (codes "." ++ o.0) o.1

pub no_dot : (name text rest : List ℕ) (n : ℕ) → text ≡ name ++ rest → ((cell : List ℕ) → rest ≢ codes "." ++ cell) → IsCellName name n text → ⊥
no_dot name text rest n is lacks own = let o = own_name name text n own in lacks o.0 (append_cancel_left name rest (codes "." ++ o.0) (sym is ∙ o.1))

pub own_cell : (name text rest cell : List ℕ) (n : ℕ) → text ≡ name ++ rest → rest ≡ codes "." ++ cell → IsCellName name n text → IsCell n cell
own_cell name text rest cell n is dot own =
    let o = own_name name text n own in
    let same : o.0 ≡ cell = append_cancel_left (codes ".") o.0 cell (append_cancel_left name (codes "." ++ o.0) (codes "." ++ cell) (sym o.1 ∙ is ∙ ap (λ x. name ++ x) dot)) in
    subst (λ (x : List ℕ). IsCell n x) same o.2
