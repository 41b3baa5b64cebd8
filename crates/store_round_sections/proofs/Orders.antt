-- Changed fields in the order of two keys: their guards, and then their numbers.
use Rattle.std.proofs.Common.{ℕ, ◌≡◌, ◌<◌, ◌≤◌, Ordering, false, List, get_or, length, sym, ap, arith}
use Rattle.std.specs.Cmp.{IsTotalOrder}
use Rattle.std.specs.List.Sorted.{IsSortedByKey}
use Rattle.std.specs.Ordering.{is_lt, nat_cmp, ordering_then}
use Rattle.std.proofs.lemmas.Bool.Decides.{nat_tests}
use Rattle.std.proofs.lemmas.Cmp.{nat_cmp_total, on_total, then_total}
use Rattle.std.proofs.lemmas.List.Sorted.{ranks_by, sorted_far}
use Rattle.heap_model.specs.declared.ids.ObjectId.{ObjectId}
use Rattle.store_round_image.specs.declared.cells.HomeValue.{HomeValue}
use Rattle.store_round_sections.specs.Sections.{IsSortedByGuard, IsSortedWithinGuards, guard_of}

-- the order of two keys
abbrev pub pair_cmp : ℕ × ℕ → ℕ × ℕ → Ordering
pair_cmp x y = ordering_then (nat_cmp x.0 y.0) (nat_cmp x.1 y.1)

pair_cmp_total : IsTotalOrder pair_cmp
pair_cmp_total = then_total (on_total (λ (x : ℕ × ℕ). x.0) nat_cmp_total) (on_total (λ (x : ℕ × ℕ). x.1) nat_cmp_total)

not_before : (a b c d : ℕ) → is_lt (ordering_then (nat_cmp a b) (nat_cmp c d)) ≡ false → (b ≤ a) × (a ≡ b → d ≤ c)
not_before a b c d is = grind (arith, nat_tests)

module _ (guards : List ObjectId) where
  abbrev pub keys_of : HomeValue → ℕ × ℕ
  keys_of c = ((guard_of guards c).0, c.field.0)

  module _ (changed : List HomeValue) (up : IsSortedByKey keys_of pair_cmp changed) where
    far : (i j : ℕ) (d : HomeValue) → i ≤ j → j < length changed → is_lt (pair_cmp (keys_of (get_or changed j d)) (keys_of (get_or changed i d))) ≡ false
    far = sorted_far (λ x y. is_lt (pair_cmp (keys_of x) (keys_of y))) (ranks_by pair_cmp_total keys_of) changed up

    pub guards_rise : IsSortedByGuard guards changed
    guards_rise i j d le lt = (not_before (keys_of (get_or changed j d)).0 (keys_of (get_or changed i d)).0 (get_or changed j d).field.0 (get_or changed i d).field.0 (far i j d le lt)).0

    pub fields_rise : IsSortedWithinGuards guards changed
    fields_rise i j d le lt same =
        (not_before (keys_of (get_or changed j d)).0 (keys_of (get_or changed i d)).0 (get_or changed j d).field.0 (get_or changed i d).field.0 (far i j d le lt)).1 (ap (λ (o : ObjectId). o.0) (sym same))
