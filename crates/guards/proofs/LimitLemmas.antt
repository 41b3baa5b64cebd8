-- The limits of a schema, with one more field.
use Rattle.std.proofs.Common.{ℕ, zero, suc, ◌^◌, ◌<◌, List, [], ◌∷◌, ◌++◌, map, length, get_or, arith, length-append}
use Rattle.guards.specs.Schema.{Field, Declarations, object_count, field_count, with_field, IsWithinLimits}

-- what holds of a number of each field, and of that of one more
each-push : (P : ℕ → Type 0) (part : Field → ℕ) (fields : List Field) (more : Field) → ((k : ℕ) → k < length fields → P (get_or (map part fields) k 0)) → P (part more)
    → (k : ℕ) → k < length (fields ++ more ∷ []) → P (get_or (map part (fields ++ more ∷ [])) k 0)
each-push P part [] more each last zero in' = last
each-push P part [] more each last (suc k) in' = absurd (omega arith)
each-push P part (f ∷ fs) more each last zero in' = each 0 (omega arith)
each-push P part (f ∷ fs) more each last (suc k) in' = each-push P part fs more (λ i below. each (suc i) (omega arith)) last k (omega arith)

pub IsWithinLimits-with_field : (schema : Declarations) (more : Field) → IsWithinLimits schema → field_count schema < 16384
    → more.owner < object_count schema → more.guard < object_count schema → more.first < 2 ^ 64 → IsWithinLimits (with_field schema more)
IsWithinLimits-with_field schema more limits room owner guard first = record {
  objects = limits.objects;
  fields = omega (arith, length-append schema.fields (more ∷ []));
  owners = each-push (λ n. n < object_count schema) (λ f. f.owner) schema.fields more limits.owners owner;
  guards = each-push (λ n. n < object_count schema) (λ f. f.guard) schema.fields more limits.guards guard;
  firsts = each-push (λ n. n < 2 ^ 64) (λ f. f.first) schema.fields more limits.firsts first;
}
