-- Values of the types that a study is made of.
use Rattle.std.proofs.Common.{ℕ, zero, suc, ◌≡◌, ◌<◌, ◌≤◌, ◌^◌, List, [], ◌∷◌, ◌++◌, length, map, get_or, reverse, refl, sym, ap, ◌∙◌, inl, inr, arith, Vec, Global, length-append}
use Rattle.std.proofs.lemmas.Bool.{cases_eq, cases_lt}
use Rattle.std.proofs.lemmas.List.{get_or_append_left, length-map, length-reverse, map-append, reverse-reverse}
use Rattle.std.proofs.Math.Seq.{get_or-append_seam}
use Rattle.std.specs.Ptr.{null_ptr}
use Rattle.heap_model.specs.declared.record.UndoRecord.{UndoRecord}
use Rattle.recover_logs.specs.Logs.{records_of, lanes_of}
use Rattle.recover_logs.proofs.LaneLemmas.{records_past}

-- the allocator has one value
abbrev heap : Global
heap = record { memory = record { seal = tt } }

-- a vector of these
abbrev pub vec_of : {X : Type 0} (xs : List X) → length xs < 2 ^ 63 → Vec X Global
vec_of {X} xs few = record { ptr = null_ptr; len = length xs; cap = length xs; alloc = heap; items = xs; ok = (refl, omega arith); small = few }

-- the first lanes' records, the oldest first
module _ (lanes : ℕ → List UndoRecord) (few : (m : ℕ) → length (lanes m) < 2 ^ 63) where
  abbrev log_of : ℕ → Vec UndoRecord Global
  log_of m = vec_of (reverse (lanes m)) (omega (arith, few m, length-reverse (lanes m)))

  abbrev pub logs_to : ℕ → List (Vec UndoRecord Global)
  logs_to zero = []
  logs_to (suc n) = logs_to n ++ log_of n ∷ []

  pub logs_long : (n : ℕ) → length (logs_to n) ≡ n
  logs_long zero = refl
  logs_long (suc n) = omega (arith, length-append (logs_to n) (log_of n ∷ []), logs_long n)

  abbrev items_to : ℕ → List (List UndoRecord)
  items_to n = map (λ (v : Vec UndoRecord Global). v.items) (logs_to n)

  items_long : (n : ℕ) → length (items_to n) ≡ n
  items_long n = length-map (logs_to n) (λ (v : Vec UndoRecord Global). v.items) ∙ logs_long n

  records_at : (n m : ℕ) → m < n → records_of (logs_to n) m ≡ reverse (lanes m)
  records_at zero m lt = absurd (omega (arith, lt))
  records_at (suc n) m lt =
      let split : items_to (suc n) ≡ items_to n ++ reverse (lanes n) ∷ [] = map-append (λ (v : Vec UndoRecord Global). v.items) (logs_to n) (log_of n ∷ []) in
      ap (λ (xs : List (List UndoRecord)). get_or xs m []) split ∙ elim (cases_eq m n) [
        | inl e ↦ ap (λ (k : ℕ). get_or (items_to n ++ reverse (lanes n) ∷ []) k []) (e ∙ sym (items_long n)) ∙ get_or-append_seam (items_to n) (reverse (lanes n)) [] [] ∙ ap (λ (k : ℕ). reverse (lanes k)) (sym e)
        | inr ne ↦ get_or_append_left (items_to n) (reverse (lanes n) ∷ []) [] m (omega (arith, lt, items_long n)) ∙ records_at n m (omega (arith, lt))
      ]

  -- so they are the lanes, where no other has records
  pub lanes_are : (n : ℕ) → ((m : ℕ) → n ≤ m → lanes m ≡ []) → lanes_of (logs_to n) ≡ lanes
  lanes_are n others = λ i m. (same m) i
    where
      same : (m : ℕ) → lanes_of (logs_to n) m ≡ lanes m
      same m = elim (cases_lt m n) [
        | inl lt ↦ ap (λ (xs : List UndoRecord). reverse xs) (records_at n m lt) ∙ reverse-reverse (lanes m)
        | inr le ↦ ap (λ (xs : List UndoRecord). reverse xs) (records_past (logs_to n) m (omega (arith, le, logs_long n))) ∙ sym (others m le)
      ]
