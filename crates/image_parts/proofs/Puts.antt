-- What stays of bytes that were written, and what stands there.
use Rattle.std.proofs.Common.{◌≡◌, inl, inr, ℕ, ◌+◌, ◌*◌, ◌<◌, ◌≤◌, List, [], ◌∷◌, length, ap, sym, subst, ◌∙◌, arith}
use Rattle.std.specs.Int.{to_be_bytes, w64}
use Rattle.std.proofs.lemmas.Bool.{cases_lt}
use Rattle.block_disk.specs.Bytes.{part, spliced}
use Rattle.block_disk.specs.Device.{SameOutside}
use Rattle.block_disk.proofs.Bytes.{part_spliced}
use Rattle.block_disk.proofs.Ranges.{part_same, outside_refl, spliced_same}
use Rattle.guards.specs.Schema.{Declarations, first_of}
use Rattle.image_parts.specs.Guards.{guard_bytes, guard_row_of}
use Rattle.image_parts.specs.Layout.{guard_at, cell_at, size_of}
use Rattle.image_parts.specs.declared.layout.Layout.{Layout}

-- the bytes stand there, and no other byte has changed
pub record Puts (at : ℕ) (bytes old new : List ℕ) : Type 0 where
  pub here : part at (length bytes) new ≡ bytes
  pub same : SameOutside (record { start = at; len = length bytes } ∷ []) old new

pub puts_spliced : (at : ℕ) (bytes old : List ℕ) → at + length bytes ≤ length old → Puts at bytes old (spliced old at bytes)
puts_spliced at bytes old fits = record { here = part_spliced old bytes at fits; same = spliced_same old bytes at fits }

-- what was put stands there, by its length
pub stands : (at n : ℕ) (bytes old new : List ℕ) → length bytes ≡ n → Puts at bytes old new → part at n new ≡ bytes
stands at n bytes old new len p = ap (λ (k : ℕ). part at k new) (sym len) ∙ p.here

module _ (l : Layout) (schema : Declarations) where
  abbrev row : ℕ → List ℕ
  row f = guard_bytes (guard_row_of schema f)

  abbrev cell : ℕ → List ℕ
  cell f = to_be_bytes w64 (first_of schema f)

  -- the field's row and cell stand there
  pub record HoldsField (f : ℕ) (image : List ℕ) : Type 0 where
    pub row : part (guard_at f) 16 image ≡ guard_bytes (guard_row_of schema f)
    pub cell : part (cell_at l f) 8 image ≡ to_be_bytes w64 (first_of schema f)

  -- they do, and no other byte has changed
  pub record PutsField (f : ℕ) (old new : List ℕ) : Type 0 where
    pub has : HoldsField f new
    pub same : SameOutside (record { start = guard_at f; len = 16 } ∷ record { start = cell_at l f; len = 8 } ∷ []) old new

  -- those of the fields below n stand there, and nothing but rows and cells has changed
  pub record PutsFields (n : ℕ) (old new : List ℕ) : Type 0 where
    pub has : (f : ℕ) → f < n → HoldsField f new
    pub same : SameOutside (record { start = 2160; len = 24 * l.fields } ∷ []) old new

  pub field_put : (f : ℕ) (old mid new : List ℕ) → f < l.fields → size_of l ≤ length old → Puts (guard_at f) (row f) old mid → Puts (cell_at l f) (cell f) mid new → PutsField f old new
  field_put f old mid new below fits p q = record {
    has = record {
      row = part_same (guard_at f) 16 (record { start = cell_at l f; len = 8 } ∷ []) mid new q.same (inl (omega arith), tt) (omega (arith, p.same.size)) ∙ p.here;
      cell = q.here;
    };
    same = record { size = q.same.size ∙ p.same.size; same = λ i clear. q.same.same i (clear.1.0, tt) ∙ p.same.same i (clear.0, tt) };
  }

  pub none_put : (image : List ℕ) → PutsFields 0 image image
  none_put image = record { has = λ f below. absurd (omega arith); same = outside_refl _ image }

  kept_field : (f i : ℕ) (old new : List ℕ) → f < i → i < l.fields → size_of l ≤ length old → HoldsField f old → PutsField i old new → HoldsField f new
  kept_field f i old new less below fits has p = record {
    row = part_same (guard_at f) 16 (record { start = guard_at i; len = 16 } ∷ record { start = cell_at l i; len = 8 } ∷ []) old new p.same
        (inl (omega arith), (inl (omega arith), tt)) (omega arith) ∙ has.row;
    cell = part_same (cell_at l f) 8 (record { start = guard_at i; len = 16 } ∷ record { start = cell_at l i; len = 8 } ∷ []) old new p.same
        (inr (omega arith), (inl (omega arith), tt)) (omega arith) ∙ has.cell;
  }

  pub next_put : (i : ℕ) (first old new : List ℕ) → i < l.fields → size_of l ≤ length first → PutsFields i first old → PutsField i old new → PutsFields (i + 1) first new
  next_put i first old new below fits p q = record {
    has = λ f less. elim (cases_lt f i) [
      | inl under ↦ kept_field f i old new under below (omega (arith, p.same.size)) (p.has f under) q
      | inr from ↦ let is : i ≡ f = omega arith in subst (λ (k : ℕ). HoldsField k new) is q.has
    ];
    same = record {
      size = q.same.size ∙ p.same.size;
      same = λ k clear. q.same.same k (elim clear.0 [
        | inl under ↦ (inl (omega arith), (inl (omega arith), tt))
        | inr above ↦ (inr (omega arith), (inr (omega arith), tt))
      ]) ∙ p.same.same k clear;
    };
  }
