-- What writing cells and records leaves.
use Rattle.std.proofs.Common.{ℕ, zero, suc, ◌≡◌, ◌≢◌, ◌+◌, ◌<◌, ◌≤◌, ◌⊎◌, List, [], ◌∷◌, ◌++◌, length, get_or, Contains, refl, sym, ap, ◌∙◌, subst, inl, inr, arith}
use Rattle.std.specs.Prelude.{All}
use Rattle.std.proofs.lemmas.Bool.{cases_eq, cases_lt}
use Rattle.std.proofs.lemmas.List.{length-map}
use Rattle.std.proofs.lemmas.List.Elements.{All-get_or}
use Rattle.block_disk.specs.Device.{Range, Device, IsClear, SameOutside}
use Rattle.block_disk.specs.Images.{Always, ImageBut, IsApart, LeavesOnly}
use Rattle.block_disk.proofs.Images.{begin, besides_none, besides_then, besides_union, besides_wider, follows, now_too, weaker}
use Rattle.block_disk.proofs.Ranges.{clear_left, outside_more, outside_trans}
use Rattle.image_parts.specs.Cells.{HasCell, cell_range}
use Rattle.image_parts.specs.Layout.{cell_at}
use Rattle.image_parts.specs.declared.layout.Layout.{Layout}
use Rattle.image_parts.proofs.Places.{cell_survives}
use Rattle.store_round_image.specs.Turning.{IsValueIn, cell_ranges, fields_of}
use Rattle.store_round_image.specs.declared.cells.HomeValue.{HomeValue}

-- cells of two fields lie apart
cells_apart : (l : Layout) (f g : ℕ) → f ≢ g → IsApart (cell_at l g) 8 (cell_range l f ∷ [])
cells_apart l f g ne = elim (cases_lt g f) [
  | inl before ↦ (inl (omega arith), tt)
  | inr from ↦ let behind : f < g = omega (arith, ne) in (inr (omega arith), tt)
]

-- a field's cell is one of these, or lies apart from them
pub among : (l : Layout) (cells : List HomeValue) (f : ℕ) → Contains (fields_of cells) f ⊎ IsApart (cell_at l f) 8 (cell_ranges l cells)
among l [] f = inr tt
among l (c ∷ cells) f = elim (cases_eq c.field.0 f) [
  | inl e ↦ inl (0, omega arith, e)
  | inr ne ↦ elim (among l cells f) [
    | inl h ↦ inl (suc h.0, omega (arith, h.1), h.2)
    | inr apart ↦ inr ((cells_apart l c.field.0 f ne).0, apart)
  ]
]

-- all that lies before the cells, or behind them
pub cells_behind : (l : Layout) (cells : List HomeValue) (at n : ℕ) → at + n ≤ cell_at l 0 → IsApart at n (cell_ranges l cells)
cells_behind l [] at n before = tt
cells_behind l (c ∷ cells) at n before = (inl (omega (arith, before)), cells_behind l cells at n before)

pub cells_before : (l : Layout) (heap : ℕ → ℕ) (cells : List HomeValue) (at n : ℕ) → All (IsValueIn l heap) cells → cell_at l l.fields ≤ at → IsApart at n (cell_ranges l cells)
cells_before l heap cells at n values behind = each cells (λ k d lt. (All-get_or (IsValueIn l heap) cells k d lt values).field)
  where
    each : (xs : List HomeValue) → ((k : ℕ) (d : HomeValue) → k < length xs → (get_or xs k d).field.0 < l.fields) → IsApart at n (cell_ranges l xs)
    each [] low = tt
    each (x ∷ xs) low = let first : x.field.0 < l.fields = low 0 x (omega arith) in (inr (omega (arith, first, behind)), each xs (λ k d lt. low (suc k) d (omega (arith, lt))))

-- what is clear of all of them is clear of each
one_clear : (l : Layout) (cells : List HomeValue) (k i : ℕ) (d : HomeValue) → k < length cells → IsClear i (cell_ranges l cells) → IsClear i (cell_range l (get_or cells k d).field.0 ∷ [])
one_clear l [] k i d lt clear = absurd (omega (arith, lt))
one_clear l (c ∷ cells) zero i d lt clear = (clear.0, tt)
one_clear l (c ∷ cells) (suc k) i d lt clear = one_clear l cells k i d (omega (arith, lt)) clear.1

pub fields_low : (l : Layout) (heap : ℕ → ℕ) (cells : List HomeValue) (f : ℕ) → All (IsValueIn l heap) cells → Contains (fields_of cells) f → f < l.fields
fields_low l heap cells f values h =
    let d : HomeValue = record { field = record { 0 = 0 }; value = 0 } in
    let lt : h.0 < length cells = omega (arith, h.1, length-map cells (λ (c : HomeValue). c.field.0)) in
    let at : (get_or cells h.0 d).field.0 ≡ f = sym (field_at cells h.0 f d lt) ∙ h.2 in
    subst (λ (g : ℕ). g < l.fields) at (All-get_or (IsValueIn l heap) cells h.0 d lt values).field
  where
    field_at : (xs : List HomeValue) (k f : ℕ) (d : HomeValue) → k < length xs → get_or (fields_of xs) k f ≡ (get_or xs k d).field.0
    field_at [] k f d lt = absurd (omega (arith, lt))
    field_at (x ∷ xs) zero f d lt = refl
    field_at (x ∷ xs) (suc k) f d lt = field_at xs k f d (omega (arith, lt))

module _ (l : Layout) (cells : List HomeValue) where
  -- so far each of the cells has its value
  abbrev pub HaveTo : (heap : ℕ → ℕ) → List ℕ → (n : ℕ) → Type 0
  HaveTo heap image n = (k : ℕ) (d : HomeValue) → k < n → HasCell l (get_or cells k d).field.0 image (heap (get_or cells k d).field.0)

  pub have_all : (heap : ℕ → ℕ) (image : List ℕ) (n : ℕ) → length cells ≤ n → HaveTo heap image n → (f : ℕ) → Contains (fields_of cells) f → HasCell l f image (heap f)
  have_all heap image n all has f h =
      let d : HomeValue = record { field = record { 0 = 0 }; value = 0 } in
      let lt : h.0 < length cells = omega (arith, h.1, length-map cells (λ (c : HomeValue). c.field.0)) in
      let at : (get_or cells h.0 d).field.0 ≡ f = sym (field_at cells h.0 f d lt) ∙ h.2 in
      subst (λ (g : ℕ). HasCell l g image (heap g)) at (has h.0 d (omega (arith, lt, all)))
    where
      field_at : (xs : List HomeValue) (k f : ℕ) (d : HomeValue) → k < length xs → get_or (fields_of xs) k f ≡ (get_or xs k d).field.0
      field_at [] k f d lt = absurd (omega (arith, lt))
      field_at (x ∷ xs) zero f d lt = refl
      field_at (x ∷ xs) (suc k) f d lt = field_at xs k f d (omega (arith, lt))

  module _ (i : ℕ) (e : HomeValue) (less : i < length cells) where
    abbrev one : List Range
    one = cell_range l (get_or cells i e).field.0 ∷ []

    abbrev rs : List Range
    rs = cell_ranges l cells

    pub have_next : (heap : ℕ → ℕ) (old new : List ℕ) → All (IsValueIn l heap) cells → HaveTo heap old i → SameOutside one old new → HasCell l (get_or cells i e).field.0 new (get_or cells i e).value → HaveTo heap new (i + 1)
    have_next heap old new values has same here k d lt = elim (cases_eq (get_or cells i e).field.0 (get_or cells k d).field.0) [
      | inl is ↦
          let now : HasCell l (get_or cells i e).field.0 new (heap (get_or cells i e).field.0) = subst (HasCell l (get_or cells i e).field.0 new) (All-get_or (IsValueIn l heap) cells i e less values).value here in
          subst (λ (g : ℕ). HasCell l g new (heap g)) is now
      | inr ne ↦
          let before : k < i = (elim (cases_lt k i) [
            | inl low ↦ low
            | inr from ↦ let is : i ≡ k = omega (arith, from, lt) in absurd (ne (ap (λ (j : ℕ). (get_or cells j e).field.0) is ∙ ap (λ (c : HomeValue). c.field.0) (get_same cells k e d (omega (arith, lt, less)))))
          ]) in
          cell_survives l (get_or cells k d).field.0 (heap (get_or cells k d).field.0) one (cells_apart l (get_or cells i e).field.0 (get_or cells k d).field.0 ne) old new (has k d before) same
    ]
      where
        get_same : (xs : List HomeValue) (j : ℕ) (a b : HomeValue) → j < length xs → get_or xs j a ≡ get_or xs j b
        get_same [] j a b lt = absurd (omega (arith, lt))
        get_same (x ∷ xs) zero a b lt = refl
        get_same (x ∷ xs) (suc j) a b lt = get_same xs j a b (omega (arith, lt))

    pub same_next : (xs ys zs : List ℕ) → SameOutside rs xs ys → SameOutside one ys zs → SameOutside rs xs zs
    same_next xs ys zs before step = outside_trans rs xs ys zs before (outside_more one rs ys zs (λ j clear. one_clear l cells i j e less clear) step)

    module _ (d0 d1 d2 : Device) (always : Always d1 (ImageBut d0 rs)) (step : LeavesOnly d1 d2 (ImageBut d1 one)) where
      within : (image : List ℕ) → ImageBut d1 one image → ImageBut d0 rs image
      within image from = besides_then d0 d1 rs image always (besides_wider d1 one rs image (λ xs ys same. outside_more one rs xs ys (λ j clear. one_clear l cells i j e less clear) same) from)

      pub cell_follows : LeavesOnly d0 d1 (ImageBut d0 rs) → LeavesOnly d0 d2 (ImageBut d0 rs)
      cell_follows before = follows d0 d1 d2 (ImageBut d0 rs) one before step within

      pub cell_always : Always d2 (ImageBut d0 rs)
      cell_always = now_too d1 d2 (ImageBut d0 rs) always (follows d1 d1 d2 (ImageBut d0 rs) one (begin d1 (ImageBut d0 rs)) step within)

-- some ranges, and then others
pub first_wider : (rs ss : List Range) (d d1 : Device) → LeavesOnly d d1 (ImageBut d rs) → LeavesOnly d d1 (ImageBut d (rs ++ ss))
first_wider rs ss d d1 one = weaker d d1 (ImageBut d rs) (ImageBut d (rs ++ ss)) (λ image from. besides_wider d rs (rs ++ ss) image (λ xs ys same. outside_more rs (rs ++ ss) xs ys (λ i clear. clear_left i rs ss clear) same) from) one

pub both_written : (rs ss : List Range) (d d1 d2 : Device) → LeavesOnly d d1 (ImageBut d rs) → LeavesOnly d1 d2 (ImageBut d1 ss) → LeavesOnly d d2 (ImageBut d (rs ++ ss))
both_written rs ss d d1 d2 one two = follows d d1 d2 (ImageBut d (rs ++ ss)) ss (first_wider rs ss d d1 one) two (λ image from. besides_union d d1 rs ss image (now_too d d1 (ImageBut d rs) (besides_none d rs) one) from)
