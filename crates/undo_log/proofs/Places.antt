-- Where the places of a lane lie: within the image, and apart from one another until they are used again.
use Rattle.std.proofs.Common.{◌≡◌, ◌≢◌, ℕ, ◌+◌, ◌%◌, ◌<◌, ◌≤◌, [], ◌∷◌, inl, inr, arith}
use Rattle.std.proofs.Math.Nat.{mod-lt, zero-mod}
use Rattle.std.proofs.lemmas.Bool.{cases_lt}
use Rattle.block_disk.specs.Images.{IsApart}
use Rattle.image_parts.specs.Laws.{AreApart}
use Rattle.image_parts.specs.Layout.{IsLayout, area_at, record_at, size_of}
use Rattle.image_parts.specs.declared.layout.Layout.{Layout}
use Rattle.image_parts.proofs.Places.{places}
use Rattle.undo_log.specs.Area.{record_range}
use Rattle.undo_log.proofs.Runs.{mod_next, mod_round}

-- the areas lie behind all else
pub behind_front : (l : Layout) (lane place : ℕ) → area_at l 0 ≤ record_at l lane place
behind_front l lane place = omega arith

-- the place behind one that isn't its area's last
pub next_place : (l : Layout) (lane place : ℕ) → place % l.capacity + 1 < l.capacity → record_at l lane place + 16 ≡ record_at l lane (place + 1)
next_place l lane place lt = omega (arith, mod_next place l.capacity lt)

-- the place behind its area's last, which is where the area begins
pub round_place : (l : Layout) (lane place : ℕ) → 0 < l.capacity → l.capacity ≤ place % l.capacity + 1 → record_at l lane 0 ≡ record_at l lane (place + 1)
round_place l lane place some le =
    let last : place % l.capacity + 1 ≡ l.capacity = omega (arith, mod-lt place some, le) in
    omega (arith, zero-mod l.capacity, mod_round place l.capacity last)

module _ (l : Layout) (limits : IsLayout l) where
  apart : AreApart l
  apart = places l limits

  pub fits_image : (lane place : ℕ) → lane < l.lanes → record_at l lane place + 16 ≤ size_of l
  fits_image lane place below = omega (arith, (apart.records lane place).1, apart.within lane below)

  -- records of two lanes lie apart
  pub lanes_apart : (a b p q : ℕ) → a ≢ b → IsApart (record_at l a p) 16 (record_range l b q ∷ [])
  lanes_apart a b p q ne = elim (cases_lt a b) [
    | inl before ↦ (inl (omega (arith, (apart.records a p).1, apart.areas a b before, (apart.records b q).0)), tt)
    | inr from ↦
        let behind : b < a = omega arith in
        (inr (omega (arith, (apart.records b q).1, apart.areas b a behind, (apart.records a p).0)), tt)
  ]

  -- records of two places that are less than the capacity apart
  pub places_apart : (lane p q : ℕ) → p < q → q < p + l.capacity → IsApart (record_at l lane p) 16 (record_range l lane q ∷ [])
  places_apart lane p q lt near = (apart.places lane p q lt near, tt)
