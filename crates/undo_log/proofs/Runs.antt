-- Runs of records: what is decoded of the bytes that one read gives stands in the image, and runs go on one behind the other.
use Rattle.std.proofs.Common.{◌≡◌, ℕ, zero, suc, ◌+◌, ◌*◌, ◌%◌, ◌<◌, ◌≤◌, List, [], ◌∷◌, ◌++◌, length, get_or, take, refl, sym, ◌∙◌, ap, subst, arith, length-append, length-take}
use Rattle.std.proofs.Math.Nat.{mod-add-mod, mod-eq_of_lt, mod_self}
use Rattle.heap_model.specs.declared.ids.Lane.{Lane}
use Rattle.heap_model.specs.declared.record.UndoRecord.{UndoRecord}
use Rattle.block_disk.specs.Bytes.{part}
use Rattle.block_disk.proofs.Bytes.{part_part}
use Rattle.image_parts.specs.Layout.{record_at}
use Rattle.image_parts.specs.declared.layout.Layout.{Layout}
use Rattle.undo_log.specs.Area.{SpellsIn, HasRecord, HasRecords, HasSpan, RefusesRead}
use Rattle.undo_log.specs.Runs.{IsFull, HoldsFirst, BreaksAt}
use Rattle.undo_log.specs.declared.error.LogError.{LogError}
use Rattle.undo_log.specs.declared.error.LogError.TheVariants.{Fault, LogFull, BadRecord, NoMemory}

-- records, and others behind them
pub has_append : (l : Layout) (lane place : ℕ) (image : List ℕ) (xs ys : List UndoRecord) →
    HasRecords l lane place image xs → HasRecords l lane (place + length xs) image ys → HasRecords l lane place image (xs ++ ys)
has_append l lane place image [] ys has more =
    let here : place + 0 ≡ place = omega arith in subst (λ (p : ℕ). HasRecords l lane p image ys) here more
has_append l lane place image (x ∷ xs) ys has more =
    let here : place + length (x ∷ xs) ≡ place + 1 + length xs = omega arith in
    (has.0, has_append l lane (place + 1) image xs ys has.1 (subst (λ (p : ℕ). HasRecords l lane p image ys) here more))

pub span_append : (l : Layout) (lane from mid to : ℕ) (image : List ℕ) (xs ys : List UndoRecord) → HasSpan l lane from mid image xs → HasSpan l lane mid to image ys → HasSpan l lane from to image (xs ++ ys)
span_append l lane from mid to image xs ys a b = record {
  size = omega (arith, a.size, b.size, length-append xs ys);
  each = has_append l lane from image xs ys a.each (subst (λ (p : ℕ). HasRecords l lane p image ys) (sym a.size) b.each);
}

-- what is refused of the later places is refused of all
pub refused_later : (l : Layout) (lane : Lane) (from mid to : ℕ) (image : List ℕ) (e : LogError) → IsFull l lane.0 from mid image → RefusesRead l lane mid to image e → RefusesRead l lane from to image e
refused_later l lane from mid to image Fault full refused = tt
refused_later l lane from mid to image (LogFull other) full refused = refused
refused_later l lane from mid to image (BadRecord other place) full refused =
    (refused.0, refused.1, refused.2, (full.0 ++ refused.3.0, span_append l lane.0 from mid place image full.0 refused.3.0 full.1 refused.3.1))
refused_later l lane from mid to image NoMemory full refused =
    (omega (arith, full.1.size, refused.0), (full.0 ++ refused.1.0, span_append l lane.0 from mid to image full.0 refused.1.0 full.1 refused.1.1))

-- records that are there one by one
pub has_each : (l : Layout) (lane place : ℕ) (image : List ℕ) (xs : List UndoRecord) → ((i : ℕ) (d : UndoRecord) → i < length xs → HasRecord l lane (place + i) image (get_or xs i d)) → HasRecords l lane place image xs
has_each l lane place image [] each = tt
has_each l lane place image (x ∷ xs) each =
    let here : place + 0 ≡ place = omega arith in (
      subst (λ (p : ℕ). HasRecord l lane p image x) here (each 0 x (omega arith)),
      has_each l lane (place + 1) image xs (λ i d lt.
          let next : place + suc i ≡ place + 1 + i = omega arith in
          subst (λ (p : ℕ). HasRecord l lane p image (get_or xs i d)) next (each (suc i) d (omega arith))),
    )

-- places that don't reach the area's end lie one behind the other
mod_on : (p i c : ℕ) → p % c + i < c → (p + i) % c ≡ p % c + i
mod_on p i c lt = sym (mod-add-mod p c i) ∙ mod-eq_of_lt lt

-- the place behind one that isn't the area's last, and behind the last one
pub mod_next : (p c : ℕ) → p % c + 1 < c → (p + 1) % c ≡ p % c + 1
mod_next p c lt = mod_on p 1 c lt

pub mod_round : (p c : ℕ) → p % c + 1 ≡ c → (p + 1) % c ≡ 0
mod_round p c end = sym (mod-add-mod p c 1) ∙ ap (λ (n : ℕ). n % c) end ∙ mod_self c

get_take : (xs : List UndoRecord) (n i : ℕ) (d : UndoRecord) → i < n → get_or (take n xs) i d ≡ get_or xs i d
get_take [] zero i d lt = refl
get_take [] (suc n) i d lt = refl
get_take (x ∷ xs) zero i d lt = absurd (omega arith)
get_take (x ∷ xs) (suc n) zero d lt = refl
get_take (x ∷ xs) (suc n) (suc i) d lt = get_take xs n i d (omega arith)

module _ (l : Layout) (lane place n : ℕ) (image bytes : List ℕ) (records : List UndoRecord) (at : ℕ) (at_is : at ≡ record_at l lane place)
    (is : bytes ≡ part at (16 * n) image) (in_area : place % l.capacity + n ≤ l.capacity) (long : length records ≡ n) where
  -- the bytes of a place of the run
  here : (i : ℕ) → i < n → part (16 * i) 16 bytes ≡ part (record_at l lane (place + i)) 16 image
  here i lt =
      let on : (place + i) % l.capacity ≡ place % l.capacity + i = mod_on place i l.capacity (omega arith) in
      let where_at : at + 16 * i ≡ record_at l lane (place + i) = omega (arith, on, at_is) in
      ap (part (16 * i) 16) is ∙ part_part (16 * i) 16 at (16 * n) image (omega arith) ∙ ap (λ (k : ℕ). part k 16 image) where_at

  -- the first records of the run are there
  pub first_there : (k : ℕ) → k ≤ n → HoldsFirst l bytes k records → HasRecords l lane place image (take k records)
  first_there k le holds = has_each l lane place image (take k records) (λ i d lt.
      let below : i < k = omega (arith, length-take k records) in
      subst (HasRecord l lane (place + i) image) (sym (get_take records k i d below))
      (subst (λ (b : List ℕ). SpellsIn l b (get_or records i d)) (here i (omega arith)) (holds i d below)))

  -- where it breaks, the image has no record
  pub broken : (i : ℕ) → BreaksAt l bytes records i → (lane' : Lane) → lane'.0 ≡ lane → (to : ℕ) → place + n ≤ to → RefusesRead l lane' place to image (BadRecord lane' (place + i))
  broken i b lane' lane_is to le =
      let lt : i < n = omega (arith, b.within) in (
        refl,
        omega arith,
        (λ r has. b.bad r (subst (λ (xs : List ℕ). SpellsIn l xs r) (sym (here i lt)) (subst (λ (m : ℕ). HasRecord l m (place + i) image r) lane_is has))),
        (
          take i records,
          record {
            size = let short : length (take i records) ≡ i = omega (arith, length-take i records) in omega (arith, short);
            each = subst (λ (m : ℕ). HasRecords l m place image (take i records)) (sym lane_is) (first_there i (omega arith) b.before);
          },
        ),
      )

-- full places, and a run behind them
pub full_more : (l : Layout) (lane from place n : ℕ) (image : List ℕ) (run : List UndoRecord) → n ≤ length run → IsFull l lane from place image → HasRecords l lane place image (take n run) → IsFull l lane from (place + n) image
full_more l lane from place n image run le full more =
    let long : length (take n run) ≡ n = omega (arith, length-take n run) in
    (full.0 ++ take n run, span_append l lane from place (place + n) image full.0 (take n run) full.1 (record { size = omega (arith, long); each = more }))
