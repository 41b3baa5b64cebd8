-- Records that are written in runs: each is a write of its own.
use Rattle.std.proofs.Common.{◌≡◌, ℕ, zero, suc, ◌+◌, ◌*◌, ◌%◌, ◌<◌, ◌≤◌, List, [], ◌∷◌, ◌++◌, All, length, get_or, take, drop, refl, sym, ◌∙◌, ap, subst, arith, append_assoc, length-append, length-take}
use Rattle.std.proofs.lemmas.List.{append-nil, take_more}
use Rattle.heap_model.specs.declared.record.UndoRecord.{UndoRecord}
use Rattle.heap_model.specs.declared.record.UndoRecord.TheVariants.{Acq}
use Rattle.block_disk.specs.Bytes.{spliced}
use Rattle.block_disk.specs.Device.{Range, Device, IsClear, written, written_units, unit_ranges}
use Rattle.block_disk.specs.Images.{Always, ImageBut, LeavesOnly}
use Rattle.block_disk.proofs.Ranges.{outside_more}
use Rattle.block_disk.proofs.Images.{follows, weaker, now_too, besides_then, besides_wider}
use Rattle.image_parts.specs.Calls.{after}
use Rattle.image_parts.specs.Layout.{IsLayout, record_at, size_of}
use Rattle.image_parts.specs.declared.layout.Layout.{Layout}
use Rattle.undo_log.specs.RecordBytes.{record_bytes, run_bytes}
use Rattle.undo_log.specs.Area.{IsLoggable, HasRecords, record_range, record_ranges, record_writes}
use Rattle.undo_log.proofs.Runs.{mod_next}
use Rattle.undo_log.proofs.Places.{next_place}
use Rattle.undo_log.proofs.Appends.{writes_more, next_there, size_kept, clear_one}

-- a list's beginning, and what is behind it
take_first : (xs ys : List ℕ) → take (length xs) (xs ++ ys) ≡ xs
take_first [] ys = refl
take_first (x ∷ xs) ys = ap (λ (zs : List ℕ). x ∷ zs) (take_first xs ys)

drop_first : (xs ys : List ℕ) → drop (length xs) (xs ++ ys) ≡ ys
drop_first [] ys = refl
drop_first (x ∷ xs) ys = drop_first xs ys

-- the first i and then n more
pub take_both : (i n : ℕ) (xs : List UndoRecord) → take (i + n) xs ≡ take i xs ++ take n (drop i xs)
take_both zero n xs = let e : 0 + n ≡ n = omega arith in ap (λ (k : ℕ). take k xs) e
take_both (suc i) n [] = let e : suc i + n ≡ suc (i + n) = omega arith in ap (λ (k : ℕ). take {A = UndoRecord} k []) e ∙ none n
  where
    none : (n : ℕ) → [] ≡ take {A = UndoRecord} n []
    none zero = refl
    none (suc n) = refl
take_both (suc i) n (x ∷ xs) = let e : suc i + n ≡ suc (i + n) = omega arith in ap (λ (k : ℕ). take k (x ∷ xs)) e ∙ ap (λ (zs : List UndoRecord). x ∷ zs) (take_both i n xs)

-- a run is written as so many writes of 16 bytes
pub run_written : (l : Layout) (lane place : ℕ) (run : List UndoRecord) (d : Device) → place % l.capacity + length run ≤ l.capacity
    → written_units (length run) (record_at l lane place) (run_bytes run) d ≡ after (record_writes l lane place run) d
run_written l lane place [] d in_area = refl
run_written l lane place (r ∷ []) d in_area = ap (λ (xs : List ℕ). written (record_at l lane place) xs d) (take_first (record_bytes r) [])
run_written l lane place (r ∷ s ∷ run) d in_area =
    let n : ℕ = length (s ∷ run) in
    let at : ℕ = record_at l lane place in
    let ys : List ℕ = run_bytes (s ∷ run) in
    let next : place % l.capacity + 1 < l.capacity = omega arith in
    let on : (place + 1) % l.capacity ≡ place % l.capacity + 1 = mod_next place l.capacity next in
    ap (λ (xs : List ℕ). written_units n (at + 16) (drop 16 (record_bytes r ++ ys)) (written at xs d)) (take_first (record_bytes r) ys)
    ∙ ap (λ (xs : List ℕ). written_units n (at + 16) xs (written at (record_bytes r) d)) (drop_first (record_bytes r) ys)
    ∙ ap (λ (k : ℕ). written_units n k ys (written at (record_bytes r) d)) (next_place l lane place next)
    ∙ run_written l lane (place + 1) (s ∷ run) (written at (record_bytes r) d) (omega (arith, on))

-- in their places
pub run_ranges : (l : Layout) (lane place n : ℕ) → place % l.capacity + n ≤ l.capacity → unit_ranges n (record_at l lane place) ≡ record_ranges l lane place n
run_ranges l lane place zero in_area = refl
run_ranges l lane place (suc zero) in_area = refl
run_ranges l lane place (suc (suc n)) in_area =
    let next : place % l.capacity + 1 < l.capacity = omega arith in
    let on : (place + 1) % l.capacity ≡ place % l.capacity + 1 = mod_next place l.capacity next in
    ap (λ (k : ℕ). record_range l lane place ∷ unit_ranges (suc n) k) (next_place l lane place next)
    ∙ ap (λ (rs : List Range). record_range l lane place ∷ rs) (run_ranges l lane (place + 1) (suc n) (omega (arith, on)))

-- a run's bytes are 16 for each record
pub run_long : (run : List UndoRecord) → length (run_bytes run) ≡ length run * 16
run_long [] = refl
run_long (r ∷ run) = omega (arith, length-append (record_bytes r) (run_bytes run), run_long run)

-- one record more
pub run_more : (xs : List UndoRecord) (r : UndoRecord) → run_bytes (xs ++ r ∷ []) ≡ run_bytes xs ++ record_bytes r
run_more [] r = append-nil (record_bytes r)
run_more (x ∷ xs) r = ap (λ (ys : List ℕ). record_bytes x ++ ys) (run_more xs r) ∙ sym (append_assoc (record_bytes x) (run_bytes xs) (record_bytes r))

-- what is spliced in, behind what stands before it
take_spliced : (bytes ys : List ℕ) (at : ℕ) → at + length ys ≤ length bytes → take (at + length ys) (spliced bytes at ys) ≡ take at bytes ++ ys
take_spliced bytes ys at fits =
    let front : length (take at bytes) ≡ at = omega (arith, length-take at bytes) in
    let long : at + length ys ≡ length (take at bytes ++ ys) = omega (arith, length-append (take at bytes) ys, front) in
    ap (λ (k : ℕ). take k (spliced bytes at ys)) long ∙ take_first (take at bytes ++ ys) (drop (at + length ys) bytes)

-- a record's bytes, behind those of the others
pub run_spliced : (bytes : List ℕ) (at to : ℕ) (r : UndoRecord) → to ≡ at + 16 → at + 16 ≤ length bytes → take to (spliced bytes at (record_bytes r)) ≡ take at bytes ++ record_bytes r
run_spliced bytes at to r is fits = ap (λ (k : ℕ). take k (spliced bytes at (record_bytes r))) is ∙ take_spliced bytes (record_bytes r) at fits

-- records, and then others
pub writes_append : (l : Layout) (lane place : ℕ) (xs ys : List UndoRecord) (d : Device) →
    after (record_writes l lane place (xs ++ ys)) d ≡ after (record_writes l lane (place + length xs) ys) (after (record_writes l lane place xs) d)
writes_append l lane place [] ys d =
    let here : place ≡ place + 0 = omega arith in
    ap (λ (p : ℕ). after (record_writes l lane p ys) d) here
writes_append l lane place (x ∷ xs) ys d =
    let here : place + 1 + length xs ≡ place + length (x ∷ xs) = omega arith in
    let first : Device = written (record_at l lane place) (record_bytes x) d in
    writes_append l lane (place + 1) xs ys first
    ∙ ap (λ (p : ℕ). after (record_writes l lane p ys) (after (record_writes l lane (place + 1) xs) first)) here

-- a run of places among n
clear_run : (l : Layout) (lane place n i k j : ℕ) → i + k ≤ n → IsClear j (record_ranges l lane place n) → IsClear j (record_ranges l lane (place + i) k)
clear_run l lane place n i zero j le clear = tt
clear_run l lane place n i (suc k) j le clear =
    let next : place + (i + 1) ≡ place + i + 1 = omega arith in (
      (clear_one l lane place n i j (omega arith) clear).0,
      subst (λ (p : ℕ). IsClear j (record_ranges l lane p k)) next (clear_run l lane place n (i + 1) k j (omega arith) clear),
    )

run_within : (l : Layout) (lane place n i k : ℕ) (old mid : Device) (image : List ℕ) → i + k ≤ n → Always mid (ImageBut old (record_ranges l lane place n))
    → ImageBut mid (record_ranges l lane (place + i) k) image → ImageBut old (record_ranges l lane place n) image
run_within l lane place n i k old mid image le always from =
    besides_then old mid (record_ranges l lane place n) image always
    (besides_wider mid (record_ranges l lane (place + i) k) (record_ranges l lane place n) image
    (λ xs ys same. outside_more (record_ranges l lane (place + i) k) (record_ranges l lane place n) xs ys (λ j clear. clear_run l lane place n i k j le clear) same) from)

-- a run in some of n places, after others
pub run_follows : (l : Layout) (lane place n i k : ℕ) (old mid new : Device) → i + k ≤ n → Always mid (ImageBut old (record_ranges l lane place n))
    → LeavesOnly old mid (ImageBut old (record_ranges l lane place n)) → LeavesOnly mid new (ImageBut mid (record_ranges l lane (place + i) k))
    → LeavesOnly old new (ImageBut old (record_ranges l lane place n))
run_follows l lane place n i k old mid new le always before one =
    follows old mid new (ImageBut old (record_ranges l lane place n)) (record_ranges l lane (place + i) k) before one (λ image from. run_within l lane place n i k old mid image le always from)

pub run_always : (l : Layout) (lane place n i k : ℕ) (old mid new : Device) → i + k ≤ n → Always mid (ImageBut old (record_ranges l lane place n))
    → LeavesOnly mid new (ImageBut mid (record_ranges l lane (place + i) k)) → Always new (ImageBut old (record_ranges l lane place n))
run_always l lane place n i k old mid new le always one =
    now_too mid new (ImageBut old (record_ranges l lane place n)) always
    (weaker mid new (ImageBut mid (record_ranges l lane (place + i) k)) (ImageBut old (record_ranges l lane place n)) (λ image from. run_within l lane place n i k old mid image le always from) one)

-- nothing is written
abbrev none : UndoRecord
none = Acq (record { 0 = 0 }) 0

module _ (l : Layout) (limits : IsLayout l) (lane : ℕ) (in_image : lane < l.lanes) where
  -- writes keep the size
  pub writes_size : (place : ℕ) (d : Device) (xs : List UndoRecord) → size_of l ≤ length d.now.bytes → length (after (record_writes l lane place xs) d).now.bytes ≡ length d.now.bytes
  writes_size place d [] fits = refl
  writes_size place d (x ∷ xs) fits =
      let one = size_kept l limits lane in_image place d x fits in
      writes_size (place + 1) (written (record_at l lane place) (record_bytes x) d) xs (omega (arith, one, fits)) ∙ one

  -- what was written is there
  pub written_there : (place : ℕ) (d : Device) (records : List UndoRecord) (i : ℕ) → size_of l ≤ length d.now.bytes → length records ≤ l.capacity → All (IsLoggable l) records → i ≤ length records
      → HasRecords l lane place (after (record_writes l lane place (take i records)) d).now.bytes (take i records)
  written_there place d records zero fits few loggable le = tt
  written_there place d records (suc i) fits few loggable le =
      let less : i < length records = omega arith in
      let r : UndoRecord = get_or records i none in
      let xs : List UndoRecord = take i records in
      let long : length xs ≡ i = omega (arith, length-take i records) in
      let succ : i + 1 ≡ suc i = omega arith in
      let more : take (suc i) records ≡ xs ++ r ∷ [] = ap (λ (k : ℕ). take k records) (sym succ) ∙ take_more records i none less in
      let before : Device = after (record_writes l lane place xs) d in
      let size = writes_size place d xs fits in
      subst (λ (ys : List UndoRecord). HasRecords l lane place (after (record_writes l lane place ys) d).now.bytes ys) (sym more)
      (subst (λ (x : Device). HasRecords l lane place x.now.bytes (xs ++ r ∷ [])) (sym (writes_more l lane place xs r d))
      (next_there l limits lane in_image place before xs r (omega (arith, size, fits)) (omega (arith, long)) (loggable i none less)
      (written_there place d records i fits few loggable (omega arith))))
