-- What a half holds, by its sectors, and what a batch spells into it.
use Rattle.std.proofs.Common.{◌≡◌, ◌≢◌, ◌⊎◌, inl, inr, ℕ, zero, suc, ◌+◌, ◌-◌, ◌*◌, ◌^◌, ◌<◌, ◌≤◌, ◌&&◌, nat_le, if◌then◌else◌, Bool, true, List, [], ◌∷◌, ◌++◌, length, take, drop, replicate, nat_eq, Option, Some, None, refl, sym, ◌∙◌, ap, subst, append_assoc, arith, eq-eqb, eqb-true, le-leb, leb-true, length-append, length-take, length-drop}
use Rattle.std.proofs.lemmas.List.{length-replicate, drop-drop, drop-take, take-take, take_all, drop_at, take-append-le, take-append-drop}
use Rattle.std.proofs.lemmas.Nat.{from_be_bytes-to_be_bytes_8}
use Rattle.std.proofs.lemmas.List.Elements.{All-head, All-tail, All-take, All-drop}
use Rattle.std.proofs.lemmas.Bool.{and_parts, cases_Bool, cases_eq, cases_lt}
use Rattle.std.proofs.Math.Seq.{drop-append-add, take-add, take-append-add}
use Rattle.std.specs.Int.{from_be_bytes, w64}
use Rattle.block_disk.specs.Bytes.{spliced}
use Rattle.block_disk.proofs.Bytes.{length_spliced}
use Rattle.atomic_sectors.specs.Sectors.{sector}
use Rattle.journal_batches.specs.declared.areas.Areas.{Areas}
use Rattle.journal_batches.specs.declared.entry.Entry.{Entry}
use Rattle.journal_batches.specs.Areas.{half_bytes}
use Rattle.journal_batches.specs.Batches.{Batch, all_stamped, batch_in, count_in, entries_from, entries_in, is_complete, number, sectors_for, stamp_at}
use Rattle.journal_batches.specs.Entries.{entries_bytes}
use Rattle.journal_batches.specs.Laws.{HalfLaw, SpelledLaw, StampsLaw}
use Rattle.journal_batches.specs.Spelled.{AreWords, CanSpell, padded, pages_for, sector_bytes, sectors_bytes, spelled}

-- ---- lengths ----

-- padded bytes are as many as asked for
pub length_padded : (n : ℕ) (bytes : List ℕ) → length (padded n bytes) ≡ n
length_padded n bytes = simp (length-take, length-append, length-replicate) (omega arith)

-- a sector has 512 bytes
pub length_sector_bytes : (stamp count : ℕ) (entries : List Entry) → length (sector_bytes stamp count entries) ≡ 512
length_sector_bytes stamp count entries = omega (arith, length_padded 496 (entries_bytes (take 31 entries)))

-- n sectors have n times as many
pub length_sectors_bytes : (n stamp count : ℕ) (entries : List Entry) → length (sectors_bytes n stamp count entries) ≡ n * 512
length_sectors_bytes zero stamp count entries = refl
length_sectors_bytes (suc n) stamp count entries =
    let here = length_sector_bytes stamp count entries in
    let rest = length_sectors_bytes n stamp count (drop 31 entries) in
    length-append (sector_bytes stamp count entries) (sectors_bytes n stamp count (drop 31 entries)) ∙ omega (arith, here, rest)

-- a batch has whole pages
pub length_spelled : (stamp : ℕ) (entries : List Entry) → length (spelled stamp entries) ≡ pages_for (length entries) * 4096
length_spelled stamp entries = let all = length_sectors_bytes (pages_for (length entries) * 8) stamp (length entries) entries in omega arith

-- ---- what a half holds, by its first sectors ----

-- a number stands in the first eight bytes
pub number_take : (n : ℕ) (bytes : List ℕ) → 8 ≤ n → number (take n bytes) ≡ number bytes
number_take n bytes long = ap (from_be_bytes w64) (take-take 8 n bytes long)

-- bytes that agree in n sectors agree in all that these hold
pub take_sectors : (n : ℕ) (xs ys : List ℕ) → ((i : ℕ) → i < n → sector i xs ≡ sector i ys) → take (n * 512) xs ≡ take (n * 512) ys
take_sectors zero xs ys same = refl
take_sectors (suc n) xs ys same =
    let more : suc n * 512 ≡ n * 512 + 512 = omega arith in
    let front = take_sectors n xs ys (λ i less. same i (omega arith)) in
    let last = same n (omega arith) in
    ap (λ (k : ℕ). take k xs) more ∙ take-add (n * 512) 512 xs ∙ (λ i. front i ++ last i) ∙ sym (take-add (n * 512) 512 ys) ∙ sym (ap (λ (k : ℕ). take k ys) more)

-- bytes that agree at first agree behind some of these
take_behind : (m n k : ℕ) (xs ys : List ℕ) → m + n ≤ k → take k xs ≡ take k ys → take n (drop m xs) ≡ take n (drop m ys)
take_behind m n k xs ys within same =
    let less : take (m + n) xs ≡ take (m + n) ys = sym (take-take (m + n) k xs within) ∙ ap (take (m + n)) same ∙ take-take (m + n) k ys within in
    sym (drop-take m n xs) ∙ ap (drop m) less ∙ drop-take m n ys

-- so does a number there
number_same : (m k : ℕ) (xs ys : List ℕ) → m + 8 ≤ k → take k xs ≡ take k ys → number (drop m xs) ≡ number (drop m ys)
number_same m k xs ys within same = ap (from_be_bytes w64) (take_behind m 8 k xs ys within same)

-- stamps are those of the first sectors
pub all_stamped_same : (n stamp : ℕ) (xs ys : List ℕ) → take (n * 512) xs ≡ take (n * 512) ys → all_stamped n stamp xs ≡ all_stamped n stamp ys
all_stamped_same zero stamp xs ys same = refl
all_stamped_same (suc n) stamp xs ys same =
    let first = number_same 0 (suc n * 512) xs ys (omega arith) same in
    let rest = all_stamped_same n stamp (drop 512 xs) (drop 512 ys) (take_behind 512 (n * 512) (suc n * 512) xs ys (omega arith) same) in
    λ i. nat_eq (first i) stamp && rest i

-- n entries are those of the first bytes
entries_from_same : (n : ℕ) (xs ys : List ℕ) → take (n * 16) xs ≡ take (n * 16) ys → entries_from n xs ≡ entries_from n ys
entries_from_same zero xs ys same = refl
entries_from_same (suc n) xs ys same =
    let at = number_same 0 (suc n * 16) xs ys (omega arith) same in
    let word = number_same 8 (suc n * 16) xs ys (omega arith) same in
    let later = entries_from_same n (drop 16 xs) (drop 16 ys) (take_behind 16 (n * 16) (suc n * 16) xs ys (omega arith) same) in
    λ i. record { at = at i; word = word i } ∷ later i

-- entries are those of the first sectors
pub entries_in_same : (n : ℕ) (xs ys : List ℕ) → take (n * 512) xs ≡ take (n * 512) ys → entries_in n xs ≡ entries_in n ys
entries_in_same zero xs ys same = refl
entries_in_same (suc n) xs ys same =
    let here = entries_from_same 31 (drop 16 xs) (drop 16 ys) (take_behind 16 496 (suc n * 512) xs ys (omega arith) same) in
    let rest = entries_in_same n (drop 512 xs) (drop 512 ys) (take_behind 512 (n * 512) (suc n * 512) xs ys (omega arith) same) in
    λ i. here i ++ rest i

-- the batch, by the parts that tell it
batch_of : (count stamp size : ℕ) (stamped : Bool) (entries : List Entry) → Option Batch
batch_of count stamp size stamped entries =
    if nat_le (sectors_for count * 512) size && stamped then Some (record { stamp = stamp; entries = take count entries }) else None

-- halves of one length hold the same batch where they agree in the sectors that the first one's batch takes
pub batch_in_same : (xs ys : List ℕ) → length ys ≡ length xs → ((i : ℕ) → i < sectors_for (count_in xs) → sector i ys ≡ sector i xs)
    → batch_in ys ≡ batch_in xs
unfolding batch_of
batch_in_same xs ys long same =
    let n = sectors_for (count_in xs) in
    let front : take (n * 512) ys ≡ take (n * 512) xs = take_sectors n ys xs same in
    let count : count_in ys ≡ count_in xs = number_same 8 (n * 512) ys xs (omega arith) front in
    let stamp : number ys ≡ number xs = number_same 0 (n * 512) ys xs (omega arith) front in
    let counted : batch_in ys ≡ batch_of (count_in xs) (number ys) (length ys) (all_stamped n (number ys) ys) (entries_in n ys) =
    λ i. batch_of (count i) (number ys) (length ys) (all_stamped (sectors_for (count i)) (number ys) ys) (entries_in (sectors_for (count i)) ys) in
    let stamped : all_stamped n (number ys) ys ≡ all_stamped n (number xs) xs =
    ap (λ (s : ℕ). all_stamped n s ys) stamp ∙ all_stamped_same n (number xs) ys xs front in
    let entries = entries_in_same n ys xs front in
    counted ∙ (λ i. batch_of (count_in xs) (stamp i) (long i) (stamped i) (entries i))

-- ---- what a batch spells ----

-- padded bytes begin with the bytes
padded_is : (n : ℕ) (bytes more : List ℕ) → length bytes ≤ n → padded n bytes ++ more ≡ bytes ++ (take (n - length bytes) (replicate n 0) ++ more)
padded_is n bytes more fits =
    let is : n ≡ length bytes + (n - length bytes) = omega arith in
    ap (λ (l : List ℕ). l ++ more) (ap (λ (k : ℕ). take k (bytes ++ replicate n 0)) is ∙ take-append-add bytes (replicate n 0) (n - length bytes))
    ∙ append_assoc bytes (take (n - length bytes) (replicate n 0)) more

-- an entry has 16 bytes
pub length_entries_bytes : (entries : List Entry) → length (entries_bytes entries) ≡ length entries * 16
length_entries_bytes [] = refl
length_entries_bytes (e ∷ entries) = let rest = length_entries_bytes entries in omega arith

-- as many entries as asked for
length_entries_from : (n : ℕ) (bytes : List ℕ) → length (entries_from n bytes) ≡ n
length_entries_from zero bytes = refl
length_entries_from (suc n) bytes = ap suc (length_entries_from n (drop 16 bytes))

-- the numbers of an entry are ones of eight bytes
abbrev IsWord : Entry → Type 0
IsWord e = (e.at < 2 ^ 64) × (e.word < 2 ^ 64)

-- entries, read back
entries_read : (n : ℕ) (entries : List Entry) (more : List ℕ) → AreWords entries → length entries ≤ n
    → take (length entries) (entries_from n (entries_bytes entries ++ more)) ≡ entries
entries_read n [] more words fits = refl
entries_read zero (e ∷ entries) more words fits = absurd (omega arith)
entries_read (suc n) (e ∷ entries) more words fits =
    let fit = All-head IsWord e entries words in
    let later = entries_read n entries more (All-tail IsWord e entries words) (omega arith) in
    let at = from_be_bytes-to_be_bytes_8 e.at fit.0 in
    let word = from_be_bytes-to_be_bytes_8 e.word fit.1 in
    λ i. record { at = at i; word = word i } ∷ later i

-- the first 31 entries, read back from a sector
sector_read : (stamp count : ℕ) (entries : List Entry) (more : List ℕ) → AreWords entries
    → take (length (take 31 entries)) (entries_from 31 (drop 16 (sector_bytes stamp count entries ++ more))) ≡ take 31 entries
sector_read stamp count entries more words =
    let first = take 31 entries in
    let long : length (entries_bytes first) ≤ 496 = omega (arith, length_entries_bytes first, length-take 31 entries) in
    let is = padded_is 496 (entries_bytes first) more long in
    ap (λ (l : List ℕ). take (length first) (entries_from 31 l)) is
    ∙ entries_read 31 first (take (496 - length (entries_bytes first)) (replicate 496 0) ++ more) (All-take IsWord 31 entries words)
    (omega (arith, length-take 31 entries))

-- behind the first sector
behind_first : (n stamp count : ℕ) (entries : List Entry) (more : List ℕ)
    → drop 512 (sectors_bytes (suc n) stamp count entries ++ more) ≡ sectors_bytes n stamp count (drop 31 entries) ++ more
behind_first n stamp count entries more =
    ap (drop 512) (append_assoc (sector_bytes stamp count entries) (sectors_bytes n stamp count (drop 31 entries)) more)
    ∙ drop_at (sector_bytes stamp count entries) (sectors_bytes n stamp count (drop 31 entries) ++ more) 512 (length_sector_bytes stamp count entries)

-- the entries of the first sector and of those behind it
joined : (entries here later : List Entry) → length here ≡ 31 → take (length (take 31 entries)) here ≡ take 31 entries
    → take (length (drop 31 entries)) later ≡ drop 31 entries → take (length entries) (here ++ later) ≡ entries
joined entries here later many first rest = elim (cases_lt 31 (length entries)) [
  | inl more ↦
      let is : length entries ≡ length here + length (drop 31 entries) = omega (arith, length-drop 31 entries) in
      let front : here ≡ take 31 entries = sym (take_all (length (take 31 entries)) here (omega (arith, length-take 31 entries))) ∙ first in
      ap (λ (k : ℕ). take k (here ++ later)) is ∙ take-append-add here later (length (drop 31 entries)) ∙ (λ i. front i ++ rest i) ∙ take-append-drop 31 entries
  | inr few ↦
      take-append-le (length entries) here later (omega arith) ∙ subst (λ (l : List Entry). take (length l) here ≡ l) (take_all 31 entries few) first
]

-- all entries, read back
sectors_read : (k n stamp count : ℕ) (entries : List Entry) (more : List ℕ) → AreWords entries → k ≤ n → length entries ≤ k * 31
    → take (length entries) (entries_in k (sectors_bytes n stamp count entries ++ more)) ≡ entries
sectors_read zero n stamp count [] more words le fits = refl
sectors_read zero n stamp count (e ∷ entries) more words le fits = absurd (omega arith)
sectors_read (suc k) zero stamp count entries more words le fits = absurd (omega arith)
sectors_read (suc k) (suc n) stamp count entries more words le fits =
    let behind = sectors_bytes n stamp count (drop 31 entries) in
    let bytes = sectors_bytes (suc n) stamp count entries ++ more in
    let here = entries_from 31 (drop 16 bytes) in
    let later = entries_in k (drop 512 bytes) in
    let many : length here ≡ 31 = length_entries_from 31 (drop 16 bytes) in
    let first : take (length (take 31 entries)) here ≡ take 31 entries =
    ap (λ (l : List ℕ). take (length (take 31 entries)) (entries_from 31 (drop 16 l))) (append_assoc (sector_bytes stamp count entries) behind more)
    ∙ sector_read stamp count entries (behind ++ more) words in
    let others : length entries ≤ 31 + k * 31 = omega arith in
    let rest : take (length (drop 31 entries)) later ≡ drop 31 entries =
    ap (λ (l : List ℕ). take (length (drop 31 entries)) (entries_in k l)) (behind_first n stamp count entries more)
    ∙ sectors_read k n stamp count (drop 31 entries) more (All-drop IsWord 31 entries words) (omega arith) (omega (arith, length-drop 31 entries)) in
    joined entries here later many first rest

-- each sector's stamp is the batch's
pub stamp_read : (i n stamp count : ℕ) (entries : List Entry) (more : List ℕ) → stamp < 2 ^ 64 → i < n
    → stamp_at i (sectors_bytes n stamp count entries ++ more) ≡ stamp
stamp_read i zero stamp count entries more fits less = absurd (omega arith)
stamp_read zero (suc n) stamp count entries more fits less = from_be_bytes-to_be_bytes_8 stamp fits
stamp_read (suc i) (suc n) stamp count entries more fits less =
    let bytes = sectors_bytes (suc n) stamp count entries ++ more in
    let place : suc i * 512 ≡ 512 + i * 512 = omega arith in
    ap number (ap (λ (k : ℕ). drop k bytes) place ∙ sym (drop-drop (i * 512) 512 bytes) ∙ ap (drop (i * 512)) (behind_first n stamp count entries more))
    ∙ stamp_read i n stamp count (drop 31 entries) more fits (omega arith)

-- so these sectors are stamped
pub stamps_read : (k n stamp count : ℕ) (entries : List Entry) (more : List ℕ) → stamp < 2 ^ 64 → k ≤ n
    → all_stamped k stamp (sectors_bytes n stamp count entries ++ more) ≡ true
stamps_read zero n stamp count entries more fits le = refl
stamps_read (suc k) zero stamp count entries more fits le = absurd (omega arith)
stamps_read (suc k) (suc n) stamp count entries more fits le =
    let bytes = sectors_bytes (suc n) stamp count entries ++ more in
    let first : nat_eq (number bytes) stamp ≡ true = eq-eqb (number bytes) stamp (stamp_read 0 (suc n) stamp count entries more fits (omega arith)) in
    let rest = ap (all_stamped k stamp) (behind_first n stamp count entries more) ∙ stamps_read k n stamp count (drop 31 entries) more fits (omega arith) in
    λ i. first i && rest i

-- the first sector tells the count
pub count_read : (n stamp count : ℕ) (entries : List Entry) (more : List ℕ) → count < 2 ^ 64 → 0 < n
    → count_in (sectors_bytes n stamp count entries ++ more) ≡ count
count_read zero stamp count entries more fits less = absurd (omega arith)
count_read (suc n) stamp count entries more fits less = from_be_bytes-to_be_bytes_8 count fits

-- what is spelled holds the batch, whatever stands behind it
pub batch_read : (stamp : ℕ) (entries : List Entry) (more : List ℕ) → stamp < 2 ^ 64 → length entries < 2 ^ 64 → AreWords entries
    → batch_in (spelled stamp entries ++ more) ≡ Some (record { stamp = stamp; entries = entries })
unfolding batch_of
batch_read stamp entries more fits count_fits words =
    let c = length entries in
    let n = pages_for c * 8 in
    let k = sectors_for c in
    let bytes = spelled stamp entries ++ more in
    let le : k ≤ n = omega arith in
    let some : 0 < n = omega arith in
    let holds : c ≤ k * 31 = omega arith in
    let count : count_in bytes ≡ c = count_read n stamp c entries more count_fits some in
    let first : number bytes ≡ stamp = stamp_read 0 n stamp c entries more fits some in
    let room : nat_le (k * 512) (length bytes) ≡ true =
    le-leb (k * 512) (length bytes) (omega (arith, length-append (spelled stamp entries) more, length_spelled stamp entries)) in
    let stamped : all_stamped k stamp bytes ≡ true = stamps_read k n stamp c entries more fits le in
    let all : take c (entries_in k bytes) ≡ entries = sectors_read k n stamp c entries more words le holds in
    let told : batch_in bytes ≡ batch_of c stamp (length bytes) (all_stamped k stamp bytes) (entries_in k bytes) =
    λ i. batch_of (count i) (first i) (length bytes) (all_stamped (sectors_for (count i)) (first i) bytes) (entries_in (sectors_for (count i)) bytes) in
    told ∙ (λ i. if room i && stamped i then Some (record { stamp = stamp; entries = all i }) else None)

-- ---- the laws ----

-- bytes behind what is spliced in at the begin are as they were
pub spliced_behind : (half content : List ℕ) (i : ℕ) → length content ≤ i → drop i (spliced half 0 content) ≡ drop i half
spliced_behind half content i behind =
    let is : i ≡ length content + (i - length content) = omega arith in
    let again : 0 + length content + (i - length content) ≡ i = omega arith in
    ap (λ (k : ℕ). drop k (spliced half 0 content)) is ∙ drop-append-add content (drop (0 + length content) half) (i - length content)
    ∙ drop-drop (i - length content) (0 + length content) half ∙ ap (λ (k : ℕ). drop k half) again

-- a sector has its stamp
pub stamp_same : (i : ℕ) (xs ys : List ℕ) → sector i xs ≡ sector i ys → stamp_at i xs ≡ stamp_at i ys
stamp_same i xs ys same = sym (number_take 512 (drop (i * 512) xs) (omega arith)) ∙ ap number same ∙ number_take 512 (drop (i * 512) ys) (omega arith)

-- where the first sectors have one stamp, each has it
pub stamp_each : (i n stamp : ℕ) (xs : List ℕ) → all_stamped n stamp xs ≡ true → i < n → stamp_at i xs ≡ stamp
stamp_each i zero stamp xs all less = absurd (omega arith)
stamp_each zero (suc n) stamp xs all less = eqb-true (number xs) stamp (and_parts (nat_eq (number xs) stamp) (all_stamped n stamp (drop 512 xs)) all).0
stamp_each (suc i) (suc n) stamp xs all less =
    let place : 512 + i * 512 ≡ suc i * 512 = omega arith in
    ap number (ap (λ (k : ℕ). drop k xs) (sym place) ∙ sym (drop-drop (i * 512) 512 xs))
    ∙ stamp_each i n stamp (drop 512 xs) (and_parts (nat_eq (number xs) stamp) (all_stamped n stamp (drop 512 xs)) all).1 (omega arith)

-- what was spelled into a half is the batch that it holds
pub spelled_holds : SpelledLaw
spelled_holds a stamp entries half long can = batch_read stamp entries (drop (0 + length (spelled stamp entries)) half) can.stamp_fits can.count_fits can.words

module _ (a : Areas) (stamp : ℕ) (entries : List Entry) (half : List ℕ) (can : CanSpell a stamp entries) where
  -- each sector that a batch takes gets its stamp
  pub stamp_within : (i : ℕ) → i < pages_for (length entries) * 8 → stamp_at i (spliced half 0 (spelled stamp entries)) ≡ stamp
  stamp_within i within =
      stamp_read i (pages_for (length entries) * 8) stamp (length entries) entries (drop (0 + length (spelled stamp entries)) half) can.stamp_fits within

  -- each one behind these is as it was
  pub sector_behind : (i : ℕ) → pages_for (length entries) * 8 ≤ i → sector i (spliced half 0 (spelled stamp entries)) ≡ sector i half
  sector_behind i behind = ap (take 512) (spliced_behind half (spelled stamp entries) (i * 512) (omega (arith, length_spelled stamp entries)))

-- its stamps are the old ones and the new one
pub stamps_hold : StampsLaw
stamps_hold a stamp entries half i long can within = elim (cases_lt i (pages_for (length entries) * 8)) [
  | inl less ↦ inr (stamp_within a stamp entries half can i less)
  | inr more ↦ inl (stamp_same i (spliced half 0 (spelled stamp entries)) half (sector_behind a stamp entries half can i more))
]

-- of sectors that are as they were or as they are spelled
module _ (a : Areas) (stamp : ℕ) (entries : List Entry) (half image : List ℕ) (long : length half ≡ half_bytes a) (can : CanSpell a stamp entries)
    (fresh : (i : ℕ) → i * 512 + 512 ≤ length half → stamp_at i half ≢ stamp) (size : length image ≡ length half)
    (each : (i : ℕ) → (sector i image ≡ sector i half) ⊎ (sector i image ≡ sector i (spliced half 0 (spelled stamp entries)))) where
  -- those without the new stamp are as they were
  as_before : (i : ℕ) → stamp_at i image ≢ stamp → sector i image ≡ sector i half
  as_before i other = elim (each i) [
    | inl old ↦ old
    | inr new ↦ elim (cases_lt i (pages_for (length entries) * 8)) [
      | inl less ↦ absurd (other (stamp_same i image (spliced half 0 (spelled stamp entries)) new ∙ stamp_within a stamp entries half can i less))
      | inr more ↦ new ∙ sector_behind a stamp entries half can i more
    ]
  ]

  -- those with it are as they are spelled
  as_spelled : (i : ℕ) → i * 512 + 512 ≤ length half → stamp_at i image ≡ stamp → sector i image ≡ sector i (spliced half 0 (spelled stamp entries))
  as_spelled i within is = elim (each i) [
    | inl old ↦ absurd (fresh i within (sym (stamp_same i image half old) ∙ is))
    | inr new ↦ new
  ]

  -- it is as long
  spelled_size : length (spliced half 0 (spelled stamp entries)) ≡ length image
  spelled_size = length_spliced half (spelled stamp entries) 0 (omega (arith, can.fits, length_spelled stamp entries)) ∙ sym size

  -- a batch that is complete is the old one or the new one
  when_complete : is_complete image ≡ true → (batch_in image ≡ batch_in half) ⊎ (batch_in image ≡ Some (record { stamp = stamp; entries = entries }))
  when_complete complete =
      let n = sectors_for (count_in image) in
      let parts = and_parts (nat_le (n * 512) (length image)) (all_stamped n (number image) image) complete in
      let fits : n * 512 ≤ length image = leb-true (n * 512) (length image) parts.0 in
      let stamps = λ (i : ℕ) (less : i < n). stamp_each i n (number image) image parts.1 less in
      elim (cases_eq (number image) stamp) [
        | inl is ↦
            let same = batch_in_same image (spliced half 0 (spelled stamp entries)) spelled_size (λ i less. sym (as_spelled i (omega arith) (stamps i less ∙ is))) in
            inr (sym same ∙ spelled_holds a stamp entries half long can)
        | inr other ↦ inl (sym (batch_in_same image half (sym size) (λ i less. sym (as_before i (λ is. other (sym (stamps i less) ∙ is))))))
      ]

-- so they hold the old batch, the new one or none
pub half_holds : HalfLaw
half_holds a stamp entries half image long can fresh size each = elim (cases_Bool (is_complete image)) [
  | inl complete ↦ inr (when_complete a stamp entries half image long can fresh size each complete)
  | inr none ↦
      let batch : Batch = record { stamp = number image; entries = take (count_in image) (entries_in (sectors_for (count_in image)) image) } in
      inl (ap (λ (b : Bool). if b then Some batch else None) none)
]
