-- What is written of a batch sector by sector, and read of it entry by entry.
use Rattle.std.proofs.Common.{◌≡◌, ◌≢◌, inl, inr, eq-eqb, ℕ, zero, suc, ◌+◌, ◌-◌, ◌*◌, ◌/◌, ◌%◌, ◌<◌, ◌≤◌, min, List, [], ◌∷◌, ◌++◌, length, get_or, take, drop, refl, sym, ◌∙◌, ap, arith, append_assoc, length-append, length-take, length-drop}
use Rattle.std.specs.Prelude.{Bool, false, ◌==◌, ◌&&◌, max, replicate}
use Rattle.std.proofs.lemmas.Bool.{cases_lt, ne_eqb}
use Rattle.std.specs.Int.{to_be_bytes, w64}
use Rattle.std.proofs.lemmas.List.{append-nil, drop-drop, take_at, drop_at, drop_all, drop_min, take_more, take_min, take_rest, get_or_append_left, get_or-append-add, replicate-append-replicate, length-replicate, length-take-le}
use Rattle.std.proofs.lemmas.Slice.{take-put_mid}
use borrow.Rule.Slice.PartMut.{put_mid}
use Rattle.block_disk.specs.Bytes.{part}
use Rattle.journal_batches.specs.declared.entry.Entry.{Entry}
use Rattle.journal_batches.specs.Batches.{all_stamped, entries_from, entries_in, number, sectors_for}
use Rattle.journal_batches.specs.Entries.{entries_bytes, entry_bytes}
use Rattle.journal_batches.specs.Spelled.{padded, sector_bytes, sectors_bytes}

-- one sector more is looked at
stamped_more : (n i stamp : ℕ) (half : List ℕ) → i < n
    → all_stamped (n - i) stamp (drop (i * 512) half) ≡ ((number (drop (i * 512) half) == stamp) && all_stamped (n - (i + 1)) stamp (drop ((i + 1) * 512) half))
stamped_more n i stamp half less =
    let left : n - i ≡ suc (n - (i + 1)) = omega arith in
    let next : i * 512 + 512 ≡ (i + 1) * 512 = omega arith in
    ap (λ (k : ℕ). all_stamped k stamp (drop (i * 512) half)) left
    ∙ ap (λ (xs : List ℕ). (number (drop (i * 512) half) == stamp) && all_stamped (n - (i + 1)) stamp xs) (drop-drop 512 (i * 512) half ∙ ap (λ (k : ℕ). drop k half) next)

-- a stamp that is another one, or the same
pub stamped_not : (n i stamp : ℕ) (half : List ℕ) → i < n → (found : ℕ) → found ≡ number (drop (i * 512) half) → found ≢ stamp
    → all_stamped (n - i) stamp (drop (i * 512) half) ≡ false
stamped_not n i stamp half less found is other =
    stamped_more n i stamp half less
    ∙ ap (λ (b : Bool). b && all_stamped (n - (i + 1)) stamp (drop ((i + 1) * 512) half)) (ap (λ (k : ℕ). k == stamp) (sym is) ∙ ne_eqb found stamp other)

pub stamped_here : (n i stamp : ℕ) (half : List ℕ) → i < n → number (drop (i * 512) half) ≡ stamp
    → all_stamped (n - i) stamp (drop (i * 512) half) ≡ all_stamped (n - (i + 1)) stamp (drop ((i + 1) * 512) half)
stamped_here n i stamp half less same =
    stamped_more n i stamp half less
    ∙ ap (λ (b : Bool). b && all_stamped (n - (i + 1)) stamp (drop ((i + 1) * 512) half)) (eq-eqb (number (drop (i * 512) half)) stamp same)

-- the latest of one stamp more
pub most_more : (f : ℕ → ℕ) (i latest next : ℕ) → ((k : ℕ) → k < i → f k ≤ latest) → next ≡ max latest (f i) → (k : ℕ) → k < i + 1 → f k ≤ next
most_more f i latest next most is k less = elim (cases_lt k i) [
  | inl below ↦ let here = most k below in omega arith
  | inr from ↦ let e : k ≡ i = omega arith in let same : f k ≡ f i = ap f e in omega arith
]

pub latest_more : (f : ℕ → ℕ) (long i latest next : ℕ) → i * 512 + 512 ≤ long → (i ≡ 0 → latest ≡ 0) → (0 < i → (k : ℕ) × (k * 512 + 512 ≤ long) × (f k ≡ latest))
    → next ≡ max latest (f i) → (k : ℕ) × (k * 512 + 512 ≤ long) × (f k ≡ next)
latest_more f long i latest next fits none one is = elim (cases_lt (f i) latest) [
  | inl below ↦ let same : latest ≡ next = omega arith in elim (cases_lt 0 i) [
    | inl some ↦ let had = one some in (had.0, had.1, had.2 ∙ same)
    | inr from ↦ let zero_at : i ≡ 0 = omega arith in let nothing = none zero_at in absurd (omega arith)
  ]
  | inr from ↦ let same : f i ≡ next = omega arith in (i, fits, same)
]

-- one entry more
entries_more : (es : List Entry) (e : Entry) → entries_bytes (es ++ e ∷ []) ≡ entries_bytes es ++ entry_bytes e
entries_more [] e = append-nil (entry_bytes e)
entries_more (x ∷ es) e = ap (λ (ys : List ℕ). entry_bytes x ++ ys) (entries_more es e) ∙ sym (append_assoc (entry_bytes x) (entries_bytes es) (entry_bytes e))

-- each takes 16 bytes
entries_long : (es : List Entry) → length (entries_bytes es) ≡ 16 * length es
entries_long [] = refl
entries_long (e ∷ es) = omega (arith, length-append (entry_bytes e) (entries_bytes es), entries_long es)

-- so many zeros, and so many more
zeros_both : (n m : ℕ) → m ≤ n → replicate {A = ℕ} n 0 ≡ replicate (n - m) 0 ++ replicate m 0
zeros_both n m less =
    let all : n ≡ n - m + m = omega arith in
    ap (λ (k : ℕ). replicate {A = ℕ} k 0) all ∙ sym (replicate-append-replicate {A = ℕ} (n - m) m 0)

-- zeros stand behind what is padded
padded_is : (n : ℕ) (xs : List ℕ) → length xs ≤ n → padded n xs ≡ xs ++ replicate (n - length xs) 0
padded_is n xs fits =
    let long : length (xs ++ replicate (n - length xs) 0) ≡ n = omega (arith, length-append xs (replicate (n - length xs) 0), length-replicate {A = ℕ} (n - length xs) 0) in
    ap (λ (ys : List ℕ). take n (xs ++ ys)) (zeros_both n (length xs) fits)
    ∙ ap (take n) (sym (append_assoc xs (replicate (n - length xs) 0) (replicate (length xs) 0)))
    ∙ take_at (xs ++ replicate (n - length xs) 0) (replicate (length xs) 0) n long

padded_long : (n : ℕ) (xs : List ℕ) → length (padded n xs) ≡ n
padded_long n xs = length-take-le n (xs ++ replicate n 0) (omega (arith, length-append xs (replicate n 0), length-replicate {A = ℕ} n 0))

-- a sector has 512 bytes
sector_long : (stamp count : ℕ) (es : List Entry) → length (sector_bytes stamp count es) ≡ 512
sector_long stamp count es =
    let body : List ℕ = padded 496 (entries_bytes (take 31 es)) in
    length-append (to_be_bytes w64 stamp ++ to_be_bytes w64 count) body ∙ ap (λ (k : ℕ). 16 + k) (padded_long 496 (entries_bytes (take 31 es)))

sectors_long : (n stamp count : ℕ) (es : List Entry) → length (sectors_bytes n stamp count es) ≡ n * 512
sectors_long zero stamp count es = refl
sectors_long (suc n) stamp count es =
    let one = sector_long stamp count es in
    let rest = sectors_long n stamp count (drop 31 es) in
    length-append (sector_bytes stamp count es) (sectors_bytes n stamp count (drop 31 es)) ∙ omega (arith, one, rest)

-- some sectors, and those behind them
sectors_both : (a b stamp count : ℕ) (es : List Entry)
    → sectors_bytes (a + b) stamp count es ≡ sectors_bytes a stamp count es ++ sectors_bytes b stamp count (drop (a * 31) es)
sectors_both zero b stamp count es = let e : 0 + b ≡ b = omega arith in ap (λ (k : ℕ). sectors_bytes k stamp count es) e
sectors_both (suc a) b stamp count es =
    let e : suc a + b ≡ suc (a + b) = omega arith in
    let next : 31 + a * 31 ≡ suc a * 31 = omega arith in
    let one : List ℕ = sector_bytes stamp count es in
    ap (λ (k : ℕ). sectors_bytes k stamp count es) e
    ∙ ap (λ (ys : List ℕ). one ++ ys) (sectors_both a b stamp count (drop 31 es) ∙ ap (λ (fs : List Entry). sectors_bytes a stamp count (drop 31 es) ++ sectors_bytes b stamp count fs) (drop-drop (a * 31) 31 es ∙ ap (λ (k : ℕ). drop k es) next))
    ∙ sym (append_assoc one (sectors_bytes a stamp count (drop 31 es)) (sectors_bytes b stamp count (drop (suc a * 31) es)))

sectors_more : (i stamp count : ℕ) (es : List Entry)
    → sectors_bytes (i + 1) stamp count es ≡ sectors_bytes i stamp count es ++ sector_bytes stamp count (drop (i * 31) es)
sectors_more i stamp count es = sectors_both i 1 stamp count es ∙ ap (λ (ys : List ℕ). sectors_bytes i stamp count es ++ ys) (append-nil (sector_bytes stamp count (drop (i * 31) es)))

-- the sectors of a page
pub page_is : (pages page n bytes stamp count : ℕ) (es : List Entry) → page < pages → n ≡ 8 → n * 512 ≡ bytes
    → part (page * 4096) bytes (sectors_bytes (pages * 8) stamp count es) ≡ sectors_bytes n stamp count (drop (page * 248) es)
page_is pages page n bytes stamp count es less eight all =
    let a : ℕ = page * 8 in
    let rest : ℕ = pages * 8 - a - n in
    let both : pages * 8 ≡ a + (n + rest) = omega arith in
    let at : a * 512 ≡ page * 4096 = omega arith in
    let from : a * 31 ≡ page * 248 = omega arith in
    let before : List ℕ = sectors_bytes a stamp count es in
    let here : List Entry = drop (a * 31) es in
    let this : List ℕ = sectors_bytes n stamp count here in
    let behind : List ℕ = sectors_bytes rest stamp count (drop (n * 31) here) in
    ap (λ (k : ℕ). part (page * 4096) bytes (sectors_bytes k stamp count es)) both
    ∙ ap (part (page * 4096) bytes) (sectors_both a (n + rest) stamp count es ∙ ap (λ (ys : List ℕ). before ++ ys) (sectors_both n rest stamp count here))
    ∙ ap (take bytes) (drop_at before (this ++ behind) (page * 4096) (sectors_long a stamp count es ∙ at))
    ∙ take_at this behind bytes (sectors_long n stamp count here ∙ all)
    ∙ ap (λ (k : ℕ). sectors_bytes n stamp count (drop k es)) from

-- the entry that stands in these bytes
abbrev entry_in : List ℕ → Entry
entry_in bytes = record { at = number bytes; word = number (drop 8 bytes) }

from_long : (n : ℕ) (bytes : List ℕ) → length (entries_from n bytes) ≡ n
from_long zero bytes = refl
from_long (suc n) bytes = ap suc (from_long n (drop 16 bytes))

in_long : (n : ℕ) (half : List ℕ) → length (entries_in n half) ≡ n * 31
in_long zero half = refl
in_long (suc n) half =
    let rest = in_long n (drop 512 half) in
    length-append (entries_from 31 (drop 16 half)) (entries_in n (drop 512 half)) ∙ omega (arith, from_long 31 (drop 16 half), rest)

from_at : (n r : ℕ) (bytes : List ℕ) (d : Entry) → r < n → get_or (entries_from n bytes) r d ≡ entry_in (drop (r * 16) bytes)
from_at zero r bytes d less = absurd (omega arith)
from_at (suc n) zero bytes d less = refl
from_at (suc n) (suc r) bytes d less =
    let e : 16 + r * 16 ≡ suc r * 16 = omega arith in
    from_at n r (drop 16 bytes) d (omega arith) ∙ ap entry_in (drop-drop (r * 16) 16 bytes ∙ ap (λ (k : ℕ). drop k bytes) e)

in_sector : (n q r : ℕ) (half : List ℕ) (d : Entry) → q < n → r < 31 → get_or (entries_in n half) (q * 31 + r) d ≡ entry_in (drop (q * 512 + 16 + r * 16) half)
in_sector zero q r half d less low = absurd (omega arith)
in_sector (suc n) zero r half d less low =
    let this : List Entry = entries_from 31 (drop 16 half) in
    let rest : List Entry = entries_in n (drop 512 half) in
    let k : 0 * 31 + r ≡ r = omega arith in
    let e : 16 + r * 16 ≡ 0 * 512 + 16 + r * 16 = omega arith in
    ap (λ (j : ℕ). get_or (this ++ rest) j d) k ∙ get_or_append_left this rest d r (omega (arith, from_long 31 (drop 16 half)))
    ∙ from_at 31 r (drop 16 half) d low ∙ ap entry_in (drop-drop (r * 16) 16 half ∙ ap (λ (j : ℕ). drop j half) e)
in_sector (suc n) (suc q) r half d less low =
    let this : List Entry = entries_from 31 (drop 16 half) in
    let rest : List Entry = entries_in n (drop 512 half) in
    let k : suc q * 31 + r ≡ length this + (q * 31 + r) = omega (arith, from_long 31 (drop 16 half)) in
    let e : 512 + (q * 512 + 16 + r * 16) ≡ suc q * 512 + 16 + r * 16 = omega arith in
    ap (λ (j : ℕ). get_or (this ++ rest) j d) k ∙ get_or-append-add this rest (q * 31 + r) d
    ∙ in_sector n q r (drop 512 half) d (omega arith) low ∙ ap entry_in (drop-drop (q * 512 + 16 + r * 16) 512 half ∙ ap (λ (j : ℕ). drop j half) e)

-- entry k of a half's sectors
in_at : (n k : ℕ) (half : List ℕ) (d : Entry) → k < n * 31 → get_or (entries_in n half) k d ≡ entry_in (drop (k / 31 * 512 + 16 + k % 31 * 16) half)
in_at n k half d less =
    let e : k ≡ k / 31 * 31 + k % 31 = omega arith in
    ap (λ (j : ℕ). get_or (entries_in n half) j d) e ∙ in_sector n (k / 31) (k % 31) half d (omega arith) (omega arith)

-- one entry more is read
pub read_more : (n k : ℕ) (half : List ℕ) (e : Entry) → k < n * 31
    → e.at ≡ number (drop (k / 31 * 512 + 16 + k % 31 * 16) half) → e.word ≡ number (drop (k / 31 * 512 + 16 + k % 31 * 16 + 8) half)
    → take (k + 1) (entries_in n half) ≡ take k (entries_in n half) ++ e ∷ []
read_more n k half e less at word =
    let place : ℕ = k / 31 * 512 + 16 + k % 31 * 16 in
    let is : entry_in (drop place half) ≡ e = λ i. record { at = sym at i; word = (ap number (drop-drop 8 place half) ∙ sym word) i } in
    take_more (entries_in n half) k e (omega (arith, in_long n half))
    ∙ ap (λ (x : Entry). take k (entries_in n half) ++ x ∷ []) (in_at n k half e less ∙ is)

-- what is written behind a beginning, to the end
both_put : (n : ℕ) (two out new : List ℕ) → length two ≡ n → n ≤ length out
    → put_mid n (length (two ++ drop n out) - n) (two ++ drop n out) new ≡ two ++ new
both_put n two out new long fits =
    let rest : List ℕ = drop n out in
    let k : ℕ = length (two ++ rest) - n in
    let none : drop k (drop n (two ++ rest)) ≡ [] = ap (drop k) (drop_at two rest n long) ∙ drop_all k rest (omega (arith, length-append two rest)) in
    ap (λ (xs : List ℕ). xs ++ (new ++ drop k (drop n (two ++ rest)))) (take_at two rest n long)
    ∙ ap (λ (xs : List ℕ). two ++ (new ++ xs)) none ∙ ap (λ (xs : List ℕ). two ++ xs) (append-nil new)

-- how long that is
behind_long : (n : ℕ) (two out : List ℕ) → length two ≡ n → n ≤ length out
    → length (take (length (two ++ drop n out) - n) (drop n (two ++ drop n out))) ≡ length out - n
behind_long n two out long fits =
    let both : List ℕ = two ++ drop n out in
    omega (arith, length-take (length both - n) (drop n both), length-drop n both, length-append two (drop n out), length-drop n out)

-- one entry more is written
pub entry_put : (es : List Entry) (e : Entry) (out new : List ℕ) (i k : ℕ) → i < length es → length out ≡ 16 * length es
    → take (16 * i) out ≡ entries_bytes (take i es) → new ≡ entry_bytes (get_or es i e)
    → take (16 * (i + 1)) (put_mid (16 * i) k out new) ≡ entries_bytes (take (i + 1) es)
entry_put es e out new i k less long before is =
    let wide : length new ≡ 16 = ap length is in
    take-put_mid (16 * i) k out new (16 * (i + 1)) (omega arith) (omega arith)
    ∙ ap (λ (xs : List ℕ). xs ++ new) before ∙ ap (λ (xs : List ℕ). entries_bytes (take i es) ++ xs) is
    ∙ sym (entries_more (take i es) (get_or es i e)) ∙ ap entries_bytes (sym (take_more es i e less))

-- zeros are written behind a beginning
zeros_behind : (n : ℕ) (ys out new zeros : List ℕ) → new ≡ ys → length ys ≡ n → n ≤ length out
    → zeros ≡ replicate (length (take (length (new ++ drop n out) - n) (drop n (new ++ drop n out)))) 0
    → put_mid n (length (new ++ drop n out) - n) (new ++ drop n out) zeros ≡ padded (length out) ys
zeros_behind n ys out new zeros has as_long fits none =
    let long : length new ≡ n = ap length has ∙ as_long in
    let rest : length out - n ≡ length out - length ys = omega arith in
    both_put n new out zeros long fits ∙ ap (λ (xs : List ℕ). new ++ xs) (none ∙ ap (λ (k : ℕ). replicate k 0) (behind_long n new out long fits ∙ rest))
    ∙ ap (λ (xs : List ℕ). xs ++ replicate (length out - length ys) 0) has ∙ sym (padded_is (length out) ys (omega arith))

-- zeros are written behind the entries
pub zeros_put : (es : List Entry) (out new zeros : List ℕ) (here : ℕ) → here ≡ min (length es) (length out / 16) → new ≡ entries_bytes (take here es)
    → zeros ≡ replicate (length (take (length (new ++ drop (16 * here) out) - 16 * here) (drop (16 * here) (new ++ drop (16 * here) out)))) 0
    → put_mid (16 * here) (length (new ++ drop (16 * here) out) - 16 * here) (new ++ drop (16 * here) out) zeros
    ≡ padded (length out) (entries_bytes (take (length out / 16) es))
zeros_put es out new zeros here is has none =
    let here_is : here ≡ min (length out / 16) (length es) = omega arith in
    let all : take here es ≡ take (length out / 16) es = ap (λ (k : ℕ). take k es) here_is ∙ take_min (length out / 16) es in
    let count : length (take here es) ≡ here = omega (arith, length-take here es) in
    let long : length (entries_bytes (take here es)) ≡ 16 * here = entries_long (take here es) ∙ ap (λ (k : ℕ). 16 * k) count in
    zeros_behind (16 * here) (entries_bytes (take here es)) out new zeros has long (omega arith) none
    ∙ ap (λ (fs : List Entry). padded (length out) (entries_bytes fs)) all

-- the entries are written behind the stamp and the count
pub sector_put : (stamp count : ℕ) (es : List Entry) (out two new : List ℕ) → length out ≡ 512 → two ≡ to_be_bytes w64 stamp ++ to_be_bytes w64 count
    → (long : ℕ) → long ≡ length (take (length (two ++ drop 16 out) - 16) (drop 16 (two ++ drop 16 out))) → new ≡ padded long (entries_bytes (take (long / 16) es))
    → put_mid 16 (length (two ++ drop 16 out) - 16) (two ++ drop 16 out) new ≡ sector_bytes stamp count es
sector_put stamp count es out two new fits has long is content =
    let first : length two ≡ 16 = ap length has in
    let rest : long ≡ 496 = is ∙ behind_long 16 two out first (omega arith) ∙ ap (λ (k : ℕ). k - 16) fits in
    both_put 16 two out new first (omega arith)
    ∙ ap (λ (xs : List ℕ). two ++ xs) (content ∙ ap (λ (k : ℕ). padded k (entries_bytes (take (k / 16) es))) rest)
    ∙ ap (λ (xs : List ℕ). xs ++ padded 496 (entries_bytes (take 31 es))) has

-- one sector more is written
pub sectors_put : (stamp count : ℕ) (es : List Entry) (out new : List ℕ) (n i k first : ℕ) → i < n → length out ≡ n * 512
    → take (i * 512) out ≡ sectors_bytes i stamp count es → first ≡ min (i * 31) (length es)
    → new ≡ sector_bytes stamp count (take (length es - first) (drop first es))
    → take ((i + 1) * 512) (put_mid (i * 512) k out new) ≡ sectors_bytes (i + 1) stamp count es
sectors_put stamp count es out new n i k first less long before is content =
    let from : take (length es - first) (drop first es) ≡ drop (i * 31) es = take_rest es first ∙ ap (λ (j : ℕ). drop j es) is ∙ drop_min (i * 31) es in
    let this : new ≡ sector_bytes stamp count (drop (i * 31) es) = content ∙ ap (λ (fs : List Entry). sector_bytes stamp count fs) from in
    let wide : length new ≡ 512 = ap length this ∙ sector_long stamp count (drop (i * 31) es) in
    take-put_mid (i * 512) k out new ((i + 1) * 512) (omega arith) (omega arith)
    ∙ ap (λ (xs : List ℕ). xs ++ new) before ∙ ap (λ (xs : List ℕ). sectors_bytes i stamp count es ++ xs) this
    ∙ sym (sectors_more i stamp count es)

-- its sectors have room for all entries
pub room_for : (count k : ℕ) → k < count → k < sectors_for count * 31
room_for count k less = omega arith
