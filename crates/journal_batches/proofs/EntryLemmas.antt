-- What entries make of an image, byte by byte: a byte that no entry covers stays, and any other is that of the last entry that covers it.
use Rattle.std.specs.Prelude.{if◌then◌else◌, Any}
use Rattle.std.specs.Int.{to_be_bytes, w64}
use Rattle.std.proofs.Common.{◌≡◌, ◌⊎◌, inl, inr, Bool, ℕ, zero, suc, ◌+◌, ◌-◌, ◌<◌, ◌≤◌, List, [], ◌∷◌, ◌++◌, length, get_or, refl, sym, ◌∙◌, ap, subst, arith, le-leb}
use Rattle.std.proofs.lemmas.List.{ext_get_or}
use Rattle.std.proofs.lemmas.List.Elements.{All-head, All-tail}
use Rattle.std.proofs.lemmas.Bool.{cases_lt}
use Rattle.std.proofs.lemmas.Bool.Decides.{leb_tells}
use Rattle.block_disk.specs.Bytes.{spliced}
use Rattle.block_disk.proofs.Bytes.{get_or_part, length_spliced, spliced_below, spliced_at, spliced_above}
use Rattle.journal_batches.specs.declared.entry.Entry.{Entry}
use Rattle.journal_batches.specs.Entries.{AreOf, Covers, DifferWithin, IsEither, IsOf, entered, replayed}

-- ---- one entry ----

-- a word has eight bytes
pub length_word : (n : ℕ) → length (to_be_bytes w64 n) ≡ 8
length_word n = refl

module _ (e : Entry) (image : List ℕ) where
  -- an entry within the image puts its word there
  pub entered_fitting : e.at + 8 ≤ length image → entered e image ≡ spliced image e.at (to_be_bytes w64 e.word)
  entered_fitting fits = ap (λ (t : Bool). if t then spliced image e.at (to_be_bytes w64 e.word) else image) (le-leb (e.at + 8) (length image) fits)

  word_fits : e.at + 8 ≤ length image → e.at + length (to_be_bytes w64 e.word) ≤ length image
  word_fits fits = omega (arith, length_word e.word)

  -- one that isn't changes nothing
  pub entered_else : (length image < e.at + 8) → entered e image ≡ image
  entered_else beyond = elim (leb_tells (e.at + 8) (length image)) [
    | inl fits ↦ absurd (omega (arith, fits.1))
    | inr not ↦ ap (λ (t : Bool). if t then spliced image e.at (to_be_bytes w64 e.word) else image) not.0
  ]

  -- the image stays as long
  pub length_entered : length (entered e image) ≡ length image
  length_entered = elim (cases_lt (length image) (e.at + 8)) [
    | inl beyond ↦ ap length (entered_else beyond)
    | inr fits ↦ ap length (entered_fitting fits) ∙ length_spliced image (to_be_bytes w64 e.word) e.at (word_fits fits)
  ]

  -- bytes before its word and behind it stay
  pub entered_outside : (i : ℕ) → (i < e.at) ⊎ (e.at + 8 ≤ i) → get_or (entered e image) i 0 ≡ get_or image i 0
  entered_outside i outside = elim (cases_lt (length image) (e.at + 8)) [
    | inl beyond ↦ ap (λ (xs : List ℕ). get_or xs i 0) (entered_else beyond)
    | inr fits ↦ ap (λ (xs : List ℕ). get_or xs i 0) (entered_fitting fits) ∙ elim outside [
      | inl below ↦ spliced_below image (to_be_bytes w64 e.word) e.at (word_fits fits) i below
      | inr above ↦ spliced_above image (to_be_bytes w64 e.word) e.at (word_fits fits) i (omega (arith, length_word e.word))
    ]
  ]

  -- within there are the word's
  pub entered_within : (i : ℕ) → e.at + 8 ≤ length image → e.at ≤ i → i < e.at + 8 → get_or (entered e image) i 0 ≡ get_or (to_be_bytes w64 e.word) (i - e.at) 0
  entered_within i fits low high =
      let k = i - e.at in
      let is : i ≡ e.at + k = omega arith in
      ap (λ (xs : List ℕ). get_or xs i 0) (entered_fitting fits)
      ∙ ap (λ (j : ℕ). get_or (spliced image e.at (to_be_bytes w64 e.word)) j 0) is
      ∙ spliced_at image (to_be_bytes w64 e.word) e.at (word_fits fits) k (omega (arith, length_word e.word))

-- it makes the same byte of two images, or leaves both as they were
pub entered_either : (e : Entry) (xs ys : List ℕ) (i : ℕ) → length xs ≡ length ys
    → (get_or (entered e xs) i 0 ≡ get_or (entered e ys) i 0) ⊎ ((get_or (entered e xs) i 0 ≡ get_or xs i 0) × (get_or (entered e ys) i 0 ≡ get_or ys i 0))
entered_either e xs ys i size = elim (cases_lt (length xs) (e.at + 8)) [
  | inl beyond ↦ inr (ap (λ (zs : List ℕ). get_or zs i 0) (entered_else e xs beyond), ap (λ (zs : List ℕ). get_or zs i 0) (entered_else e ys (omega (arith, size))))
  | inr fits ↦ elim (cases_lt i e.at) [
    | inl below ↦ inr (entered_outside e xs i (inl below), entered_outside e ys i (inl below))
    | inr from ↦ elim (cases_lt i (e.at + 8)) [
      | inl within ↦ inl (entered_within e xs i fits from within ∙ sym (entered_within e ys i (omega (arith, size)) from within))
      | inr above ↦ inr (entered_outside e xs i (inr above), entered_outside e ys i (inr above))
    ]
  ]
]

-- ---- entries, one after the other ----

-- the image stays as long
pub length_replayed : (entries : List Entry) (image : List ℕ) → length (replayed entries image) ≡ length image
length_replayed [] image = refl
length_replayed (e ∷ later) image = length_replayed later (entered e image) ∙ length_entered e image

-- some entries, and then others
pub replayed_append : (first second : List Entry) (image : List ℕ) → replayed (first ++ second) image ≡ replayed second (replayed first image)
replayed_append [] second image = refl
replayed_append (e ∷ first) second image = replayed_append first second (entered e image)

-- they make the same byte of two images, or leave both as they were
pub replayed_either : (entries : List Entry) (xs ys : List ℕ) (i : ℕ) → length xs ≡ length ys
    → (get_or (replayed entries xs) i 0 ≡ get_or (replayed entries ys) i 0)
    ⊎ ((get_or (replayed entries xs) i 0 ≡ get_or xs i 0) × (get_or (replayed entries ys) i 0 ≡ get_or ys i 0))
replayed_either [] xs ys i size = inr (refl, refl)
replayed_either (e ∷ later) xs ys i size = elim (replayed_either later (entered e xs) (entered e ys) i (length_entered e xs ∙ size ∙ sym (length_entered e ys))) [
  | inl same ↦ inl same
  | inr stay ↦ elim (entered_either e xs ys i size) [
    | inl same ↦ inl (stay.0 ∙ same ∙ sym stay.1)
    | inr both ↦ inr (stay.0 ∙ both.0, stay.1 ∙ both.1)
  ]
]

-- ---- which bytes entries cover ----

-- what holds of some entry holds of the first one or of a later one
pub any_cases : {X : Type 0} (P : X → Type 0) (x : X) (xs : List X) → Any P (x ∷ xs) → P x ⊎ Any P xs
any_cases P x xs (zero, y, within, is, p) = inl (subst P (sym is) p)
any_cases P x xs (suc k, y, within, is, p) = inr (k, y, omega arith, is, p)

pub any_first : {X : Type 0} (P : X → Type 0) (x : X) (xs : List X) → P x → Any P (x ∷ xs)
any_first P x xs p = (zero, x, omega arith, refl, p)

pub any_later : {X : Type 0} (P : X → Type 0) (x : X) (xs : List X) → Any P xs → Any P (x ∷ xs)
any_later P x xs (k, y, within, is, p) = (suc k, y, omega arith, is, p)

pub any_none : {X : Type 0} (P : X → Type 0) → Any P [] → ⊥
any_none P (k, y, within, is, p) = omega arith

-- a byte that none covers stays
pub replayed_uncovered : (entries : List Entry) (image : List ℕ) (i : ℕ) → (Covers entries i → ⊥) → get_or (replayed entries image) i 0 ≡ get_or image i 0
replayed_uncovered [] image i bare = refl
replayed_uncovered (e ∷ later) image i bare =
    replayed_uncovered later (entered e image) i (λ covers. bare (any_later (λ (e : Entry). (e.at ≤ i) × (i < e.at + 8)) e later covers)) ∙ entered_outside e image i outside
  where
    outside : (i < e.at) ⊎ (e.at + 8 ≤ i)
    outside = elim (cases_lt i e.at) [
      | inl below ↦ inl below
      | inr from ↦ elim (cases_lt i (e.at + 8)) [
        | inl within ↦ absurd (bare (any_first (λ (e : Entry). (e.at ≤ i) × (i < e.at + 8)) e later (from, within)))
        | inr above ↦ inr above
      ]
    ]

-- ---- the laws ----

-- an entry of an image, put into another one, has the image's bytes there
pub entered_own : (e : Entry) (old new : List ℕ) (i : ℕ) → length new ≡ length old → IsOf new e → e.at ≤ i → i < e.at + 8 → get_or new i 0 ≡ get_or (entered e old) i 0
entered_own e old new i size own low high =
    let k = i - e.at in
    let is : e.at + k ≡ i = omega arith in
    sym (
    entered_within e old i (omega (arith, size, own.0)) low high ∙ ap (λ (xs : List ℕ). get_or xs k 0) own.1
    ∙ get_or_part e.at 8 new k (omega arith) ∙ ap (λ (j : ℕ). get_or new j 0) is
    )

-- after one entry of the image only the words of the others differ
pub differ_later : (e : Entry) (later : List Entry) (old new : List ℕ) → IsOf new e → DifferWithin (e ∷ later) old new → DifferWithin later (entered e old) new
differ_later e later old new own differ = record {
  size = differ.size ∙ sym (length_entered e old);
  same = λ i. elim (cases_lt i e.at) [
    | inl below ↦ apart i (inl below)
    | inr from ↦ elim (cases_lt i (e.at + 8)) [
      | inl within ↦ inl (entered_own e old new i differ.size own from within)
      | inr above ↦ apart i (inr above)
    ]
  ];
}
  where
    apart : (i : ℕ) → (i < e.at) ⊎ (e.at + 8 ≤ i) → (get_or new i 0 ≡ get_or (entered e old) i 0) ⊎ Covers later i
    apart i outside = elim (differ.same i) [
      | inl same ↦ inl (same ∙ sym (entered_outside e old i outside))
      | inr covers ↦ elim (any_cases (λ (e : Entry). (e.at ≤ i) × (i < e.at + 8)) e later covers) [
        | inl here ↦ absurd (elim outside [ inl below ↦ omega (arith, below, here.0) | inr above ↦ omega (arith, above, here.1) ])
        | inr there ↦ inr there
      ]
    ]

-- entries of an image make it of each that differs within their words
pub replay : (entries : List Entry) (old new : List ℕ) → AreOf new entries → DifferWithin entries old new → replayed entries old ≡ new
replay [] old new own differ =
    ext_get_or 0 old new (sym differ.size)
    (λ i within. elim (differ.same i) [ inl same ↦ sym same | inr covers ↦ absurd (any_none (λ (e : Entry). (e.at ≤ i) × (i < e.at + 8)) covers) ])
replay (e ∷ later) old new own differ =
    replay later (entered e old) new (All-tail (λ (e : Entry). IsOf new e) e later own)
    (differ_later e later old new (All-head (λ (e : Entry). IsOf new e) e later own) differ)

-- what entries make of an image, they make of each that mixes its bytes with those
pub replayed_mixed : (entries : List Entry) (old image : List ℕ) → IsEither old (replayed entries old) image → replayed entries image ≡ replayed entries old
replayed_mixed entries old image either =
    ext_get_or 0 (replayed entries image) (replayed entries old) (length_replayed entries image ∙ either.size ∙ sym (length_replayed entries old))
    (λ i within. elim (replayed_either entries image old i either.size) [
      | inl same ↦ same
      | inr stay ↦ elim (either.each i) [
        | inl was ↦ stay.0 ∙ was ∙ sym stay.1
        | inr is ↦ stay.0 ∙ is
      ]
    ])

-- and of what they have made
pub replayed_twice : (entries : List Entry) (image : List ℕ) → replayed entries (replayed entries image) ≡ replayed entries image
replayed_twice entries image = replayed_mixed entries image (replayed entries image) (record { size = length_replayed entries image; each = λ i. inr refl })

-- so do two batches
pub again : (first second : List Entry) (old image : List ℕ) → IsEither old (replayed second (replayed first old)) image
    → replayed second (replayed first image) ≡ replayed second (replayed first old)
again first second old image either =
    sym (replayed_append first second image)
    ∙ replayed_mixed (first ++ second) old image (subst (λ (new : List ℕ). IsEither old new image) (sym (replayed_append first second old)) either)
    ∙ replayed_append first second old
