-- How many words are among noted places, each counted once.
use Rattle.std.specs.Prelude.{if◌then◌else◌, ◌/◌, Any, nat_eq}
use Rattle.std.specs.List.{list_any}
use Rattle.std.specs.List.Sorted.{IsNonDecreasing, IsPermutation}
use Rattle.std.proofs.Common.{◌≡◌, ◌≢◌, ◌⊎◌, inl, inr, Bool, true, false, not, ◌||◌, ℕ, zero, suc, ◌+◌, ◌-◌, ◌*◌, ◌<◌, ◌≤◌, ◌==◌, List, [], ◌∷◌, ◌++◌, length, get_or, take, refl, sym, ◌∙◌, ap, subst, eq-eqb, eqb-true, ne_eqb, arith, length-append, length-take}
use Rattle.std.proofs.lemmas.Bool.{cases_lt}
use Rattle.std.proofs.lemmas.Bool.Decides.{eqb_tells}
use Rattle.std.proofs.lemmas.List.{get_or_default, get_or-take, take_more}
use Rattle.std.proofs.lemmas.List.Elements.{All-append, All-cons, All-nil}
use Rattle.std.proofs.lemmas.List.Folds.{Any-from_list_any, list_any-append, list_any_at, list_any_more, list_any_none}
use Rattle.std.proofs.lemmas.List.Sorted.{list_any-IsPermutation}
use Rattle.journal_batches.specs.declared.entry.Entry.{Entry}
use Rattle.journal_batches.specs.Entries.{AreOf, Covers, IsOf}
use Rattle.journal_batches.proofs.EntryLemmas.{any_cases, any_first, any_later, any_none}
use Rattle.disk_journal.specs.Kept.{Touches, words_among}
use Rattle.disk_journal.specs.Steps.{AreWordPlaces}

or-false : (b : Bool) → (b || false) ≡ b
or-false true = refl
or-false false = refl

-- the word's place is among these
abbrev pub is_among : (k : ℕ) → List ℕ → Bool
is_among k places = list_any (λ place. place == k * 8) places

-- these places are those, and one more
abbrev pub IsOneMore : (old new : List ℕ) (place : ℕ) → Type 0
IsOneMore old new place = (k : ℕ) → is_among k new ≡ (is_among k old || (place == k * 8))

pub one_taken : (places : List ℕ) (i : ℕ) → i < length places → IsOneMore (take i places) (take (i + 1) places) (get_or places i 0)
one_taken places i within = λ k. list_any_more (λ place. place == k * 8) places i 0 within

pub one_pushed : (places : List ℕ) (place : ℕ) → IsOneMore places (places ++ (place ∷ [])) place
one_pushed places place = λ k.
    list_any-append (λ place. place == k * 8) places (place ∷ []) ∙ ap (λ b. is_among k places || b) (or-false (place == k * 8))

abbrev bit : Bool → ℕ
bit b = if b then 1 else 0

at_most_one : (b : Bool) → (if b then 1 else 0) ≤ 1
at_most_one true = omega arith
at_most_one false = omega arith

pub none_among : (n : ℕ) → words_among n [] ≡ 0
none_among zero = refl
none_among (suc n) = omega (arith, none_among n)

module _ (old new : List ℕ) (place : ℕ) (more : IsOneMore old new place) where
  other : (k : ℕ) → place ≢ k * 8 → is_among k new ≡ is_among k old
  other k differs = more k ∙ ap (λ b. is_among k old || b) (ne_eqb place (k * 8) differs) ∙ or-false (is_among k old)

  others : (n : ℕ) → ((k : ℕ) → k < n → place ≢ k * 8) → words_among n new ≡ words_among n old
  others zero differs = refl
  others (suc n) differs = λ i.
      (if other n (differs n (omega arith)) i then 1 else 0) + others n (λ k low. differs k (omega (arith, low))) i

  -- so there is one word more, at most
  pub one_word : (n : ℕ) → words_among n new ≤ words_among n old + 1
  one_word zero = omega arith
  one_word (suc n) = elim (eqb_tells place (n * 8)) [
    | inl is ↦
        let rest = others n (λ k low same. absurd (omega (arith, low, is.1, same))) in
        let here = at_most_one (is_among n new) in omega (arith, rest, here)
    | inr differs ↦
        let same = ap bit (other n differs.1) in
        let rest = one_word n in omega (arith, same, rest)
  ]

  -- none, if the place was among them
  pub same_word : (n : ℕ) → list_any (λ p. p == place) old ≡ true → words_among n new ≡ words_among n old
  same_word zero seen = refl
  same_word (suc n) seen =
      let head : is_among n new ≡ is_among n old = elim (eqb_tells place (n * 8)) [
        | inl is ↦
            let among : is_among n old ≡ true = ap (λ z. list_any (λ p. p == z) old) (sym is.1) ∙ seen in
            more n ∙ ap (λ b. b || (place == n * 8)) among ∙ sym among
        | inr differs ↦ other n differs.1
      ] in
      λ i. (if head i then 1 else 0) + same_word n seen i

  -- and else one, if it is one of the image's words
  pub new_word : (n m : ℕ) → m < n → place ≡ m * 8 → list_any (λ p. p == place) old ≡ false → words_among n new ≡ words_among n old + 1
  new_word zero m low is unseen = absurd (omega (arith, low))
  new_word (suc n) m low is unseen = elim (cases_lt m n) [
    | inl less ↦
        let same = ap bit (other n (λ here. absurd (omega (arith, here, is, less)))) in
        let rest = new_word n m less is unseen in omega (arith, same, rest)
    | inr last ↦
        let here : place ≡ n * 8 = omega (arith, is, low, last) in
        let was : is_among n old ≡ false = ap (λ z. list_any (λ p. p == z) old) (sym here) ∙ unseen in
        let now : is_among n new ≡ true = more n ∙ (λ i. was i || (here i == n * 8)) ∙ eq-eqb (n * 8) (n * 8) refl in
        let rest = others n (λ k low same. absurd (omega (arith, low, here, same))) in
        let none = ap bit was in
        let one = ap bit now in omega (arith, none, one, rest)
  ]

-- places in another order are as many words
pub words_permuted : (n : ℕ) (old new : List ℕ) → IsPermutation old new → words_among n new ≡ words_among n old
words_permuted zero old new same = refl
words_permuted (suc n) old new same = λ i.
    (if sym (list_any-IsPermutation (λ place. place == n * 8) old new same) i then 1 else 0) + words_permuted n old new same i

-- in order, a place is among those before it where the last of them is the same
pub new_place : (places : List ℕ) (i : ℕ) → 0 < i → i < length places → IsNonDecreasing places
    → list_any (λ p. p == get_or places i 0) (take i places) ≡ not (not (nat_eq (get_or places (i - 1) 0) (get_or places i 0)))
new_place places i some within up =
    let x = get_or places (i - 1) 0 in
    let y = get_or places i 0 in
    let long : length (take i places) ≡ i = omega (arith, length-take i places) in
    elim (eqb_tells x y) [
      | inl is ↦
          list_any_at (λ p. p == y) (take i places) (i - 1) 0 (omega arith)
          (eq-eqb (get_or (take i places) (i - 1) 0) y (get_or-take i places (i - 1) 0 (omega arith) ∙ is.1))
          ∙ sym (ap (λ b. not (not b)) is.0)
      | inr differs ↦
          let less : x < y = omega (arith, up (i - 1) i 0 (omega arith) within, differs.1) in
          list_any_none (λ p. p == y) (take i places)
          (λ k d low. ne_eqb (get_or (take i places) k d) y (λ same.
          let here : get_or (take i places) k d ≡ get_or places k 0 =
          get_or-take i places k d (omega (arith, low)) ∙ get_or_default places k d 0 (omega (arith, low)) in
          omega (arith, here, same, less, up k (i - 1) 0 (omega (arith, low)) (omega arith))))
          ∙ sym (ap (λ b. not (not b)) differs.0)
    ]

-- ---- the entries that are made of them ----

module _ {X : Type 0} (P : X → Type 0) where
  any_kept : (xs : List X) (y : X) → Any P xs → Any P (xs ++ (y ∷ []))
  any_kept [] y any = absurd (any_none P any)
  any_kept (x ∷ xs) y any = elim (any_cases P x xs any) [
    | inl first ↦ any_first P x (xs ++ (y ∷ [])) first
    | inr later ↦ any_later P x (xs ++ (y ∷ [])) (any_kept xs y later)
  ]

  any_last : (xs : List X) (y : X) → P y → Any P (xs ++ (y ∷ []))
  any_last [] y p = any_first P y [] p
  any_last (x ∷ xs) y p = any_later P x (xs ++ (y ∷ [])) (any_last xs y p)

  any_split : (xs : List X) (y : X) → Any P (xs ++ (y ∷ [])) → Any P xs ⊎ P y
  any_split [] y any = elim (any_cases P y [] any) [ inl first ↦ inr first | inr later ↦ absurd (any_none P later) ]
  any_split (x ∷ xs) y any = elim (any_cases P x (xs ++ (y ∷ [])) any) [
    | inl first ↦ inl (any_first P x xs first)
    | inr later ↦ elim (any_split xs y later) [ inl was ↦ inl (any_later P x xs was) | inr last ↦ inr last ]
  ]

-- they are the image's words at the first i places, each once
pub record AreTaken (image places : List ℕ) (i : ℕ) (next : List Entry) : Type 0 where
  pub own : AreOf image next
  pub words : AreWordPlaces next
  pub covers : (b : ℕ) → Touches (take i places) b → Covers next b
  pub count : length next ≡ words_among (length image / 8) (take i places)

pub taken_none : (image places : List ℕ) → AreTaken image places 0 []
taken_none image places = record {
  own = All-nil (λ (e : Entry). IsOf image e);
  words = All-nil (λ (e : Entry). e.at ≡ e.at / 8 * 8);
  covers = λ b touches. absurd (any_none (λ (place : ℕ). (place ≤ b) × (b < place + 8)) touches);
  count = sym (none_among (length image / 8));
}

module _ {image places : List ℕ} {i : ℕ} {next : List Entry} (taken : AreTaken image places i next) (within : i < length places) where
  split : (b : ℕ) → Touches (take (i + 1) places) b → Touches (take i places) b ⊎ ((get_or places i 0 ≤ b) × (b < get_or places i 0 + 8))
  split b touches =
      any_split (λ (place : ℕ). (place ≤ b) × (b < place + 8)) (take i places) (get_or places i 0)
      (subst (λ (ps : List ℕ). Touches ps b) (take_more places i 0 within) touches)

  -- one place more, that is among them
  pub taken_same : list_any (λ p. p == get_or places i 0) (take i places) ≡ true → AreTaken image places (i + 1) next
  taken_same seen = record {
    own = taken.own;
    words = taken.words;
    covers = λ b touches. elim (split b touches) [
      | inl was ↦ taken.covers b was
      | inr here ↦
          let (k, place, low, at, same) = Any-from_list_any (λ p. p == get_or places i 0) (take i places) seen in
          let is : place ≡ get_or places i 0 = eqb-true place (get_or places i 0) same in
          taken.covers b (k, place, low, at, (omega (arith, here.0, is), omega (arith, here.1, is)))
    ];
    count = taken.count ∙ sym (same_word (take i places) (take (i + 1) places) (get_or places i 0) (one_taken places i within) (length image / 8) seen);
  }

  -- or another one
  pub taken_more : (e : Entry) → IsOf image e → e.at ≡ get_or places i 0 → e.at ≡ e.at / 8 * 8 → list_any (λ p. p == get_or places i 0) (take i places) ≡ false
      → AreTaken image places (i + 1) (next ++ (e ∷ []))
  taken_more e own is word unseen = record {
    own = All-append (λ (e : Entry). IsOf image e) next (e ∷ []) taken.own (All-cons (λ (e : Entry). IsOf image e) e [] own (All-nil (λ (e : Entry). IsOf image e)));
    words =
        let P = λ (e : Entry). e.at ≡ e.at / 8 * 8 in All-append P next (e ∷ []) taken.words (All-cons P e [] word (All-nil P));
    covers = λ b touches.
        let P = λ (e : Entry). (e.at ≤ b) × (b < e.at + 8) in
        elim (split b touches) [
          | inl was ↦ any_kept P next e (taken.covers b was)
          | inr here ↦ any_last P next e (omega (arith, here.0, is), omega (arith, here.1, is))
        ];
    count =
        let m = e.at / 8 in
        let low : m < length image / 8 = omega (arith, own.0, word) in
        let one = new_word (take i places) (take (i + 1) places) (get_or places i 0) (one_taken places i within) (length image / 8) m low (sym is ∙ word) unseen in
        omega (arith, length-append next (e ∷ []), taken.count, one);
  }
