-- A line is cut into its words, and no others.
use Rattle.std.proofs.Common.{◌≡◌, ◌≢◌, ℕ, suc, ◌≤◌, Bool, true, false, List, [], ◌∷◌, ◌++◌, ◌==◌, length, Option, None, Some, if◌then◌else◌, refl, sym, ap, ◌∙◌, subst, inl, inr, append-nil, arith}
use Rattle.std.proofs.lemmas.Bool.{cases_Bool, eqb-true, eqb-false}
use Prim.Native.Nat.{zero}
use Rattle.std.specs.List.{AllByRecursion}
use Rattle.std.specs.Option.{option_map}
use Rattle.script_lines.specs.Words.{IsWord, IsGap, AreWords}
use Rattle.script_lines.specs.Cutting.{word_of, after_word, after_spaces, words_in}
use Rattle.script_lines.specs.declared.words.TheConstants.{SPACE}

-- the bytes of a word, and of a gap
abbrev pub AreInWords : List ℕ → Type 0
AreInWords bytes = AllByRecursion (λ byte. byte ≢ SPACE) bytes

abbrev pub AreSpaces : List ℕ → Type 0
AreSpaces bytes = AllByRecursion (λ byte. byte ≡ SPACE) bytes

not_space : (b : ℕ) → b ≢ SPACE → (b == SPACE) ≡ false
not_space b h = elim (cases_Bool (b == SPACE)) [ inl t ↦ absurd (h (eqb-true _ _ t)) | inr f ↦ f ]

cons_some : {A : Type 0} (x : A) (xs : List A) → x ∷ xs ≡ [] → ⊥
cons_some x xs e = cc

clash : {P : Type 0} (words : List (List ℕ)) → None ≡ Some words → P
clash words e = absurd cc

-- whether a list is empty
filled : (xs : List ℕ) → (length xs == 0) ≡ false → xs ≢ []
filled [] e h = absurd cc
filled (x ∷ xs) e h = cons_some x xs h

emptied : (xs : List ℕ) → (length xs == 0) ≡ true → xs ≡ []
emptied [] e = refl
emptied (x ∷ xs) e = absurd (omega (arith, eqb-true (length (x ∷ xs)) 0 e))

filled_test : (xs : List ℕ) → xs ≢ [] → (length xs == 0) ≡ false
filled_test xs h = elim (cases_Bool (length xs == 0)) [ inl t ↦ absurd (h (emptied xs t)) | inr f ↦ f ]

emptied_test : (xs : List ℕ) → xs ≡ [] → (length xs == 0) ≡ true
emptied_test xs e = ap (λ l. length l == 0) e

-- no space begins these bytes
abbrev pub GoesOn : List ℕ → Type 0
GoesOn [] = Unit {0}
GoesOn (byte ∷ bytes) = byte ≡ SPACE

word_of-add : (b : ℕ) (bs : List ℕ) → b ≢ SPACE → word_of (b ∷ bs) ≡ b ∷ word_of bs
word_of-add b bs h = ap (λ t. if t then [] else b ∷ word_of bs) (not_space b h)

after_word-add : (b : ℕ) (bs : List ℕ) → b ≢ SPACE → after_word (b ∷ bs) ≡ after_word bs
after_word-add b bs h = ap (λ t. if t then b ∷ bs else after_word bs) (not_space b h)

-- a word is cut off whole
pub word_of-word : (word rest : List ℕ) → AreInWords word → GoesOn rest → word_of (word ++ rest) ≡ word
word_of-word [] [] h g = refl
word_of-word [] (b ∷ bs) h g = ap (λ n. if n == SPACE then [] else n ∷ word_of bs) g
word_of-word (b ∷ bs) rest h g = word_of-add b (bs ++ rest) h.0 ∙ ap (λ l. b ∷ l) (word_of-word bs rest h.1 g)

pub after_word-word : (word rest : List ℕ) → AreInWords word → GoesOn rest → after_word (word ++ rest) ≡ rest
after_word-word [] [] h g = refl
after_word-word [] (b ∷ bs) h g =
    ap (λ t. if t then b ∷ bs else after_word bs) (ap (λ n. n == SPACE) g)
after_word-word (b ∷ bs) rest h g = after_word-add b (bs ++ rest) h.0 ∙ after_word-word bs rest h.1 g

-- a gap is skipped whole
pub after_spaces-gap : (gap rest : List ℕ) → AreSpaces gap → after_spaces (gap ++ rest) ≡ after_spaces rest
after_spaces-gap [] rest h = refl
after_spaces-gap (b ∷ bs) rest h = ap (λ n. if n == SPACE then after_spaces (bs ++ rest) else n ∷ (bs ++ rest)) h.0 ∙ after_spaces-gap bs rest h.1

-- words that begin with a byte that isn't a space
pub after_spaces-word : (word rest : List ℕ) → IsWord word → after_spaces (word ++ rest) ≡ word ++ rest
after_spaces-word [] rest w = absurd (w.0 refl)
after_spaces-word (b ∷ bs) rest w = ap (λ t. if t then after_spaces (bs ++ rest) else b ∷ (bs ++ rest)) (not_space b w.1.0)

pub after_spaces-words : (word : List ℕ) (others : List (List ℕ)) (line : List ℕ) → AreWords (word ∷ others) line → after_spaces line ≡ line
after_spaces-words word [] line h =
    let e : line ≡ word ++ [] = h.1 ∙ sym (append-nil word) in
    subst (λ l. after_spaces l ≡ l) (sym e) (after_spaces-word word [] h.0)
after_spaces-words word (next ∷ others) line h = subst (λ l. after_spaces l ≡ l) (sym h.4) (after_spaces-word word (h.1 ++ h.2) h.0)

goes_on : (gap rest : List ℕ) → IsGap gap → GoesOn (gap ++ rest)
goes_on [] rest g = absurd (g.0 refl)
goes_on (b ∷ bs) rest g = g.1.0

-- the last word
pub record EndsWith (word line : List ℕ) : Type 0 where
  pub cut : word_of line ≡ word
  pub rest : after_word line ≡ []

pub last_word : (word line : List ℕ) → AreWords (word ∷ []) line → EndsWith word line
last_word word line h =
    let e : line ≡ word ++ [] = h.1 ∙ sym (append-nil word) in
    record {
      cut = ap word_of e ∙ word_of-word word [] h.0.1 tt;
      rest = ap after_word e ∙ after_word-word word [] h.0.1 tt;
    }

-- a word before others
pub record BeginsWith (word : List ℕ) (others : List (List ℕ)) (line : List ℕ) : Type 0 where
  pub cut : word_of line ≡ word
  pub more : after_word line ≢ []
  pub rest : AreWords others (after_spaces (after_word line))

not_empty : (gap rest : List ℕ) → IsGap gap → gap ++ rest ≢ []
not_empty [] rest g e = g.0 refl
not_empty (b ∷ bs) rest g e = absurd cc

pub first_words : (word next : List ℕ) (others : List (List ℕ)) (line : List ℕ) → AreWords (word ∷ next ∷ others) line → BeginsWith word (next ∷ others) line
first_words word next others line h =
    let gap = h.1 in
    let rest = h.2 in
    let g : GoesOn (gap ++ rest) = goes_on gap rest h.3 in
    let after : after_word line ≡ gap ++ rest = ap after_word h.4 ∙ after_word-word word (gap ++ rest) h.0.1 g in
    let skipped : after_spaces (after_word line) ≡ rest = ap after_spaces after ∙ after_spaces-gap gap rest h.3.1 ∙ after_spaces-words next others rest h.5 in
    record {
      cut = ap word_of h.4 ∙ word_of-word word (gap ++ rest) h.0.1 g;
      more = λ e. not_empty gap rest h.3 (sym after ∙ e);
      rest = subst (AreWords (next ∷ others)) (sym skipped) h.5;
    }

-- what is cut off holds no space, and what was skipped is spaces
pub word_of-clean : (line : List ℕ) → AreInWords (word_of line)
word_of-clean [] = tt
word_of-clean (b ∷ bs) = elim (b == SPACE) as (λ t. (b == SPACE) ≡ t → AreInWords (if t then [] else b ∷ word_of bs)) [
  | true ↦ λ e. tt
  | false ↦ λ e. (eqb-false _ _ e, word_of-clean bs)
] refl

pub cut_whole : (line : List ℕ) → word_of line ++ after_word line ≡ line
cut_whole [] = refl
cut_whole (b ∷ bs) = elim (b == SPACE) as (λ t. (if t then [] else b ∷ word_of bs) ++ (if t then b ∷ bs else after_word bs) ≡ b ∷ bs) [
  | true ↦ refl
  | false ↦ ap (λ l. b ∷ l) (cut_whole bs)
]

-- the spaces at the front
abbrev pub spaces_of : List ℕ → List ℕ
spaces_of [] = []
spaces_of (b ∷ bs) = if b == SPACE then b ∷ spaces_of bs else []

spaces-clean : (bs : List ℕ) → AreSpaces (spaces_of bs)
spaces-clean [] = tt
spaces-clean (b ∷ bs) = elim (b == SPACE) as (λ t. (b == SPACE) ≡ t → AreSpaces (if t then b ∷ spaces_of bs else [])) [
  | true ↦ λ e. (eqb-true _ _ e, spaces-clean bs)
  | false ↦ λ e. tt
] refl

spaces-whole : (bs : List ℕ) → spaces_of bs ++ after_spaces bs ≡ bs
spaces-whole [] = refl
spaces-whole (b ∷ bs) = elim (b == SPACE) as (λ t. (if t then b ∷ spaces_of bs else []) ++ (if t then after_spaces bs else b ∷ bs) ≡ b ∷ bs) [
  | true ↦ ap (λ l. b ∷ l) (spaces-whole bs)
  | false ↦ refl
]

-- what follows a word begins with a space
begins_gap : (line : List ℕ) → after_word line ≢ [] → spaces_of (after_word line) ≢ []
begins_gap [] h = absurd (h refl)
begins_gap (b ∷ bs) h = elim (b == SPACE) as (λ t. (b == SPACE) ≡ t → (if t then b ∷ bs else after_word bs) ≢ [] → spaces_of (if t then b ∷ bs else after_word bs) ≢ []) [
  | true ↦ λ e some none. cons_some b (spaces_of bs) (sym (ap (λ t. if t then b ∷ spaces_of bs else []) e) ∙ none)
  | false ↦ λ e some. begins_gap bs some
] refl h

pub alone : (line : List ℕ) → word_of line ≢ [] → after_word line ≡ [] → AreWords (word_of line ∷ []) line
alone line some none = ((some, word_of-clean line), sym (cut_whole line) ∙ ap (λ l. word_of line ++ l) none ∙ append-nil (word_of line))

pub with_others : (line next : List ℕ) (others : List (List ℕ)) → word_of line ≢ [] → after_word line ≢ []
    → AreWords (next ∷ others) (after_spaces (after_word line)) → AreWords (word_of line ∷ next ∷ others) line
with_others line next others some more h = (
  (some, word_of-clean line),
  spaces_of (after_word line),
  after_spaces (after_word line),
  (begins_gap line more, spaces-clean (after_word line)),
  sym (cut_whole line) ∙ ap (λ l. word_of line ++ l) (sym (spaces-whole (after_word line))),
  h,
)

-- what is found are the words
words_if : ℕ → List ℕ → Bool → Bool → Option (List (List ℕ))
words_if most line none last =
    if none then None
    else (if last then Some (word_of line ∷ [])
    else option_map (λ others. word_of line ∷ others) (words_in most (after_spaces (after_word line))))

some_same : (a b : List (List ℕ)) → Some a ≡ Some b → a ≡ b
some_same a b e = cc

before : (line : List ℕ) (found : Option (List (List ℕ))) (words : List (List ℕ)) → word_of line ≢ [] → after_word line ≢ []
    → ((ws : List (List ℕ)) → found ≡ Some ws → AreWords ws (after_spaces (after_word line)))
    → option_map (λ others. word_of line ∷ others) found ≡ Some words → AreWords words line
before line None words some more h e = absurd cc
before line (Some []) words some more h e = absurd (h [] refl)
before line (Some (next ∷ others)) words some more h e =
    subst (λ ws. AreWords ws line) (some_same _ _ e) (with_others line next others some more (h (next ∷ others) refl))

pub words_in-found : (most : ℕ) (line : List ℕ) (words : List (List ℕ)) → words_in most line ≡ Some words → AreWords words line
unfolding words_if
words_in-found zero line words e = absurd cc
words_in-found (suc most) line words e = elim (cases_Bool (length (word_of line) == 0)) [
  | inl none ↦ clash words (sym (ap (λ t. words_if most line t (length (after_word line) == 0)) none) ∙ e)
  | inr some ↦
      let found : words_if most line false (length (after_word line) == 0) ≡ Some words = sym (ap (λ t. words_if most line t (length (after_word line) == 0)) some) ∙ e in
      elim (cases_Bool (length (after_word line) == 0)) [
        | inl last ↦
            let one : Some (word_of line ∷ []) ≡ Some words = sym (ap (λ t. words_if most line false t) last) ∙ found in
            subst (λ ws. AreWords ws line) (some_same _ _ one) (alone line (filled _ some) (emptied _ last))
        | inr more ↦
            before line (words_in most (after_spaces (after_word line))) words (filled _ some) (filled _ more) (λ ws h. words_in-found most _ ws h) (sym (ap (λ t. words_if most line false t) more) ∙ found)
      ]
]

-- all words are found
pub words_in-every : (most : ℕ) (words : List (List ℕ)) (line : List ℕ) → length words ≤ most → AreWords words line → words_in most line ≡ Some words
unfolding words_if
words_in-every most [] line few h = absurd h
words_in-every zero (word ∷ words) line few h = absurd (omega arith)
words_in-every (suc most) (word ∷ []) line few h =
    let ends = last_word word line h in
    let some : (length (word_of line) == 0) ≡ false = filled_test _ (λ e. h.0.0 (sym ends.cut ∙ e)) in
    let last : (length (after_word line) == 0) ≡ true = emptied_test _ ends.rest in
    ap (λ t. words_if most line t (length (after_word line) == 0)) some ∙ ap (λ t. words_if most line false t) last ∙ ap (λ w. Some (w ∷ [])) ends.cut
words_in-every (suc most) (word ∷ next ∷ others) line few h =
    let begins = first_words word next others line h in
    let some : (length (word_of line) == 0) ≡ false = filled_test _ (λ e. h.0.0 (sym begins.cut ∙ e)) in
    let more : (length (after_word line) == 0) ≡ false = filled_test _ begins.more in
    let rest = words_in-every most (next ∷ others) _ (omega arith) begins.rest in
    ap (λ t. words_if most line t (length (after_word line) == 0)) some ∙ ap (λ t. words_if most line false t) more
    ∙ ap (λ o. option_map (λ others. word_of line ∷ others) o) rest ∙ ap (λ w. Some (w ∷ next ∷ others)) begins.cut
