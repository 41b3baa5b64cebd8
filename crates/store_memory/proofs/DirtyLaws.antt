-- The summary of a set's words stays true.
use Rattle.std.proofs.Common.{ℕ, ◌≡◌, ◌≢◌, ◌/◌, ◌<◌, ◌==◌, Bool, true, false, nat_lt, if◌then◌else◌, List, length, slice_index, sym, ap, ◌∙◌, inl, inr, arith}
use Rattle.std.proofs.lemmas.Bool.{cases_lt, lt-ltb, ltb-true}
use Rattle.std.proofs.lemmas.Bool.Decides.{eqb_tells}
use mathlib.Core.Logic.{dite}
use native.Mathlib.Decide.{ℕ_discrete}
use Rattle.store_memory.specs.Bits.{has_bit, IsLowestIn, IsFirstWord}
use Rattle.store_memory.specs.Dirty.{DirtySet, is_dirty_in, IsSummed, IsLeastDirty}
use Rattle.store_memory.proofs.BitLaws.{no_bit, bit_none}

-- one bit changed, and the summary of its word
pub summed : (fields : ℕ) (ws ss vs ts : List ℕ) (at : ℕ) (b : Bool) → IsSummed fields ws ss → at < fields → length vs ≡ length ws → length ts ≡ length ss →
    ((i : ℕ) → has_bit vs i ≡ (if at == i then b else has_bit ws i)) → ((w : ℕ) → w ≢ at / 64 → slice_index vs w ≡ slice_index ws w) →
    ((w : ℕ) → has_bit ts w ≡ (if at / 64 == w then nat_lt 0 (slice_index vs (at / 64)) else has_bit ss w)) → IsSummed fields vs ts
summed fields ws ss vs ts at b was within long short bits others sums = record {
  small = was.small;
  long = long ∙ was.long;
  short = short ∙ was.short;
  sums = λ w. elim (eqb_tells (at / 64) w) [
    | inl e ↦ sums w ∙ ap (λ t. if t then nat_lt 0 (slice_index vs (at / 64)) else has_bit ss w) e.0 ∙ ap (λ v. nat_lt 0 (slice_index vs v)) e.1
    | inr e ↦ sums w ∙ ap (λ t. if t then nat_lt 0 (slice_index vs (at / 64)) else has_bit ss w) e.0 ∙ was.sums w ∙ ap (λ n. nat_lt 0 n) (sym (others w (λ same. e.1 (sym same))))
  ];
  low = λ f there. elim (eqb_tells at f) [
    | inl e ↦ omega arith
    | inr e ↦ was.low f (sym (ap (λ t. if t then b else has_bit ws f) e.0) ∙ sym (bits f) ∙ there)
  ];
}

-- where no word of the summary has a bit, no field is dirty
pub none_dirty : (fields : ℕ) (ws ss : List ℕ) → IsSummed fields ws ss → ((w : ℕ) → slice_index ss w ≡ 0) → (f : ℕ) → has_bit ws f ≡ false
none_dirty fields ws ss was none = no_bit ws (λ w. elim (cases_lt 0 (slice_index ws w)) [
  | inl some ↦ absurd (let b : true ≡ false = sym (was.sums w ∙ lt-ltb 0 (slice_index ws w) some) ∙ no_bit ss none w in cc)
  | inr zero ↦ omega arith
])

-- a word whose bit in the summary is set isn't 0
pub word_some : (fields : ℕ) (ws ss : List ℕ) → IsSummed fields ws ss → (w : ℕ) → has_bit ss w ≡ true → 0 < slice_index ws w
word_some fields ws ss was w there = ltb-true 0 (slice_index ws w) (sym (was.sums w) ∙ there)

-- below the least bit of the summary all words are 0
word_none : (fields : ℕ) (ws ss : List ℕ) → IsSummed fields ws ss → (w : ℕ) → has_bit ss w ≡ false → slice_index ws w ≡ 0
word_none fields ws ss was w none = elim (cases_lt 0 (slice_index ws w)) [
  | inl some ↦ absurd (let b : true ≡ false = sym (was.sums w ∙ lt-ltb 0 (slice_index ws w) some) ∙ none in cc)
  | inr zero ↦ omega arith
]

below_group : (ss : List ℕ) (group word : ℕ) → IsFirstWord ss group → IsLowestIn ss group word → (w : ℕ) → w < word → has_bit ss w ≡ false
below_group ss group word first low w less = dite (ℕ_discrete (w / 64) group)
    (λ same. low.lowest w same less)
    (λ other. elim (cases_lt (w / 64) group) [
      | inl before ↦ elim (cases_lt 0 (slice_index ss (w / 64))) [
        | inl some ↦ absurd (let z : slice_index ss (w / 64) ≡ 0 = first.before (w / 64) before in omega arith)
        | inr zero ↦ bit_none ss w (first.before (w / 64) before)
      ]
      | inr after ↦ absurd (let g : word / 64 ≡ group = low.there in omega arith)
    ])

pub least_dirty : (fields : ℕ) (ws ss : List ℕ) (group word least : ℕ) → IsSummed fields ws ss → IsFirstWord ss group → IsLowestIn ss group word → IsLowestIn ws word least →
    IsLeastDirty (record { fields = fields; words = ws }) least
least_dirty fields ws ss group word least was first low found = record {
  field = was.low least found.among;
  among = found.among;
  lowest = λ f less. dite (ℕ_discrete (f / 64) word)
      (λ same. found.lowest f same less)
      (λ other. let w : least / 64 ≡ word = found.there in let under : f / 64 < word = omega arith in
      bit_none ws f (word_none fields ws ss was (f / 64) (below_group ss group word first low (f / 64) under)));
}

-- to mark a field that is dirty changes nothing
pub marked_again : (d : DirtySet) (field : ℕ) → is_dirty_in d field ≡ true → (f : ℕ) → is_dirty_in d f ≡ (if field == f then true else is_dirty_in d f)
marked_again d field is f = elim (eqb_tells field f) [
  | inl e ↦ ap (λ (k : ℕ). is_dirty_in d k) (sym e.1) ∙ is ∙ sym (ap (λ (b : Bool). if b then true else is_dirty_in d f) e.0)
  | inr e ↦ sym (ap (λ (b : Bool). if b then true else is_dirty_in d f) e.0)
]
