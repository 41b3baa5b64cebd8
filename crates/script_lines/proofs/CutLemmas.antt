-- A text's lines are its first line and the lines of what follows it.
use Rattle.std.proofs.Common.{◌≡◌, ℕ, ◌<◌, Bool, true, false, List, [], ◌∷◌, ◌==◌, ◌&&◌, if◌then◌else◌, length, drop, refl, ap, arith}
use Rattle.std.proofs.lemmas.Bool.{and_parts}
use Rattle.std.specs.List.{onto_first}
use Rattle.script_lines.specs.Cutting.{first_line, other_lines}
use Rattle.script_lines.specs.Lines.{begins_with_line_feed, lines_of}
use Rattle.script_lines.specs.declared.lines.TheConstants.{LINE_FEED, CARRIAGE_RETURN}

-- the first line of a text that doesn't begin with an end
added : (b : ℕ) (bs : List ℕ) → (0 < length bs → lines_of bs ≡ first_line bs ∷ lines_of (other_lines bs))
    → onto_first b (lines_of bs) ≡ (b ∷ first_line bs) ∷ lines_of (other_lines bs)
added b [] h = refl
added b (x ∷ xs) h = ap (onto_first b) (h (omega arith))

-- what follows a carriage return before a line feed
after_return : (bs : List ℕ) → begins_with_line_feed bs ≡ true → lines_of bs ≡ [] ∷ lines_of (drop 1 bs)
after_return [] e = absurd cc
after_return (x ∷ xs) e =
    ap (λ t. if t then [] ∷ lines_of xs else (if x == CARRIAGE_RETURN && begins_with_line_feed xs then lines_of xs else onto_first x (lines_of xs))) e

-- the lines, the first line and the others, by how the text begins
lines_by : Bool → Bool → ℕ → List ℕ → List (List ℕ)
lines_by feed return b bs = if feed then [] ∷ lines_of bs else (if return then lines_of bs else onto_first b (lines_of bs))

length_by : Bool → Bool → ℕ
length_by feed return = if feed then 1 else (if return then 2 else 0)

first_by : ℕ → ℕ → List ℕ → List ℕ
first_by n b bs = if n == 0 then b ∷ first_line bs else []

others_by : ℕ → ℕ → List ℕ → List ℕ
others_by n b bs = if n == 0 then other_lines bs else drop n (b ∷ bs)

cut_by : (feed return : Bool) (b : ℕ) (bs : List ℕ) → (return ≡ true → begins_with_line_feed bs ≡ true)
    → (0 < length bs → lines_of bs ≡ first_line bs ∷ lines_of (other_lines bs))
    → lines_by feed return b bs ≡ first_by (length_by feed return) b bs ∷ lines_of (others_by (length_by feed return) b bs)
unfolding lines_by length_by first_by others_by
cut_by true return b bs f h = refl
cut_by false true b bs f h = after_return bs (f refl)
cut_by false false b bs f h = added b bs h

-- a text's lines are its first line and those behind it
cut_first : (b : ℕ) (bs : List ℕ) → lines_of (b ∷ bs) ≡ first_line (b ∷ bs) ∷ lines_of (other_lines (b ∷ bs))
unfolding lines_by length_by first_by others_by
cut_first b [] = cut_by (b == LINE_FEED) (b == CARRIAGE_RETURN && false) b [] (λ e. (and_parts _ _ e).1) (λ h. absurd (omega arith))
cut_first b (x ∷ xs) = cut_by (b == LINE_FEED) (b == CARRIAGE_RETURN && begins_with_line_feed (x ∷ xs)) b (x ∷ xs) (λ e. (and_parts _ _ e).1) (λ _. cut_first x xs)

pub lines_of-first : (text : List ℕ) → 0 < length text → lines_of text ≡ first_line text ∷ lines_of (other_lines text)
lines_of-first [] h = absurd (omega arith)
lines_of-first (b ∷ bs) h = cut_first b bs
