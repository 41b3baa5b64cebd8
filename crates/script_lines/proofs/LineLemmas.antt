-- A text is cut into its lines.
use Rattle.std.proofs.Common.{◌≡◌, ℕ, ◌+◌, ◌-◌, ◌<◌, List, [], ◌∷◌, ◌++◌, ◌==◌, length, get_or, take, drop, if◌then◌else◌, sym, ap, ◌∙◌, append_assoc, length-drop, arith}
use Rattle.std.proofs.lemmas.List.{take_more, take_all, drop-drop, get_or-drop}
use Rattle.script_lines.specs.Cutting.{end_length, first_line, other_lines}

-- one more byte of the first line
pub record Goes (bytes : List ℕ) : Type 0 where
  pub first : first_line bytes ≡ get_or bytes 0 0 ∷ first_line (drop 1 bytes)
  pub others : other_lines bytes ≡ other_lines (drop 1 bytes)

pub goes : (bytes : List ℕ) → 0 < length bytes → end_length bytes ≡ 0 → Goes bytes
goes [] h e = absurd (omega arith)
goes (b ∷ bs) h e = record {
  first = ap (λ n. if n == 0 then b ∷ first_line bs else []) e;
  others = ap (λ n. if n == 0 then other_lines bs else drop n (b ∷ bs)) e;
}

-- one more byte at this place
pub record GoesAt (text : List ℕ) (at : ℕ) : Type 0 where
  pub first : first_line text ≡ take at text ++ first_line (drop at text)
  pub others : other_lines text ≡ other_lines (drop at text)

pub goes_at : (text : List ℕ) (at n : ℕ) → at < length text → n ≡ end_length (take (length text - at) (drop at text)) → n ≡ 0
    → GoesAt text at → GoesAt text (at + 1)
goes_at text at n h e none so =
    let bytes = drop at text in
    let len : length bytes ≡ length text - at = length-drop at text in
    let all : take (length text - at) bytes ≡ bytes = take_all (length text - at) bytes (omega arith) in
    let step = goes bytes (omega arith) (sym (e ∙ ap end_length all) ∙ none) in
    let rest : drop 1 bytes ≡ drop (at + 1) text = drop-drop 1 at text in
    let here : get_or bytes 0 0 ≡ get_or text at 0 = get_or-drop at text 0 0 ∙ ap (λ i. get_or text i 0) (omega arith) in
    record {
      first = so.first ∙ ap (λ l. take at text ++ l) (step.first ∙ ap (λ b. b ∷ first_line (drop 1 bytes)) here ∙ ap (λ l. get_or text at 0 ∷ first_line l) rest)
          ∙ sym (append_assoc (take at text) (get_or text at 0 ∷ []) (first_line (drop (at + 1) text))) ∙ ap (λ l. l ++ first_line (drop (at + 1) text)) (sym (take_more text at 0 h));
      others = so.others ∙ step.others ∙ ap other_lines rest;
    }
