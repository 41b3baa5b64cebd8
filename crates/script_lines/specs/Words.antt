-- The words of a line (docs/SCRIPTS.md, "Text").
use Rattle.std.specs.Prelude.{◌≡◌, ◌≢◌, ℕ, List, [], ◌∷◌, ◌++◌}
use Rattle.std.specs.List.{AllByRecursion}
use Rattle.script_lines.specs.declared.words.TheConstants.{SPACE}

-- a word isn't empty, and has no space
abbrev pub IsWord : List ℕ → Type 0
IsWord word = (word ≢ []) × AllByRecursion (λ byte. byte ≢ SPACE) word

-- what stands between two words: one or more spaces
abbrev pub IsGap : List ℕ → Type 0
IsGap gap = (gap ≢ []) × AllByRecursion (λ byte. byte ≡ SPACE) gap

-- a line is these words, with a gap between two of them, and nothing before the first or after the last
abbrev pub AreWords : List (List ℕ) → List ℕ → Type 0
AreWords [] line = ⊥
AreWords (word ∷ []) line = IsWord word × (line ≡ word)
AreWords (word ∷ next ∷ others) line = IsWord word × (gap : List ℕ) × (rest : List ℕ)
    × IsGap gap × (line ≡ word ++ (gap ++ rest)) × AreWords (next ∷ others) rest
