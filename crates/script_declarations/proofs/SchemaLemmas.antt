-- The lines of a schema file are declared one by one.
use Rattle.std.proofs.Common.{◌≡◌, ℕ, ◌+◌, ◌-◌, ◌<◌, ◌≤◌, true, List, [], ◌∷◌, ◌++◌, ◌==◌, length, take, drop, refl, sym, ap, subst, ◌∙◌, arith}
use Rattle.std.specs.Prelude.{slice_get}
use Rattle.guards.specs.Schema.{Declarations}
use Rattle.script_lines.specs.Lines.{lines_of}
use Rattle.script_declarations.specs.SchemaFiles.{DeclaresLine, DeclaresLines, RefusesLine, RefusesAt}
use Rattle.script_declarations.specs.declared.schema_fault.SchemaFault.{SchemaFault}
use Rattle.script_declarations.proofs.FrontLemmas.{drop_one, take_one, one_fewer, found_at, all_taken, no_rest, played_count}

-- one more line
declares-more : (old : Declarations) (lines : List (List ℕ)) (middle : Declarations) (line : List ℕ) (new : Declarations)
    → DeclaresLines old lines middle → DeclaresLine middle line new → DeclaresLines old (lines ++ line ∷ []) new
declares-more old [] middle line new h d = (new, subst (λ (x : Declarations). DeclaresLine x line new) h d, refl)
declares-more old (first ∷ lines) middle line new h d = (h.0, h.1, declares-more h.0 lines middle line new h.2 d)

-- what is declared of a text: so many lines, and what is left
pub record IsDeclared (start : Declarations) (text : List ℕ) (now : Declarations) (rest : List ℕ) (count : ℕ) : Type 0 where
  pub declares : DeclaresLines start (take count (lines_of text)) now
  pub left : drop count (lines_of text) ≡ lines_of rest
  pub short : count + length rest ≤ length text
  pub few : count ≤ length (lines_of text)

pub declared-start : (start : Declarations) (text : List ℕ) → IsDeclared start text start text 0
declared-start start text = record { declares = refl; left = refl; short = omega arith; few = omega arith }

pub declared-more : (start : Declarations) (text : List ℕ) (now : Declarations) (rest : List ℕ) (count : ℕ) (line others : List ℕ) (new : Declarations)
    → IsDeclared start text now rest count → lines_of rest ≡ line ∷ lines_of others → length others < length rest
    → DeclaresLine now line new → IsDeclared start text new others (count + 1)
declared-more start text now rest count line others new h e shorter d =
    let next : drop count (lines_of text) ≡ line ∷ lines_of others = h.left ∙ e in
    let more : DeclaresLines start (take count (lines_of text) ++ line ∷ []) new = declares-more start _ now line new h.declares d in
    record {
      declares = subst (λ l. DeclaresLines start l new) (sym (take_one (lines_of text) count line _ next)) more;
      left = drop_one (lines_of text) count line _ next;
      short = omega (arith, h.short);
      few = one_fewer (lines_of text) count line _ next;
    }

-- where the file is refused
pub refused_at : (start : Declarations) (text : List ℕ) (now : Declarations) (rest : List ℕ) (count : ℕ) (line others : List ℕ) (fault : SchemaFault)
    → IsDeclared start text now rest count → lines_of rest ≡ line ∷ lines_of others → fault.line ≡ count + 1 → RefusesLine now line fault.why
    → RefusesAt start (lines_of text) fault
refused_at start text now rest count line others fault h e at why =
    let next : drop count (lines_of text) ≡ line ∷ lines_of others = h.left ∙ e in
    let same : fault.line - 1 ≡ count = omega (arith, at) in
    record {
      line = line;
      declared = now;
      counted = omega (arith, at);
      there = ap (slice_get (lines_of text)) same ∙ found_at (lines_of text) count line _ next;
      before = subst (λ n. DeclaresLines start (take n (lines_of text)) now) (sym same) h.declares;
      why = why;
    }

-- at the end all is declared
gone : (start : Declarations) (text : List ℕ) (now : Declarations) (rest : List ℕ) (count : ℕ) → IsDeclared start text now rest count
    → (length rest == 0) ≡ true → drop count (lines_of text) ≡ []
gone start text now rest count h none = h.left ∙ ap lines_of (no_rest rest none)

pub declared_all : (start : Declarations) (text : List ℕ) (now : Declarations) (rest : List ℕ) (count : ℕ) → IsDeclared start text now rest count
    → (length rest == 0) ≡ true → DeclaresLines start (lines_of text) now
declared_all start text now rest count h none =
    subst (λ l. DeclaresLines start l now) (all_taken (lines_of text) count (gone start text now rest count h none)) h.declares

pub declared_count : (start : Declarations) (text : List ℕ) (now : Declarations) (rest : List ℕ) (count : ℕ) → IsDeclared start text now rest count
    → (length rest == 0) ≡ true → count ≡ length (lines_of text)
declared_count start text now rest count h none = played_count (lines_of text) count (gone start text now rest count h none) h.few
