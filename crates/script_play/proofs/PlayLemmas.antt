-- A run goes line by line, and prints what its lines print.
use Rattle.std.proofs.Common.{◌≡◌, ℕ, zero, suc, ◌+◌, ◌-◌, ◌<◌, ◌≤◌, true, List, [], ◌∷◌, ◌++◌, ◌==◌, Option, Result, Ok, Err, IfErr, OnErr, length, take, drop, refl, sym, ap, subst, ◌∙◌, inl, inr, append-nil, arith}
use Rattle.std.proofs.KnownBytes.{Appends-nil, Appends-trans}
use Rattle.std.proofs.lemmas.List.{take_all}
use Rattle.std.proofs.lemmas.List.Folds.{concat-append}
use Rattle.std.specs.Io.KnownBytes.{Appends}
use Rattle.std.specs.List.{concat}
use Rattle.std.specs.Prelude.{slice_get}
use Rattle.script_lines.specs.Lines.{lines_of, IsFit}
use Rattle.script_play.proofs.FrontLemmas.{drop_one, take_one, one_fewer, found_at, no_rest, all_taken, played_count}
use Rattle.script_machine.specs.Machine.{MachineState, IsStart}
use Rattle.script_lines.specs.declared.reader.Ending.{Ending}
use Rattle.script_play.specs.Runs.{PlaysLine, Plays, AreFit, Ends, EndsOn, Prints, PrintsFrom, PrintsOn, PrintsPart, PrintsPartFrom, PlaysAndPrints, PlaysInPart, MayStop, StopsAt}
use Rattle.script_lines.specs.declared.error.ScriptError.{ScriptError}

-- what has been played is fit
line_fit : (old : MachineState) (line output : List ℕ) (new : MachineState) → PlaysLine old line output new → IsFit line
line_fit old line output new h = (
  h.0,
  elim h.1 [
    | inl skips ↦ inl skips.skipped
    | inr obeys ↦ inr (obeys.order, obeys.asks)
  ],
)

pub plays-fit : (old : MachineState) (lines outputs : List (List ℕ)) (new : MachineState) → Plays old lines outputs new → AreFit lines
plays-fit old [] outputs new h = tt
plays-fit old (line ∷ lines) [] new h = absurd h
plays-fit old (line ∷ lines) (output ∷ outputs) new h = (line_fit old line output h.0 h.1, plays-fit h.0 lines outputs new h.2)

-- one more line
pub plays-more : (old : MachineState) (lines outputs : List (List ℕ)) (middle : MachineState) (line output : List ℕ) (new : MachineState)
    → Plays old lines outputs middle → PlaysLine middle line output new → Plays old (lines ++ line ∷ []) (outputs ++ output ∷ []) new
plays-more old [] outputs middle line output new h p =
    let P : List (List ℕ) → Type 0 = λ os. Plays old (line ∷ []) (os ++ output ∷ []) new in
    subst P (sym h.0) (new, subst (λ s. PlaysLine s line output new) h.1 p, (refl, refl))
plays-more old (first ∷ lines) [] middle line output new h p = absurd h
plays-more old (first ∷ lines) (o ∷ outputs) middle line output new h p =
    (h.0, h.1, plays-more h.0 lines outputs middle line output new h.2 p)

-- what is played of a text: so many lines, what they printed, and what is left
pub record IsPlayed (start : MachineState) (text : List ℕ) (state : MachineState) (rest : List ℕ) (played : ℕ) (before now : Option (List ℕ)) : Type 0 where
  pub outputs : List (List ℕ)
  pub plays : Plays start (take played (lines_of text)) outputs state
  pub left : drop played (lines_of text) ≡ lines_of rest
  pub short : played + length rest ≤ length text
  pub few : played ≤ length (lines_of text)
  pub written : Appends before now (concat outputs)

pub played-start : (start : MachineState) (text : List ℕ) (before : Option (List ℕ)) → IsPlayed start text start text 0 before before
played-start start text before = record {
  outputs = [];
  plays = (refl, refl);
  left = refl;
  short = omega arith;
  few = omega arith;
  written = Appends-nil before;
}

-- the line at the front
next_line : (start : MachineState) (text : List ℕ) (state : MachineState) (rest : List ℕ) (played : ℕ) (before now : Option (List ℕ)) (line others : List ℕ) → IsPlayed start text state rest played before now
    → lines_of rest ≡ line ∷ lines_of others → drop played (lines_of text) ≡ line ∷ lines_of others
next_line start text state rest played before now line others h e = h.left ∙ e

pub played-more : (start : MachineState) (text : List ℕ) (state : MachineState) (rest : List ℕ) (played : ℕ) (before now : Option (List ℕ)) (line others : List ℕ) (new : MachineState) (after : Option (List ℕ))
    → IsPlayed start text state rest played before now → lines_of rest ≡ line ∷ lines_of others → length others < length rest
    → PlaysAndPrints state line new now after → IsPlayed start text new others (played + 1) before after
played-more start text state rest played before now line others new after h e shorter p =
    let next : drop played (lines_of text) ≡ line ∷ lines_of others = next_line start text state rest played before now line others h e in
    let more : Plays start (take played (lines_of text) ++ line ∷ []) (h.outputs ++ p.output ∷ []) new = plays-more start _ h.outputs state line p.output new h.plays p.plays in
    let all : concat (h.outputs ++ p.output ∷ []) ≡ concat h.outputs ++ p.output = concat-append h.outputs (p.output ∷ []) ∙ ap (λ l. concat h.outputs ++ l) (append-nil p.output) in
    record {
      outputs = h.outputs ++ p.output ∷ [];
      plays = subst (λ l. Plays start l (h.outputs ++ p.output ∷ []) new) (sym (take_one (lines_of text) played line _ next)) more;
      left = drop_one (lines_of text) played line _ next;
      short = omega (arith, h.short);
      few = one_fewer (lines_of text) played line _ next;
      written = subst (Appends before after) (sym all) (Appends-trans before now after _ _ h.written p.written);
    }

-- what was printed before the line at the front
pub printed_before : (start : MachineState) (text : List ℕ) (state : MachineState) (rest : List ℕ) (played : ℕ) (before now after : Option (List ℕ))
    → IsPlayed start text state rest played before now → Appends now after [] → PrintsFrom start (take (played + 1 - 1) (lines_of text)) before after
printed_before start text state rest played before now after h none =
    let same : played ≡ played + 1 - 1 = omega arith in (
      state,
      record {
        outputs = h.outputs;
        plays = subst (λ n. Plays start (take n (lines_of text)) h.outputs state) same h.plays;
        written = subst (Appends before after) (append-nil (concat h.outputs)) (Appends-trans before now after _ _ h.written none);
      },
    )

-- a line of which a part was printed
pub printed_part : (start : MachineState) (text : List ℕ) (state : MachineState) (rest : List ℕ) (played : ℕ) (before now : Option (List ℕ)) (line others : List ℕ) (new : MachineState) (after : Option (List ℕ))
    → IsPlayed start text state rest played before now → lines_of rest ≡ line ∷ lines_of others → PlaysInPart state line new now after
    → PrintsPartFrom start (played + 1) (lines_of text) before after
printed_part start text state rest played before now line others new after h e p =
    let next : drop played (lines_of text) ≡ line ∷ lines_of others = next_line start text state rest played before now line others h e in
    let more : Plays start (take played (lines_of text) ++ line ∷ []) (h.outputs ++ p.output ∷ []) new = plays-more start _ h.outputs state line p.output new h.plays p.plays in
    record {
      outputs = h.outputs;
      last = p.output;
      end = new;
      count = p.part.0;
      plays = subst (λ l. Plays start l (h.outputs ++ p.output ∷ []) new) (sym (take_one (lines_of text) played line _ next)) more;
      short = p.part.1;
      written = Appends-trans before now after _ _ h.written p.part.2;
    }

pub printed_all : (start : MachineState) (text : List ℕ) (state : MachineState) (rest : List ℕ) (played : ℕ) (before now : Option (List ℕ))
    → IsPlayed start text state rest played before now → (length rest == 0) ≡ true → PrintsOn start (lines_of text) state before now
printed_all start text state rest played before now h none =
    let gone : drop played (lines_of text) ≡ [] = h.left ∙ ap lines_of (no_rest rest none) in
    record {
      outputs = h.outputs;
      plays = subst (λ l. Plays start l h.outputs state) (all_taken (lines_of text) played gone) h.plays;
      written = h.written;
    }

-- the lines before one that was played are fit
fit_front : (lines : List (List ℕ)) (n : ℕ) → AreFit lines → AreFit (take n lines)
fit_front lines zero h = tt
fit_front [] (suc n) h = tt
fit_front (line ∷ lines) (suc n) h = (h.0, fit_front lines n h.1)

-- where the run stops
pub stops_at : (start : MachineState) (text : List ℕ) (state : MachineState) (rest : List ℕ) (played : ℕ) (before now : Option (List ℕ)) (line others : List ℕ) (error : ScriptError)
    → IsPlayed start text state rest played before now → lines_of rest ≡ line ∷ lines_of others → error.line ≡ played + 1 → MayStop line error.kind
    → StopsAt (lines_of text) error
stops_at start text state rest played before now line others error h e at why =
    let next : drop played (lines_of text) ≡ line ∷ lines_of others = next_line start text state rest played before now line others h e in
    let same : error.line - 1 ≡ played = omega (arith, at) in
    record {
      line = line;
      counted = omega (arith, at);
      there = ap (slice_get (lines_of text)) same ∙ found_at (lines_of text) played line _ next;
      why = why;
      before = subst (λ n. AreFit (take n (lines_of text))) (sym same) (plays-fit start _ h.outputs state h.plays);
    }

pub played_all : (start : MachineState) (text : List ℕ) (state : MachineState) (rest : List ℕ) (played : ℕ) (before now : Option (List ℕ))
    → IsPlayed start text state rest played before now → (length rest == 0) ≡ true → played ≡ length (lines_of text)
played_all start text state rest played before now h none = played_count (lines_of text) played (h.left ∙ ap lines_of (no_rest rest none)) h.few

-- all lines were played
pub prints-fit : (start : MachineState) (lines : List (List ℕ)) (end : MachineState) (old new : Option (List ℕ)) → PrintsOn start lines end old new → AreFit lines
prints-fit start lines end old new p = plays-fit start lines p.outputs end p.plays

pub prints-front : (start : MachineState) (lines : List (List ℕ)) (end : MachineState) (played : ℕ) (old new : Option (List ℕ)) → played ≡ length lines → PrintsOn start lines end old new
    → PrintsFrom start (take (played + 1 - 1) lines) old new
prints-front start lines end played old new count p =
    let enough : length lines ≤ played + 1 - 1 = omega (arith, count) in
    (end, subst (λ l. PrintsOn start l end old new) (sym (take_all (played + 1 - 1) lines enough)) p)

-- on a machine with nothing declared

from_start : (start : MachineState) (lines : List (List ℕ)) (end : MachineState) (old new : Option (List ℕ)) → IsStart start → PrintsOn start lines end old new → Prints lines old new
from_start start lines end old new s p = record { start = start; outputs = p.outputs; end = end; is_start = s; plays = p.plays; written = p.written }

part_from_start : (start : MachineState) (line : ℕ) (lines : List (List ℕ)) (old new : Option (List ℕ)) → IsStart start → PrintsPartFrom start line lines old new → PrintsPart line lines old new
part_from_start start line lines old new s p =
    record { start = start; outputs = p.outputs; last = p.last; end = p.end; count = p.count; is_start = s; plays = p.plays; short = p.short; written = p.written }

pub ends_from_start : (start : MachineState) (lines : List (List ℕ)) (ending : Ending) (r : Result (Unit {0}) ScriptError) (end : MachineState) (old new : Option (List ℕ)) → IsStart start
    → EndsOn start lines ending r end old new → Ends lines ending r old new
ends_from_start start lines ending (Ok done) end old new s h = (h.0, h.1, from_start start lines end old new s h.2)
ends_from_start start lines ending (Err e) end old new s h = (
  h.0,
  (λ other. let p = h.1 other in from_start start (take (e.line - 1) lines) p.0 old new s p.1),
  (λ write. part_from_start start e.line lines old new s (h.2 write)),
)

-- what an error means, where it leaves this
pub IfErr_from : {A E : Type 0} {P : Type 0} {Q : E → Type 0} (r : Result A E) → OnErr r P → (P → (e : E) → Q e) → IfErr r Q
IfErr_from (Ok a) left means = tt
IfErr_from (Err e) left means = means left e
