-- A strict run goes line by line, and stops at the first that is refused.
use Rattle.std.proofs.Common.{◌≡◌, ℕ, zero, suc, ◌+◌, ◌-◌, ◌<◌, ◌≤◌, true, false, List, [], ◌∷◌, ◌++◌, ◌==◌, Option, None, Some, length, length-drop, take, drop, refl, sym, ap, subst, ◌∙◌, inl, inr, append-nil, take-append-drop, arith}
use Rattle.std.proofs.KnownBytes.{Appends-nil, Appends-trans}
use Rattle.std.proofs.Math.Seq.{take-add}
use Rattle.std.proofs.lemmas.Bool.{eqb-true}
use Rattle.std.proofs.lemmas.List.{drop-drop, take_all}
use Rattle.std.proofs.lemmas.List.Folds.{concat-append}
use Rattle.std.specs.Io.KnownBytes.{Appends}
use Rattle.std.specs.List.{concat}
use Rattle.std.specs.Prelude.{slice_get}
use Rattle.script_lines.specs.Grammar.{Asks}
use Rattle.script_lines.specs.Lines.{IsFit, IsSkipped, IsText, lines_of}
use Rattle.script_lines.specs.Orders.{Order}
use Rattle.script_machine.specs.Machine.{MachineState, Steps}
use Rattle.script_machine.specs.declared.answer.Answer.{Answer}
use Rattle.script_machine.specs.declared.answer.Refusal.{Refusal}
use Rattle.script_lines.specs.declared.error.ScriptErrorKind.TheVariants as kinds
use Rattle.script_lines.specs.declared.error.ScriptErrorKind.{ScriptErrorKind}
use Rattle.script_play.specs.Runs.{AreFit, MayStop, Plays, PlaysInPart, PlaysLine, PrintsFrom, PrintsOn, PrintsPartFrom, StopsAt}
use Rattle.script_play.specs.Texts.{text_of}
use Rattle.script_images.specs.Reasons.{refusal_of}
use Rattle.script_images.specs.Strict.{IsAnswered, RefusesAndPrints, RefusesAt, StopsThere, TakesAll, TakesAndPrints, TakesLine, TakesOn}
use Rattle.script_images.proofs.ReasonLemmas.{refusal_is}

-- a line that is taken is played
line_played : (old : MachineState) (line output : List ℕ) (new : MachineState) → TakesLine old line output new → PlaysLine old line output new
line_played old line output new (is_text, inl skips) = (is_text, inl skips)
line_played old line output new (is_text, inr takes) =
    (is_text, inr (record { order = takes.order; answer = takes.answer; asks = takes.asks; steps = takes.steps; printed = takes.printed }))

pub all_played : (old : MachineState) (lines outputs : List (List ℕ)) (new : MachineState) → TakesAll old lines outputs new → Plays old lines outputs new
all_played old [] outputs new h = h
all_played old (line ∷ lines) [] new h = absurd h
all_played old (line ∷ lines) (output ∷ outputs) new h = (h.0, line_played old line output h.0 h.1, all_played h.0 lines outputs new h.2)

pub prints_on : (start : MachineState) (lines : List (List ℕ)) (end : MachineState) (old new : Option (List ℕ)) → TakesOn start lines end old new → PrintsOn start lines end old new
prints_on start lines end old new h = record { outputs = h.outputs; plays = all_played start lines h.outputs end h.takes; written = h.written }

-- one more line
takes-more : (old : MachineState) (lines outputs : List (List ℕ)) (middle : MachineState) (line output : List ℕ) (new : MachineState)
    → TakesAll old lines outputs middle → TakesLine middle line output new → TakesAll old (lines ++ line ∷ []) (outputs ++ output ∷ []) new
takes-more old [] outputs middle line output new h p =
    let P : List (List ℕ) → Type 0 = λ os. TakesAll old (line ∷ []) (os ++ output ∷ []) new in
    subst P (sym h.0) (new, subst (λ s. TakesLine s line output new) h.1 p, (refl, refl))
takes-more old (first ∷ lines) [] middle line output new h p = absurd h
takes-more old (first ∷ lines) (o ∷ outputs) middle line output new h p = (h.0, h.1, takes-more h.0 lines outputs middle line output new h.2 p)

plays-more : (old : MachineState) (lines outputs : List (List ℕ)) (middle : MachineState) (line output : List ℕ) (new : MachineState)
    → Plays old lines outputs middle → PlaysLine middle line output new → Plays old (lines ++ line ∷ []) (outputs ++ output ∷ []) new
plays-more old [] outputs middle line output new h p =
    let P : List (List ℕ) → Type 0 = λ os. Plays old (line ∷ []) (os ++ output ∷ []) new in
    subst P (sym h.0) (new, subst (λ s. PlaysLine s line output new) h.1 p, (refl, refl))
plays-more old (first ∷ lines) [] middle line output new h p = absurd h
plays-more old (first ∷ lines) (o ∷ outputs) middle line output new h p = (h.0, h.1, plays-more h.0 lines outputs middle line output new h.2 p)

-- what was taken is fit
line_fit : (old : MachineState) (line output : List ℕ) (new : MachineState) → TakesLine old line output new → IsFit line
line_fit old line output new (is_text, inl skips) = (is_text, inl skips.skipped)
line_fit old line output new (is_text, inr takes) = (is_text, inr (takes.order, takes.asks))

takes-fit : (old : MachineState) (lines outputs : List (List ℕ)) (new : MachineState) → TakesAll old lines outputs new → AreFit lines
takes-fit old [] outputs new h = tt
takes-fit old (line ∷ lines) [] new h = absurd h
takes-fit old (line ∷ lines) (output ∷ outputs) new h = (line_fit old line output h.0 h.1, takes-fit h.0 lines outputs new h.2)

-- a list that is taken one by one from the front
drop_one : (lines : List (List ℕ)) (n : ℕ) (line : List ℕ) (others : List (List ℕ)) → drop n lines ≡ line ∷ others → drop (n + 1) lines ≡ others
drop_one lines n line others e = sym (drop-drop 1 n lines) ∙ ap (drop 1) e

take_one : (lines : List (List ℕ)) (n : ℕ) (line : List ℕ) (others : List (List ℕ)) → drop n lines ≡ line ∷ others → take (n + 1) lines ≡ take n lines ++ line ∷ []
take_one lines n line others e = take-add n 1 lines ∙ ap (λ l. take n lines ++ take 1 l) e

one_fewer : (lines : List (List ℕ)) (n : ℕ) (line : List ℕ) (others : List (List ℕ)) → drop n lines ≡ line ∷ others → n + 1 ≤ length lines
one_fewer lines n line others e =
    let len : length (drop n lines) ≡ length lines - n = length-drop n lines in
    let some : length (drop n lines) ≡ length others + 1 = ap length e ∙ omega arith in
    omega arith

found_at : (lines : List (List ℕ)) (n : ℕ) (line : List ℕ) (others : List (List ℕ)) → drop n lines ≡ line ∷ others → slice_get lines n ≡ Some line
found_at [] zero line others e = absurd cc
found_at [] (suc n) line others e = absurd cc
found_at (l ∷ ls) zero line others e = let same : l ≡ line = cc in ap Some same
found_at (l ∷ ls) (suc n) line others e = found_at ls n line others e

no_rest : (rest : List ℕ) → (length rest == 0) ≡ true → rest ≡ []
no_rest [] e = refl
no_rest (b ∷ bs) e = absurd (omega (arith, eqb-true (length (b ∷ bs)) 0 e))

pub some_left : (rest : List ℕ) → (length rest == 0) ≡ false → 0 < length rest
some_left [] e = absurd cc
some_left (b ∷ bs) e = omega arith

all_taken : {X : Type 0} (lines : List X) (n : ℕ) → drop n lines ≡ [] → take n lines ≡ lines
all_taken lines n e = sym (append-nil (take n lines)) ∙ ap (λ l. take n lines ++ l) (sym e) ∙ take-append-drop n lines

taken_count : (lines : List (List ℕ)) (n : ℕ) → drop n lines ≡ [] → n ≤ length lines → n ≡ length lines
taken_count lines n e short =
    let len : length (drop n lines) ≡ length lines - n = length-drop n lines in
    let none : length (drop n lines) ≡ 0 = ap length e in omega arith

-- what is played of a text, none of which was refused: so many lines, what they printed, and what is left
pub record IsTaken (start : MachineState) (text : List ℕ) (state : MachineState) (rest : List ℕ) (played : ℕ) (before now : Option (List ℕ)) : Type 0 where
  pub outputs : List (List ℕ)
  pub takes : TakesAll start (take played (lines_of text)) outputs state
  pub left : drop played (lines_of text) ≡ lines_of rest
  pub short : played + length rest ≤ length text
  pub few : played ≤ length (lines_of text)
  pub written : Appends before now (concat outputs)

pub taken-start : (start : MachineState) (text : List ℕ) (before : Option (List ℕ)) → IsTaken start text start text 0 before before
taken-start start text before = record {
  outputs = [];
  takes = (refl, refl);
  left = refl;
  short = omega arith;
  few = omega arith;
  written = Appends-nil before;
}

-- so it is of the text, and the next line is this one
module _ (start : MachineState) (text : List ℕ) (state : MachineState) (rest : List ℕ) (played : ℕ) (before now : Option (List ℕ))
    (h : IsTaken start text state rest played before now) where
  -- all are taken
  pub taken_all : (length rest == 0) ≡ true → TakesOn start (lines_of text) state before now
  taken_all none =
      let gone : drop played (lines_of text) ≡ [] = h.left ∙ ap lines_of (no_rest rest none) in
      record {
        outputs = h.outputs;
        takes = subst (λ (l : List (List ℕ)). TakesAll start l h.outputs state) (all_taken (lines_of text) played gone) h.takes;
        written = h.written;
      }

  pub counted_all : (length rest == 0) ≡ true → played ≡ length (lines_of text)
  counted_all none = taken_count (lines_of text) played (h.left ∙ ap lines_of (no_rest rest none)) h.few

  -- what was printed before the next line
  printed_before : (after : Option (List ℕ)) → Appends now after [] → PrintsFrom start (take (played + 1 - 1) (lines_of text)) before after
  printed_before after none =
      let same : played ≡ played + 1 - 1 = omega arith in (
        state,
        record {
          outputs = h.outputs;
          plays = subst (λ (n : ℕ). Plays start (take n (lines_of text)) h.outputs state) same (all_played start _ h.outputs state h.takes);
          written = subst (Appends before after) (append-nil (concat h.outputs)) (Appends-trans before now after _ _ h.written none);
        },
      )

  module _ (line others : List ℕ) (e : lines_of rest ≡ line ∷ lines_of others) where
    next : drop played (lines_of text) ≡ line ∷ lines_of others
    next = h.left ∙ e

    -- it is taken too
    pub taken-more : (new : MachineState) (after : Option (List ℕ)) → length others < length rest → TakesAndPrints state line new now after
        → IsTaken start text new others (played + 1) before after
    taken-more new after shorter p =
        let all : concat (h.outputs ++ p.output ∷ []) ≡ concat h.outputs ++ p.output = concat-append h.outputs (p.output ∷ []) ∙ ap (λ l. concat h.outputs ++ l) (append-nil p.output) in
        record {
          outputs = h.outputs ++ p.output ∷ [];
          takes = subst (λ (l : List (List ℕ)). TakesAll start l (h.outputs ++ p.output ∷ []) new) (sym (take_one (lines_of text) played line _ next))
              (takes-more start _ h.outputs state line p.output new h.takes p.takes);
          left = drop_one (lines_of text) played line _ next;
          short = omega (arith, h.short);
          few = one_fewer (lines_of text) played line _ next;
          written = subst (Appends before after) (sym all) (Appends-trans before now after _ _ h.written p.written);
        }

    -- or it is refused
    pub refused_at : (why : Refusal) (after : Option (List ℕ)) → RefusesAndPrints state line why now after → RefusesAt start (lines_of text) (played + 1) why before after
    refused_at why after p =
        let same : played ≡ played + 1 - 1 = omega arith in
        record {
          outputs = h.outputs;
          first = record {
            middle = state;
            before = subst (λ (n : ℕ). TakesAll start (take n (lines_of text)) h.outputs state) same h.takes;
            text = line;
            counted = omega arith;
            there = ap (slice_get (lines_of text)) (sym same) ∙ found_at (lines_of text) played line _ next;
            refused = p.refused;
          };
          written = Appends-trans before now after _ _ h.written p.written;
        }

    -- or the run stops at it
    stopped_at : (kind : ScriptErrorKind) → MayStop line kind → StopsAt (lines_of text) (record { line = played + 1; kind = kind })
    stopped_at kind why =
        let same : played + 1 - 1 ≡ played = omega arith in
        record {
          line = line;
          counted = omega arith;
          there = ap (slice_get (lines_of text)) same ∙ found_at (lines_of text) played line _ next;
          why = why;
          before = subst (λ (n : ℕ). AreFit (take n (lines_of text))) (sym same) (takes-fit start _ h.outputs state h.takes);
        }

    printed_part : (new : MachineState) (after : Option (List ℕ)) → PlaysInPart state line new now after → PrintsPartFrom start (played + 1) (lines_of text) before after
    printed_part new after p = record {
      outputs = h.outputs;
      last = p.output;
      end = new;
      count = p.part.0;
      plays = subst (λ (l : List (List ℕ)). Plays start l (h.outputs ++ p.output ∷ []) new) (sym (take_one (lines_of text) played line _ next))
          (plays-more start _ h.outputs state line p.output new (all_played start _ h.outputs state h.takes) p.plays);
      short = p.part.1;
      written = Appends-trans before now after _ _ h.written p.part.2;
    }

    pub stops_there : (kind : ScriptErrorKind) (new : MachineState) (after : Option (List ℕ)) → MayStop line kind
        → ((kind ≡ kinds.Write → ⊥) → Appends now after []) → (kind ≡ kinds.Write → PlaysInPart state line new now after)
        → StopsThere start (lines_of text) (record { line = played + 1; kind = kind }) before after
    stops_there kind new after why none part = record {
      why = stopped_at kind why;
      before = λ other. printed_before after (none other);
      part = λ write. printed_part new after (part write);
    }

-- all lines were taken
pub fit_on : (start : MachineState) (lines : List (List ℕ)) (end : MachineState) (old new : Option (List ℕ)) → TakesOn start lines end old new → AreFit lines
fit_on start lines end old new p = takes-fit start lines p.outputs end p.takes

pub printed_front : (start : MachineState) (lines : List (List ℕ)) (end : MachineState) (played : ℕ) (old new : Option (List ℕ)) → played ≡ length lines → TakesOn start lines end old new
    → PrintsFrom start (take (played + 1 - 1) lines) old new
printed_front start lines end played old new count p =
    let enough : length lines ≤ played + 1 - 1 = omega (arith, count) in
    (end, subst (λ l. PrintsOn start l end old new) (sym (take_all (played + 1 - 1) lines enough)) (prints_on start lines end old new p))

-- a line that is skipped
pub skipped : (old : MachineState) (line : List ℕ) (before : Option (List ℕ)) → IsText line → IsSkipped line → IsAnswered old line old before before None
skipped old line before is_text is = record { output = []; takes = (is_text, inl (record { skipped = is; silent = refl; same = refl })); written = Appends-nil before }

-- one that is answered
pub answered : (old : MachineState) (line : List ℕ) (new : MachineState) (order : Order) (answer : Answer) (why : Option Refusal) (printed : List ℕ) (before after : Option (List ℕ))
    → IsText line → Asks order line → Steps old order answer new → why ≡ refusal_of answer → printed ≡ text_of answer → Appends before after printed
    → IsAnswered old line new before after why
answered old line new order answer None printed before after is_text asks steps is told written = record {
  output = printed;
  takes = (is_text, inr (record { order = order; answer = answer; asks = asks; steps = steps; printed = told; taken = sym is }));
  written = written;
}
answered old line new order answer (Some why) printed before after is_text asks steps is told written =
    let refused = refusal_is answer why (sym is) in
    record {
      refused = record { order = order; new = new; asks = asks; steps = subst (λ (a : Answer). Steps old order a new) refused steps };
      written = subst (λ (text : List ℕ). Appends before after text) (told ∙ ap text_of refused) written;
    }
