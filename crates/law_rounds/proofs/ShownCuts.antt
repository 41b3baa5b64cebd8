-- An image that shows a cut of what threads have logged keeps whole sections of their history.
use Rattle.std.proofs.Common.{ℕ, List, sym, subst, arith}
use Rattle.heap_model.specs.declared.event.Event.{Event}
use Rattle.heap_model.specs.declared.record.Record.{Record}
use Rattle.heap_model.specs.History.{log_of}
use Rattle.heap_model.specs.Log.{IsLaneWisePrefix}
use Rattle.heap_model.specs.Setting.{Setting}
use Rattle.law_histories.specs.Laws.{LogLaw, OrderLaw}
use Rattle.image_parts.specs.declared.layout.Layout.{Layout}
use Rattle.store_helper_sections.specs.Image.{ShowsCutOf, kept_by}
use Rattle.heap_model.specs.Past.{IsPast}
use Rattle.law_survival.specs.History.{KeepsHistory}
use Rattle.law_survival.specs.Running.{KeepsIn}
use Rattle.law_survival.proofs.Histories.{keeps_history, older_first}
use Rattle.law_rounds.specs.Histories.{HasLogged, RoundRunLaw, RoundRunsLaw, ShownAgainLaw}
use Rattle.law_rounds.specs.Laws.{Gives, RoundAgainLaw, RoundLaw, round_past}

-- what the image shows is a past
shown_past : (l : Layout) (t : ℕ) (s : Setting) (log : List (ℕ × Record)) (cut : ℕ → ℕ) (image : List ℕ) (shows : ShowsCutOf l t s log cut image) → IsPast s (round_past shows.shown shows.kept)
shown_past l t s log cut image shows = record {
  legal = shows.round.legal;
  within = λ lane. omega arith;
  base_whole = shows.round.whole;
  base_closed = shows.round.closed;
  whole = shows.round.whole;
  closed = shows.round.closed;
}

-- the log that it shows is, lane by lane, a beginning of what the history logs
shown_first : (l : Layout) (t : ℕ) (s : Setting) (log : List (ℕ × Record)) (cut : ℕ → ℕ) (history : List (ℕ × Event)) (image : List ℕ) (shows : ShowsCutOf l t s log cut image) →
    IsLaneWisePrefix log (log_of s history) → IsLaneWisePrefix shows.shown (log_of s history)
shown_first l t s log cut history image shows first =
    older_first shows.later shows.shown (log_of s history) (subst (λ (xs : List (ℕ × Record)). IsLaneWisePrefix xs (log_of s history)) shows.parts first)

pub keeps_each : LogLaw → OrderLaw → RoundLaw → RoundRunsLaw
keeps_each log_legal in_order gives l t s p log image shows =
    let given : Gives l (kept_by s shows.shown shows.kept) shows.kept image = gives l t s shows.shown shows.kept shows.sections image shows.round shows.shows in
    record {
      accepted = given.accepted;
      cut = shows.kept;
      stays = shows.more;
      kept_are = given.kept_are;
      keeps = λ history has. keeps_history log_legal in_order l s (round_past shows.shown shows.kept) history given.accepted.study.heap.items shows.kept
          (shown_past l t s log p.cut image shows) has.legal (shown_first l t s log p.cut history image shows has.first) shows.round.whole shows.round.closed given.heap_is;
    }

pub keeps_one : RoundRunsLaw → RoundRunLaw
keeps_one each l t s p log history image legal first shows =
    let kept : KeepsIn (HasLogged s log) l s p image = each l t s p log image shows in
    record {
      accepted = kept.accepted;
      cut = kept.cut;
      stays = kept.stays;
      kept_are = kept.kept_are;
      keeps = λ other same. subst (λ (h : List (ℕ × Event)). KeepsHistory l s h kept.cut kept.accepted.study.heap.items) (sym same) (kept.keeps history (record { legal = legal; first = first }));
    }

pub shown_again : RoundAgainLaw → ShownAgainLaw
shown_again again l t s log cut image shows = again l t s shows.shown shows.kept shows.sections image shows.round shows.shows
