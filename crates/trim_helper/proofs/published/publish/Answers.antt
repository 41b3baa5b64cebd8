use Rattle.std.proofs.Common.{[], ◌∷◌, sym, ap, ◌∙◌, arith}
use Rattle.monitor.specs.Posts.{post_number}
use Rattle.monitor.specs.declared.view.Post.TheVariants.{Stable, Trimmed}
use Rattle.monitor.specs.declared.view.View.{View}
use Rattle.trim_helper.proofs.Counting.{count_added}
use Rattle.trim_helper.proofs.SeatLemmas.{count_new, place_new}
use Rattle.trim_helper.proofs.published.publish.Goals as goal

pub returns-clause-count : goal.returns-clause-count
returns-clause-count c = let low = c.requires.lane in let few = c.requires.seat.few in λ l lt. count_new c.args.seat.now c.publish.new.helper c.args.lane c.args.acknowledged c.args.trimmed (omega arith) c.publish.ensures.told l lt

pub returns-clause-place : goal.returns-clause-place
returns-clause-place c = let low = c.requires.lane in let few = c.requires.seat.few in λ l lt. place_new c.args.seat.now c.publish.new.helper c.args.lane c.args.acknowledged c.args.trimmed (omega arith) c.publish.ensures.told l lt

pub returns-clause-counts : goal.returns-clause-counts
returns-clause-counts c = λ l n lt was. count_added c.args.seat.now c.publish.new.helper c.args.lane c.args.acknowledged c.args.trimmed c.publish.ensures.told l n lt was

pub returns-clause-sight : goal.returns-clause-sight
returns-clause-sight c = let told = c.publish.ensures.told in record { table = c.publish.ensures.seat.0 ∙ sym c.requires.seat.of.0; plan = ap (λ (v : View). v.plan) told; history = ap (λ (v : View). v.history) told }

pub returns-clause-notes : goal.returns-clause-notes
returns-clause-notes c = (
  record { post = post_number (Trimmed c.args.lane); number = c.args.trimmed } ∷ record { post = post_number (Stable c.args.lane); number = c.args.acknowledged } ∷ [],
  ap (λ (v : View). v.notes) c.publish.ensures.told,
)
