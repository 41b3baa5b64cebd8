use Rattle.std.proofs.Common.{◌≡◌, ◌++◌, List, [], ap, sym, ◌∙◌, subst, arith}
use Rattle.std.proofs.lemmas.List.{append-nil}
use Rattle.heap_model.specs.declared.event.Event.{Event}
use Rattle.monitor.specs.Views.{GoesOn}
use Rattle.monitor.specs.Words.{setting_of}
use Rattle.trim_helper.specs.Endings.{parts_of}
use Rattle.trim_helper.specs.Helping.{taken_in}
use Rattle.trim_helper.specs.Serving.{Among, IsOneHistory, Part}
use Rattle.trim_helper.proofs.leaving.end_sharing.Goals as goal

pub returns-clause-history : goal.returns-clause-history
returns-clause-history c =
    let h = c.close.ensures.history in
    let all : taken_in c.gather_all.new.seat ≡ parts_of c.args.ended.items =
    c.gather_all.ensures.gathered ∙ ap (λ (xs : List Part). parts_of c.args.ended.items ++ xs) c.requires.nothing ∙ append-nil (parts_of c.args.ended.items) in
    record {
      history = h.history;
      one = subst (λ (parts : List Part). IsOneHistory (setting_of c.args.shared.plan) c.args.shared.plan.lanes parts h.history) all h.one;
      later = subst (λ seen. GoesOn h.history seen) c.gather_all.ensures.sight.history h.later;
    }

pub returns-clause-read : goal.returns-clause-read
returns-clause-read c = λ x among.
    let all : taken_in c.gather_all.new.seat ≡ parts_of c.args.ended.items =
    c.gather_all.ensures.gathered ∙ ap (λ (xs : List Part). parts_of c.args.ended.items ++ xs) c.requires.nothing ∙ append-nil (parts_of c.args.ended.items) in
    let read = (c.close.ensures.read x (subst (λ (parts : List Part). Among parts x) (sym all) among)).0 in
    let same = c.gather_all.ensures.count x.lane in
    omega (arith, read, same)
