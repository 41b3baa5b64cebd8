use Rattle.std.proofs.Common.{◌≡◌, ◌∙◌, inr}
use Rattle.script_lines.specs.Grammar.{Asks}
use Rattle.script_lines.specs.Orders.{order_of}
use Rattle.script_play.specs.Texts.{text_of}
use Rattle.script_play.proofs.PlayLemmas.{IfErr_from}
use Rattle.script_play.proofs.play.play_line.Goals as goal

pub returns-clause-part : goal.returns-clause-part
returns-clause-part g c =
    let asks : Asks (order_of c.in-Some.command) c.args.line.now = rw c.in-Some.is at c.in_ok-command.ensures.ok in
    let printed : c.deref.result.now ≡ text_of c.in-Ok.answer = c.deref.ensures.value ∙ c.in-Ok-text.ensures in
    IfErr_from c.put.result c.put.ensures.part (λ part kind is. record {
      output = c.deref.result.now;
      plays = (c.in_ok-command.ensures.text, inr (record { order = order_of c.in-Some.command; answer = c.in-Ok.answer; asks = asks; steps = c.in-Ok.ensures.ok; printed = printed }));
      part = part;
    })
