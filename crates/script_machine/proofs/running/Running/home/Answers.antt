use Rattle.std.proofs.Common.{refl, subst}
use Rattle.block_disk.specs.Memory.{device_of}
use Rattle.block_disk.proofs.Images.{weaker}
use Rattle.store_image.specs.Consistent.{ShowsPast}
use Rattle.durable.specs.Store.{ShowsStep}
use Rattle.durable.specs.Store.ShowsStep.{Shows}
use Rattle.durable.specs.declared.doubt.Doubt.TheVariants.{Nothing}
use Rattle.script_machine.specs.Agreement.{setting_from}
use Rattle.script_machine.specs.declared.answer.Answer.TheVariants.{Wrote}
use Rattle.script_machine.specs.States.{Live}
use Rattle.script_machine.specs.Machine.{Running, WritesHome}
use Rattle.script_machine.proofs.AgreementLemmas.{homes-told, same-told}
use Rattle.script_machine.proofs.SchemaLemmas.{called_of}
use Rattle.script_machine.proofs.StoreLemmas.{live}
use Rattle.script_machine.proofs.running.Running.home.Goals as goal

pub invariant_of-result : goal.invariant_of-result
invariant_of-result c =
    let a = c.self.inside.monitors in
    let g = c.self.invariant in
    let s = setting_from a g.first in
    let x = c.self.inside.store in
    let y = c.write_homes.new.store in
    let brings = c.in-Ok.ensures.homes s g.past g.tells in
    let l = x.known.layout in
    let leaves = weaker (device_of x.disk) (device_of y.disk) (ShowsPast l s g.past) (ShowsStep l s g.past Nothing) (λ image shown. Shows shown) (c.in-Ok.ensures.shown s g.past g.tells) in
    same-told a x y g brings.then (homes-told s g.past c.in-Ok.cells brings.then brings.written) brings.tells c.write_homes.ensures.layout (c.in-Ok.ensures.running g.running)
    (called_of a g.first g.past Nothing x y.disk g.tells g.running leaves g.of_schema)

pub returns : goal.returns
returns c =
    let a = c.self.inside.monitors in
    let y = c.write_homes.new.store in
    let n = c.in-Ok.cells in
    subst (λ (m : Live). WritesHome (Running m) (Wrote n) (Running (live a y)) m) c.self.view_is
    (record {
      store = y;
      cells = n;
      call = record {
        answers = refl;
        runs = refl;
        layout = c.write_homes.ensures.layout;
        ran = c.self.invariant.running;
        running = c.in-Ok.ensures.running c.self.invariant.running;
        shown = λ s p t. weaker (device_of c.self.inside.store.disk) (device_of y.disk) (ShowsPast c.self.inside.store.known.layout s p)
            (ShowsStep c.self.inside.store.known.layout s p Nothing) (λ image shown. Shows shown) (c.in-Ok.ensures.shown s p t);
      };
      sequence = c.write_homes.ensures.sequence;
      stands = λ s p t. c.in-Ok.ensures.any_moment s p t;
      after = λ s p t. c.in-Ok.ensures.homes s p t;
    })
