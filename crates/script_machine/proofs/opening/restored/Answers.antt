use Rattle.std.proofs.Common.{◌≡◌, refl, ◌∙◌, ap}
use Rattle.image_parts.specs.declared.layout.Layout.{Layout}
use Rattle.script_machine.proofs.opening.restored.Goals as goal

pub returns-clause-restored : goal.returns-clause-restored
returns-clause-restored c =
    let same : c.layout-lanes.result ≡ c.args.recovered.layout = c.layout-lanes.ensures ∙ c.in_ok-store.ensures.layout in
    record {
      reported = record {
        found_is = refl;
        lanes = ap (λ (l : Layout). l.lanes) same;
        heap = c.in_ok-heap.ensures.items_if_clones_equal (λ x y same. same) ∙ c.heap.ensures.heap;
      };
      limits = c.heap.ensures.recovered.image.header.limits;
      layout = c.in_ok-store.ensures.layout;
      disk = c.in_ok-store.ensures.disk;
      tells = c.in_ok-store.ensures.tells;
    }
