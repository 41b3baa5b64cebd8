use Rattle.std.proofs.Common.{length, ap, ◌∙◌}
use Rattle.std.proofs.lemmas.Bool.{eqb-true}
use Rattle.thread_rings.specs.Rings.{Receiving, known_records}
use Rattle.trim_helper.proofs.RingMoves.{is_none_held, none_known}
use Rattle.trim_helper.proofs.rings.has_nothing.Goals as goal

pub returns : goal.returns
returns c = λ is. (
  none_known c.args.rings.now c.args.lane c.cached_slots.result c.index-rings-lane.result c.requires.ring (c.cached_slots.ensures ∙ ap (λ (x : Receiving). length (known_records x)) c.index-rings-lane.is) (eqb-true _ _ is),
  is_none_held _ _ c.is_some.ensures c.if-is_some.false,
)
