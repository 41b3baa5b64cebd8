use Rattle.std.proofs.Common.{refl}
use Rattle.heap_model.specs.Log.{lane}
use Rattle.law_histories.proofs.Own.{held_by_view}
use Rattle.law_histories.proofs.own_laws.held_by_view_law.Goals as goal

pub returns : goal.returns
returns c g history t o hold legal is = held_by_view g history t o (lane t history) hold legal refl is
