use Rattle.std.proofs.Common.{refl}
use Rattle.heap_model.specs.Log.{lane}
use Rattle.law_histories.proofs.Own.{awake_by_view}
use Rattle.law_histories.proofs.own_laws.awake_by_view_law.Goals as goal

pub returns : goal.returns
returns c g history t legal is = awake_by_view g history t (lane t history) legal refl is
