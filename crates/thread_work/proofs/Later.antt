-- What is known by the helper as it was, by the helper as it is after its rounds.
use Rattle.std.proofs.Common.{List, All, sym, subst}
use Rattle.std.proofs.lemmas.List.Elements.{All-weaker}
use Rattle.block_disk.specs.Device.{Device}
use Rattle.image_parts.specs.declared.layout.Layout.{Layout}
use Rattle.monitor.specs.Seats.{Home}
use Rattle.thread_heap.specs.Laws.{EndedLaw}
use Rattle.trim_helper.specs.Endings.{IsEnded}
use Rattle.trim_helper.specs.Parts.{Parts}
use Rattle.trim_helper.specs.declared.ended.Ended.{Ended}
use Rattle.thread_work.specs.Serving.{HasStayed}

pub ended_later : {D : Type 0} (device : D → Device) (h : Home) (old new : Parts D) (ended : List Ended) → EndedLaw → HasStayed device old new
    → All (IsEnded h old.store.known.layout.capacity old.rings) ended → All (IsEnded h new.store.known.layout.capacity new.rings) ended
ended_later device h old new ended law stayed all =
    subst (λ (l : Layout). All (IsEnded h l.capacity new.rings) ended) (sym stayed.layout)
    (All-weaker (IsEnded h old.store.known.layout.capacity old.rings) (IsEnded h old.store.known.layout.capacity new.rings)
    (λ e one. law h old.store.known.layout.capacity old.rings new.rings e one stayed.rings) ended all)
