-- A helper's seat that has seen more, and published no more.
use Rattle.std.proofs.Common.{ℕ, ◌≡◌, ◌+◌, List, map, sym, ap, ◌∙◌}
use Rattle.heap_model.specs.declared.event.Event.{Event}
use Rattle.monitor.specs.declared.view.Note.{Note}
use Rattle.monitor.specs.declared.view.Part as raw
use Rattle.monitor.specs.declared.view.View.{View}
use Rattle.monitor.specs.Seats.{Helping, Home, IsHelperOf}
use Rattle.monitor.specs.Views.{caught_up, noted}
use Rattle.trim_helper.specs.Hearing.{IsNoted}
use Rattle.trim_helper.specs.Helping.{count_published, part_of, place_published, taken_in}

pub noted_same : (h k : Helping) → k ≡ h → IsNoted h k
noted_same h k e = record { notes = ap (λ (z : Helping). z.view.notes) e; gathered = ap (λ (z : Helping). z.view.gathered) e; plan = ap (λ (z : Helping). z.view.plan) e; table = ap (λ (z : Helping). z.table) e }

pub noted_then : (h k m : Helping) → IsNoted h k → IsNoted k m → IsNoted h m
noted_then h k m one two = record { notes = two.notes ∙ one.notes; gathered = two.gathered ∙ one.gathered; plan = two.plan ∙ one.plan; table = two.table ∙ one.table }

pub count_noted : (h k : Helping) (l : ℕ) → IsNoted h k → count_published k l ≡ count_published h l
count_noted h k l n = ap (λ (ns : List Note). noted l ns) n.notes

pub place_noted : (h k : Helping) (l : ℕ) → IsNoted h k → place_published k l ≡ place_published h l
place_noted h k l n = ap (λ (ns : List Note). noted (32 + l) ns) n.notes

pub taken_noted : (h k : Helping) → IsNoted h k → taken_in k ≡ taken_in h
taken_noted h k n = ap (λ (gs : List raw.Part). map part_of gs) n.gathered

-- a seat that has caught up
pub noted_view : (home : Home) (h k : Helping) (history : List (ℕ × Event)) → IsHelperOf home h → IsHelperOf home k → k.view ≡ caught_up h.view history → IsNoted h k
noted_view home h k history was is e = record { notes = ap (λ (v : View). v.notes) e; gathered = ap (λ (v : View). v.gathered) e; plan = ap (λ (v : View). v.plan) e; table = is.0 ∙ sym was.0 }
