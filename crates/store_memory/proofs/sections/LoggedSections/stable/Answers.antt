use Rattle.std.proofs.Common.{ℕ, List, slice_index, sym, ap, ◌∙◌, subst}
use Rattle.heap_model.specs.Cuts.{counts_of}
use Rattle.dependence.specs.Trace.{Trace, told_of, IsStableOf}
use Rattle.store_memory.specs.Ends.{slot_of}
use Rattle.store_memory.specs.Sections.{Logged, TellsSections}
use Rattle.store_memory.specs.KeptSections.{logged_of}
use Rattle.store_memory.proofs.SectionLaws.{stable_told, behind_told}
use Rattle.store_memory.proofs.sections.LoggedSections.stable.Goals as goal

-- the cut is that of what was told
told : (t : Trace) (cut : ℕ → ℕ) → IsStableOf t cut → IsStableOf (told_of t) cut
told t cut of = record { since = of.since; stable = of.stable; counts = of.counts }

pub returns-clause-stable : goal.returns-clause-stable
returns-clause-stable c = λ base log tells.
    stable_told (logged_of c.self.inside) base log (subst (λ (m : Logged). TellsSections m base log) (sym c.self.view_is) tells) (counts_of c.stable_cut-cut.result) (told c.self.inside.graph (counts_of c.stable_cut-cut.result) c.stable_cut-cut.ensures.stable)

pub returns-clause-behind : goal.returns-clause-behind
returns-clause-behind c = λ base log tells.
    behind_told (logged_of c.self.inside) base log (subst (λ (m : Logged). TellsSections m base log) (sym c.self.view_is) tells) (counts_of c.stable_cut-cut.result) (told c.self.inside.graph (counts_of c.stable_cut-cut.result) c.stable_cut-cut.ensures.stable) c.places_behind.result
    (λ l lt. c.places_behind.ensures.behind l lt ∙ ap (λ (xs : List ℕ). slice_index xs (slot_of c.self.inside.capacity c.self.inside.lanes l (counts_of c.stable_cut-cut.result l))) c.deref.ensures.value)
    c.places_behind.ensures.none
