use Rattle.std.proofs.Common.{inl, inr, sym, subst, arith}
use Rattle.std.proofs.lemmas.Bool.{cases_lt}
use Rattle.store_memory.specs.Sections.{Logged, TellsSections}
use Rattle.store_memory.specs.KeptSections.{logged_of}
use Rattle.store_memory.proofs.SectionLaws.{none_past, sections_told}
use Rattle.store_memory.proofs.sections.LoggedSections.is_all_within.Goals as goal

pub returns : goal.returns
returns c = λ base log told.
    let tells : TellsSections (logged_of c.self.inside) base log = subst (λ (m : Logged). TellsSections m base log) (sym c.self.view_is) told in (
      (λ yes l. elim (cases_lt l c.self.inside.lanes) [
        | inl lt ↦ omega (arith, c.are_within.ensures.0 yes l lt, sections_told (logged_of c.self.inside) base log tells l)
        | inr ge ↦ omega (arith, none_past (logged_of c.self.inside) base log tells l ge)
      ]),
      (λ all. c.are_within.ensures.1 (λ l lt. omega (arith, all l, sections_told (logged_of c.self.inside) base log tells l))),
    )
