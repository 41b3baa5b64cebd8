use Rattle.std.proofs.Common.{◌≡◌, ◌∙◌, sym, ap}
use Rattle.image_parts.proofs.GuardLemmas.{one_guard}
use Rattle.zelamiku.specs.LayoutDoors.{field_of}
use Rattle.zelamiku.proofs.layout_calls.field_in.Goals as goal

pub returns-in-Some : goal.returns-in-Some
returns-in-Some c = λ r fits is.
    let spells = c.in-Some.ensures.some in
    let same : c.in-Some.found ≡ r = one_guard c.in-Some.found r spells.fits fits (sym spells.spelled ∙ is) in
    c.field_of.ensures ∙ ap field_of same

pub returns-in-None : goal.returns-in-None
returns-in-None c = λ r fits is. absurd (c.in-None.ensures.none r (record { spelled = is; fits = fits }))
