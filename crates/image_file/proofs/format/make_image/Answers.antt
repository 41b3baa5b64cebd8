use Rattle.std.proofs.Common.{List, ℕ, Option, inl, refl, subst, sym, ◌∙◌}
use Rattle.store_image.specs.Formatting.{layout_with}
use Rattle.image_file.specs.Formatting.{StaysOrIsMade}
use Rattle.image_file.proofs.FormatLemmas.{sizes_agree}
use Rattle.image_file.proofs.PlaceLemmas.{stays_same}
use Rattle.image_file.proofs.format.make_image.Goals as goal

pub make_in_place-requires : goal.make_in_place-requires
make_in_place-requires g c =
    let lanes = c.args.new.lanes in
    let capacity = c.args.new.capacity in
    c.size.ensures ∙ sizes_agree c.args.schema.now lanes capacity c.in-Some.layout (layout_with c.args.schema.now lanes capacity)
    c.in-Some.ensures.schema c.in-Some.ensures.lanes c.in-Some.ensures.capacity refl

pub returns-in_default-clause-kept : goal.returns-in_default-clause-kept
returns-in_default-clause-kept g c = inl (stays_same _ _ refl)

pub returns-in-Err-clause-kept : goal.returns-in-Err-clause-kept
returns-in-Err-clause-kept g c =
    let had = g.P.Images.holds c.args.images.now c.args.path.now in
    subst (λ (has : Option (List ℕ)). StaysOrIsMade c.args.schema.now c.args.new had has) (sym c.give_up.ensures.same) c.in-Err.ensures.kept
