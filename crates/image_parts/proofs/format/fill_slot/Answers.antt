use borrow.Rule.Slice.PartMut.{post_of}
use Rattle.std.proofs.Common.{◌≡◌, ◌∙◌, ℕ, List, [], ◌∷◌, ◌-◌, ◌++◌, length, replicate, take, drop, set, ap, arith, length-take, length-drop}
use Rattle.std.proofs.lemmas.List.{append-nil, drop_all}
use Rattle.image_parts.specs.Control.{control_bytes, empty_control}
use Rattle.image_parts.specs.Format.{fresh_slot}
use Rattle.image_parts.proofs.format.fill_slot.Goals as goal

pub returns : goal.returns
unfolding fresh_slot
returns c =
    let content = c.args.content.now in
    let eight : length (take 8 content) ≡ 8 = omega (arith, length-take 8 content, c.requires) in
    let zeros : c.fill.new.self ≡ replicate 8 0 = c.fill.ensures.after (λ y is. is) ∙ ap (λ (n : ℕ). replicate n 0) eight in
    let xs = set (c.fill.new.self ++ drop 8 content) 0 165 in
    let none : post_of 8 (length xs - 8) xs ≡ [] = drop_all (length xs - 8) (drop 8 xs) (omega (arith, length-drop 8 xs)) in
    (λ i. take 8 (set (zeros i ++ drop 8 content) 0 165) ++ (c.encode_control.ensures i ++ none i))
    ∙ ap (λ (bytes : List ℕ). (165 ∷ replicate 7 0) ++ bytes) (append-nil (control_bytes (empty_control 1)))
