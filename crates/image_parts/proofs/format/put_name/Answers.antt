use Rattle.std.proofs.Common.{◌≡◌, ◌∙◌, ap, length, take, drop, arith, length-drop}
use Rattle.std.proofs.lemmas.List.{take_all}
use Rattle.block_disk.specs.Device.{written}
use Rattle.image_parts.specs.Header.{header_bytes}
use Rattle.image_parts.proofs.format.put_name.Goals as goal

pub returns-clause-calls : goal.returns-clause-calls
returns-clause-calls g c =
    let l = c.args.layout.now in
    let h = c.encode_header-header.result in
    let is : h ≡ header_bytes l = c.encode_header-header.ensures in
    let front : take 8 h ≡ take 8 (header_bytes l) = ap (take 8) is in
    let rest : take 55 (drop 9 h) ≡ drop 9 (header_bytes l) = take_all 55 (drop 9 h) (omega (arith, length-drop 9 h, ap length is)) ∙ ap (drop 9) is in
    c.in_ok-write_within-2.ensures.ok
    ∙ (λ i. written 9 (rest i) ((c.in_ok-write_within.ensures.ok ∙ (λ j. written 0 (front j) (c.in_ok-write_through.ensures.ok j))) i))
