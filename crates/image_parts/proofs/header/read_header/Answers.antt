use Rattle.std.proofs.Common.{◌≡◌, ℕ, ◌≤◌, ◌∙◌, List, [], ◌∷◌, ◌++◌, sym, ap, take, drop, arith}
use Rattle.std.proofs.lemmas.List.{take-take}
use Rattle.std.proofs.lemmas.Result.{err_from_is_err_and}
use Rattle.block_disk.specs.Bytes.{part}
use Rattle.image_parts.specs.Header.{name}
use Rattle.image_parts.proofs.Comparisons.{differ, alike}
use Rattle.image_parts.proofs.header.read_header.Goals as goal

nine : (image out : List ℕ) → out ≡ part 0 64 image → take 9 out ≡ part 0 9 image
nine image out is = let low : 9 ≤ 64 = omega arith in ap (take 9) is ∙ take-take 9 64 (drop 0 image) low

pub returns-in_err-read_within-clause-exact : goal.returns-in_err-read_within-clause-exact
returns-in_err-read_within-clause-exact g c =
    let p = err_from_is_err_and c.from_residual.result c.from_residual.ensures.1 in rw (p.1, p.2) tt

pub returns-then-ne-clause-exact : goal.returns-then-ne-clause-exact
returns-then-ne-clause-exact g c = λ formatted.
    let image = (g.D.Disk.device c.args.disk.now).now.bytes in
    differ (take 9 c.read_within.new.out) (name ++ 165 ∷ []) c.ne.result c.ne.ensures c.if-ne.true (nine image c.read_within.new.out c.in_ok-read_within.ensures.ok ∙ formatted.name)

pub returns-in_default-clause-exact : goal.returns-in_default-clause-exact
returns-in_default-clause-exact g c =
    let image = (g.D.Disk.device c.args.disk.now).now.bytes in
    let is = alike (take 9 c.read_within.new.out) (name ++ 165 ∷ []) c.ne.result c.ne.ensures c.if-ne.false in (
      record { room = omega arith; name = sym (nine image c.read_within.new.out c.in_ok-read_within.ensures.ok) ∙ is },
      λ l has. c.in_default.ensures.none l has.limits (c.in_ok-read_within.ensures.ok ∙ has.spelled),
    )
