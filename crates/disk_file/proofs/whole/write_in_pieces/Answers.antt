use Rattle.std.proofs.Common.{◌≡◌, ◌+◌, ℕ, List, ◌++◌, length, sym, ap, ◌∙◌, rules, arith, length-append}
use Rattle.std.proofs.lemmas.List.{append_assoc}
use Rattle.disk_file.proofs.whole.write_in_pieces.Goals as goal

pub loop-rest-preserved : goal.loop-rest-preserved
loop-rest-preserved g c =
    let done = c.loop-rest.invariant.0 in
    let split = c.loop-rest.invariant.1 in
    let rest = c.loop-rest.rest.now in
    let piece = c.split_at.result.0.now in
    let later = c.split_at.result.1.now in
    let parts : rest ≡ piece ++ later = search rules in
    let long : length c.args.bytes.now ≡ length done + length rest = ap length split ∙ length-append done rest in (
      done ++ piece,
      split ∙ ap (λ (xs : List ℕ). done ++ xs) parts ∙ sym (append_assoc done piece later),
      c.in_ok-write_behind.ensures done (omega (arith, long)) c.loop-rest.invariant.2,
    )
