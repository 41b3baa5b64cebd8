use Rattle.std.proofs.Common.{ℕ, List, ◌+◌, ◌∙◌, ap, refl, arith, inr}
use Rattle.std.proofs.lemmas.Result.{on_ok_weaker}
use Rattle.image_parts.specs.Calls.{after}
use Rattle.image.specs.Commit.{commit_calls}
use Rattle.image_parts.specs.Control.{Spells}
use Rattle.image.proofs.Committed.{commits}
use Rattle.image.proofs.Commits.{steady_before}
use Rattle.image_parts.specs.declared.control.Control.{Control}
use Rattle.image.proofs.commit.commit_control.Goals as goal

pub replace-requires-clause-steady : goal.replace-requires-clause-steady
replace-requires-clause-steady g c =
    let r = c.requires.steady in
    let next : Control = record { sequence = c.args.sequence + 1; version = 2; rows = c.args.rows.now } in
    let spelled : Spells c.args.layout.now c.encode_control.new.body next = record { bytes = c.encode_control.ensures; valid = record { sequence = (omega arith, omega arith); version = inr refl; rows = c.requires.rows } } in
    (r.0, next, r.1, spelled, omega (arith, r.2))

pub returns-clause-commits : goal.returns-clause-commits
returns-clause-commits g c =
    let next : Control = record { sequence = c.args.sequence + 1; version = 2; rows = c.args.rows.now } in
    let spelled : Spells c.args.layout.now c.encode_control.new.body next = record { bytes = c.encode_control.ensures; valid = record { sequence = (omega arith, omega arith); version = inr refl; rows = c.requires.rows } } in
    let made = c.replace.ensures.commits next spelled in
    let old = g.D.Disk.device c.args.disk.now in
    commits steady_before made.ok made.durable
    (on_ok_weaker c.replace.result (λ is. is ∙ ap (λ (bytes : List ℕ). after (commit_calls c.args.chosen old.now.bytes bytes) old) c.encode_control.ensures) made.calls)
    (λ was steady is. made.any_moment was steady (omega (arith, is))) made.cause
