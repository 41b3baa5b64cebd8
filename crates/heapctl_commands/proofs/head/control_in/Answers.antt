use Rattle.std.proofs.Common.{◌≡◌, ◌≤◌, ◌∙◌, List, ℕ, [], ◌∷◌, length, ap, sym, subst, arith}
use Rattle.block_disk.specs.Bytes.{spliced}
use Rattle.image_parts.specs.Slots.{Chooses, other, slot_at}
use Rattle.heapctl_commands.specs.Heads.{HoldsAlone}
use Rattle.heapctl_commands.proofs.HeadLemmas.{holds_alone, shut}
use Rattle.heapctl_commands.proofs.head.control_in.Goals as goal

pub returns : goal.returns
returns c =
    let head = c.args.head.now in
    let room : 2160 ≤ length head = omega (arith, c.if-head-lt-HEAD_BYTES.false) in
    let gate : c.start.result ≡ slot_at (other c.args.slot) = c.start.ensures ∙ ap slot_at c.other.ensures in
    let copied : c.in-Ok.bytes.items ≡ head = c.in-Ok.ensures in
    let same : c.put.new.bytes.items ≡ shut head c.args.slot = c.put.ensures ∙ (λ i. spliced (copied i) (gate i) (0 ∷ [])) in
    subst (HoldsAlone c.args.layout.now head c.args.slot) (sym c.alone.ensures)
    (holds_alone c.args.layout.now head c.args.slot room c.chosen_in.result (subst (λ (image : List ℕ). Chooses c.args.layout.now image c.chosen_in.result) same c.chosen_in.ensures))
