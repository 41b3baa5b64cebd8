use Rattle.std.proofs.Common.{ℕ, ◌≤◌, ◌+◌, ◌*◌, ◌∙◌, ap, refl, subst, arith}
use Rattle.zelamiku.specs.HeadDoors.{IsMaking, begun_head}
use Rattle.zelamiku.proofs.head_calls.unformatted.Goals as goal

pub returns : goal.returns
returns c =
    let few = c.if-fields.false in
    IsMaking c.requires.room
    (record {
      named = c.is_named.ensures.0 c.if-not-is_named.false;
      shut = c.requires.shut;
      unused = c.is_used.ensures.0 c.if-is_used.false;
      fields = subst (λ (n : ℕ). n ≤ 16384) c.fields_in-fields.ensures (omega (arith, few));
    })
    (c.making.ensures ∙ ap (λ (n : ℕ). begun_head (2160 + 24 * n)) c.fields_in-fields.ensures)
    refl
