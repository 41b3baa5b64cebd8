use Rattle.std.proofs.Common.{ℕ, ◌≡◌, ◌+◌, ◌-◌, true, false, slice_index, sym, ◌∙◌, ap, arith}
use Rattle.law_cuts.specs.Plain.{takes_after}
use Rattle.dependence.specs.Links.{acts_in, act_at, partner_in}
use Rattle.dependence.proofs.Falling.{takes_at}
use Rattle.dependence.proofs.Linked.{beside_many}
use Rattle.dependence.proofs.why.release_of.Goals as goal

pub partner-partner-requires : goal.partner-partner-requires
partner-partner-requires c = omega (arith, c.requires.there, beside_many c.args.steps.now c.args.links.now c.requires.linked)

pub returns-then-takes_what_frees : goal.returns-then-takes_what_frees
returns-then-takes_what_frees c = (
  omega arith,
  sym (takes_at c.args.steps.now c.args.place (c.partner-partner.result - 1) c.index-steps-place.result c.index-steps-partner.result true c.requires.there (omega arith) (sym c.if-takes_what_frees.true ∙ c.takes_what_frees.ensures)),
)

pub returns-else-takes_what_frees : goal.returns-else-takes_what_frees
returns-else-takes_what_frees c = λ j h.
    let known : slice_index (partner_in c.args.links.now.beside.items) c.args.place ≡ j + 1 = c.requires.linked.paired.releaser j c.args.place h in
    let found : c.partner-partner.result ≡ slice_index (partner_in c.args.links.now.beside.items) c.args.place = c.partner-partner.ensures in
    let same : c.partner-partner.result - 1 ≡ j = omega arith in
    let none : false ≡ takes_after (act_at (acts_in c.args.steps.now) c.args.place) (act_at (acts_in c.args.steps.now) (c.partner-partner.result - 1)) =
    takes_at c.args.steps.now c.args.place (c.partner-partner.result - 1) c.index-steps-place.result c.index-steps-partner.result false c.requires.there (omega arith) (sym c.if-takes_what_frees.false ∙ c.takes_what_frees.ensures) in
    let none_too : false ≡ takes_after (act_at (acts_in c.args.steps.now) c.args.place) (act_at (acts_in c.args.steps.now) j) = none ∙ ap (λ (k : ℕ). takes_after (act_at (acts_in c.args.steps.now) c.args.place) (act_at (acts_in c.args.steps.now) k)) same in
    absurd cc
