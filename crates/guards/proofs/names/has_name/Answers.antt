use Rattle.std.proofs.Common.{rules, ◌≡◌, true, ◌∙◌, sym}
use Rattle.guards.proofs.NameLemmas.{Contains-from_found, found-from_Contains}
use Rattle.guards.proofs.names.has_name.Goals as goal

pub returns : goal.returns
returns g c = (
  λ t. Contains-from_found c.args.names.now c.args.name.now (sym c.contains_key.ensures ∙ (let h : c.contains_key.result ≡ true = search rules in h)),
  λ k. let h : c.contains_key.result ≡ true = c.contains_key.ensures ∙ found-from_Contains c.args.names.now c.args.name.now k in search rules,
)
