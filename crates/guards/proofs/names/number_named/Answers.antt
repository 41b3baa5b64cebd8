use Rattle.std.proofs.Common.{◌≡◌, ℕ, ◌∙◌, sym, Some, IfSome, slice_get, Option, None, refl}
use Rattle.guards.specs.Names.{names_in}
use Rattle.guards.proofs.NameLemmas.{name-from_position, position-from_name}
use Rattle.guards.proofs.names.number_named.Goals as goal

pub returns-clause-found : goal.returns-clause-found
returns-clause-found g c = by c.get_index_of.result refl
  where
    by : (r : Option ℕ) → c.get_index_of.result ≡ r → IfSome r (λ k. slice_get (names_in c.args.names.now.entries) k ≡ Some c.args.name.now)
    by None is = tt
    by (Some k) is = name-from_position c.args.names.now.entries c.args.name.now k (sym c.get_index_of.ensures.index ∙ is) (rw is at c.get_index_of.ensures.within)

pub returns-clause-own : goal.returns-clause-own
returns-clause-own g c = λ k here. c.get_index_of.ensures.index ∙ position-from_name c.args.names.now.entries c.args.name.now k c.get_index_of.ensures.unique here
