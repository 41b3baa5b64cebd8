use Rattle.std.proofs.Common.{◌≡◌, ◌++◌, ◌∷◌, List, Some, None, Option, ℕ, ap, sym, ◌∙◌, drop, codes, decimal}
use Rattle.std.specs.Result.{result_ok}
use Rattle.std.proofs.lemmas.Fmt.{parse-decimal}
use Rattle.ledger.specs.declared.order.Order.{Order}
use Rattle.ledger.proofs.order.read.Goals as goal

-- what follows the same beginning
same_rest : (text left rest : List ℕ) → text ≡ codes "/transfer/" ++ left → text ≡ codes "/transfer/" ++ rest → left ≡ rest
same_rest text left rest one other = let both : codes "/transfer/" ++ left ≡ codes "/transfer/" ++ rest = sym one ∙ other in cc

pub returns-in_err-amount : goal.returns-in_err-amount
returns-in_err-amount c o fits same =
    let begins = c.in_ok-words.ensures.cases in
    let words = begins.2 ∙ same_rest c.args.path.now (drop begins.0 c.args.path.now) (decimal o.from ++ 47 ∷ (decimal o.to ++ 47 ∷ decimal o.amount)) begins.1.1 same in
    let from = c.in_ok-from.ensures o.from (decimal o.to ++ 47 ∷ decimal o.amount) fits.0 words in
    let to = c.in_ok-to.ensures o.to (decimal o.amount) fits.1 from.1 in
    let parsed = parse-decimal 64 o.amount c.in_ok-to.words.now c.parse.result fits.2 fits.2 to.1 c.parse.ensures.value.0 in
    let none : ◌≡◌ {A = Option ℕ} None (Some o.amount) = c.in_err-amount.ensures.value ∙ ap result_ok parsed in
    absurd cc

pub returns : goal.returns
returns c o fits same =
    let begins = c.in_ok-words.ensures.cases in
    let words = begins.2 ∙ same_rest c.args.path.now (drop begins.0 c.args.path.now) (decimal o.from ++ 47 ∷ (decimal o.to ++ 47 ∷ decimal o.amount)) begins.1.1 same in
    let from = c.in_ok-from.ensures o.from (decimal o.to ++ 47 ∷ decimal o.amount) fits.0 words in
    let to = c.in_ok-to.ensures o.to (decimal o.amount) fits.1 from.1 in
    let parsed = parse-decimal 64 o.amount c.in_ok-to.words.now c.parse.result fits.2 fits.2 to.1 c.parse.ensures.value.0 in
    let amount : Some c.in_ok-amount.amount ≡ Some o.amount = c.in_ok-amount.ensures.value ∙ ap result_ok parsed in
    let sum : c.in_ok-amount.amount ≡ o.amount = cc in
    ap (λ (x : Order). Some x) (λ i. record { from = from.0 i; to = to.0 i; amount = sum i })
