use Rattle.std.proofs.Common.{◌≡◌, Some, None, Option, ℕ, ap, ◌∙◌, arith}
use Rattle.std.specs.Result.{result_ok}
use Rattle.std.proofs.lemmas.Fmt.{parse-decimal}
use Rattle.ledger.proofs.Digits.{splits}
use Rattle.ledger.proofs.order.account_in.Goals as goal

pub returns-in_err-number : goal.returns-in_err-number
returns-in_err-number c n rest low same =
    let split = splits n rest c.args.words.now (omega (arith, low)) same in
    let none = c.in_err-number.ensures.byte (omega arith) (λ w o h. h) in
    let at = split.at in
    let longer = split.longer in
    absurd (omega (arith, none, at, longer))

pub returns-in_err-ok : goal.returns-in_err-ok
returns-in_err-ok c n rest low same =
    let split = splits n rest c.args.words.now (omega (arith, low)) same in
    let byte = c.in_ok-number.ensures.byte (omega arith) (λ w o h. h) in
    let parsed = parse-decimal 32 n c.in_ok-number.number.now c.parse.result low (omega (arith, low)) (byte.0 ∙ split.before) c.parse.ensures.value.0 in
    let none : ◌≡◌ {A = Option ℕ} None (Some n) = c.in_err-ok.ensures.value ∙ ap result_ok parsed in
    absurd cc

pub returns : goal.returns
returns c n rest low same =
    let split = splits n rest c.args.words.now (omega (arith, low)) same in
    let byte = c.in_ok-number.ensures.byte (omega arith) (λ w o h. h) in
    let parsed = parse-decimal 32 n c.in_ok-number.number.now c.parse.result low (omega (arith, low)) (byte.0 ∙ split.before) c.parse.ensures.value.0 in
    let some : Some c.in_ok-ok.field-0 ≡ Some n = c.in_ok-ok.ensures.value ∙ ap result_ok parsed in
    (cc, byte.1 ∙ split.after)
