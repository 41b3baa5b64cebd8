-- Which path asks for which transfer (this project's own).
use Rattle.std.specs.Prelude.{ℕ, ◌<◌, ◌^◌, List, ◌++◌, codes, decimal}
use Rattle.ledger.specs.declared.order.Order.{Order}

-- the path that asks for it
abbrev pub spelled : Order → List ℕ
spelled o = codes "/transfer/" ++ (decimal o.from ++ (codes "/" ++ (decimal o.to ++ (codes "/" ++ decimal o.amount))))

-- an account's number has 32 bits, and an amount 64
abbrev pub IsInRange : Order → Type 0
IsInRange o = (o.from < 2 ^ 32) × (o.to < 2 ^ 32) × (o.amount < 2 ^ 64)
