use Rattle.std.proofs.Common.{◌≡◌, inl, inr, ap, arith}
use Rattle.pool.specs.FreeList.{Place}
use Rattle.pool.proofs.Answering.{gives_by, was_damaged_by, fails_at_head, fails_to_give}
use Rattle.pool.proofs.pool.Pool.give.Goals as goal

pub returns-in-Err-load : goal.returns-in-Err-load
returns-in-Err-load g c = let head : c.self.inside.head.0 ≡ c.args.self.now.head = ap (λ (p : Place). p.head) c.self.view_is in record {
  answer = (
    _,
    inl (inr (fails_at_head c.args.self.now _ _ _ _ _ c.args.slot _ _ head c.cell-cell.ensures c.if-mark.false c.in-Ok.ensures.ok c.in-Err-load.ensures.fault)),
    g.met.C.Cells.keeps_both _ _ _ _ _ c.in-Ok.ensures.keeps c.in-Err-load.ensures.keeps,
  );
}

pub returns-then-rest-from : goal.returns-then-rest-from
returns-then-rest-from g c =
    let head : c.self.inside.head.0 ≡ c.args.self.now.head = ap (λ (p : Place). p.head) c.self.view_is in
    let slots : c.self.inside.slots ≡ c.args.self.now.slots = ap (λ (p : Place). p.slots) c.self.view_is in record {
      answer = (
        _,
        was_damaged_by c.args.self.now _ _ _ _ _ c.args.slot _ c.in-Ok-load.rest head c.cell-cell.ensures c.if-mark.false (omega arith) c.in-Ok.ensures.ok c.in-Ok-load.ensures.ok,
        g.met.C.Cells.keeps_both _ _ _ _ _ c.in-Ok.ensures.keeps c.in-Ok-load.ensures.keeps,
      );
    }

pub returns-in-Ok-store_two : goal.returns-in-Ok-store_two
returns-in-Ok-store_two g c =
    let head : c.self.inside.head.0 ≡ c.args.self.now.head = ap (λ (p : Place). p.head) c.self.view_is in
    let slots : c.self.inside.slots ≡ c.args.self.now.slots = ap (λ (p : Place). p.slots) c.self.view_is in
    let few = c.self.invariant in
    let loads = g.met.C.Cells.keeps_both _ _ _ _ _ c.in-Ok.ensures.keeps c.in-Ok-load.ensures.keeps in record {
      answer = (
        _,
        gives_by c.args.self.now _ _ _ _ _ _ c.args.slot _ _ c.in-Ok-load.rest head c.cell-cell.ensures c.from-2.ensures c.if-mark.false (omega arith) c.requires (omega arith)
            c.in-Ok.ensures.ok c.in-Ok-load.ensures.ok c.in-Ok-store_two.ensures.ok,
        g.met.C.Cells.keeps_both _ _ _ _ _ loads c.in-Ok-store_two.ensures.keeps,
      );
    }

pub returns-in-Err-store_two : goal.returns-in-Err-store_two
returns-in-Err-store_two g c =
    let head : c.self.inside.head.0 ≡ c.args.self.now.head = ap (λ (p : Place). p.head) c.self.view_is in
    let slots : c.self.inside.slots ≡ c.args.self.now.slots = ap (λ (p : Place). p.slots) c.self.view_is in
    let loads = g.met.C.Cells.keeps_both _ _ _ _ _ c.in-Ok.ensures.keeps c.in-Ok-load.ensures.keeps in record {
      answer = (
        _,
        inr (fails_to_give c.args.self.now _ _ _ _ _ _ c.args.slot _ c.in-Ok-load.rest _ head c.cell-cell.ensures c.if-mark.false (omega arith) c.in-Ok.ensures.ok c.in-Ok-load.ensures.ok c.in-Err-store_two.ensures.fault),
        g.met.C.Cells.keeps_both _ _ _ _ _ loads c.in-Err-store_two.ensures.keeps,
      );
    }
