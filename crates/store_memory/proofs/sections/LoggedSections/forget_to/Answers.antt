use Rattle.std.proofs.Common.{true, false, ℕ, ◌≡◌, ◌+◌, ◌-◌, ◌*◌, ◌≤◌, List, length, slice_index, sym, ap, ◌∙◌, subst, inl, inr, arith}
use Rattle.std.specs.Prelude.{min}
use Rattle.std.proofs.lemmas.Bool.{cases_lt}
use Rattle.std.proofs.Math.Nat.{min-le_left, min-le_right, le-min}
use Rattle.heap_model.specs.Cuts.{counts_of}
use Rattle.heap_model.specs.Sections.{actions}
use Rattle.heap_model.specs.Base.{since}
use Rattle.dependence.specs.Trace.{in_all, told_of}
use Rattle.store_memory.specs.Ends.{slot_of}
use Rattle.store_memory.specs.Sections.{Logged, TellsSections}
use Rattle.store_memory.specs.Trimming.{MayForget, IsPaid, Now}
use Rattle.store_memory.specs.KeptSections.{logged_of}
use Rattle.store_memory.proofs.Forgetting.{at_most, places_low, places_near, left_is, stay_few, tells_later, tells_since}
use Rattle.store_memory.proofs.SectionRoom.{sum_room}
use Rattle.store_memory.proofs.sections.LoggedSections.forget_to.Goals as goal

pub records_from-left-requires-clause-low : goal.records_from-left-requires-clause-low
records_from-left-requires-clause-low c =
    let r = c.requires.may in
    let may : MayForget (logged_of c.self.inside) r.0 r.1 (counts_of c.args.cut.now) = subst (λ (m : Logged). MayForget m r.0 r.1 (counts_of c.args.cut.now)) (sym c.self.view_is) r.2 in
    places_low (logged_of c.self.inside) r.0 r.1 c.args.cut.now may c.places_behind-places.result
    (λ l lt. c.places_behind-places.ensures.behind l lt ∙ ap (λ (xs : List ℕ). slice_index xs (slot_of c.self.inside.capacity c.self.inside.lanes l (counts_of c.args.cut.now l))) c.deref.ensures.value)

pub records_from-left-requires-clause-near : goal.records_from-left-requires-clause-near
records_from-left-requires-clause-near c =
    let r = c.requires.may in
    let may : MayForget (logged_of c.self.inside) r.0 r.1 (counts_of c.args.cut.now) = subst (λ (m : Logged). MayForget m r.0 r.1 (counts_of c.args.cut.now)) (sym c.self.view_is) r.2 in
    places_near (logged_of c.self.inside) r.0 r.1 c.args.cut.now may c.places_behind-places.result
    (λ l lt. c.places_behind-places.ensures.behind l lt ∙ ap (λ (xs : List ℕ). slice_index xs (slot_of c.self.inside.capacity c.self.inside.lanes l (counts_of c.args.cut.now l))) c.deref.ensures.value)

pub is_paid-requires-clause-left : goal.is_paid-requires-clause-left
is_paid-requires-clause-left c =
    let r = c.requires.may in
    let may : MayForget (logged_of c.self.inside) r.0 r.1 (counts_of c.args.cut.now) = subst (λ (m : Logged). MayForget m r.0 r.1 (counts_of c.args.cut.now)) (sym c.self.view_is) r.2 in
    let near = places_near (logged_of c.self.inside) r.0 r.1 c.args.cut.now may c.places_behind-places.result
    (λ l lt. c.places_behind-places.ensures.behind l lt ∙ ap (λ (xs : List ℕ). slice_index xs (slot_of c.self.inside.capacity c.self.inside.lanes l (counts_of c.args.cut.now l))) c.deref.ensures.value) in
    let counted : ℕ → ℕ = λ l. slice_index c.self.inside.places l - slice_index c.places_behind-places.result l in
    let most : in_all c.self.inside.lanes counted ≤ c.self.inside.lanes * c.self.inside.capacity = sum_room c.self.inside.lanes c.self.inside.capacity counted (λ l lt. omega (arith, near l lt)) in
    let is : c.records_from-left.result ≡ in_all c.self.inside.lanes counted = c.records_from-left.ensures in
    omega (arith, is, most, c.room-most.ensures)

pub forget_to-requires : goal.forget_to-requires
forget_to-requires c =
    let r = c.requires.may in
    record { at_most = at_most (logged_of c.self.inside) r.0 r.1 c.args.cut.now (subst (λ (m : Logged). MayForget m r.0 r.1 (counts_of c.args.cut.now)) (sym c.self.view_is) r.2) }

pub returns-then-is_paid-clause-tells : goal.returns-then-is_paid-clause-tells
returns-then-is_paid-clause-tells c = λ base log may.
    tells_since (logged_of c.self.inside) base log c.args.cut.now (subst (λ (m : Logged). MayForget m base log (counts_of c.args.cut.now)) (sym c.self.view_is) may)
    (told_of c.forget_to.new.self) c.forget_to.ensures.log c.forget_to.ensures.base

pub returns-then-is_paid-clause-paid : goal.returns-then-is_paid-clause-paid
returns-then-is_paid-clause-paid c =
    let r = c.requires.may in
    let may : MayForget (logged_of c.self.inside) r.0 r.1 (counts_of c.args.cut.now) = subst (λ (m : Logged). MayForget m r.0 r.1 (counts_of c.args.cut.now)) (sym c.self.view_is) r.2 in
    let all : c.records_from-left.result ≡ length (since (counts_of c.args.cut.now) (actions r.1)) = c.records_from-left.ensures ∙ left_is (logged_of c.self.inside) r.0 r.1 c.args.cut.now may c.places_behind-places.result
    (λ l lt. c.places_behind-places.ensures.behind l lt ∙ ap (λ (xs : List ℕ). slice_index xs (slot_of c.self.inside.capacity c.self.inside.lanes l (counts_of c.args.cut.now l))) c.deref.ensures.value) in
    let left : length c.forget_to.new.self.log ≤ c.records_from-left.result =
    omega (arith, stay_few (logged_of c.self.inside) r.0 r.1 c.args.cut.now may (told_of c.forget_to.new.self) c.forget_to.ensures.log c.forget_to.ensures.base, all) in
    let room : ℕ = c.self.inside.lanes * c.self.inside.capacity in
    let beyond : min room (length c.forget_to.new.self.log + 4096) ≤ min room (c.records_from-left.result + 4096) =
    le-min (min-le_left room (length c.forget_to.new.self.log + 4096)) (omega (arith, min-le_right room (length c.forget_to.new.self.log + 4096), left)) in
    subst (λ (m : Logged). IsPaid m (record (logged_of c.self.inside) { graph = told_of c.forget_to.new.self })) c.self.view_is
    (Now (omega (arith, left, beyond, c.is_paid.ensures.0 c.if-is_paid.true, c.room-most.ensures, c.room.ensures, c.self.invariant.graph_room)))

pub returns-else-is_paid-clause-tells : goal.returns-else-is_paid-clause-tells
returns-else-is_paid-clause-tells c = λ base log was.
    let may : MayForget (logged_of c.self.inside) base log (counts_of c.args.cut.now) = subst (λ (m : Logged). MayForget m base log (counts_of c.args.cut.now)) (sym c.self.view_is) was in
    let all : c.records_from-left.result ≡ length (since (counts_of c.args.cut.now) (actions log)) = c.records_from-left.ensures ∙ left_is (logged_of c.self.inside) base log c.args.cut.now may c.places_behind-places.result
    (λ l lt. c.places_behind-places.ensures.behind l lt ∙ ap (λ (xs : List ℕ). slice_index xs (slot_of c.self.inside.capacity c.self.inside.lanes l (counts_of c.args.cut.now l))) c.deref.ensures.value) in
    let stay : ℕ = length (since (counts_of c.args.cut.now) (actions log)) in
    let few : length c.self.inside.graph.log ≤ stay + min (c.self.inside.lanes * c.self.inside.capacity) (stay + 4096) =
    elim (cases_lt (stay + min (c.self.inside.lanes * c.self.inside.capacity) (stay + 4096)) (length c.self.inside.graph.log)) [
      | inl many ↦ absurd (
          let no : true ≡ false = sym (c.is_paid.ensures.1 (omega (arith, many, all, c.room-most.ensures, c.room.ensures, c.self.invariant.graph_room))) ∙ c.if-is_paid.false in
          cc
          )
      | inr le ↦ le
    ] in
    subst (λ (m : Logged). TellsSections m (counts_of c.args.cut.now) log) c.self.view_is (tells_later (logged_of c.self.inside) base log c.args.cut.now may few)
