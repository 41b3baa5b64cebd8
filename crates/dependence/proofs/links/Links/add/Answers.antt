use Rattle.std.proofs.Common.{ℕ, List, ◌≡◌, ◌+◌, ◌<◌, ◌++◌, ◌∷◌, [], ap, ◌∙◌, arith, length, slice_index}
use Rattle.std.specs.Vec.{with_items}
use Rattle.std.proofs.lemmas.List.{with_items_is}
use Rattle.heap_model.specs.Sections.{undo_action}
use Rattle.dependence.specs.declared.neighbours.Neighbours.{Neighbours}
use Rattle.dependence.specs.Links.{acts_in, before_in, partner_in, checked_release, with_release, freed_after, object_of}
use Rattle.dependence.proofs.Linked.{linked_push, release_there, object_below}
use Rattle.dependence.proofs.Places.{map_snoc}
use Rattle.dependence.proofs.links.Links.add.Goals as goal

pub last_release-partner-requires : goal.last_release-partner-requires
last_release-partner-requires c =
    let small : object_of (undo_action c.args.next.entry) < 4096 = object_below 4096 c.args.next.entry (omega arith) c.requires.object in
    omega (arith, c.requires.linked.objects, ap (λ (xs : List ℕ). length xs) c.deref.ensures.value)

pub pair-requires-clause-release : goal.pair-requires-clause-release
pair-requires-clause-release c = omega (
  arith,
  release_there c.args.steps.now (undo_action c.args.next.entry) c.args.self.now c.last_release-partner.result c.deref.result.now c.requires.linked c.last_release-partner.ensures,
  ap (λ (xs : List Neighbours). length xs) c.deref_mut.ensures.value,
)

pub note_release-requires-clause-object : goal.note_release-requires-clause-object
note_release-requires-clause-object c =
    let small : object_of (undo_action c.args.next.entry) < 4096 = object_below 4096 c.args.next.entry (omega arith) c.requires.object in
    omega (arith, c.requires.linked.objects, ap (λ (xs : List ℕ). length xs) c.deref_mut-2.ensures.value)

pub returns-clause-linked : goal.returns-clause-linked
returns-clause-linked c =
    let old : List Neighbours = c.args.self.now.beside.items in
    let r : ℕ = c.last_release-partner.result in
    let next : Neighbours = record { before = c.chain-before.result; partner = r } in
    let kept : (with_items c.args.self.now.beside c.pair.new.beside).items ≡ c.pair.new.beside = with_items_is c.args.self.now.beside c.pair.new.beside (c.pair.auto.beside ∙ c.deref_mut.ensures.len) in
    let items : c.push_reserved.new.self.items ≡ c.pair.new.beside ++ next ∷ [] = c.push_reserved.ensures.items ∙ ap (λ (xs : List Neighbours). xs ++ next ∷ []) kept in
    let before : before_in c.push_reserved.new.self.items ≡ before_in old ++ slice_index c.args.self.now.newest c.args.next.lane.0 ∷ [] =
    ap before_in items ∙ map_snoc (λ (n : Neighbours). n.before) c.pair.new.beside next
    ∙ ap (λ (xs : List ℕ). xs ++ c.chain-before.result ∷ []) (c.pair.ensures.before ∙ ap before_in c.deref_mut.ensures.value)
    ∙ ap (λ (x : ℕ). before_in old ++ x ∷ []) c.chain-before.ensures.before in
    let partner : partner_in c.push_reserved.new.self.items ≡ with_release (partner_in old) r (length c.args.steps.now + 1) ++ r ∷ [] =
    ap partner_in items ∙ map_snoc (λ (n : Neighbours). n.partner) c.pair.new.beside next
    ∙ ap (λ (xs : List ℕ). xs ++ r ∷ []) (c.pair.ensures.partner ∙ ap (λ (xs : List Neighbours). with_release (partner_in xs) r (length c.args.steps.now + 1)) c.deref_mut.ensures.value) in
    linked_push c.args.steps.now c.args.next c.args.self.now
    (record { newest = c.chain-before.new.newest; freed = with_items c.args.self.now.freed c.note_release.new.freed; beside = c.push_reserved.new.self })
    r c.requires.linked c.requires.lane (object_below 4096 c.args.next.entry (omega arith) c.requires.object) c.requires.order
    c.chain-before.ensures.newest before
    (c.last_release-partner.ensures ∙ ap (λ (xs : List ℕ). checked_release (acts_in c.args.steps.now) (undo_action c.args.next.entry) (slice_index xs (object_of (undo_action c.args.next.entry)))) c.deref.ensures.value)
    partner
    (with_items_is c.args.self.now.freed c.note_release.new.freed (c.note_release.auto.freed ∙ c.deref_mut-2.ensures.len) ∙ c.note_release.ensures ∙ ap (λ (xs : List ℕ). freed_after xs (undo_action c.args.next.entry) (length c.args.steps.now)) c.deref_mut-2.ensures.value)
