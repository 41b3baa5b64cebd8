-- The links of one more step.
use Rattle.std.proofs.Common.{ℕ, ◌≡◌, ◌+◌, ◌<◌, ◌≤◌, List, [], ◌∷◌, ◌++◌, length, reverse, slice_index, slice_set, refl, sym, ap, ◌∙◌, subst, arith, length-set}
use Rattle.heap_model.specs.Sections.{Action, Takes, Frees, Stores, undo_action}
use Rattle.heap_model.specs.declared.record.UndoRecord.{UndoRecord}
use Rattle.heap_model.specs.declared.record.UndoRecord.TheVariants.{Acq, Rel, WaitRel, Put}
use Rattle.dependence.specs.Next.{IsObjectBelow}
use Rattle.dependence.specs.declared.step.Step.{Step}
use Rattle.dependence.specs.declared.links.Links.{Links}
use Rattle.dependence.specs.declared.neighbours.Neighbours.{Neighbours}
use Rattle.dependence.specs.Steps.{log_of}
use Rattle.dependence.specs.Links.{lanes_in, acts_in, before_in, partner_in, checked_release, object_of, with_release, freed_after}
use Rattle.dependence.specs.Kept.{IsInOrder, IsChained, IsPaired, IsLinked}
use Rattle.dependence.proofs.Places.{length_map, map_snoc}
use Rattle.dependence.proofs.Chains.{chained_push}
use Rattle.dependence.proofs.Pairs.{paired_push, checked_there}
use Rattle.dependence.proofs.InOrder.{in_order}

freed_length : (freed : List ℕ) (a : Action) (i : ℕ) → length (freed_after freed a i) ≡ length freed
freed_length freed (Takes o n) i = refl
freed_length freed (Frees o n) i = length-set freed o (i + 1)
freed_length freed Stores i = refl

-- each step has neighbours
pub beside_many : (steps : List Step) (links : Links) → IsLinked steps links → length links.beside.items ≡ length steps
beside_many steps links linked = omega (arith, linked.chained.count, length_map (λ (s : Step). s.lane.0) steps, length_map (λ (n : Neighbours). n.before) links.beside.items)

-- the release that is found has a partner's place
pub release_there : (steps : List Step) (a : Action) (old : Links) (r : ℕ) (freed : List ℕ) → IsLinked steps old → r ≡ checked_release (acts_in steps) a (slice_index freed (object_of a)) → r ≤ length old.beside.items
release_there steps a old r freed linked e = omega (arith, checked_there (acts_in steps) a (slice_index freed (object_of a)), beside_many steps old linked, length_map (λ (s : Step). undo_action s.entry) steps)

pub object_below : (limit : ℕ) (entry : UndoRecord) → 0 < limit → IsObjectBelow limit entry → object_of (undo_action entry) < limit
object_below limit (Acq o n) some h = h
object_below limit (Rel o n) some h = h
object_below limit (WaitRel o n) some h = h
object_below limit (Put f before) some h = some

pub linked_push : (steps : List Step) (next : Step) (old new : Links) (r : ℕ) → IsLinked steps old → next.lane.0 < 32 → object_of (undo_action next.entry) < 4096 → IsInOrder (log_of (reverse steps)) (undo_action next.entry) →
    new.newest ≡ slice_set old.newest next.lane.0 (length steps + 1) →
    before_in new.beside.items ≡ before_in old.beside.items ++ slice_index old.newest next.lane.0 ∷ [] →
    r ≡ checked_release (acts_in steps) (undo_action next.entry) (slice_index old.freed.items (object_of (undo_action next.entry))) →
    partner_in new.beside.items ≡ with_release (partner_in old.beside.items) r (length steps + 1) ++ r ∷ [] →
    new.freed.items ≡ freed_after old.freed.items (undo_action next.entry) (length steps) →
    IsLinked (steps ++ next ∷ []) new
linked_push steps next old new r linked low named order newest before found partner freed =
    let a : Action = undo_action next.entry in
    let lanes : lanes_in (steps ++ next ∷ []) ≡ lanes_in steps ++ next.lane.0 ∷ [] = map_snoc (λ (s : Step). s.lane.0) steps next in
    let acts : acts_in (steps ++ next ∷ []) ≡ acts_in steps ++ undo_action next.entry ∷ [] = map_snoc (λ (s : Step). undo_action s.entry) steps next in
    let many_lanes : length (lanes_in steps) ≡ length steps = length_map (λ (s : Step). s.lane.0) steps in
    let many_acts : length (acts_in steps) ≡ length steps = length_map (λ (s : Step). undo_action s.entry) steps in
    let chained : IsChained (lanes_in steps ++ next.lane.0 ∷ []) (slice_set old.newest next.lane.0 (length (lanes_in steps) + 1)) ((before_in old.beside.items) ++ slice_index old.newest next.lane.0 ∷ []) =
    chained_push (lanes_in steps) old.newest (before_in old.beside.items) next.lane.0 linked.rows low linked.chained in
    let paired : IsPaired (acts_in steps ++ undo_action next.entry ∷ []) (freed_after old.freed.items (undo_action next.entry) (length (acts_in steps)))
    (with_release (partner_in old.beside.items) (checked_release (acts_in steps) (undo_action next.entry) (slice_index old.freed.items (object_of (undo_action next.entry)))) (length (acts_in steps) + 1)
    ++ checked_release (acts_in steps) (undo_action next.entry) (slice_index old.freed.items (object_of (undo_action next.entry))) ∷ []) =
    paired_push (acts_in steps) old.freed.items (partner_in old.beside.items) (undo_action next.entry) (omega (arith, linked.objects)) linked.paired (in_order steps (undo_action next.entry) order) in
    record {
      chained = same_chain _ _ _ _ _ _ lanes (newest ∙ ap (λ (n : ℕ). slice_set old.newest next.lane.0 (n + 1)) (sym many_lanes)) before chained;
      paired = same_pairs _ _ _ _ _ _ acts (freed ∙ ap (freed_after old.freed.items (undo_action next.entry)) (sym many_acts))
          (partner ∙ ap (λ (n : ℕ). with_release (partner_in old.beside.items) r (n + 1) ++ r ∷ []) (sym many_acts) ∙ ap (λ (x : ℕ). with_release (partner_in old.beside.items) x (length (acts_in steps) + 1) ++ x ∷ []) found) paired;
      rows = ap length newest ∙ length-set old.newest next.lane.0 (length steps + 1) ∙ linked.rows;
      objects = ap length freed ∙ freed_length old.freed.items (undo_action next.entry) (length steps) ∙ linked.objects;
    }
  where
    same_chain : (a a' b b' c c' : List ℕ) → a ≡ a' → b ≡ b' → c ≡ c' → IsChained a' b' c' → IsChained a b c
    same_chain a a' b b' c c' e f g h = subst (λ x. IsChained x b c) (sym e) (subst (λ x. IsChained a' x c) (sym f) (subst (λ x. IsChained a' b' x) (sym g) h))

    same_pairs : (a a' : List Action) (b b' c c' : List ℕ) → a ≡ a' → b ≡ b' → c ≡ c' → IsPaired a' b' c' → IsPaired a b c
    same_pairs a a' b b' c c' e f g h = subst (λ x. IsPaired x b c) (sym e) (subst (λ x. IsPaired a' x c) (sym f) (subst (λ x. IsPaired a' b' x) (sym g) h))
