use Rattle.std.proofs.Common.{ℕ, ◌≡◌, false, List, slice_index, subst}
use Rattle.store_memory.specs.Bits.{IsFirstWord, IsLowestIn}
use Rattle.store_memory.specs.Dirty.{DirtySet, is_dirty_in, IsLeastDirty}
use Rattle.store_memory.proofs.DirtyLaws.{least_dirty, none_dirty}
use Rattle.store_memory.proofs.dirty.DirtyFields.least.Goals as goal

pub returns-in-Some : goal.returns-in-Some
returns-in-Some c =
    subst (λ (d : DirtySet). IsLeastDirty d c.lowest_in.result) c.self.view_is
    (least_dirty c.self.inside.fields c.self.inside.words.items c.self.inside.summary.items c.in-Some.group c.lowest_in-word.result c.lowest_in.result c.self.invariant
    (subst (λ (xs : List ℕ). IsFirstWord xs c.in-Some.group) c.deref.ensures.value c.in-Some.ensures)
    (subst (λ (xs : List ℕ). IsLowestIn xs c.in-Some.group c.lowest_in-word.result) c.deref-in-Some.ensures.value c.lowest_in-word.ensures)
    (subst (λ (xs : List ℕ). IsLowestIn xs c.lowest_in-word.result c.lowest_in.result) c.deref-in-Some-2.ensures.value c.lowest_in.ensures))

pub returns-in-None : goal.returns-in-None
returns-in-None c =
    subst (λ (d : DirtySet). (f : ℕ) → is_dirty_in d f ≡ false) c.self.view_is
    (none_dirty c.self.inside.fields c.self.inside.words.items c.self.inside.summary.items c.self.invariant
    (subst (λ (xs : List ℕ). (w : ℕ) → slice_index xs w ≡ 0) c.deref.ensures.value c.in-None.ensures))
