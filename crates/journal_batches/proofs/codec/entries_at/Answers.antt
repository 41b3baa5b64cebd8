use Rattle.std.proofs.Common.{◌≡◌, ◌++◌, ◌∷◌, ◌∙◌, ℕ, List, [], get_or, ap, map, sym, subst}
use Rattle.std.proofs.lemmas.List.{map_push, take_more}
use Rattle.std.proofs.lemmas.List.Elements.{All-push}
use Rattle.journal_batches.specs.declared.entry.Entry.{Entry}
use Rattle.journal_batches.specs.Entries.{AreOf, IsOf}
use Rattle.journal_batches.proofs.codec.entries_at.Goals as goal

pub loop-place-preserved : goal.loop-place-preserved
loop-place-preserved c =
    let places = c.args.places.now in
    let image = c.args.image.now in
    let i = c.loop-place.place-index in
    let e : Entry = record { at = get_or places i 0; word = c.number_at-word.result } in
    let old : List Entry = c.loop-place.entries.items in
    let more : c.push.new.self.items ≡ old ++ e ∷ [] = c.in_ok-push.ensures.items in
    let is : IsOf image e = (c.requires.within i 0 c.loop-place-test.true, c.number_at-word.ensures.spelled) in
    record {
      own = subst (λ (es : List Entry). AreOf image es) (sym more) (All-push (λ (f : Entry). IsOf image f) old e c.loop-place.invariant.own is);
      at = ap (λ (es : List Entry). map (λ (f : Entry). f.at) es) more ∙ map_push (λ (f : Entry). f.at) old e
          ∙ ap (λ (ns : List ℕ). ns ++ e.at ∷ []) c.loop-place.invariant.at ∙ sym (take_more places i 0 c.loop-place-test.true);
    }
