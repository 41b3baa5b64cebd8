-- A thread's log holds what the thread holds by its own events.
use Rattle.std.proofs.Common.{ℕ, zero, suc, ◌≡◌, ◌≢◌, ◌<◌, ◌==◌, if◌then◌else◌, true, false, List, [], ◌∷◌, length, map, get_or, Contains, Option, Some, None, option_map, refl, sym, ap, subst, inl, inr, arith}
use Rattle.std.specs.Prelude.{AllPairs}
use Rattle.heap_model.specs.declared.record.Record.TheVariants.{Put}
use Rattle.heap_model.specs.declared.event.Event.{Event}
use Rattle.heap_model.specs.declared.event.Event.TheVariants.{Enter, NestedEnter, NestedExit, Exit, Load, Store, Wait, Resume, Notify, NotifyAll, Look}
use Rattle.heap_model.specs.Setting.{Setting}
use Rattle.heap_model.specs.State.{State, with_at}
use Rattle.heap_model.specs.Events.{MayDo}
use Rattle.heap_model.specs.History.{state_after, IsLegalHistory}
use Rattle.heap_model.specs.Log.{lane}
use Rattle.heap_model.specs.Sections.{action, without, holding}
use Rattle.heap_model.specs.Own.{Hold, Agrees, own, own_log, with_own, more, less}
use Rattle.heap_model.specs.OwnSections.{held_objects, AreHeld}
use Rattle.law_histories.proofs.Own.{by_test, hold_in_free, own_agrees}
use Rattle.law_cuts.proofs.Chain.{In, in_without}

pub in_contains : (o : ℕ) (ps : List ℕ) → In o ps → Contains ps o
in_contains o [] h = elim h [ ]
in_contains o (p ∷ ps) (inl e) = (0, omega arith, e)
in_contains o (p ∷ ps) (inr h) = let rest = in_contains o ps h in (suc rest.0, omega (arith, rest.1), rest.2)

at_in : (o k : ℕ) (ps : List ℕ) → k < length ps → get_or ps k o ≡ o → In o ps
at_in o k [] lt is = absurd (omega arith)
at_in o zero (p ∷ ps) lt is = inl is
at_in o (suc k) (p ∷ ps) lt is = inr (at_in o k ps (omega arith) is)

pub contains_in : (o : ℕ) (ps : List ℕ) → Contains ps o → In o ps
contains_in o ps here = at_in o here.0 ps here.1 here.2

-- no two are the same
abbrev pub Apart : List ℕ → Type 0
Apart [] = Unit {0}
Apart (o ∷ os) = (In o os → ⊥) × Apart os

place_in : (j x : ℕ) (os : List ℕ) → j < length os → In (get_or os j x) os
place_in j x [] lt = absurd (omega arith)
place_in zero x (o ∷ os) lt = inl refl
place_in (suc j) x (o ∷ os) lt = inr (place_in j x os (omega arith))

pub apart_pairs : (os : List ℕ) → Apart os → AllPairs (λ o p. o ≢ p) os
apart_pairs [] apart i j x lt below e = absurd (omega arith)
apart_pairs (o ∷ os) apart zero zero x lt below e = absurd (omega arith)
apart_pairs (o ∷ os) apart (suc i) zero x lt below e = absurd (omega arith)
apart_pairs (o ∷ os) apart zero (suc j) x lt below e = apart.0 (subst (λ z. In z os) (sym e) (place_in j x os (omega arith)))
apart_pairs (o ∷ os) apart (suc i) (suc j) x lt below e = apart_pairs os apart.1 i j x (omega arith) (omega arith) e

in_before : (o p : ℕ) (os : List ℕ) → In o (without p os) → In o os
in_before o p [] h = elim h [ ]
in_before o p (q ∷ os) h = by_test q p (λ b. In o (if b then os else q ∷ without p os) → In o (q ∷ os))
    (λ _ i. inr i)
    (λ _ i. elim i [ inl e ↦ inl e | inr j ↦ inr (in_before o p os j) ]) h

gone : (p : ℕ) (os : List ℕ) → Apart os → In p (without p os) → ⊥
gone p [] apart h = elim h [ ]
gone p (q ∷ os) apart h = by_test q p (λ b. In p (if b then os else q ∷ without p os) → ⊥)
    (λ e i. apart.0 (subst (λ z. In z os) (sym e) i))
    (λ ne i. elim i [ inl e ↦ ne e | inr j ↦ gone p os apart.1 j ]) h

apart_without : (p : ℕ) (os : List ℕ) → Apart os → Apart (without p os)
apart_without p [] apart = tt
apart_without p (q ∷ os) apart = elim (q == p) as (λ b. Apart (if b then os else q ∷ without p os)) [
  | true ↦ apart.1
  | false ↦ ((λ i. apart.0 (in_before q p os i)), apart_without p os apart.1)
]

-- the objects on which there is a hold, each once
record Listed (hold : ℕ → Option Hold) (os : List ℕ) : Type 0 where
  to : (o : ℕ) → In o os → hold o ≢ None
  from : (o : ℕ) → hold o ≢ None → In o os
  once : Apart os

took : (hold : ℕ → Option Hold) (os : List ℕ) (p : ℕ) (x : Hold) → hold p ≡ None → Listed hold os → Listed (with_at hold p (Some x)) (p ∷ os)
took hold os p x free was = record {
  to = λ o i. by_test p o (λ b. ◌≢◌ {A = Option Hold} (if b then Some x else hold o) None) (λ _ e. absurd cc) (λ ne. elim i [ inl e ↦ absurd (ne e) | inr j ↦ was.to o j ]);
  from = λ o h. by_test p o (λ b. ◌≢◌ {A = Option Hold} (if b then Some x else hold o) None → In o (p ∷ os)) (λ e _. inl e) (λ ne some. inr (was.from o some)) h;
  once = ((λ i. was.to p i free), was.once);
}

left : (hold : ℕ → Option Hold) (os : List ℕ) (p : ℕ) → Listed hold os → Listed (with_at hold p None) (without p os)
left hold os p was = record {
  to = λ o i. by_test p o (λ b. ◌≢◌ {A = Option Hold} (if b then None else hold o) None) (λ e. absurd (gone p os was.once (subst (λ z. In z (without p os)) (sym e) i))) (λ _. was.to o (in_before o p os i));
  from = λ o h. by_test p o (λ b. ◌≢◌ {A = Option Hold} (if b then None else hold o) None → In o (without p os)) (λ _ some. absurd (some refl)) (λ ne some. in_without o p os ne (was.from o some)) h;
  once = apart_without p os was.once;
}

changed : (hold : ℕ → Option Hold) (os : List ℕ) (p : ℕ) (f : Hold → Hold) → Listed hold os → Listed (with_at hold p (option_map f (hold p))) os
changed hold os p f was = record {
  to = λ o i. by_test p o (λ b. (if b then option_map f (hold p) else hold o) ≢ None) (λ e none. was.to p (subst (λ z. In z os) (sym e) i) (none_before (hold p) none)) (λ _. was.to o i);
  from = λ o h. by_test p o (λ b. (if b then option_map f (hold p) else hold o) ≢ None → In o os) (λ e some. subst (λ z. In z os) e (was.from p (λ none. some (ap (option_map f) none)))) (λ _ some. was.from o some) h;
  once = was.once;
}
  where
    none_before : (x : Option Hold) → option_map f x ≡ None → x ≡ None
    none_before None e = refl
    none_before (Some y) e = absurd (let never : ◌≡◌ {A = Option Hold} (Some (f y)) None = e in cc)

-- the thread's own event
mine_listed : (g : Setting) (s : State) (t : ℕ) (older : List Event) (e : Event) → Agrees t (own older) s → MayDo g s t e → Listed (own older).hold (held_objects g older) → Listed (own (e ∷ older)).hold (held_objects g (e ∷ older))
mine_listed g s t older (Enter p n) a may was = took (own older).hold (held_objects g older) p.0 _ (hold_in_free t (own older) s p.0 a may.1) was
mine_listed g s t older (NestedEnter p) a may was = changed (own older).hold (held_objects g older) p.0 more was
mine_listed g s t older (NestedExit p) a may was = changed (own older).hold (held_objects g older) p.0 less was
mine_listed g s t older (Exit p n) a may was = left (own older).hold (held_objects g older) p.0 was
mine_listed g s t older (Load f v) a may was = was
mine_listed g s t older (Store f b v) a may was = elim (g.is_logged f.0) as (λ is. Listed (own older).hold (holding (map action (with_own (if is then Some (Put f b v) else None) (own_log g older))))) [ true ↦ was | false ↦ was ]
mine_listed g s t older (Wait p n) a may was = left (own older).hold (held_objects g older) p.0 was
mine_listed g s t older (Resume p n) a may was = took (own older).hold (held_objects g older) p.0 _ (hold_in_free t (own older) s p.0 a may.1) was
mine_listed g s t older (Notify p ls) a may was = was
mine_listed g s t older (NotifyAll p ls) a may was = was
mine_listed g s t older (Look p told) a may was = was

listed : (g : Setting) (h : List (ℕ × Event)) (t : ℕ) → IsLegalHistory g h → Listed (own (lane t h)).hold (held_objects g (lane t h))
listed g [] t legal = record { to = λ o i. elim i [ ]; from = λ o some. absurd (some refl); once = tt }
listed g ((u, e) ∷ h) t legal =
    let before : Listed (own (lane t h)).hold (held_objects g (lane t h)) = listed g h t legal.0 in
    by_test u t (λ b. Listed (own (if b then e ∷ lane t h else lane t h)).hold (held_objects g (if b then e ∷ lane t h else lane t h)))
    (λ is. mine_listed g (state_after g h) t (lane t h) e (own_agrees g h t legal.0) (subst (λ z. MayDo g (state_after g h) z e) is legal.1) before)
    (λ _. before)

pub are_held : (g : Setting) (h : List (ℕ × Event)) (t : ℕ) → IsLegalHistory g h → AreHeld (own (lane t h)) (held_objects g (lane t h))
are_held g h t legal = let all = listed g h t legal in record {
  each = λ o. ((λ here. all.to o (contains_in o _ here)), (λ some. in_contains o _ (all.from o some)));
  once = apart_pairs _ all.once;
}
