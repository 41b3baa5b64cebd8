-- Takes and the releases before them.
use Rattle.std.proofs.Common.{ℕ, zero, suc, ◌≡◌, ◌≢◌, ◌+◌, ◌-◌, ◌<◌, ◌≤◌, ◌==◌, ◌⊎◌, if◌then◌else◌, add-one, Bool, true, false, List, [], ◌∷◌, ◌++◌, length, get_or, slice_index, slice_set, refl, sym, ap, ◌∙◌, subst, inl, inr, arith, length-set, get_or-set_same, get_or-set_other}
use Rattle.std.proofs.lemmas.Bool.{and_parts, eqb-true, eq-eqb, cases_eq, cases_lt, cases_Bool}
use Rattle.std.proofs.lemmas.List.{get_or_past, get_or-map}
use Rattle.heap_model.specs.Sections.{Action, Takes, Frees, Stores, undo_action}
use Rattle.law_cuts.specs.Plain.{takes_after}
use Rattle.dependence.specs.declared.step.Step.{Step}
use Rattle.dependence.specs.Links.{acts_in, act_at, checked_release, object_of, with_release, freed_after}
use Rattle.dependence.specs.Kept.{IsPaired, LastRelease}
use Rattle.dependence.proofs.Places.{at_old, at_new, length_map, length_snoc}

-- what the first took, and the second freed
pub record Follows (a b : Action) : Type 0 where
  pub object : ℕ
  pub number : ℕ
  pub takes : a ≡ Takes object (number + 1)
  pub frees : b ≡ Frees object number

pub followed : (a b : Action) → takes_after a b ≡ true → Follows a b
followed (Takes o n) (Frees p m) h =
    let parts : ((o == p) ≡ true) × ((n == m + 1) ≡ true) = and_parts _ _ h in
    let objects : o ≡ p = eqb-true _ _ parts.0 in
    let numbers : n ≡ m + 1 = eqb-true _ _ parts.1 in
    record { object = p; number = m; takes = ap (λ x. Takes x n) objects ∙ ap (Takes p) numbers; frees = refl }
followed (Takes o n) (Takes p m) h = absurd cc
followed (Takes o n) Stores h = absurd cc
followed (Frees o n) b h = absurd cc
followed Stores b h = absurd cc

pub follows : (a b : Action) (o n : ℕ) → a ≡ Takes o (n + 1) → b ≡ Frees o n → takes_after a b ≡ true
follows a b o n h i = ap (λ x. takes_after x b) h ∙ ap (takes_after (Takes o (n + 1))) i ∙ rw (eq-eqb o o refl, eq-eqb (n + 1) (n + 1) refl) refl

-- a place where something was done is one of the list's
pub there : (acts : List Action) (i : ℕ) → act_at acts i ≢ Stores → i < length acts
there acts i some = elim (cases_lt i (length acts)) [ inl lt ↦ lt | inr ge ↦ absurd (some (get_or_past acts i Stores ge)) ]

pub taker_there : (acts : List Action) (i j : ℕ) → takes_after (act_at acts j) (act_at acts i) ≡ true → j < length acts
taker_there acts i j h = let f : Follows (act_at acts j) (act_at acts i) = followed _ _ h in there acts j (λ e. let t : act_at acts j ≡ Takes f.object (f.number + 1) = f.takes in absurd cc)

pub releaser_there : (acts : List Action) (i j : ℕ) → takes_after (act_at acts j) (act_at acts i) ≡ true → i < length acts
releaser_there acts i j h = let f : Follows (act_at acts j) (act_at acts i) = followed _ _ h in there acts i (λ e. let t : act_at acts i ≡ Frees f.object f.number = f.frees in absurd cc)

-- the object was taken at numbers below one and freed at numbers below the other
pub record AreBelow (acts : List Action) (o t f : ℕ) : Type 0 where
  pub taken : (i n : ℕ) → act_at acts i ≡ Takes o n → n < t
  pub freed : (i n : ℕ) → act_at acts i ≡ Frees o n → n < f

-- the object's numbers rise to this action
abbrev pub AreInOrder : List Action → Action → Type 0
AreInOrder acts (Takes o n) = AreBelow acts o n n
AreInOrder acts (Frees o n) = AreBelow acts o (n + 1) n
AreInOrder acts Stores = Unit {0}

-- the partners where the release has another
with_length : (partner : List ℕ) (r v : ℕ) → length (with_release partner r v) ≡ length partner
with_length partner zero v = refl
with_length partner (suc i) v = length-set partner i v

with_same : (partner : List ℕ) (r v i : ℕ) → r ≡ i + 1 → i < length partner → slice_index (with_release partner r v) i ≡ v
with_same partner zero v i e lt = absurd (omega arith)
with_same partner (suc p) v i e lt = let same : i ≡ p = omega arith in ap (slice_index (slice_set partner p v)) same ∙ get_or-set_same partner p v 0 (omega arith)

with_other : (partner : List ℕ) (r v i : ℕ) → (r ≡ i + 1 → ⊥) → slice_index (with_release partner r v) i ≡ slice_index partner i
with_other partner zero v i ne = refl
with_other partner (suc p) v i ne = get_or-set_other partner p i v 0 (λ e. ne (omega arith))

-- an action that is put at the end, with the release that it follows
module _ (acts : List Action) (freed partner freed_too : List ℕ) (act : Action) (r : ℕ) (old : IsPaired acts freed partner)
    (found : (i : ℕ) → r ≡ i + 1 → takes_after act (act_at acts i) ≡ true)
    (finds : (i : ℕ) → takes_after act (act_at acts i) ≡ true → r ≡ i + 1)
    (once : (i j : ℕ) → takes_after act (act_at acts i) ≡ true → takes_after (act_at acts j) (act_at acts i) ≡ true → ⊥)
    (late : (j : ℕ) → takes_after (act_at acts j) act ≡ true → ⊥)
    (never : takes_after act act ≡ true → ⊥)
    (last_before : (i o n : ℕ) → act_at acts i ≡ Frees o n → LastRelease (acts ++ act ∷ []) freed_too o n i)
    (last_now : (o n : ℕ) → act ≡ Frees o n → LastRelease (acts ++ act ∷ []) freed_too o n (length acts)) where
  abbrev mores : List Action
  mores = acts ++ act ∷ []

  abbrev partners : List ℕ
  partners = with_release partner r (length acts + 1) ++ r ∷ []

  as_old : (i : ℕ) → i < length acts → act_at mores i ≡ act_at acts i
  as_old i lt = at_old acts act Stores i lt

  as_new : (i : ℕ) → i ≡ length acts → act_at mores i ≡ act
  as_new i e = at_new acts act Stores i e

  whether : (i : ℕ) → i < length mores → (i < length acts) ⊎ (i ≡ length acts)
  whether i lt = elim (cases_lt i (length acts)) [ inl early ↦ inl early | inr late ↦ inr (omega (arith, length_snoc acts act)) ]

  pair_old : (i : ℕ) → i < length acts → slice_index partners i ≡ slice_index (with_release partner r (length acts + 1)) i
  pair_old i lt = at_old (with_release partner r (length acts + 1)) r 0 i (omega (arith, with_length partner r (length acts + 1), old.count))

  pair_new : (i : ℕ) → i ≡ length acts → slice_index partners i ≡ r
  pair_new i e = at_new (with_release partner r (length acts + 1)) r 0 i (omega (arith, with_length partner r (length acts + 1), old.count))

  both : (i j : ℕ) (a b : Action) → act_at mores j ≡ a → act_at mores i ≡ b → takes_after (act_at mores j) (act_at mores i) ≡ true → takes_after a b ≡ true
  both i j a b ea eb h = ap (λ x. takes_after x b) (sym ea) ∙ ap (takes_after (act_at mores j)) (sym eb) ∙ h

  pub paired_more : IsPaired mores freed_too partners
  paired_more = record {
    count = omega (arith, length_snoc acts act, length_snoc (with_release partner r (length acts + 1)) r, with_length partner r (length acts + 1), old.count);
    taker = λ i j h. elim (whether j (taker_there mores i j h)) [
      | inl lj ↦ elim (whether i (releaser_there mores i j h)) [
        | inl li ↦
            let was : takes_after (act_at acts j) (act_at acts i) ≡ true = both i j (act_at acts j) (act_at acts i) (as_old j lj) (as_old i li) h in
            pair_old i li ∙ with_other partner r (length acts + 1) i (λ e. once i j (found i e) was) ∙ old.taker i j was
        | inr ei ↦ absurd (late j (both i j (act_at acts j) act (as_old j lj) (as_new i ei) h))
      ]
      | inr ej ↦ elim (whether i (releaser_there mores i j h)) [
        | inl li ↦
            let now : takes_after act (act_at acts i) ≡ true = both i j act (act_at acts i) (as_new j ej) (as_old i li) h in
            pair_old i li ∙ with_same partner r (length acts + 1) i (finds i now) (omega (arith, old.count)) ∙ ap (λ (n : ℕ). n + 1) (sym ej)
        | inr ei ↦ absurd (never (both i j act act (as_new j ej) (as_new i ei) h))
      ]
    ];
    releaser = λ i j h. elim (whether j (taker_there mores i j h)) [
      | inl lj ↦ elim (whether i (releaser_there mores i j h)) [
        | inl li ↦
            let was : takes_after (act_at acts j) (act_at acts i) ≡ true = both i j (act_at acts j) (act_at acts i) (as_old j lj) (as_old i li) h in
            pair_old j lj ∙ with_other partner r (length acts + 1) j (λ e. both_ways (act_at acts j) (act_at acts i) act was (found j e)) ∙ old.releaser i j was
        | inr ei ↦ absurd (late j (both i j (act_at acts j) act (as_old j lj) (as_new i ei) h))
      ]
      | inr ej ↦ elim (whether i (releaser_there mores i j h)) [
        | inl li ↦ pair_new j ej ∙ finds i (both i j act (act_at acts i) (as_new j ej) (as_old i li) h)
        | inr ei ↦ absurd (never (both i j act act (as_new j ej) (as_new i ei) h))
      ]
    ];
    last = λ i o n h. elim (whether i (there mores i (λ e. absurd cc))) [
      | inl li ↦ last_before i o n (sym (as_old i li) ∙ h)
      | inr ei ↦ subst (LastRelease mores freed_too o n) (sym ei) (last_now o n (sym (as_new i ei) ∙ h))
    ];
  }
    where
      -- a take is no release
      both_ways : (a b c : Action) → takes_after a b ≡ true → takes_after c a ≡ true → ⊥
      both_ways a b c h i =
          let f : Follows a b = followed a b h in
          let g : Follows c a = followed c a i in
          let t : a ≡ Takes f.object (f.number + 1) = f.takes in
          let u : a ≡ Frees g.object g.number = g.frees in
          absurd cc

still_last : (acts : List Action) (act : Action) (freed freed_too : List ℕ) (o n i : ℕ) → slice_index freed_too o ≡ slice_index freed o → LastRelease acts freed o n i → LastRelease (acts ++ act ∷ []) freed_too o n i
still_last acts act freed freed_too o n i same known = record {
  place = known.place;
  number = known.number;
  known = same ∙ known.known;
  frees = at_old acts act Stores known.place (there acts known.place (λ e. let t : act_at acts known.place ≡ Frees o known.number = known.frees in absurd cc)) ∙ known.frees;
  above = known.above;
}

-- a take
checked_is : (acts : List Action) (act : Action) (r i : ℕ) → checked_release acts act r ≡ suc i → takes_after act (act_at acts i) ≡ true
checked_is acts act zero i h = absurd cc
checked_is acts act (suc p) i h = elim (cases_Bool (takes_after act (act_at acts p))) [
  | inl it ↦
      let e : suc p ≡ suc i = subst (λ b. (if b then suc p else 0) ≡ suc i) it h in
      let same : p ≡ i = omega arith in
      ap (λ (q : ℕ). takes_after act (act_at acts q)) (sym same) ∙ it
  | inr none ↦ absurd (let e : 0 ≡ suc i = subst (λ b. (if b then suc p else 0) ≡ suc i) none h in omega arith)
]

pub checked_here : (acts : List Action) (act : Action) (p : ℕ) → takes_after act (act_at acts p) ≡ true → checked_release acts act (suc p) ≡ suc p
checked_here acts act p h = subst (λ b. (if b then suc p else 0) ≡ suc p) (sym h) refl

pub checked_not : (acts : List Action) (act : Action) (p : ℕ) → takes_after act (act_at acts p) ≡ false → checked_release acts act (suc p) ≡ 0
checked_not acts act p h = subst (λ b. (if b then suc p else 0) ≡ 0) (sym h) refl

paired_take : (acts : List Action) (freed partner : List ℕ) (o k : ℕ) → IsPaired acts freed partner → AreBelow acts o k k →
    IsPaired (acts ++ Takes o k ∷ []) freed (with_release partner (checked_release acts (Takes o k) (slice_index freed o)) (length acts + 1) ++ checked_release acts (Takes o k) (slice_index freed o) ∷ [])
paired_take acts freed partner o k old order = paired_more acts freed partner freed (Takes o k) (checked_release acts (Takes o k) (slice_index freed o)) old
    (λ i e. checked_is acts (Takes o k) (slice_index freed o) i (e ∙ add-one i))
    finds
    (λ i j now was.
    let f : Follows (Takes o k) (act_at acts i) = followed _ _ now in
    let g : Follows (act_at acts j) (act_at acts i) = followed _ _ was in
    let t : Takes o k ≡ Takes f.object (f.number + 1) = f.takes in
    let u : act_at acts i ≡ Frees f.object f.number = f.frees in
    let v : act_at acts i ≡ Frees g.object g.number = g.frees in
    let w : act_at acts j ≡ Takes g.object (g.number + 1) = g.takes in
    let objects : g.object ≡ f.object = cc in
    let numbers : g.number ≡ f.number = cc in
    let objects_too : f.object ≡ o = cc in
    let numbers_too : k ≡ f.number + 1 = cc in
    let it : act_at acts j ≡ Takes o k = w ∙ ap (λ x. Takes x (g.number + 1)) (objects ∙ objects_too) ∙ ap (λ (x : ℕ). Takes o (x + 1)) numbers ∙ ap (Takes o) (sym numbers_too) in
    omega (arith, order.taken j k it))
    (λ j h. let f : Follows (act_at acts j) (Takes o k) = followed _ _ h in let t : Takes o k ≡ Frees f.object f.number = f.frees in absurd cc)
    (λ h. let f : Follows (Takes o k) (Takes o k) = followed _ _ h in let t : Takes o k ≡ Frees f.object f.number = f.frees in absurd cc)
    (λ i p n h. still_last acts (Takes o k) freed freed p n i refl (old.last i p n h))
    (λ p n h. absurd cc)
  where
    finds : (i : ℕ) → takes_after (Takes o k) (act_at acts i) ≡ true → checked_release acts (Takes o k) (slice_index freed o) ≡ i + 1
    finds i h =
        let f : Follows (Takes o k) (act_at acts i) = followed _ _ h in
        let t : Takes o k ≡ Takes f.object (f.number + 1) = f.takes in
        let objects : f.object ≡ o = cc in
        let numbers : k ≡ f.number + 1 = cc in
        let frees : act_at acts i ≡ Frees o f.number = f.frees ∙ ap (λ x. Frees x f.number) objects in
        let last : LastRelease acts freed o f.number i = old.last i o f.number frees in
        let below : last.number < k = order.freed last.place last.number last.frees in
        let same : last.place ≡ i = elim last.above [ inl lt ↦ absurd (omega arith) | inr e ↦ e ] in
        ap (checked_release acts (Takes o k)) (last.known ∙ ap (λ (p : ℕ). p + 1) same ∙ add-one i) ∙ checked_here acts (Takes o k) i h ∙ sym (add-one i)

-- what isn't a take follows no release
unchecked : (acts : List Action) (o n r : ℕ) → checked_release acts (Frees o n) r ≡ 0
unchecked acts o n zero = refl
unchecked acts o n (suc i) = refl

paired_free : (acts : List Action) (freed partner : List ℕ) (o k : ℕ) → o < length freed → IsPaired acts freed partner → AreBelow acts o (k + 1) k →
    IsPaired (acts ++ Frees o k ∷ []) (slice_set freed o (length acts + 1)) (with_release partner (checked_release acts (Frees o k) (slice_index freed o)) (length acts + 1) ++ checked_release acts (Frees o k) (slice_index freed o) ∷ [])
paired_free acts freed partner o k lt old order = subst (λ r. IsPaired (acts ++ Frees o k ∷ []) (slice_set freed o (length acts + 1)) (with_release partner r (length acts + 1) ++ r ∷ [])) (sym (unchecked acts o k (slice_index freed o)))
    (paired_more acts freed partner (slice_set freed o (length acts + 1)) (Frees o k) 0 old
    (λ i e. absurd (omega arith))
    (λ i h. absurd cc)
    (λ i j h. absurd cc)
    (λ j h.
    let f : Follows (act_at acts j) (Frees o k) = followed _ _ h in
    let t : Frees o k ≡ Frees f.object f.number = f.frees in
    let objects : f.object ≡ o = cc in
    let numbers : f.number ≡ k = cc in
    let it : act_at acts j ≡ Takes o (k + 1) = f.takes ∙ ap (λ x. Takes x (f.number + 1)) objects ∙ ap (λ (x : ℕ). Takes o (x + 1)) numbers in
    omega (arith, order.taken j (k + 1) it))
    (λ h. absurd cc)
    before
    (λ p n h.
    let objects : p ≡ o = cc in
    let numbers : k ≡ n = cc in
    record {
      place = length acts;
      number = n;
      known = ap (slice_index (slice_set freed o (length acts + 1))) objects ∙ get_or-set_same freed o (length acts + 1) 0 lt;
      frees = at_new acts (Frees o k) Stores (length acts) refl ∙ h;
      above = inr refl;
    }))
  where
    before : (i p n : ℕ) → act_at acts i ≡ Frees p n → LastRelease (acts ++ Frees o k ∷ []) (slice_set freed o (length acts + 1)) p n i
    before i p n h = elim (cases_eq p o) [
      | inl e ↦ record {
        place = length acts;
        number = k;
        known = ap (slice_index (slice_set freed o (length acts + 1))) e ∙ get_or-set_same freed o (length acts + 1) 0 lt;
        frees = at_new acts (Frees o k) Stores (length acts) refl ∙ ap (λ x. Frees x k) (sym e);
        above = inl (order.freed i n (h ∙ ap (λ x. Frees x n) e));
      }
      | inr ne ↦ still_last acts (Frees o k) freed (slice_set freed o (length acts + 1)) p n i (get_or-set_other freed o p (length acts + 1) 0 ne) (old.last i p n h)
    ]

idle : (acts : List Action) (r : ℕ) → checked_release acts Stores r ≡ 0
idle acts zero = refl
idle acts (suc i) = refl

paired_store : (acts : List Action) (freed partner : List ℕ) → IsPaired acts freed partner →
    IsPaired (acts ++ Stores ∷ []) freed (with_release partner (checked_release acts Stores (slice_index freed 0)) (length acts + 1) ++ checked_release acts Stores (slice_index freed 0) ∷ [])
paired_store acts freed partner old = subst (λ r. IsPaired (acts ++ Stores ∷ []) freed (with_release partner r (length acts + 1) ++ r ∷ [])) (sym (idle acts (slice_index freed 0)))
    (paired_more acts freed partner freed Stores 0 old
    (λ i e. absurd (omega arith))
    (λ i h. absurd cc)
    (λ i j h. absurd cc)
    (λ j h. let f : Follows (act_at acts j) Stores = followed _ _ h in let t : Stores ≡ Frees f.object f.number = f.frees in absurd cc)
    (λ h. absurd cc)
    (λ i p n h. still_last acts Stores freed freed p n i refl (old.last i p n h))
    (λ p n h. absurd cc))

-- Pairs stay true of one more action.
pub paired_push : (acts : List Action) (freed partner : List ℕ) (act : Action) → object_of act < length freed → IsPaired acts freed partner → AreInOrder acts act →
    IsPaired (acts ++ act ∷ []) (freed_after freed act (length acts)) (with_release partner (checked_release acts act (slice_index freed (object_of act))) (length acts + 1) ++ checked_release acts act (slice_index freed (object_of act)) ∷ [])
paired_push acts freed partner (Takes o n) lt old order = paired_take acts freed partner o n old order
paired_push acts freed partner (Frees o n) lt old order = paired_free acts freed partner o n lt old order
paired_push acts freed partner Stores lt old order = paired_store acts freed partner old

takes_nothing : (a : Action) → takes_after a Stores ≡ false
takes_nothing (Takes o n) = refl
takes_nothing (Frees o n) = refl
takes_nothing Stores = refl

-- a place that isn't there
pub unreleased : (steps : List Step) (a : Action) (r : ℕ) → (0 < r → length steps < r) → checked_release (acts_in steps) a r ≡ 0
unreleased steps a zero out = refl
unreleased steps a (suc p) out =
    let none : act_at (acts_in steps) p ≡ Stores = get_or_past (acts_in steps) p Stores (omega (arith, out (omega arith), length_map (λ (s : Step). undo_action s.entry) steps)) in
    checked_not (acts_in steps) a p (ap (takes_after a) none ∙ takes_nothing a)

-- a place that is there
pub released : (steps : List Step) (a : Action) (r : ℕ) (d : Step) (b : Bool) → 0 < r → r ≤ length steps → b ≡ takes_after a (undo_action (get_or steps (r - 1) d).entry) → (if b then r else 0) ≡ checked_release (acts_in steps) a r
released steps a zero d b some le e = absurd (omega arith)
released steps a (suc p) d b some le e =
    let place : suc p - 1 ≡ p = omega arith in
    let act : act_at (acts_in steps) p ≡ undo_action (get_or steps p d).entry = get_or-map (λ (t : Step). undo_action t.entry) steps p d Stores (omega arith) in
    ap (λ (v : Bool). if v then suc p else 0) (e ∙ ap (λ (k : ℕ). takes_after a (undo_action (get_or steps k d).entry)) place ∙ ap (takes_after a) (sym act))

-- the release that is found is a place
pub checked_there : (acts : List Action) (a : Action) (r : ℕ) → checked_release acts a r ≤ length acts
checked_there acts a zero = omega arith
checked_there acts a (suc p) = elim (cases_Bool (takes_after a (act_at acts p))) [
  | inr none ↦ subst (λ b. (if b then suc p else 0) ≤ length acts) (sym none) (omega arith)
  | inl it ↦
      let f : Follows a (act_at acts p) = followed a (act_at acts p) it in
      let lt : p < length acts = there acts p (λ e. let t : act_at acts p ≡ Frees f.object f.number = f.frees in absurd cc) in
      subst (λ b. (if b then suc p else 0) ≤ length acts) (sym it) (omega arith)
]
