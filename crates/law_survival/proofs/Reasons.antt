-- A whole section that isn't in the stable cut has a first dependence that isn't either.
use Rattle.std.proofs.Common.{ℕ, zero, suc, ◌≡◌, ◌≢◌, ◌+◌, ◌-◌, ◌<◌, ◌≤◌, ◌⊎◌, if◌then◌else◌, Bool, List, [], ◌∷◌, ◌++◌, refl, sym, ap, ◌∙◌, subst, inl, inr, arith, append_assoc}
use Rattle.std.proofs.lemmas.Bool.{cases_eq, cases_lt, eq-eqb, ne_eqb}
use Rattle.heap_model.specs.Log.{lane}
use Rattle.heap_model.specs.Sections.{Action, Takes, Frees, Stores, ended, Section, Did, Earlier, Took}
use Rattle.heap_model.specs.Cuts.{Counts, IsWhole, IsClosed, IsStable}
use Rattle.heap_model.specs.State.{with_at}
use Rattle.dependence.specs.Reason.{IsReason, Previous, Releaser, TookFrom, TookInside}
use Rattle.law_survival.proofs.Choices.{Decided}

same_section : (a b : Section) → Decided (a ≡ b)
same_section a b = elim (cases_eq a.lane b.lane) [
  | inr ne ↦ inr (λ e. ne (ap (λ (x : Section). x.lane) e))
  | inl lanes ↦ elim (cases_eq a.number b.number) [
    | inr ne ↦ inr (λ e. ne (ap (λ (x : Section). x.number) e))
    | inl numbers ↦ inl (λ i. record { lane = lanes i; number = numbers i })
  ]
]

is_freeing : (act : Action) (o n : ℕ) → Decided (act ≡ Frees o n)
is_freeing (Takes p k) o n = inr (λ e. cc)
is_freeing Stores o n = inr (λ e. cc)
is_freeing (Frees p k) o n = elim (cases_eq p o) [
  | inr ne ↦ inr (λ e. ne (let same : p ≡ o = cc in same))
  | inl objects ↦ elim (cases_eq k n) [
    | inr ne ↦ inr (λ e. ne (let same : k ≡ n = cc in same))
    | inl numbers ↦ inl (λ i. Frees (objects i) (numbers i))
  ]
]

module _ (log : List (ℕ × Action)) (cut : ℕ → ℕ) (a : Section) where
  -- a section other than a, outside the cut, that freed the object at the number
  record Freer (o n : ℕ) (acts : List (ℕ × Action)) : Type 0 where
    by : Section
    freed : Did acts by (Frees o n)
    other : a ≢ by
    outside : cut by.lane < by.number

  abbrev FreedInside : (o n : ℕ) → List (ℕ × Action) → Type 0
  FreedInside o n acts = (b : Section) → Did acts b (Frees o n) → a ≢ b → Counts cut b

  -- with one more, which freed it
  freer_now : (o n m : ℕ) (act : Action) (older : List (ℕ × Action)) → act ≡ Frees o n → FreedInside o n older → Freer o n ((m, act) ∷ older) ⊎ FreedInside o n ((m, act) ∷ older)
  freer_now o n m act older is rest =
      let b : Section = record { lane = m; number = ended (lane m older) + 1 } in
      elim (cases_lt (cut m) (ended (lane m older) + 1)) [
        | inr inside ↦ inr (λ c did differ. elim did [
          | inl here ↦ subst (Counts cut) (sym here.0) inside
          | inr before ↦ rest c before differ
        ])
        | inl out ↦ elim (same_section a b) [
          | inl same ↦ inr (λ c did differ. elim did [
            | inl here ↦ absurd (differ (same ∙ sym here.0))
            | inr before ↦ rest c before differ
          ])
          | inr differ ↦ inl (record { by = b; freed = inl (refl, sym is); other = differ; outside = out })
        ]
      ]

  freer : (o n : ℕ) (acts : List (ℕ × Action)) → Freer o n acts ⊎ FreedInside o n acts
  freer o n [] = inr (λ b did differ. absurd did)
  freer o n ((m, act) ∷ older) = elim (freer o n older) [
    | inl f ↦ inl (record { by = f.by; freed = inr f.freed; other = f.other; outside = f.outside })
    | inr rest ↦ elim (is_freeing act o n) [
      | inl is ↦ freer_now o n m act older is rest
      | inr isnt ↦ inr (λ b did differ. elim did [
        | inl here ↦ absurd (isnt (sym here.1))
        | inr before ↦ rest b before differ
      ])
    ]
  ]

  -- the first of what a took from outside
  record FirstOut : Type 0 where
    section : Section
    older : List (ℕ × Action)
    took : TookFrom log a section older
    outside : cut section.lane < section.number
    inside : TookInside log cut a older

  -- with one more, by which a took nothing
  took_none : (m : ℕ) (act : Action) (older : List (ℕ × Action)) → ((o n : ℕ) → Takes o (n + 1) ≡ act → ⊥) → TookInside log cut a older → TookInside log cut a ((m, act) ∷ older)
  took_none m act older none rest = λ o n b did freed differ. elim did [
    | inl here ↦ absurd (none o n here.1)
    | inr before ↦ rest o n b before freed differ
  ]

  took_one : (o n m : ℕ) (newer older : List (ℕ × Action)) → log ≡ newer ++ (m, Takes o (suc n)) ∷ older → TookInside log cut a older → FirstOut ⊎ TookInside log cut a ((m, Takes o (suc n)) ∷ older)
  took_one o n m newer older is rest =
      let more : suc n ≡ n + 1 = omega arith in
      elim (same_section a (record { lane = m; number = ended (lane m older) + 1 })) [
        | inr apart ↦ inr (λ p k b did freed differ. elim did [
          | inl here ↦ absurd (apart here.0)
          | inr before ↦ rest p k b before freed differ
        ])
        | inl same ↦ elim (freer o n log) [
          | inl f ↦ inl (
              let lanes : m ≡ a.lane = ap (λ (x : Section). x.lane) (sym same) in
              record {
                section = f.by;
                older = older;
                took = record {
                  newer = newer;
                  object = o;
                  number = n;
                  place = is ∙ (λ i. newer ++ (lanes i, Takes o (more i)) ∷ older);
                  section = ap (λ (x : Section). x.number) same ∙ ap (λ (k : ℕ). ended (lane k older) + 1) lanes;
                  freed = f.freed;
                  other = f.other;
                };
                outside = f.outside;
                inside = rest;
              })
          | inr all ↦ inr (λ p k b did freed differ. elim did [
            | inr before ↦ rest p k b before freed differ
            | inl here ↦
                let act : Takes p (k + 1) ≡ Takes o (suc n) = here.1 in
                let objects : p ≡ o = cc in
                let next : k + 1 ≡ suc n = cc in
                let numbers : k ≡ n = omega (arith, next) in
                all b (subst (λ (x : ℕ). Did log b (Frees x n)) objects (subst (λ (x : ℕ). Did log b (Frees p x)) numbers freed)) differ
          ])
        ]
      ]

  first_out : (newer acts : List (ℕ × Action)) → log ≡ newer ++ acts → FirstOut ⊎ TookInside log cut a acts
  first_out newer [] is = inr (λ o n b did freed differ. absurd did)
  first_out newer ((m, act) ∷ older) is = elim (first_out (newer ++ (m, act) ∷ []) older (is ∙ sym (append_assoc newer ((m, act) ∷ []) older))) [
    | inl f ↦ inl f
    | inr rest ↦ by_act act is rest
  ]
    where
      by_act : (x : Action) → log ≡ newer ++ (m, x) ∷ older → TookInside log cut a older → FirstOut ⊎ TookInside log cut a ((m, x) ∷ older)
      by_act (Takes o (suc n)) at rest = took_one o n m newer older at rest
      by_act (Takes o zero) at rest = inr (took_none m (Takes o 0) older (λ p k e. (let none : k + 1 ≡ 0 = cc in omega (arith, none))) rest)
      by_act (Frees o n) at rest = inr (took_none m (Frees o n) older (λ p k e. cc) rest)
      by_act Stores at rest = inr (took_none m Stores older (λ p k e. cc) rest)

  -- the cut with a, if all that a took is inside
  took_all : IsStable log cut → a.number ≤ ended (lane a.lane log) → cut a.lane < a.number → a.number ≤ cut a.lane + 1 → TookInside log cut a log → ⊥
  took_all stable whole out next inside =
      let wider : ℕ → ℕ = with_at cut a.lane a.number in
      let at : wider a.lane ≡ a.number = ap (λ (b : Bool). if b then a.number else cut a.lane) (eq-eqb a.lane a.lane refl) in
      let others : (m : ℕ) → m ≢ a.lane → wider m ≡ cut m = λ m ne. ap (λ (b : Bool). if b then a.number else cut m) (ne_eqb a.lane m (λ e. ne (sym e))) in
      let above : (m : ℕ) → cut m ≤ wider m = λ m. elim (cases_eq m a.lane) [ inl e ↦ (let f : wider m ≡ wider a.lane = ap wider e in let g : cut m ≡ cut a.lane = ap cut e in omega (arith, at, out, f, g)) | inr ne ↦ omega (arith, others m ne) ] in
      let is_whole : IsWhole log wider = λ m. elim (cases_eq m a.lane) [ inl e ↦ (let f : wider m ≡ wider a.lane = ap wider e in let g : ended (lane m log) ≡ ended (lane a.lane log) = ap (λ (x : ℕ). ended (lane x log)) e in omega (arith, at, whole, f, g)) | inr ne ↦ omega (arith, others m ne, stable.whole m) ] in
      let last : (x : Section) → Counts wider x → Counts cut x ⊎ (x ≡ a) = λ x counted. elim (cases_lt (cut x.lane) x.number) [
        | inr in_cut ↦ inl in_cut
        | inl past ↦ elim (cases_eq x.lane a.lane) [
          | inr ne ↦ inl (omega (arith, others x.lane ne, counted))
          | inl e ↦ inr (
              let f : wider x.lane ≡ wider a.lane = ap wider e in
              let g : cut x.lane ≡ cut a.lane = ap cut e in
              let number : x.number ≡ a.number = omega (arith, at, f, g, counted, past, next) in
              λ i. record { lane = e i; number = number i })
        ]
      ] in
      let closed : IsClosed log wider = λ x b counted depends. elim (last x counted) [
        | inl in_cut ↦ (let low : Counts cut b = stable.closed x b in_cut depends in omega (arith, low, above b.lane))
        | inr own ↦ elim depends [
          | Earlier e lt ↦ (let f : wider x.lane ≡ wider b.lane = ap wider e in omega (arith, f, counted, lt))
          | Took o n took freed differ ↦
              let low : Counts cut b = inside o n b (subst (λ (y : Section). Did log y (Takes o (n + 1))) own took) freed (λ e. differ (own ∙ e)) in
              omega (arith, low, above b.lane)
        ]
      ] in
      omega (arith, stable.greatest wider is_whole closed a.lane, at, out)

  pub reason_there : IsStable log cut → a.number ≤ ended (lane a.lane log) → cut a.lane < a.number → (b : Section) × IsReason log cut a b
  reason_there stable whole out = elim (cases_lt (cut a.lane + 1) a.number) [
    | inl far ↦ (record { lane = a.lane; number = a.number - 1 }, Previous (omega (arith, far)) refl (omega (arith, far)))
    | inr near ↦ elim (first_out [] log refl) [
      | inl f ↦ (f.section, Releaser near f.older f.took f.outside f.inside)
      | inr all ↦ absurd (took_all stable whole out near all)
    ]
  ]
