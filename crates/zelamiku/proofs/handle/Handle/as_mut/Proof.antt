-- `as_mut` lends what the handle has, and the handle follows it.
use Prim.Native.Nat.{ℕ}
use mathlib.Core.Path.{◌≡◌, refl}
use mathlib.Core.List.{List, [], ◌∷◌}
use seplogic.Ra.Ura.{Ura}
use base.Fraction.{full_share}
use base.Logic.{SProp, ent, sep, id⊢}
use base.Fml.{GName, Fml, ftrue, flft, fsep}
use mir.Raw.{raw as bare}
use mir.Syntax.{named}
use mir.Val.{Val, vptr}
use types.Logic.{Logic, sem}
use contract.Monad.{fact}
use contract.Running.{tables}
use types.Kit.{‵, raw, ◌⊛◌, some, later, at_ret, ◌$◌, ◌∵◌, !, qed, move, keep, drop, use1, split, join, pick, fsplit, fsplit3, fjoin, fpack, suffices, frame, done, await, group, rewrite}
use types.Part.{whole, sub, look_in}
use types.Run.{stop, fld, load, of_opd, first, blocks, exec, returns, enter, addr}
use types.ByLocal.{alloc_all, pass_all, free_all, look_at, get, through, sets, sets_last, env}
use denote.Exit.{no}
use denote.Follow.{follows, Part, lends_Part}
use denote.Memory.{part_at, mem, cell_at, part_of}
use denote.RawPtr.{block_ptr}
use denote.Ref.{MutRef, mut_vals, mut_Tells}
use denote.Signature.{plain, mut_ref_to}
use denote.Steps.{nothing, heard, opens}
use denote.Triple.Walked.{says, Stays, stay_dropped, walk_of, ends_at, Goes-spent_ref}
use Rattle.std.specs.Prelude.{IsSome}
use Rattle.core.proofs.alloc.Calls.{token}
use Rattle.std.proofs.raw_atomic.Walks.{proved}
use Rattle.std_alloc.proofs.VecSteps.Shapes.{after}
use Rattle.std_alloc.proofs.BoxSteps.Form.{D, R, B, τ, word, handle}
use Rattle.std_alloc.proofs.BoxSteps.Steps.{box_out, box_in}
use Rattle.zelamiku.specs.Lending.{with_state}
use Rattle.zelamiku.specs.Own.{Held}
use Rattle.zelamiku.specs.contracts.handle.Handle.{the_row as H}
use Rattle.zelamiku.specs.contracts.state.Inner.{the_row as I}
use Rattle.zelamiku.proofs.AsBox.{E, opened}
use Rattle.zelamiku.specs.contracts.handle.Handle.as_mut as F
use Rattle.zelamiku.proofs.handle.Handle.as_mut.Statement.{statement}
use Rattle.zelamiku.proofs.handle.Handle.as_mut.Code as code

abbrev stayed : Stays (F.ended).signature.params (F.ended).kept
stayed = (stay_dropped (mut_ref_to (0 ∷ []) tt (plain (λ _. H))) no, tt)

module _ {M : Type 1} {𝓤 : Ura M} (𝓛 : Logic 𝓤) (rb ro : ℕ) (h : H.Denot) (b o : ℕ) (hv : Val) where
  -- the handle as a box of this
  abbrev boxed : I.Denot → D E
  boxed x = record { ptr = h.at; alloc = h.alloc; value = x }

  -- all of the handle but what it has
  abbrev Rest : Fml
  Rest = fsep (fsep (token E.al h.alloc (bare (τ E)) (block_ptr b o)) (handle E h.alloc hv)) (cell_at full_share H.mir (word E hv b o ∷ []) rb ro)

  back : h.at ≡ block_ptr b o → (w : I.Denot) → ent 𝓤 (sep 𝓤 (sem 𝓛 ((mem I).own_at w b o)) (sem 𝓛 Rest)) (sem 𝓛 ((mem H).own_at (with_state h w) rb ro))
  unfolding part_of
  back at_b w =
      qed 𝓛 (‵ (part_at (R E) full_share w b o) ∷ ‵ Rest ∷ []) ∵ move ! (1 ∷ []) $ fsplit ! $ fsplit ! $ move ! (3 ∷ []) $
      box_in E ! (boxed w) b o w at_b refl $ use1 𝓛 (‵ (H.own_val (with_state h w) (word E hv b o ∷ []))) (id⊢ 𝓤 _) $ move ! (1 ∷ 0 ∷ []) $ fjoin ! $
      fpack ! (List Val) (λ us. fsep (cell_at full_share H.mir us rb ro) (H.own_val (with_state h w) us)) (word E hv b o ∷ []) $ done !

pub as_mut_spec : {M : Type 1} → statement M
as_mut_spec 𝓤 𝓛 𝓜 𝓡 wired =
    let c = F.clauses 𝓛 𝓜.mem 𝓡.returns in let 𝓣 = tables 𝓤 𝓛.H 𝓜 𝓡 𝓡.env in let Walk = walk_of 𝓛 F.ended stayed c in
    proved 𝓛 F.ended stayed c 𝓜 𝓡 (Goes-spent_ref 𝓛 1 (0 ∷ []) tt (plain (λ _. H)), tt)
    F.Key.name code.function (code.unfolded 𝓤 𝓛.H 𝓜 𝓡 wired)
    (λ κs. (mut_vals, tt)) (λ κs. (mut_Tells (named 0) κs.0 H, tt)) (λ κs qs bounds a _ are.
    let κ = κs.0 in let q = qs.0 in let rb = a.0.ref_ptr.0 in let ro = a.0.ref_ptr.1 in let γ = a.0.ghost_name in let h = a.0.now in let vs = mut_vals a.0 in
    let y : Walk.Ghost = ((κs, qs, bounds, a, (vs, tt)), tt) in let Post : Val → SProp 𝓤 = Walk.post y in
    qed 𝓛 (((‵ (flft κ q) ⊛ ‵ ftrue) ⊛ ‵ ((MutRef (named 0) κ H).own_val a.0 vs) ⊛ ‵ ftrue) ∷ raw (fact 𝓤 (IsSome h.state)) ∷ []) ∵
    move ! (1 ∷ []) $ heard ! (IsSome h.state) (λ is. let s = (opened h.state is).0 in let open' = (opened h.state is).1 in
    split ! $ split ! $ move ! (2 ∷ []) $ split ! $ keep ! (0 ∷ 2 ∷ []) $
    enter ! 𝓣.C 𝓣.Λ code.function (vptr rb ro ∷ []) Post $ alloc_all ! (λ l. pass_all ! refl ((tt, tt), tt) $
    fsplit3 ! $ drop ! $ move ! (0 ∷ 1 ∷ 2 ∷ []) $ opens ! tt H rb ro (λ us. move ! (1 ∷ []) $
    rewrite ! 0 (λ (st : Held). ‵ (H.own_val (record h { state = st }) us)) open' refl $ use1 𝓛 (‵ ((B E).own_val (record { ptr = h.at; alloc = h.alloc; value = s }) us)) (id⊢ 𝓤 _) $
    box_out E ! (record { ptr = h.at; alloc = h.alloc; value = s }) us (λ b o hv at_b ws fa. move ! (1 ∷ 2 ∷ []) $ fjoin ! $ move ! (1 ∷ []) $
    rewrite ! 2 (λ (xs : List Val). ‵ (cell_at full_share H.mir xs rb ro)) ws refl $
    -- [what it has; the token and the allocator; the handle's cell; the open borrow, in three entries]
    first ! $ blocks ! $
    sets ! (of_opd ! (load ! (through ! refl (fld ! refl (stop !))) (look_in ! 2 (sub ! 0 refl (whole !))))) refl (tt, tt) $ sets ! (of_opd ! (get ! refl)) refl (tt, tt) $
    sets_last ! (addr ! (through ! refl (stop !))) refl (tt, tt) $
    exec ! 𝓣.C 𝓣.Λ (env code.function.locals l) (after 1 code.function.body) (at_ret (env code.function.locals l) Post) $
    sets ! (of_opd ! (get ! refl)) refl (tt, tt) $
    move ! (1 ∷ 2 ∷ []) $ fjoin ! $ move ! (2 ∷ 3 ∷ 4 ∷ 1 ∷ 0 ∷ []) $ group ! 5 $
    use1 𝓛 (later (some (λ (γ' : GName). raw (Part 𝓛 H I (with_state h) (named 0) κ q rb ro b o γ (sem 𝓛 (Rest 𝓛 rb ro h b o hv)) (back 𝓛 rb ro h b o hv at_b) s γ'))))
    (lends_Part 𝓛 H I (with_state h) (named 0) κ q rb ro b o γ (sem 𝓛 (Rest 𝓛 rb ro h b o hv)) (back 𝓛 rb ro h b o hv at_b) (H.coded.code h) (H.coded.code h) s) $ await ! tt $ pick ! (λ γ'.
    returns ! (look_at ! 0 refl) $ free_all ! refl $ keep ! (0 ∷ []) $
    let lent : (MutRef (named 0) κ I).Denot = record { ref_ptr = (b, o); ghost_name = γ'; now = s } in
    use1 𝓛 (‵ ((MutRef (named 0) κ I).own_val lent (vptr b o ∷ [])) ⊛ ‵ (flft κ q) ⊛ ‵ (follows H I γ γ' (with_state h))) (id⊢ 𝓤 _) $ split ! $ move ! (1 ∷ []) $ split ! $ move ! (2 ∷ 0 ∷ 1 ∷ []) $
    suffices ! _ (ends_at 𝓛 F.ended stayed c y (vptr b o) lent (tt, tt) (tt, tt)) $
    nothing ! $ nothing ! $ fjoin ! $ join ! $ nothing ! $ move ! (2 ∷ 0 ∷ []) $ join ! $ join ! $ frame ! $ says ! open' $ done !))))))
