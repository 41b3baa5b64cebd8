-- `take` moves what the handle owns out of it, and leaves null.
use mathlib.Core.Path.{◌≡◌, refl, sym, subst}
use mathlib.Core.List.{List, [], ◌∷◌, ◌++◌}
use lib.Dec.{lit<}
use base.Logic.{SProp, ent, emp, id⊢}
use base.Fml.{ftrue, flft, fsep}
use base.Fraction.{full_share}
use mir.Syntax.{named, w64}
use mir.Val.{Val, vptr, vint, vstruct, vcons, vnil}
use prog.Wp.{WpFn}
use contract.Monad.{fact, fact_i}
use contract.Running.{tables}
use types.Kit.{‵, raw, ◌⊛◌, ◌$◌, ◌∵◌, !, qed, by, move, keep, use0, use1, split, join, fsplit, fsplit3, fjoin, fjoin3, fpack, feq_i, feq_l, suffices, rewrite}
use types.Part.{whole, sub, look_in, store_in, agg}
use types.Run.{stop, fld, load, of_opd, lit, no_more, and_then, assigns, returns, enter}
use types.ByLocal.{alloc_all, pass_all, free_all, look_at, get, through, sets}
use denote.Builtin.{RawPtr}
use denote.Exit.{yes}
use denote.Memory.{cell_at}
use denote.RattleType.{Valss}
use denote.RawPtr.{null_ptr, ptr_val}
use denote.Ref.{MutRef}
use denote.Signature.{plain, type_at}
use denote.Steps.{nothing, heard, opens, closes}
use denote.Struct.Owning.{shape}
use denote.Struct.Struct.{within}
use denote.Triple.Walked.{Stays, stay_dropped, stay_ref, walk_of, Goes-dropped, Goes-ref}
use Rattle.std.specs.Prelude.{Some, None, IsSome}
use Rattle.core.proofs.alloc.Calls.{handle_tells}
use Rattle.std.proofs.raw_atomic.Walks.{proved_at, leaves}
use Rattle.std_alloc.proofs.BoxSteps.Form.{D, B, word, box_typed}
use Rattle.std_alloc.proofs.BoxSteps.Steps.{box_out, box_in}
use Rattle.std_heap.specs.contracts.Global as Heap
use Rattle.zelamiku.specs.Own.{Held}
use Rattle.zelamiku.specs.contracts.handle.Handle.{the_row as H, the_type}
use Rattle.zelamiku.proofs.AsBox.{E, opened}
use Rattle.zelamiku.specs.contracts.handle.Handle.take as F
use Rattle.zelamiku.proofs.handle.Handle.take.Statement.{statement}
use Rattle.zelamiku.proofs.handle.Handle.take.Code as code

abbrev stayed : Stays (F.ended).signature.params (F.ended).kept
stayed = (stay_ref (0 ∷ []) tt (plain (λ _. H)), (stay_dropped (plain (λ _. Heap.the_row)) yes, tt))

pub take_spec : {M : Type 1} → statement M
take_spec 𝓤 𝓛 𝓜 𝓡 wired =
    let c = F.clauses 𝓛 𝓜.mem 𝓡.returns in let 𝓣 = tables 𝓤 𝓛.H 𝓜 𝓡 𝓡.env in
    proved_at 𝓛 F.ended stayed c 𝓜 𝓡 (Goes-ref 𝓛 1 0 tt (plain (λ _. H)), (Goes-dropped 𝓛 1 (plain (λ _. Heap.the_row)) yes (λ κs x w. refl), tt))
    F.Key.name code.function (code.unfolded 𝓤 𝓛.H 𝓜 𝓡 wired) (λ z are.
    let κ = z.0.0.0 in let q = z.0.1.0 in let r = z.0.3.0 in let rb = r.ref_ptr.0 in let ro = r.ref_ptr.1 in let h = r.now in let a = z.0.3.1.0 in let vs = z.0.4.0 in
    let Post : Val → SProp 𝓤 = (walk_of 𝓛 F.ended stayed c).post z in let Run : List Val → SProp 𝓤 = λ ws. WpFn 𝓤 𝓛.H 𝓣.C 𝓣.Λ code.function ws Post in
    qed 𝓛 (((‵ (flft κ q) ⊛ ‵ ftrue) ⊛ ‵ (fsep ((MutRef (named 0) κ H).own_val r vs) (fsep (Heap.the_row.own_val a z.0.4.1.0) ftrue))) ∷ raw (fact 𝓤 (IsSome h.state)) ∷ []) ∵
    move ! (1 ∷ []) $ heard ! (IsSome h.state) (λ is. let s = (opened h.state is).0 in let open' = (opened h.state is).1 in
    let v : D E = record { ptr = h.at; alloc = h.alloc; value = s } in let taken : D E = record { ptr = h.at; alloc = a; value = s } in
    let To = type_at (F.signature).result z.0.0 in let made : To.Denot = record { at = h.at; alloc = a; value = s } in
    let left : H.Denot = record { at = null_ptr; alloc = h.alloc; state = None } in
    split ! $ split ! $ move ! (2 ∷ []) $ fsplit ! $ move ! (1 ∷ []) $ fsplit ! $ handle_tells E.al ! a z.0.4.1.0 (λ ha ea fits. move ! (2 ∷ []) $ fsplit3 ! $ feq_l ! (λ ev. keep ! (0 ∷ 1 ∷ 4 ∷ 2 ∷ []) $
    let args : List Val = vptr rb ro ∷ ha ∷ [] in
    suffices ! (Run args) (subst (λ (us : List Val). ent 𝓤 (Run args) (Run us)) (sym (λ i. ev i ++ (ea i ++ []))) (id⊢ 𝓤 (Run args))) $
    enter ! 𝓣.C 𝓣.Λ code.function args Post $ alloc_all ! (λ l. pass_all ! refl ((tt, tt), (fits, tt)) $
    opens ! tt H rb ro (λ us. move ! (1 ∷ []) $
    rewrite ! 0 (λ (st : Held). ‵ (H.own_val (record h { state = st }) us)) open' refl $ use1 𝓛 (‵ ((B E).own_val v us)) (id⊢ 𝓤 _) $
    box_out E ! v us (λ b o hv at_b ws fa. rewrite ! 3 (λ (xs : List Val). ‵ (cell_at full_share H.mir xs rb ro)) ws refl $
    -- [what it has; the token; the handle's allocator; the handle's cell; the open borrow, in three entries; the other allocator]
    let w : Val = vstruct (vcons (vint w64 0) (vcons hv vnil)) in
    sets ! (of_opd ! (load ! (through ! refl (fld ! refl (stop !))) (look_in ! 3 (sub ! 0 refl (whole !))))) refl (tt, tt) $ sets ! (of_opd ! (get ! refl)) refl (tt, tt) $
    assigns ! (of_opd ! (lit ! tt)) (through ! refl (fld ! refl (stop !))) (store_in ! 3 (sub ! 0 refl (whole !)) (tt, record { fits = lit< tt })) $
    sets ! (agg ! (and_then ! (get ! refl) (and_then ! (get ! refl) (no_more !)))) refl (box_typed E ha b o fits) $
    move ! (0 ∷ 1 ∷ 7 ∷ []) $ box_in E ! taken b o s at_b refl $ use1 𝓛 (‵ (To.own_val made (word E ha b o ∷ []))) (id⊢ 𝓤 _) $
    -- [what was taken; the handle's allocator; the handle's cell; the open borrow, in three entries]
    move ! (1 ∷ []) $ nothing ! $ nothing ! $ move ! (2 ∷ 0 ∷ []) $ fjoin ! $ feq_i ! (List Val) (ptr_val null_ptr ∷ []) (ptr_val null_ptr ∷ []) refl $ fjoin ! $ feq_i ! (List Val) (w ∷ []) (w ∷ []) refl $ fjoin ! $
    fpack ! (Valss (RawPtr ∷ Heap.the_row ∷ [])) (within (shape the_type) (null_ptr, (((tt, tt), tt), tt)) (w ∷ [])) (ptr_val null_ptr ∷ [], (hv ∷ [], tt)) $ fjoin ! $
    use1 𝓛 (‵ (H.own_val left (w ∷ []))) (id⊢ 𝓤 _) $
    -- [the empty handle; what was taken; the handle's cell; the open borrow, in three entries]
    move ! (2 ∷ 0 ∷ 3 ∷ 4 ∷ 5 ∷ []) $ closes ! tt H left (w ∷ []) rb ro $
    returns ! (look_at ! 0 refl) $ free_all ! refl $
    -- [two parts of self; the token; what was taken]
    feq_i ! (List Val) vs (vptr rb ro ∷ []) ev $ fjoin3 ! $ nothing ! $ nothing ! $ fjoin ! $ move ! (1 ∷ 0 ∷ []) $ fjoin ! $ nothing ! $ move ! (2 ∷ 0 ∷ []) $ join ! $
    use0 𝓛 (raw (fact 𝓤 (None ≡ None))) (fact_i 𝓤 (None ≡ None) (emp 𝓤) refl) $ use0 𝓛 (raw (fact 𝓤 (h.state ≡ Some s))) (fact_i 𝓤 (h.state ≡ Some s) (emp 𝓤) open') $ join ! $ move ! (1 ∷ 2 ∷ 3 ∷ 0 ∷ []) $
    by ! (leaves 𝓛 F.ended stayed c z (word E ha b o) made (left, (tt, tt)) (tt, (tt, tt))))))))))
