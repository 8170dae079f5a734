-- `of_parts` gives the pointer what the parts own: a walk of its MIR by hand.
use Rattle.std.proofs.Common.{◌≡◌, List, [], ◌∷◌, ◌++◌, Some, refl, sym, ap, ◌∙◌, subst}
use mir.Val.{Val, vptr, vstruct, vcons, vnil, of_list}
use base.Logic.{SProp, ent, id⊢, never, fst∗}
use base.Fml.{ftrue}
use contract.Running.{tables}
use prog.Wp.{WpFn}
use types.Logic.{sem}
use types.Kit.{‵, ◌⊛◌, ◌$◌, ◌∵◌, !, qed, done, move, drop, split, join, fsplit, fjoin, fpick, fpack}
use types.Kit.{feq_i, feq_l, rewrite, suffices}
use types.Run.{stop, fld, of_opd, no_more, and_then, enter, returns}
use types.ByLocal.{alloc_all, pass_all, free_all, look_at, get, get_in, sets}
use types.Part.{agg, sub, whole}
use denote.Exit.{yes}
use denote.Laws.{Is, shows}
use denote.RattleType.{RattleType, Valss, owns}
use denote.Memory.{lone}
use denote.RawPtr.{Ptr, block_ptr, null_ptr, ptr_val, in_a_block}
use mir.Raw.{raw as bare}
use denote.Signature.{types_at, plain}
use denote.Struct.Struct.{within}
use denote.Struct.Owning.{shape, to}
use denote.Steps.{nothing, peeks}
use denote.Triple.Walked.{Stays, stay_dropped, walk_of, says, ends_at}
use Rattle.core.proofs.alloc.Calls.{Goes-blank}
use Rattle.std_alloc.specs.Box.Ownership.{box_owns}
use Rattle.std_heap.proofs.Handle.{heap_val, heap_Tells}
use Rattle.std_heap.specs.contracts.Global.{the_row as G}
use Rattle.std_heap.specs.contracts.GlobalAllocator.TheImpl.{ghosts}
use Rattle.std.proofs.raw_atomic.Walks.{proved_at}
use Rattle.affedit_c.specs.contracts.kept.KeptDictionary.{the_row as R}
use Rattle.affedit_c.specs.contracts.held.Parts as parts
use Rattle.affedit_c.specs.contracts.held.Held as held
use Rattle.affedit_c.specs.contracts.held.Held.of_parts as f
use Rattle.affedit_c.proofs.held.Held.of_parts.Statement.{statement}
use Rattle.affedit_c.proofs.held.Held.of_parts.Code as code

abbrev From : RattleType
From = parts.the_row R G ghosts

abbrev stayed : Stays f.ended.signature.params f.ended.kept
stayed = (stay_dropped (plain (λ _. From)) yes, tt)

pub of_parts_spec : {M : Type 1} → statement M
of_parts_spec 𝓤 𝓛 𝓜 𝓡 wired =
    let H = 𝓛.H in let 𝓣 = tables 𝓤 H 𝓜 𝓡 𝓡.env in let c = f.clauses 𝓛 𝓜.mem 𝓡.returns in let fn = code.function in
    proved_at 𝓛 f.ended stayed c 𝓜 𝓡 (Goes-blank 𝓛 0 (plain (λ _. From)) yes (λ κs x g. tt), tt) f.Key.name fn (code.unfolded 𝓤 H 𝓜 𝓡 wired) (λ z are.
    let κs = z.0.0 in let v = z.0.3.0 in let Post : Val → SProp 𝓤 = (walk_of 𝓛 f.ended stayed c).post z in let Run : List Val → SProp 𝓤 = λ ws. WpFn 𝓤 H 𝓣.C 𝓣.Λ fn ws Post in
    qed 𝓛 ((‵ ftrue ⊛ ‵ (owns (types_at f.ended.signature.params κs) z.0.3 z.0.4)) ∷ ‵ ftrue ∷ []) ∵ split ! $ drop ! $ fsplit ! $
    fsplit ! $ fpick ! (λ vss. fsplit ! $ feq_l ! (λ ev. fsplit ! $ feq_l ! (λ ep. fsplit ! $ peeks ! G (Is G) (shows 𝓛 G) v.alloc vss.1.0 (λ is. rewrite ! 0 (λ (us : List Val). ‵ (G.own_val v.alloc us)) (heap_Tells v.alloc vss.1.0 is) refl $ move ! (1 ∷ []) $ drop ! $ move ! (1 ∷ []) $
    in_a_block ! v.ptr (λ p. box_owns (ghosts.dealloc_token v.alloc) R p v.value) (fst∗ 𝓤 (never 𝓤) (sem 𝓛 (ghosts.dealloc_token v.alloc (bare (lone R.mir)) null_ptr))) (λ b o e.
    let w : Val = vstruct (vcons (vptr b o) (vcons heap_val vnil)) in let made : Val = vstruct (vcons (vptr b o) (vcons heap_val vnil)) in
    let ws : z.0.4.0 ≡ w ∷ [] = ev ∙ (λ j. vstruct (of_list ((ep ∙ ap (λ (p : Ptr). ptr_val p ∷ []) e) j ++ (heap_Tells v.alloc vss.1.0 is j ++ []))) ∷ []) in
    suffices ! (Run (w ∷ [])) (subst (λ (us : List Val). ent 𝓤 (Run (w ∷ [])) (Run us)) (sym (λ i. ws i ++ [])) (id⊢ 𝓤 (Run (w ∷ [])))) $
    enter ! 𝓣.C 𝓣.Λ fn (w ∷ []) Post $ alloc_all ! (λ l. pass_all ! refl ((tt, (tt, (((tt, tt), tt), tt))), tt) $
    sets ! (of_opd ! (get_in ! (fld ! refl (stop !)) (sub ! 0 refl (whole !)))) refl (tt, tt) $
    sets ! (of_opd ! (get_in ! (fld ! refl (stop !)) (sub ! 1 refl (whole !)))) refl (tt, ((tt, tt), tt)) $
    sets ! (of_opd ! (get ! refl)) refl (tt, tt) $
    sets ! (agg ! (and_then ! (get ! refl) (and_then ! (get ! refl) (no_more !)))) refl (tt, (tt, (((tt, tt), tt), tt))) $
    returns ! (look_at ! 0 refl) $ free_all ! refl $
    suffices ! _ (ends_at 𝓛 f.ended stayed c z made (record { at = block_ptr b o; alloc = v.alloc; value = Some v.value }) (tt, tt) (tt, tt)) $ says ! refl $
    -- [the box; the handle; ..]
    move ! (2 ∷ 3 ∷ []) $ drop ! $ drop ! $
    nothing ! $ move ! (2 ∷ 0 ∷ []) $ fjoin ! $ feq_i ! (List Val) (vptr b o ∷ []) (vptr b o ∷ []) refl $ fjoin ! $ feq_i ! (List Val) (made ∷ []) (made ∷ []) refl $ fjoin ! $
    fpack ! (Valss (shape held.the_type).fields) (within (shape held.the_type) (to held.the_type (record { at = block_ptr b o; alloc = v.alloc; value = Some v.value })) (made ∷ [])) (vptr b o ∷ [], (heap_val ∷ [], tt)) $ fjoin ! $
    nothing ! $ nothing ! $ fjoin ! $ join ! $ nothing ! $ join ! $ done !)))))))
