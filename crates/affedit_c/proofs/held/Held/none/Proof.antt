-- `none` makes the pointer that holds nothing: a walk of its MIR by hand.
use Rattle.std.proofs.Common.{List, [], ◌∷◌, ◌++◌, None, refl, sym, subst, lit<}
use mir.Val.{Val, vstruct, vcons, vnil}
use base.Logic.{SProp, ent, id⊢}
use base.Fml.{ftrue}
use contract.Running.{tables}
use prog.Wp.{WpFn}
use types.Kit.{‵, ◌⊛◌, ◌$◌, ◌∵◌, !, qed, done, move, drop, split, join, fsplit, fjoin, fpack, feq_i}
use types.Kit.{rewrite, suffices}
use types.Run.{lit, no_more, and_then, enter, returns}
use types.ByLocal.{alloc_all, pass_all, free_all, look_at, get, sets}
use types.Part.{agg}
use denote.RattleType.{Valss}
use denote.Exit.{yes}
use denote.Laws.{Is, shows}
use denote.RattleType.{owns}
use denote.RawPtr.{null_ptr, ptr_val}
use denote.Signature.{types_at, plain}
use denote.Struct.Struct.{within}
use denote.Struct.Owning.{shape, to}
use denote.Steps.{nothing, peeks}
use Rattle.core.proofs.alloc.Calls.{Goes-blank}
use Rattle.std_heap.proofs.Handle.{heap_val, heap_Tells}
use Rattle.std_heap.specs.contracts.Global.{the_row as G}
use denote.Triple.Walked.{Stays, stay_dropped, walk_of, says, ends_at}
use Rattle.std.proofs.raw_atomic.Walks.{proved_at}
use Rattle.affedit_c.specs.contracts.held.Held as held
use Rattle.affedit_c.specs.contracts.held.Held.none as f
use Rattle.affedit_c.proofs.held.Held.none.Statement.{statement}
use Rattle.affedit_c.proofs.held.Held.none.Code as code

abbrev null : Val
null = ptr_val null_ptr

abbrev made : Val
made = vstruct (vcons null (vcons heap_val vnil))

abbrev stayed : Stays f.ended.signature.params f.ended.kept
stayed = (stay_dropped (plain (λ _. G)) yes, tt)

pub none_spec : {M : Type 1} → statement M
none_spec 𝓤 𝓛 𝓜 𝓡 wired =
    let H = 𝓛.H in let 𝓣 = tables 𝓤 H 𝓜 𝓡 𝓡.env in let c = f.clauses 𝓛 𝓜.mem 𝓡.returns in let fn = code.function in
    proved_at 𝓛 f.ended stayed c 𝓜 𝓡 (Goes-blank 𝓛 0 (plain (λ _. G)) yes (λ κs x g. tt), tt) f.Key.name fn (code.unfolded 𝓤 H 𝓜 𝓡 wired) (λ z are.
    let κs = z.0.0 in let a = z.0.3.0 in let Post : Val → SProp 𝓤 = (walk_of 𝓛 f.ended stayed c).post z in let Run : List Val → SProp 𝓤 = λ ws. WpFn 𝓤 H 𝓣.C 𝓣.Λ fn ws Post in
    qed 𝓛 ((‵ ftrue ⊛ ‵ (owns (types_at f.ended.signature.params κs) z.0.3 z.0.4)) ∷ ‵ ftrue ∷ []) ∵ split ! $ drop ! $ fsplit ! $
    peeks ! G (Is G) (shows 𝓛 G) a z.0.4.0 (λ is. rewrite ! 0 (λ (us : List Val). ‵ (G.own_val a us)) (heap_Tells a z.0.4.0 is) refl $
    suffices ! (Run (heap_val ∷ [])) (subst (λ (us : List Val). ent 𝓤 (Run (heap_val ∷ [])) (Run us)) (sym (λ i. heap_Tells a z.0.4.0 is i ++ [])) (id⊢ 𝓤 (Run (heap_val ∷ [])))) $
    enter ! 𝓣.C 𝓣.Λ fn (heap_val ∷ []) Post $ alloc_all ! (λ l. pass_all ! refl ((tt, ((tt, tt), tt)), tt) $
    sets ! (agg ! (and_then ! (lit ! tt) (and_then ! (get ! refl) (no_more !)))) refl (tt, (record { fits = lit< tt }, (((tt, tt), tt), tt))) $
    returns ! (look_at ! 0 refl) $ free_all ! refl $
    suffices ! _ (ends_at 𝓛 f.ended stayed c z made (record { at = null_ptr; alloc = a; value = None }) (tt, tt) (tt, tt)) $ says ! refl $
    -- [the handle; ..]
    move ! (1 ∷ 2 ∷ []) $ drop ! $ drop ! $
    nothing ! $ nothing ! $ move ! (2 ∷ 0 ∷ []) $ fjoin ! $ feq_i ! (List Val) (null ∷ []) (null ∷ []) refl $ fjoin ! $ feq_i ! (List Val) (made ∷ []) (made ∷ []) refl $ fjoin ! $
    fpack ! (Valss (shape held.the_type).fields) (within (shape held.the_type) (to held.the_type (record { at = null_ptr; alloc = a; value = None })) (made ∷ [])) (null ∷ [], (heap_val ∷ [], tt)) $ fjoin ! $
    nothing ! $ nothing ! $ fjoin ! $ join ! $ nothing ! $ join ! $ done !)))
