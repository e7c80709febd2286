-- `follow_mut` lends the element at a pointer, and the Vec follows it, for every element type.
use Rattle.std.proofs.Common.{◌≡◌, ℕ, ◌+◌, ◌*◌, ◌≤◌, ◌<◌, List, [], ◌∷◌, length, get_or, refl, ap, ◌∙◌, arith}
use seplogic.Ra.Ura.{Ura}
use mir.Syntax.{Fn, named}
use mir.MapTy.{inst_fn}
use mir.Val.{Val, vptr}
use base.Logic.{SProp, ent, sep}
use base.Fml.{Lft, GName, Share, ftrue, flft}
use prog.Wp.{Env, Calls, Loops, WpFn, Tables}
use types.Logic.{Logic, sem}
use contract.Monad.{fact}
use contract.Running.{tables, tables_of}
use sound.WpLaws.{WpFn-mono}
use types.Kit.{‵, ◌⊛◌, some, at_ret, ◌$◌, ◌∵◌, !, qed, by, move, keep, use1, drop, split, join, pick, fsplit, fsplit3, fjoin, suffices, frame, done, raw, later, await, group}
use types.Run.{stop, addr, of_opd, first, blocks, exec, returns, enter}
use types.ByLocal.{alloc_all, pass_all, free_all, look_at, get, through, sets, sets_last, is, env}
use denote.Exit.{yes, no}
use denote.RattleType.{owns}
use denote.RawPtr.{Ptr, RawPtr, ptr_val, rawptr_vals, rawptr_Tells}
use denote.Ref.{MutRef, mut_vals, mut_Tells}
use denote.Builtin.{RefMutOf}
use denote.Signature.{plain, mut_ref_to}
use denote.Steps.{nothing}
use denote.Follow.{follows}
use denote.Triple.Carry.{spared}
use denote.Triple.Clauses.{Clauses, Ended, closing}
use denote.Triple.Entry.{on_entry}
use denote.Triple.Spec.{Meets, triple_of}
use denote.Triple.Table.{entered, run_framed}
use denote.Triple.Walked.{says, needs, Stays, stay_dropped, walk_of, ends_at, walked, Goes-dropped, Goes-spent_ref, walk_Meets}
use Rattle.std.specs.Vec.{with_item}
use Rattle.std.proofs.VecSteps.El.{El, args, el_x, el_d, el_len, el_cap, el_items, el_ok, R, Vr, sz}
use Rattle.std.proofs.VecSteps.Opens.{vec_opens}
use Rattle.std.proofs.VecSteps.Shapes.{after}
use Rattle.std.proofs.VecSteps.Element.{Got, lends}
use Rattle.std.proofs.RcSteps.{Ptr-Good}
use Rattle.std.proofs.SliceLists.{hd, any-default}
use Rattle.order_pool.specs.Inner.Places.{index_of, IsPlace}
use Rattle.order_pool.proofs.Places.{place_in}
use Rattle.order_pool.specs.contracts.pointer.follow_mut.Key.{name as #self}
use Rattle.order_pool.proofs.pointer.follow_mut.Statement as stated
use Rattle.order_pool.proofs.pointer.follow_mut.Code as code

module _ (E : El) where
  abbrev fn' : Fn
  fn' = inst_fn (args E) code.function

  abbrev ended : Ended
  ended = record { signature = record { lifetimes = 1; outlives = []; params = RefMutOf (0 ∷ []) tt (plain (λ _. Vr E)) (λ _. tt) ∷ plain (λ _. RawPtr) ∷ []; result = RefMutOf (0 ∷ []) tt (plain (λ _. R E)) (λ _. tt) }; kept = (no, (yes, tt)) }

  abbrev stayed : Stays ended.signature.params ended.kept
  stayed = (stay_dropped (mut_ref_to (0 ∷ []) tt (plain (λ _. Vr E))) no, (stay_dropped (plain (λ _. RawPtr)) yes, tt))

  abbrev At : el_d E → Ptr → ℕ
  At h p = index_of (sz E) h.ptr p

  abbrev spec : {M : Type 1} {𝓤 : Ura M} (𝓛 : Logic 𝓤) → Clauses 𝓤 ended
  spec {𝓤 = 𝓤} 𝓛 κs a = record { ghost = Unit {0}; requires = λ _. fact 𝓤 (IsPlace (sz E) a.0.now.ptr a.0.now.len a.1.0); ensures = λ _ r _. sep 𝓤 (sem 𝓛 (follows (Vr E) (R E) a.0.ghost_name r.ghost_name (with_item a.0.now (At a.0.now a.1.0)))) (fact 𝓤 (r.now ≡ get_or a.0.now.items (At a.0.now a.1.0) r.now)) }

module _ (E : El) {M : Type 1} {𝓤 : Ura M} (𝓛 : Logic 𝓤) (κ : Lft) (q : Share) (rb ro : ℕ) (γ : GName) (h : el_d E) (p : Ptr) where
  open 𝓛 use {H, A}

  abbrev bound : (walk_of 𝓛 (ended E) (stayed E) (spec E 𝓛)).Ghost
  bound = (((κ, tt), (q, tt), tt, (record { ref_ptr = (rb, ro); ghost_name = γ; now = h }, (p, tt)), (vptr rb ro ∷ [], (rawptr_vals p, tt))), tt)

  abbrev Post : Val → SProp 𝓤
  Post = (walk_of 𝓛 (ended E) (stayed E) (spec E 𝓛)).post bound

  abbrev n : ℕ
  n = el_len E h

  abbrev c : ℕ
  c = el_cap E h

  abbrev xs : List (el_x E)
  xs = el_items E h

  abbrev s : ℕ
  s = sz E

  abbrev i : ℕ
  i = At E h p

  module _ (b o : ℕ) where
    exits : (x : el_x E) → x ≡ get_or xs i x → (γ' : GName)
        → ent 𝓤 (sep 𝓤 (sem 𝓛 ((MutRef (named 0) κ (R E)).own_val (record { ref_ptr = (b, i * s + o); ghost_name = γ'; now = x }) (vptr b (i * s + o) ∷ []))) (sep 𝓤 (A.lft κ q) (sem 𝓛 (follows (Vr E) (R E) γ γ' (with_item h i))))) (Post (vptr b (i * s + o)))
    exits x e γ' =
        qed 𝓛 (‵ ((MutRef (named 0) κ (R E)).own_val (record { ref_ptr = (b, i * s + o); ghost_name = γ'; now = x }) (vptr b (i * s + o) ∷ [])) ∷ ‵ (flft κ q) ∷ ‵ (follows (Vr E) (R E) γ γ' (with_item h i)) ∷ []) ∵
        suffices ! _ (ends_at 𝓛 (ended E) (stayed E) (spec E 𝓛) bound (vptr b (i * s + o)) (record { ref_ptr = (b, i * s + o); ghost_name = γ'; now = x }) (tt, (tt, tt)) (tt, (tt, tt))) $
        nothing ! $ nothing ! $ fjoin ! $ nothing ! $ fjoin ! $ join ! $ nothing ! $ move ! (2 ∷ 0 ∷ []) $ join ! $ join ! $ frame ! $ says ! e $ done !

  module _ (C : Calls 𝓤 H) (Λ : Loops 𝓤 H) where
    walk : IsPlace s h.ptr n p → ent 𝓤 (on_entry 𝓛 (ended E).signature (κ, tt) (q, tt) (record { ref_ptr = (rb, ro); ghost_name = γ; now = h }, (p, tt)) (vptr rb ro ∷ [], (rawptr_vals p, tt))) (WpFn 𝓤 H C Λ (fn' E) (vptr rb ro ∷ ptr_val p ∷ []) Post)
    walk asked =
        let li : i < n = asked.within in
        let lens : n ≡ length xs = (el_ok E h).0 in
        let le : n ≤ c = (el_ok E h).1 in
        let pos : 0 < c = omega arith in
        let d : el_x E = hd xs (omega arith) in
        let x : el_x E = get_or xs i d in
        qed 𝓛 ((‵ (flft κ q) ⊛ ‵ ftrue) ∷ ‵ (owns (MutRef (named 0) κ (Vr E) ∷ RawPtr ∷ []) (record { ref_ptr = (rb, ro); ghost_name = γ; now = h }, (p, tt)) (vptr rb ro ∷ [], (rawptr_vals p, tt))) ∷ []) ∵
        enter ! C Λ (fn' E) (vptr rb ro ∷ ptr_val p ∷ []) _ $
        alloc_all ! (λ l. pass_all ! refl ((tt, tt), (Ptr-Good p, tt)) $
        let En : Env 𝓤 H = env (fn' E).locals l in
        move ! (1 ∷ []) $ fsplit ! $ fsplit3 ! $ drop ! $ move ! (3 ∷ []) $ split ! $ move ! (2 ∷ 3 ∷ 0 ∷ []) $
        vec_opens E ! tt h rb ro pos (λ b o hv at_b fl fc fit.
        sets ! (is ! (of_opd ! (get ! refl)) (ap ptr_val (asked.is ∙ place_in s h.ptr b o i at_b))) refl (tt, tt) $
        first ! $ blocks ! $
        sets_last ! (addr ! (through ! refl (stop !))) refl (tt, tt) $
        exec ! C Λ En (after 2 (fn' E).body) (at_ret En Post) $
        sets ! (of_opd ! (get ! refl)) refl (tt, tt) $
        group ! 7 $ use1 𝓛 (later (some (λ (γ' : GName). raw (Got E 𝓛 κ q rb ro γ h i b o x γ')))) (lends E 𝓛 κ q rb ro γ h i b o at_b li fl fc fit pos d) $ await ! tt $ pick ! (λ γ'.
        returns ! (look_at ! 0 refl) $ free_all ! refl $
        keep ! (0 ∷ []) $ by ! (exits b o x (any-default xs i d x (omega arith)) γ'))))

meets : (E : El) {M : Type 1} {𝓤 : Ura M} (𝓛 : Logic 𝓤) (𝓣 : Tables 𝓤 𝓛.H)
    → Meets 𝓛 (ended E).signature (WpFn 𝓤 𝓛.H 𝓣.C 𝓣.Λ (fn' E)) (closing 𝓛 (ended E) (spec E 𝓛))
meets E {𝓤 = 𝓤} 𝓛 𝓣 =
    walk_Meets 𝓛 (ended E) (stayed E) (Goes-spent_ref 𝓛 1 (0 ∷ []) tt (plain (λ _. Vr E)), (Goes-dropped 𝓛 1 (plain (λ _. RawPtr)) yes (λ κs x f. refl), tt)) (spec E 𝓛) (WpFn 𝓤 𝓛.H 𝓣.C 𝓣.Λ (fn' E)) (WpFn-mono 𝓤 𝓛.H 𝓛.laws 𝓣 (fn' E))
    (walked 𝓛 (ended E) (stayed E) (spec E 𝓛) (WpFn 𝓤 𝓛.H 𝓣.C 𝓣.Λ (fn' E)) (λ κs. (mut_vals, (rawptr_vals, tt))) (λ κs. (mut_Tells (named 0) κs.0 (Vr E), (rawptr_Tells, tt)))
    (λ κs qs bounds a g are. needs 𝓤 (IsPlace (sz E) a.0.now.ptr a.0.now.len a.1.0) _ (walk E 𝓛 κs.0 qs.0 a.0.ref_ptr.0 a.0.ref_ptr.1 a.0.ghost_name a.0.now a.1.0 𝓣.C 𝓣.Λ)))

pub follow_mut_spec : {M : Type 1} → stated.statement M
unfolding tables_of
follow_mut_spec 𝓤 𝓛 𝓜 𝓡 wired Y Z L LZ g d dd met md y =
    let E : El = record { row = Y; laws = L; al = record { row = Z; laws = LZ; g = g; d = d; drops = dd } } in
    let A = 𝓛.A in
    let 𝓣 : Tables 𝓤 𝓛.H = tables_of 𝓤 𝓛.H 𝓜 (tables 𝓤 𝓛.H 𝓜 𝓡 𝓡.env) in
    spared 𝓛 (ended E).signature (𝓡.run (𝓡.env (#self (args E)))) (run_framed 𝓤 𝓛.H 𝓜 𝓡 (𝓡.env (#self (args E)))) 2 (Y.lives, (Z.lives, tt)) (closing 𝓛 (ended E) (spec E 𝓛))
    (entered 𝓤 𝓛.H (triple_of 𝓛 (ended E).signature (closing 𝓛 (ended E) (spec E 𝓛))) 𝓣.C 𝓣.Λ (#self (args E)) (fn' E) (code.unfolded 𝓤 𝓛.H 𝓜 𝓡 wired (Y, (Z, tt)) d dd) (meets E 𝓛 𝓣))
    ((y.0.0, y.0.1, tt, y.0.3, y.0.4), y.1)
