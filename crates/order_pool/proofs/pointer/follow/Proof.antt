-- `follow` hands on the `&` to the element at a pointer, for every element type.
use Rattle.std.proofs.Common.{◌≡◌, ℕ, ◌+◌, ◌*◌, ◌<◌, List, [], ◌∷◌, length, get_or, refl, ap, ◌∙◌, arith}
use seplogic.Ra.Ura.{Ura}
use mir.Syntax.{Fn, named}
use mir.MapTy.{inst_fn}
use mir.Val.{Val, vptr}
use base.Logic.{SProp, ent}
use base.Fml.{Lft, Share, ftrue, flft}
use prog.Wp.{Env, Calls, Loops, WpFn, Tables}
use types.Logic.{Logic}
use contract.Monad.{fact}
use contract.Running.{tables, tables_of}
use sound.WpLaws.{WpFn-mono}
use types.Kit.{‵, ◌⊛◌, at_ret, ◌$◌, ◌∵◌, !, qed, move, keep, use1, drop, split, join, fsplit, fjoin, feq_i, suffices, done}
use types.Run.{stop, addr, of_opd, first, blocks, exec, returns, enter}
use types.ByLocal.{alloc_all, pass_all, free_all, look_at, get, through, sets, sets_last, is, env}
use denote.Exit.{yes}
use denote.RattleType.{owns}
use denote.Memory.{hidden_shr}
use denote.RawPtr.{Ptr, RawPtr, ptr_val, block_of, count_of, at_block, rawptr_vals, rawptr_Tells}
use denote.Ref.{Bor, ShrRef, shr_vals, shr_Tells}
use denote.Builtin.{RefOf}
use denote.Signature.{plain}
use denote.Steps.{nothing}
use denote.Triple.Carry.{spared}
use denote.Triple.Clauses.{Clauses, Ended, closing}
use denote.Triple.Entry.{on_entry}
use denote.Triple.Spec.{Meets, triple_of}
use denote.Triple.Table.{entered, run_framed}
use denote.Triple.Walked.{says, needs, Stays, stay_dropped, walk_of, ends_at, walked, Goes-dropped, walk_Meets}
use Rattle.std.proofs.VecSteps.El.{El, args, el_x, el_d, R, Vr, sz}
use Rattle.std.proofs.VecSteps.Shapes.{after}
use Rattle.std.proofs.RcSteps.{Ptr-Good}
use Rattle.std.proofs.SliceLists.{hd, any-default}
use Rattle.order_pool.specs.Inner.Places.{index_of, IsPlace}
use Rattle.order_pool.proofs.Places.{place_in}
use Rattle.order_pool.proofs.Lent.{element_lent, elements_seen}
use Rattle.order_pool.specs.contracts.pointer.follow.Key.{name as #self}
use Rattle.order_pool.proofs.pointer.follow.Statement as stated
use Rattle.order_pool.proofs.pointer.follow.Code as code

module _ (E : El) where
  abbrev fn' : Fn
  fn' = inst_fn (args E) code.function

  abbrev ended : Ended
  ended = record { signature = record { lifetimes = 1; outlives = []; params = RefOf (0 ∷ []) tt (plain (λ _. Vr E)) (λ _. tt) ∷ plain (λ _. RawPtr) ∷ []; result = RefOf (0 ∷ []) tt (plain (λ _. R E)) (λ _. tt) }; kept = (yes, (yes, tt)) }

  abbrev stayed : Stays ended.signature.params ended.kept
  stayed = (stay_dropped (RefOf (0 ∷ []) tt (plain (λ _. Vr E)) (λ _. tt)) yes, (stay_dropped (plain (λ _. RawPtr)) yes, tt))

  abbrev At : el_d E → Ptr → ℕ
  At h p = index_of (sz E) h.ptr p

  abbrev spec : {M : Type 1} (𝓤 : Ura M) → Clauses 𝓤 ended
  spec 𝓤 κs a = record { ghost = Unit {0}; requires = λ _. fact 𝓤 (IsPlace (sz E) a.0.now.ptr a.0.now.len a.1.0); ensures = λ _ r _. fact 𝓤 (r.now ≡ get_or a.0.now.items (At a.0.now a.1.0) r.now) }

module _ (E : El) {M : Type 1} {𝓤 : Ura M} (𝓛 : Logic 𝓤) (κ : Lft) (q : Share) (rb ro : ℕ) (h : el_d E) (p : Ptr) where
  open 𝓛 use {H}

  abbrev self : Bor (el_d E)
  self = record { ref_ptr = (rb, ro); now = h }

  abbrev bound : (walk_of 𝓛 (ended E) (stayed E) (spec E 𝓤)).Ghost
  bound = (((κ, tt), (q, tt), tt, (self, (p, tt)), (vptr rb ro ∷ [], (rawptr_vals p, tt))), tt)

  abbrev Post : Val → SProp 𝓤
  Post = (walk_of 𝓛 (ended E) (stayed E) (spec E 𝓤)).post bound

  abbrev xs : List (el_x E)
  xs = h.items

  abbrev i : ℕ
  i = At E h p

  module _ (C : Calls 𝓤 H) (Λ : Loops 𝓤 H) where
    walk : IsPlace (sz E) h.ptr h.len p → ent 𝓤 (on_entry 𝓛 (ended E).signature (κ, tt) (q, tt) (self, (p, tt)) (vptr rb ro ∷ [], (rawptr_vals p, tt))) (WpFn 𝓤 H C Λ (fn' E) (vptr rb ro ∷ ptr_val p ∷ []) Post)
    walk asked =
        let within : i < h.len = asked.within in
        let lens : h.len ≡ length xs = h.ok.0 in
        let li : i < length xs = omega arith in
        let d : el_x E = hd xs (omega arith) in
        let x : el_x E = get_or xs i d in
        let b : ℕ = block_of h.ptr in
        let o : ℕ = i * sz E + count_of h.ptr in
        qed 𝓛 ((‵ (flft κ q) ⊛ ‵ ftrue) ∷ ‵ (owns (ShrRef (named 0) κ (Vr E) ∷ RawPtr ∷ []) (self, (p, tt)) (vptr rb ro ∷ [], (rawptr_vals p, tt))) ∷ []) ∵
        enter ! C Λ (fn' E) (vptr rb ro ∷ ptr_val p ∷ []) _ $
        alloc_all ! (λ l. pass_all ! refl ((tt, tt), (Ptr-Good p, tt)) $
        let En : Env 𝓤 H = env (fn' E).locals l in
        split ! $ move ! (2 ∷ []) $ fsplit ! $ fsplit ! $ drop ! $
        elements_seen E ! κ h rb ro (λ fit inb.
        use1 𝓛 (‵ (hidden_shr (R E) κ x b o)) (element_lent E 𝓛 κ xs i d b (count_of h.ptr) li) $
        -- [the `&` to the element; what p owns; the token; true; the locals]
        sets ! (is ! (of_opd ! (get ! refl)) (ap ptr_val (asked.is ∙ place_in (sz E) h.ptr b (count_of h.ptr) i (at_block h.ptr inb)))) refl (tt, tt) $
        first ! $ blocks ! $
        sets_last ! (addr ! (through ! refl (stop !))) refl (tt, tt) $
        exec ! C Λ En (after 2 (fn' E).body) (at_ret En Post) $
        sets ! (of_opd ! (get ! refl)) refl (tt, tt) $
        returns ! (look_at ! 0 refl) $ free_all ! refl $ keep ! (0 ∷ 2 ∷ []) $
        suffices ! _ (ends_at 𝓛 (ended E) (stayed E) (spec E 𝓤) bound (vptr b o) (record { ref_ptr = (b, o); now = x }) (tt, (tt, tt)) (tt, (tt, tt))) $ says ! (any-default xs i d x li) $
        feq_i ! (List Val) (vptr b o ∷ []) (vptr b o ∷ []) refl $ fjoin ! $
        nothing ! $ nothing ! $ fjoin ! $ nothing ! $ fjoin ! $
        nothing ! $ move ! (3 ∷ 0 ∷ []) $ join ! $ done !))

meets : (E : El) {M : Type 1} {𝓤 : Ura M} (𝓛 : Logic 𝓤) (𝓣 : Tables 𝓤 𝓛.H)
    → Meets 𝓛 (ended E).signature (WpFn 𝓤 𝓛.H 𝓣.C 𝓣.Λ (fn' E)) (closing 𝓛 (ended E) (spec E 𝓤))
meets E {𝓤 = 𝓤} 𝓛 𝓣 =
    walk_Meets 𝓛 (ended E) (stayed E) (Goes-dropped 𝓛 1 (RefOf (0 ∷ []) tt (plain (λ _. Vr E)) (λ _. tt)) yes (λ κs x f. refl), (Goes-dropped 𝓛 1 (plain (λ _. RawPtr)) yes (λ κs x f. refl), tt)) (spec E 𝓤) (WpFn 𝓤 𝓛.H 𝓣.C 𝓣.Λ (fn' E)) (WpFn-mono 𝓤 𝓛.H 𝓛.laws 𝓣 (fn' E))
    (walked 𝓛 (ended E) (stayed E) (spec E 𝓤) (WpFn 𝓤 𝓛.H 𝓣.C 𝓣.Λ (fn' E)) (λ κs. (shr_vals, (rawptr_vals, tt))) (λ κs. (shr_Tells (named 0) κs.0 (Vr E), (rawptr_Tells, tt)))
    (λ κs qs bounds a g are. needs 𝓤 (IsPlace (sz E) a.0.now.ptr a.0.now.len a.1.0) _ (walk E 𝓛 κs.0 qs.0 a.0.ref_ptr.0 a.0.ref_ptr.1 a.0.now a.1.0 𝓣.C 𝓣.Λ)))

pub follow_spec : {M : Type 1} → stated.statement M
unfolding tables_of
follow_spec 𝓤 𝓛 𝓜 𝓡 wired Y Z L LZ g d dd met md y =
    let E : El = record { row = Y; laws = L; al = record { row = Z; laws = LZ; g = g; d = d; drops = dd } } in
    let A = 𝓛.A in
    let 𝓣 : Tables 𝓤 𝓛.H = tables_of 𝓤 𝓛.H 𝓜 (tables 𝓤 𝓛.H 𝓜 𝓡 𝓡.env) in
    spared 𝓛 (ended E).signature (𝓡.run (𝓡.env (#self (args E)))) (run_framed 𝓤 𝓛.H 𝓜 𝓡 (𝓡.env (#self (args E)))) 2 (Y.lives, (Z.lives, tt)) (closing 𝓛 (ended E) (spec E 𝓤))
    (entered 𝓤 𝓛.H (triple_of 𝓛 (ended E).signature (closing 𝓛 (ended E) (spec E 𝓤))) 𝓣.C 𝓣.Λ (#self (args E)) (fn' E) (code.unfolded 𝓤 𝓛.H 𝓜 𝓡 wired (Y, (Z, tt)) d dd) (meets E 𝓛 𝓣))
    ((y.0.0, y.0.1, tt, y.0.3, y.0.4), y.1)
