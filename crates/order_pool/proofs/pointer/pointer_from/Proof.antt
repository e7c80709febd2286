-- `pointer_from` adds to a pointer within a Vec's block, for every element type.
use Rattle.std.proofs.Common.{◌≡◌, ℕ, ◌+◌, ◌*◌, ◌<◌, ◌≤◌, ◌^◌, List, [], ◌∷◌, refl, sym, ap, ◌∙◌, w64}
use denote.Plain.{uint_vals, uint_Tells}
use seplogic.Ra.Ura.{Ura}
use mir.Syntax.{Fn, named}
use mir.MapTy.{inst_fn}
use mir.Val.{Val, vint, vptr}
use base.Logic.{SProp, ent, sep}
use base.Fml.{Lft, Share, ftrue, flft}
use prog.Wp.{Env, Calls, Loops, WpFn, Tables}
use types.Logic.{Logic}
use contract.Monad.{fact}
use contract.Running.{tables, tables_of}
use sound.WpLaws.{WpFn-mono}
use types.Kit.{‵, ◌⊛◌, at_ret, ◌$◌, ◌∵◌, !, qed, move, keep, drop, split, join, fsplit, fjoin, feq_i, suffices, done}
use types.Run.{of_opd, bin, size_lit, first, blocks, exec, returns, enter}
use types.ByLocal.{alloc_all, pass_all, free_all, look_at, get, sets, sets_last, is, env}
use denote.Exit.{yes}
use denote.RattleType.{owns}
use denote.RawPtr.{Ptr, InBlock, block_ptr, RawPtr, ptr_val, block_of, count_of, at_block, rawptr_vals, rawptr_Tells}
use denote.Ref.{Bor, ShrRef, shr_vals, shr_Tells}
use denote.Builtin.{RefOf, usize}
use denote.Signature.{plain}
use denote.Steps.{nothing}
use denote.Triple.Carry.{spared}
use denote.Triple.Clauses.{Clauses, Ended, closing}
use denote.Triple.Entry.{on_entry}
use denote.Triple.Spec.{Meets, triple_of}
use denote.Triple.Table.{entered, run_framed}
use denote.Triple.Walked.{needs, Stays, stay_dropped, walk_of, ends_at, walked, Goes-dropped, walk_Meets}
use Rattle.std.proofs.VecSteps.El.{El, args, el_d, Vr, sz, wider}
use Rattle.std.proofs.VecSteps.Facts.{Says-All, and_fact, last_fact}
use Rattle.std.proofs.VecSteps.Shapes.{after}
use Rattle.std.proofs.RcSteps.{Ptr-Good}
use Rattle.order_pool.specs.Inner.Places.{place}
use Rattle.order_pool.proofs.Places.{place_in, times_below}
use Rattle.order_pool.proofs.Lent.{elements_seen}
use Rattle.order_pool.specs.contracts.pointer.pointer_from.Key.{name as #self}
use Rattle.order_pool.proofs.pointer.pointer_from.Statement as stated
use Rattle.order_pool.proofs.pointer.pointer_from.Code as code

module _ (E : El) where
  abbrev fn' : Fn
  fn' = inst_fn (args E) code.function

  abbrev ended : Ended
  ended = record { signature = record { lifetimes = 1; outlives = []; params = RefOf (0 ∷ []) tt (plain (λ _. Vr E)) (λ _. tt) ∷ plain (λ _. RawPtr) ∷ plain (λ _. usize) ∷ []; result = plain (λ _. RawPtr) }; kept = (yes, (yes, (yes, tt))) }

  abbrev stayed : Stays ended.signature.params ended.kept
  stayed = (stay_dropped (RefOf (0 ∷ []) tt (plain (λ _. Vr E)) (λ _. tt)) yes, (stay_dropped (plain (λ _. RawPtr)) yes, (stay_dropped (plain (λ _. usize)) yes, tt)))

  abbrev spec : {M : Type 1} (𝓤 : Ura M) → Clauses 𝓤 ended
  spec 𝓤 κs a = record { ghost = Unit {0}; requires = λ _. fact 𝓤 ((a.1.0 ≡ a.0.now.ptr) × (a.1.1.0 ≤ a.0.now.cap) × (sz E < 2 ^ 64)); ensures = λ _ r _. sep 𝓤 (fact 𝓤 (r ≡ place (sz E) a.0.now.ptr a.1.1.0)) (sep 𝓤 (fact 𝓤 (InBlock a.0.now.ptr)) (fact 𝓤 (a.0.now.cap * sz E < 2 ^ 63))) }

module _ (E : El) {M : Type 1} {𝓤 : Ura M} (𝓛 : Logic 𝓤) (κ : Lft) (q : Share) (rb ro : ℕ) (h : el_d E) (p : Ptr) (i : ℕ) (fi : i < 2 ^ 64) where
  open 𝓛 use {H}

  abbrev self : Bor (el_d E)
  self = record { ref_ptr = (rb, ro); now = h }

  abbrev bound : (walk_of 𝓛 (ended E) (stayed E) (spec E 𝓤)).Ghost
  bound = (((κ, tt), (q, tt), tt, (self, (p, (i, tt))), (vptr rb ro ∷ [], (rawptr_vals p, (uint_vals w64 i, tt)))), tt)

  abbrev Post : Val → SProp 𝓤
  Post = (walk_of 𝓛 (ended E) (stayed E) (spec E 𝓤)).post bound

  module _ (C : Calls 𝓤 H) (Λ : Loops 𝓤 H) where
    walk : (p ≡ h.ptr) × (i ≤ h.cap) × (sz E < 2 ^ 64) → ent 𝓤 (on_entry 𝓛 (ended E).signature (κ, tt) (q, tt) (self, (p, (i, tt))) (vptr rb ro ∷ [], (rawptr_vals p, (uint_vals w64 i, tt)))) (WpFn 𝓤 H C Λ (fn' E) (vptr rb ro ∷ ptr_val p ∷ vint w64 i ∷ []) Post)
    walk asked =
        let s : ℕ = sz E in
        let b : ℕ = block_of h.ptr in
        let o : ℕ = count_of h.ptr in
        qed 𝓛 ((‵ (flft κ q) ⊛ ‵ ftrue) ∷ ‵ (owns (ShrRef (named 0) κ (Vr E) ∷ RawPtr ∷ usize ∷ []) (self, (p, (i, tt))) (vptr rb ro ∷ [], (rawptr_vals p, (uint_vals w64 i, tt)))) ∷ []) ∵
        enter ! C Λ (fn' E) (vptr rb ro ∷ ptr_val p ∷ vint w64 i ∷ []) _ $
        alloc_all ! (λ l. pass_all ! refl ((tt, tt), (Ptr-Good p, ((tt, record { fits = fi }), tt))) $
        let En : Env 𝓤 H = env (fn' E).locals l in
        split ! $ move ! (2 ∷ []) $ fsplit ! $ fsplit ! $ drop ! $
        elements_seen E ! κ h rb ro (λ fit inb.
        let at_b : h.ptr ≡ block_ptr b o = at_block h.ptr inb in
        let tiny : s < 2 ^ 64 = asked.2 in
        let fmi : i * s < 2 ^ 64 = wider (i * s) (times_below i h.cap s (2 ^ 63) asked.1 fit) in
        -- [the elements; what p and i own; the token; true; the locals]
        sets ! (is ! (of_opd ! (get ! refl)) (ap ptr_val (asked.0 ∙ at_b))) refl (tt, tt) $
        first ! $ blocks ! $
        sets ! (of_opd ! (get ! refl)) refl (tt, tt) $
        sets ! (of_opd ! (get ! refl)) refl (tt, record { fits = fi }) $
        sets ! (bin ! (get ! refl) (size_lit ! (record { fits = tiny })) (record { fits = fmi })) refl (tt, record { fits = fmi }) $
        sets_last ! (bin ! (get ! refl) (get ! refl) tt) refl (tt, tt) $
        exec ! C Λ En (after 2 (fn' E).body) (at_ret En Post) $
        sets ! (of_opd ! (get ! refl)) refl (tt, tt) $
        sets ! (of_opd ! (get ! refl)) refl (tt, tt) $
        returns ! (look_at ! 0 refl) $ free_all ! refl $ keep ! (2 ∷ []) $
        suffices ! _ (ends_at 𝓛 (ended E) (stayed E) (spec E 𝓤) bound (vptr b (i * s + o)) (block_ptr b (i * s + o)) (tt, (tt, (tt, tt))) (tt, (tt, (tt, tt)))) $ Says-All ! (and_fact 𝓤 (sym (place_in s h.ptr b o i at_b)) (and_fact 𝓤 inb (last_fact 𝓤 fit))) $
        feq_i ! (List Val) (vptr b (i * s + o) ∷ []) (vptr b (i * s + o) ∷ []) refl $
        nothing ! $ nothing ! $ fjoin ! $ nothing ! $ fjoin ! $ nothing ! $ fjoin ! $
        nothing ! $ move ! (3 ∷ 0 ∷ []) $ join ! $ done !))

meets : (E : El) {M : Type 1} {𝓤 : Ura M} (𝓛 : Logic 𝓤) (𝓣 : Tables 𝓤 𝓛.H)
    → Meets 𝓛 (ended E).signature (WpFn 𝓤 𝓛.H 𝓣.C 𝓣.Λ (fn' E)) (closing 𝓛 (ended E) (spec E 𝓤))
meets E {𝓤 = 𝓤} 𝓛 𝓣 =
    walk_Meets 𝓛 (ended E) (stayed E) (Goes-dropped 𝓛 1 (RefOf (0 ∷ []) tt (plain (λ _. Vr E)) (λ _. tt)) yes (λ κs x f. refl), (Goes-dropped 𝓛 1 (plain (λ _. RawPtr)) yes (λ κs x f. refl), (Goes-dropped 𝓛 1 (plain (λ _. usize)) yes (λ κs x f. refl), tt))) (spec E 𝓤) (WpFn 𝓤 𝓛.H 𝓣.C 𝓣.Λ (fn' E)) (WpFn-mono 𝓤 𝓛.H 𝓛.laws 𝓣 (fn' E))
    (walked 𝓛 (ended E) (stayed E) (spec E 𝓤) (WpFn 𝓤 𝓛.H 𝓣.C 𝓣.Λ (fn' E)) (λ κs. (shr_vals, (rawptr_vals, (uint_vals w64, tt)))) (λ κs. (shr_Tells (named 0) κs.0 (Vr E), (rawptr_Tells, (uint_Tells w64, tt))))
    (λ κs qs bounds a g are. needs 𝓤 ((a.1.0 ≡ a.0.now.ptr) × (a.1.1.0 ≤ a.0.now.cap) × (sz E < 2 ^ 64)) _ (walk E 𝓛 κs.0 qs.0 a.0.ref_ptr.0 a.0.ref_ptr.1 a.0.now a.1.0 a.1.1.0 are.1.1.0.1 𝓣.C 𝓣.Λ)))

pub pointer_from_spec : {M : Type 1} → stated.statement M
unfolding tables_of
pointer_from_spec 𝓤 𝓛 𝓜 𝓡 wired Y Z L LZ g d dd met md y =
    let E : El = record { row = Y; laws = L; al = record { row = Z; laws = LZ; g = g; d = d; drops = dd } } in
    let A = 𝓛.A in
    let 𝓣 : Tables 𝓤 𝓛.H = tables_of 𝓤 𝓛.H 𝓜 (tables 𝓤 𝓛.H 𝓜 𝓡 𝓡.env) in
    spared 𝓛 (ended E).signature (𝓡.run (𝓡.env (#self (args E)))) (run_framed 𝓤 𝓛.H 𝓜 𝓡 (𝓡.env (#self (args E)))) 2 (Y.lives, (Z.lives, tt)) (closing 𝓛 (ended E) (spec E 𝓤))
    (entered 𝓤 𝓛.H (triple_of 𝓛 (ended E).signature (closing 𝓛 (ended E) (spec E 𝓤))) 𝓣.C 𝓣.Λ (#self (args E)) (fn' E) (code.unfolded 𝓤 𝓛.H 𝓜 𝓡 wired (Y, (Z, tt)) d dd) (meets E 𝓛 𝓣))
    ((y.0.0, y.0.1, tt, y.0.3, y.0.4), y.1)
