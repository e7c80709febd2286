-- `is_same` compares two pointers into one block, which its `requires` allows.
use Rattle.std.proofs.Common.{◌≡◌, ◌≢◌, ℕ, Bool, true, false, List, [], ◌∷◌, ◌++◌, refl, sym, ap, subst, inl, inr}
use Rattle.std.specs.Prelude.{MatchBool}
use Rattle.std.proofs.lemmas.Bool.Decides.{eqb_tells}
use seplogic.Ra.Ura.{Ura}
use lib.Dec.{T, lit<}
use mir.Syntax.{Fn, a_type, ty_ptr, ptr_eq}
use mir.Val.{Val, vbool, vptr, op2_val, has_ty, WT, ptr_eq_ok}
use mir.MapTy.{inst_fn}
use base.Logic.{SProp, ent, via, fst∗, snd∗}
use base.Fml.{ftrue}
use prog.Memory.{Memory}
use prog.Routine.{Routine}
use prog.Wp.{Calls, Loops, WpFn, Tables}
use types.Logic.{Logic, sem}
use contract.BorrowLft.{◌⊑◌}
use contract.Monad.{Fun, fact_use}
use contract.Running.{tables, tables_of}
use sound.WpLaws.{WpFn-mono}
use types.Kit.{‵, raw, ◌⊛◌, ◌$◌, ◌∵◌, !, qed, given, learn, move, keep, drop, split, join, fjoin, feq_i, suffices, done}
use types.Run.{bin, returns, enter}
use types.ByLocal.{alloc_all, pass_all, free_all, look_at, get, is, sets}
use denote.RattleType.{RattleType, owns}
use denote.Exit.{yes}
use denote.Laws.{Are, Ises, owns_show, showss}
use denote.Param.{layouts}
use denote.Param.Laws.{Laws}
use denote.RawPtr.{Ptr, RawPtr, block_ptr, null_ptr, ptr_val, count_of, tests_same}
use denote.Signature.{types_at, plain}
use denote.Steps.{nothing}
use denote.Triple.Clauses.{Clauses, closing}
use denote.Triple.Entry.{on_entry, alive}
use denote.Triple.Spec.{Meets, triple_of}
use denote.Triple.Table.{entered}
use denote.Triple.Walked.{Stays, stay_dropped, walk_of, ends_at, Goes-dropped, walk_Meets, says}
use Rattle.order_pool.specs.Inner.Places.{AreNear}
use Rattle.order_pool.specs.contracts.pointer.is_same.{ended, clauses}
use Rattle.order_pool.specs.contracts.pointer.is_same.Key.{name as #self}
use Rattle.order_pool.proofs.pointer.is_same.Statement as stated
use Rattle.order_pool.proofs.pointer.is_same.Code as code

typed : (s : Ptr) → T (has_ty ty_ptr (ptr_val s)) × WT (ptr_val s)
typed (block_ptr b o) = (tt, tt)
typed null_ptr = (tt, record { fits = lit< tt })

answer : (p q : Ptr) → AreNear p q → (y : Bool) × (op2_val ptr_eq (ptr_val p) (ptr_val q) ≡ vbool y) × MatchBool y (p ≡ q) (p ≢ q)
answer (block_ptr b o) (block_ptr c k) near =
    elim (eqb_tells o k) [
      | inl t ↦ (true, ap vbool t.0, (λ j. block_ptr (near.block j) (t.1 j)))
      | inr t ↦ (false, ap vbool t.0, (λ e. t.1 (ap count_of e)))
    ]
answer (block_ptr b o) null_ptr near = absurd near.q_in
answer null_ptr q near = absurd near.p_in

allowed : (p q : Ptr) → AreNear p q → T (ptr_eq_ok (ptr_val p) (ptr_val q))
allowed (block_ptr b o) (block_ptr c k) near = subst (λ (d : ℕ). T (ptr_eq_ok (vptr b o) (vptr d k))) near.block (tests_same b o k near.below near.above)
allowed (block_ptr b o) null_ptr near = absurd near.q_in
allowed null_ptr q near = absurd near.p_in

module _ (Y : RattleType) where
  abbrev function : Fn
  function = inst_fn (layouts (a_type ∷ []) (Y, tt)) code.function

  abbrev stayed : Stays (ended Y).signature.params (ended Y).kept
  stayed = (stay_dropped (plain (λ _. RawPtr)) yes, (stay_dropped (plain (λ _. RawPtr)) yes, tt))

module _ (Y : RattleType) (L : Laws Y) {M : Type 1} {𝓤 : Ura M} (𝓛 : Logic 𝓤) (at_mem : Memory → SProp 𝓤) (run : Routine → Fun 𝓤) where
  open 𝓛 use {H}

  abbrev held : Clauses 𝓤 (ended Y)
  held = clauses Y 𝓛 at_mem run

  module _ (C : Calls 𝓤 H) (Λ : Loops 𝓤 H) (z : (walk_of 𝓛 (ended Y) (stayed Y) held).Ghost) where
    abbrev At : List Val → List Val → (walk_of 𝓛 (ended Y) (stayed Y) held).Ghost
    At us vs = ((z.0.0, z.0.1, z.0.2, z.0.3, (us, (vs, tt))), z.1)

    abbrev Post : List Val → List Val → Val → SProp 𝓤
    Post us vs = (walk_of 𝓛 (ended Y) (stayed Y) held).post (At us vs)

    abbrev Goes : List Val → List Val → Type 1
    Goes us vs = ent 𝓤 ((walk_of 𝓛 (ended Y) (stayed Y) held).pre (At us vs)) (WpFn 𝓤 H C Λ (function Y) (us ++ (vs ++ [])) (Post us vs))

    abbrev p : Ptr
    p = z.0.3.0

    abbrev q : Ptr
    q = z.0.3.1.0

    abbrev toks : SProp 𝓤
    toks = alive 𝓛 (ended Y).signature z.0.0 z.0.1

    walks : Goes (ptr_val p ∷ []) (ptr_val q ∷ [])
    walks =
        qed 𝓛 ((raw toks ⊛ ‵ (owns (RawPtr ∷ RawPtr ∷ []) z.0.3 (ptr_val p ∷ [], (ptr_val q ∷ [], tt)))) ∷ (given (z.0.0.0 ⊑ Y.lives) (‵ ftrue) ⊛ given (AreNear p q) (‵ ftrue)) ∷ []) ∵
        split ! $ move ! (2 ∷ []) $ split ! $ drop ! $ learn ! (λ near. keep ! (1 ∷ []) $
        let got = answer p q near in
        enter ! C Λ (function Y) (ptr_val p ∷ ptr_val q ∷ []) _ $ alloc_all ! (λ l. pass_all ! refl (typed p, (typed q, tt)) $
        sets ! (is ! (bin ! (get ! refl) (get ! refl) (allowed p q near)) got.1) refl (tt, tt) $
        returns ! (look_at ! 0 refl) $ free_all ! refl $ feq_i ! (List Val) (vbool got.0 ∷ []) (vbool got.0 ∷ []) refl $
        suffices ! _ (ends_at 𝓛 (ended Y) (stayed Y) held (At (ptr_val p ∷ []) (ptr_val q ∷ [])) (vbool got.0) got.0 (tt, (tt, tt)) (tt, (tt, tt))) $ says ! got.2 $
        nothing ! $ nothing ! $ fjoin ! $ nothing ! $ fjoin ! $ join ! $ move ! (1 ∷ 0 ∷ []) $ join ! $ done !))

  meets : (𝓣 : Tables 𝓤 H) → Meets 𝓛 (ended Y).signature (WpFn 𝓤 H 𝓣.C 𝓣.Λ (function Y)) (closing 𝓛 (ended Y) held)
  meets 𝓣 =
      walk_Meets 𝓛 (ended Y) (stayed Y) (Goes-dropped 𝓛 1 (plain (λ _. RawPtr)) yes (λ κs x f. refl), (Goes-dropped 𝓛 1 (plain (λ _. RawPtr)) yes (λ κs x f. refl), tt)) held
      (WpFn 𝓤 H 𝓣.C 𝓣.Λ (function Y)) (WpFn-mono 𝓤 H 𝓛.laws 𝓣 (function Y))
      (λ z. let a = z.0.3 in let vss = z.0.4 in let Rs : List RattleType = types_at (ended Y).signature.params z.0.0 in
      fact_use 𝓤 (Are Rs (Ises Rs) a vss) (via 𝓤 (sem 𝓛 (owns Rs a vss)) (via 𝓤 (on_entry 𝓛 (ended Y).signature z.0.0 z.0.1 a vss) (fst∗ 𝓤 (on_entry 𝓛 (ended Y).signature z.0.0 z.0.1 a vss) ((held z.0.0 a).requires z.1)) (snd∗ 𝓤 (alive 𝓛 (ended Y).signature z.0.0 z.0.1) (sem 𝓛 (owns Rs a vss)))) (owns_show 𝓛 Rs (Ises Rs) (showss 𝓛 Rs) a vss)) (λ are.
      subst (λ (us : List Val). Goes 𝓣.C 𝓣.Λ z us vss.1.0) (sym are.0) (subst (Goes 𝓣.C 𝓣.Λ z (ptr_val a.0 ∷ [])) (sym are.1.0) (walks 𝓣.C 𝓣.Λ z))))

pub is_same_spec : {M : Type 1} → stated.statement M
unfolding tables_of
is_same_spec 𝓤 𝓛 𝓜 𝓡 wired Y laws =
    let A = 𝓛.A in
    let 𝓣 : Tables 𝓤 𝓛.H = tables_of 𝓤 𝓛.H 𝓜 (tables 𝓤 𝓛.H 𝓜 𝓡 𝓡.env) in
    entered 𝓤 𝓛.H (triple_of 𝓛 (ended Y).signature (closing 𝓛 (ended Y) (clauses Y 𝓛 𝓜.mem 𝓡.returns))) 𝓣.C 𝓣.Λ (#self (layouts (a_type ∷ []) (Y, tt))) (function Y) (code.unfolded 𝓤 𝓛.H 𝓜 𝓡 wired (Y, tt))
    (meets Y laws 𝓛 𝓜.mem 𝓡.returns 𝓣)
