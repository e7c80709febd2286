-- How runs of puts go together.
use Rattle.std.proofs.Common.{◌≡◌, inl, inr, ◌+◌, ◌≤◌, List, [], ◌∷◌, ◌++◌, length, take, fold, false, refl, sym, ◌∙◌, ap, subst, arith, length-append}
use Rattle.std.proofs.lemmas.Bool.{cases_Bool, true≢false}
use Rattle.std.proofs.lemmas.List.{take-append-le}
use Rattle.std.proofs.lemmas.List.Sums.{fold-append}
use Rattle.std.proofs.Math.Seq.{take-append-add}
use Rattle.gx_base.specs.Emits.{EmitMeanings, Puts, Emits}
use Rattle.gx_base.specs.declared.event.Event.{Event}

module _ {E : Type 0} (m : EmitMeanings E) where
  -- nothing was put
  pub emits_none : (a : E) → Emits m a a []
  emits_none a = record {
    later = m.later_itself a;
    all = λ _. refl;
    part = λ _. (0, omega arith, m.part_itself (m.seen a));
    stays = λ failed. refl;
  }

  pub emits_one : (a b : E) (x : Event) → Puts m a b x → Emits m a b (x ∷ [])
  emits_one a b x put = record {
    later = put.later;
    all = put.done;
    part = λ failed. elim (cases_Bool (m.has_failed a)) [
      | inl was ↦ (0, omega arith, subst (λ s. m.IsPart (m.seen b) s) (ap m.seen (put.stays was)) (m.part_itself (m.seen b)))
      | inr was_not ↦ (1, omega arith, put.cut was_not failed)
    ];
    stays = put.stays;
  }

  -- some events, and then some more
  pub emits_joined : (a b c : E) (xs ys : List Event) → Emits m a b xs → Emits m b c ys → Emits m a c (xs ++ ys)
  emits_joined a b c xs ys first second = record {
    later = m.later_then a b c first.later second.later;
    all = λ ok. elim (cases_Bool (m.has_failed b)) [
      | inl was ↦ absurd (true≢false (sym (ap m.has_failed (second.stays was) ∙ was) ∙ ok))
      | inr was_not ↦ second.all ok ∙ behind was_not ys
    ];
    part = λ failed. elim (cases_Bool (m.has_failed b)) [
      | inl was ↦
          let p = first.part was in
          let lt : p.0 ≤ length (xs ++ ys) = omega (arith, p.1, length-append xs ys) in
          let front : take p.0 (xs ++ ys) ≡ take p.0 xs = take-append-le p.0 xs ys p.1 in
          (p.0, lt, subst (λ s. m.IsPart s (fold (m.after a) (m.seen a) (take p.0 (xs ++ ys)))) (ap m.seen (sym (second.stays was))) (subst (λ (l : List Event). m.IsPart (m.seen b) (fold (m.after a) (m.seen a) l)) (sym front) p.2))
      | inr was_not ↦
          let p = second.part failed in
          let lt : length xs + p.0 ≤ length (xs ++ ys) = omega (arith, p.1, length-append xs ys) in
          let whole : fold (m.after b) (m.seen b) (take p.0 ys) ≡ fold (m.after a) (m.seen a) (take (length xs + p.0) (xs ++ ys)) =
          behind was_not (take p.0 ys) ∙ ap (λ (l : List Event). fold (m.after a) (m.seen a) l) (sym (take-append-add xs ys p.0)) in
          (length xs + p.0, lt, subst (λ s. m.IsPart (m.seen c) s) whole p.2)
    ];
    stays = λ was.
        let p = first.stays was in
        let q = second.stays (ap m.has_failed p ∙ was) in
        q ∙ p;
  }
    where
      same_rule : m.after b ≡ m.after a
      same_rule = m.after_stays a b first.later

      -- what is seen after the first events, and then after these
      behind : m.has_failed b ≡ false → (zs : List Event) → fold (m.after b) (m.seen b) zs ≡ fold (m.after a) (m.seen a) (xs ++ zs)
      behind going zs =
          ap (λ f. fold f (m.seen b) zs) same_rule ∙ ap (λ s. fold (m.after a) s zs) (first.all going) ∙ sym (fold-append (m.after a) (m.seen a) xs zs)

  pub emits_as : (a b : E) (xs ys : List Event) → xs ≡ ys → Emits m a b xs → Emits m a b ys
  emits_as a b xs ys same run = subst (λ (l : List Event). Emits m a b l) same run
