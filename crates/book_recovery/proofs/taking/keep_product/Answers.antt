use Rattle.std.proofs.Common.{◌≡◌, ◌-◌, length, List, Some, refl, sym, subst, ◌∙◌, ap}
use Rattle.std.specs.List.{slice_get}
use Rattle.product_file.specs.Products.{ProductLists}
use Rattle.product_file.specs.Amendments.{may_follow}
use Rattle.book_recovery.specs.Histories.{FollowEachOther}
use Rattle.book_recovery.specs.Inner.Keeping.{FollowsLast}
use Rattle.book_recovery.proofs.ProductsTaken.{follow-push, follows-last, last-followed, follows-none, none-got, may-be, may-not, one-given}
use Rattle.book_recovery.proofs.taking.keep_product.Goals as goal
use Rattle.book_recovery.proofs.taking.keep_product.Goals.{in-Some+else-is_err, in_default}

-- it may not follow the last one
pub returns-then-is_err-clause-keeps : goal.returns-then-is_err-clause-keeps
returns-then-is_err-clause-keeps c = (
  refl,
  λ product gives follows.
      let items = c.args.earlier.now.items in
      let got : slice_get items (length items - 1) ≡ Some c.in-Some.before.now = ap (λ (l : List ProductLists). slice_get l (length l - 1)) (sym c.deref.ensures.value) ∙ sym c.in-Some.ensures.value in
      let same : product ≡ c.in-Ok.product = one-given _ product c.in-Ok.product gives c.in-Ok.ensures.read in
      may-not c.may_follow.result (may_follow c.in-Some.before.now c.in-Ok.product) c.may_follow.ensures (sym c.is_err.ensures.value ∙ c.if-is_err.true)
      (last-followed items c.in-Some.before.now c.in-Ok.product got (subst (FollowsLast items) same follows)),
)

pub returns-in-Ok-push-clause-follow : goal.returns-in-Ok-push-clause-follow
returns-in-Ok-push-clause-follow c =
    let items = c.args.earlier.now.items in
    let product = c.in-Ok.product in
    let follows : FollowsLast items product = elim c.match-last.branch [
      | in-Some+else-is_err w ↦
          follows-last items w.in-Some.before.now product (ap (λ (l : List ProductLists). slice_get l (length l - 1)) (sym c.deref.ensures.value) ∙ sym w.in-Some.ensures.value)
          (may-be w.may_follow.result (may_follow w.in-Some.before.now product) w.may_follow.ensures (sym w.is_err.ensures.value ∙ w.if-is_err.false))
      | in_default w ↦
          follows-none items product (ap (λ (l : List ProductLists). slice_get l (length l - 1)) (sym c.deref.ensures.value) ∙ none-got c.last.result w.in_default.not-Some _ c.last.ensures.value)
    ] in
    subst FollowEachOther (sym c.in-Ok-push.ensures.items) (follow-push items product c.requires.follow follows)

pub returns-in-Ok-push-clause-keeps : goal.returns-in-Ok-push-clause-keeps
returns-in-Ok-push-clause-keeps c =
    let items = c.args.earlier.now.items in
    let product = c.in-Ok.product in
    let follows : FollowsLast items product = elim c.match-last.branch [
      | in-Some+else-is_err w ↦
          follows-last items w.in-Some.before.now product (ap (λ (l : List ProductLists). slice_get l (length l - 1)) (sym c.deref.ensures.value) ∙ sym w.in-Some.ensures.value)
          (may-be w.may_follow.result (may_follow w.in-Some.before.now product) w.may_follow.ensures (sym w.is_err.ensures.value ∙ w.if-is_err.false))
      | in_default w ↦
          follows-none items product (ap (λ (l : List ProductLists). slice_get l (length l - 1)) (sym c.deref.ensures.value) ∙ none-got c.last.result w.in_default.not-Some _ c.last.ensures.value)
    ] in
    record { product = product; gives = c.in-Ok.ensures.read; follows = follows; is = c.in-Ok-push.ensures.items }
