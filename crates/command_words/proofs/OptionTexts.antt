-- After a parse by the command of the words, the value of each option is a number.
use Rattle.std.proofs.Common.{◌≡◌, ◌⊎◌, ◌∙◌, ◌<◌, ◌^◌, ap, ℕ, zero, suc, pos, true, false, List, [], ◌∷◌, length, map, Some, refl, sym, subst, inl, inr, arith, codes}
use Rattle.std.specs.List.{slice_index_or}
use Rattle.std.specs.Str.{bytes_eq}
use Rattle.clap.specs.Facts.{args_of}
use Rattle.clap.specs.Built.{IsParsedFrom, IsPlain}
use Rattle.clap.specs.Matches.{found_of, one_text}
use Rattle.clap.specs.Simple.{App, app_of}
use Rattle.clap.specs.Walk.{Rule, Text, rule_of}
use Rattle.clap.specs.declared.builder.arg.Arg.{Arg}
use Rattle.clap.specs.declared.builder.command.Command.{Command}
use Rattle.clap.specs.declared.builder.command.Command.TheViews.{out-Command}
use Rattle.clap.specs.declared.builder.value_parser.ValueParser.TheVariants as vp
use Rattle.clap.specs.declared.parser.matches.ArgMatches.{ArgMatches}
use Rattle.command_words.specs.Commands.{command_rule, number_rule, words_app}
use Rattle.command_words.specs.Inner.{IsNumberText, IsRead}
use Rattle.command_words.proofs.NumberTexts.{in_range_is_number}
use Rattle.command_words.proofs.Passing.{option_passes}

-- three things with these images
record Three {X Y : Type 0} (f : X → Y) (xs : List X) (a b c : Y) : Type 0 where
  x : X
  y : X
  z : X
  list : xs ≡ x ∷ y ∷ z ∷ []
  first : f x ≡ a
  second : f y ≡ b
  third : f z ≡ c

three : {X Y : Type 0} (f : X → Y) (xs : List X) (a b c : Y) → map f xs ≡ a ∷ b ∷ c ∷ [] → Three f xs a b c
three f [] a b c e = cc
three f (x ∷ []) a b c e = cc
three f (x ∷ y ∷ []) a b c e = cc
three f (x ∷ y ∷ z ∷ []) a b c e = record { x = x; y = y; z = z; list = refl; first = cc; second = cc; third = cc }
three f (x ∷ y ∷ z ∷ w ∷ ws) a b c e = cc

module _ (x y z : Arg) (command : x.id.now ≡ codes "command") (first : y.id.now ≡ codes "first") (count : z.id.now ≡ codes "count") where
  only_first : (j : ℕ) (e : Arg) → j < 3 → bytes_eq (slice_index_or (x ∷ y ∷ z ∷ []) j e).id.now (codes "first") ≡ true → j ≡ 1
  only_first zero e lt same =
      let bad : false ≡ true = rw command at same in
      cc
  only_first (suc zero) e lt same = refl
  only_first (suc (suc zero)) e lt same =
      let bad : false ≡ true = rw count at same in
      cc
  only_first (suc (suc (suc j))) e lt same = absurd (omega arith)

  only_count : (j : ℕ) (e : Arg) → j < 3 → bytes_eq (slice_index_or (x ∷ y ∷ z ∷ []) j e).id.now (codes "count") ≡ true → j ≡ 2
  only_count zero e lt same =
      let bad : false ≡ true = rw command at same in
      cc
  only_count (suc zero) e lt same =
      let bad : false ≡ true = rw first at same in
      cc
  only_count (suc (suc zero)) e lt same = refl
  only_count (suc (suc (suc j))) e lt same = absurd (omega arith)

module _ (old : Command) (m : ArgMatches) (p : IsParsedFrom old m) (plain : IsPlain old) (local : (out-Command old).has_globals ≡ false) where
  option_read : (k : ℕ) (d a : Arg) (id : Text) (most : ℕ) → slice_index_or (args_of old) k d ≡ a → rule_of a ≡ number_rule id most
      → k < length (args_of old)
      → ((j : ℕ) (e : Arg) → j < length (args_of old) → bytes_eq (slice_index_or (args_of old) j e).id.now id ≡ true → j ≡ k)
      → ((id ≡ codes "help") ⊎ (id ≡ codes "version") → ⊥) → (id ≡ [] → ⊥) → most < 2 ^ 32 → IsRead (found_of m) id
  option_read k d a id most elem is lt unique own named fits text at_text =
      let key : (slice_index_or (args_of old) k d).id.now ≡ id = ap (λ (b : Arg). b.id.now) elem ∙ ap (λ (r : Rule). r.id) is in
      let parser : (slice_index_or (args_of old) k d).value_parser ≡ Some (vp.Signed (pos 0) (pos most)) =
      ap (λ (b : Arg). b.value_parser) elem ∙ ap (λ (r : Rule). r.parser) is in
      let got = option_passes old m p k d lt
      (λ j e low same. unique j e low (subst (λ (w : Text). bytes_eq (slice_index_or (args_of old) j e).id.now w ≡ true) key same))
      (λ auto. own (subst (λ (w : Text). (w ≡ codes "help") ⊎ (w ≡ codes "version")) key auto))
      (λ empty. named (sym key ∙ empty))
      (vp.Signed (pos 0) (pos most)) parser plain local text
      (subst (λ (w : Text). one_text (found_of m) w ≡ Some text) (sym key) at_text) in
      subst IsNumberText (sym got.1) (in_range_is_number most got.0 fits got.2)

  module _ (app : app_of old ≡ words_app) where
    args : Three rule_of (args_of old) command_rule (number_rule (codes "first") 2147483647) (number_rule (codes "count") 1000000)
    args = three rule_of (args_of old) _ _ _ (ap (λ (a : App). a.top.rules) app)

    pub first_is_read : IsRead (found_of m) (codes "first")
    first_is_read =
        let t = args in
        let all : length (args_of old) ≡ 3 = ap length t.list in
        option_read 1 t.x t.y (codes "first") 2147483647 (ap (λ l. slice_index_or l 1 t.x) t.list) t.second (omega arith)
        (λ j e low same. only_first t.x t.y t.z (ap (λ (r : Rule). r.id) t.first) (ap (λ (r : Rule). r.id) t.second) (ap (λ (r : Rule). r.id) t.third)
        j e (omega arith) (subst (λ l. bytes_eq (slice_index_or l j e).id.now (codes "first") ≡ true) t.list same))
        (λ auto. elim auto [ inl h ↦ cc | inr h ↦ cc ]) (λ e. cc) (omega arith)

    pub count_is_read : IsRead (found_of m) (codes "count")
    count_is_read =
        let t = args in
        let all : length (args_of old) ≡ 3 = ap length t.list in
        option_read 2 t.x t.z (codes "count") 1000000 (ap (λ l. slice_index_or l 2 t.x) t.list) t.third (omega arith)
        (λ j e low same. only_count t.x t.y t.z (ap (λ (r : Rule). r.id) t.first) (ap (λ (r : Rule). r.id) t.second) (ap (λ (r : Rule). r.id) t.third)
        j e (omega arith) (subst (λ l. bytes_eq (slice_index_or l j e).id.now (codes "count") ≡ true) t.list same))
        (λ auto. elim auto [ inl h ↦ cc | inr h ↦ cc ]) (λ e. cc) (omega arith)
