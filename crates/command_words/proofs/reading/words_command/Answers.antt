use Rattle.std.proofs.Common.{ap, ap₂, ◌∙◌, ◌≡◌, ◌||◌, Bool, true, false, [], codes, sym, subst}
use Rattle.std.specs.List.{All}
use Rattle.std.proofs.lemmas.Result.{IfOk-weaker}
use Rattle.std.proofs.lemmas.List.Elements.{All-nil}
use Rattle.clap.specs.Walk.{Rule, rule_of}
use Rattle.clap.specs.Simple.{App, app_of, app_of_fields, new_app, on_top, with_rule}
use Rattle.clap.specs.Facts.{args_of, groups_of}
use Rattle.clap.specs.Words.{AddsArg, IsPlain, IsPlainArg}
use Rattle.clap.specs.declared.builder.arg.Arg.{Arg}
use Rattle.clap.specs.declared.builder.command.Command.{Command}
use Rattle.clap.specs.declared.builder.command.Command.TheViews.{out-Command as fields_of}
use Rattle.clap.proofs.CallerLemmas.{added_plain}
use Rattle.command_words.specs.Commands.{command_rule}
use Rattle.command_words.proofs.reading.words_command.Goals as goal

abbrev with_no_name : App → App
with_no_name = on_top (λ s. record s { no_binary_name = true })

abbrev made_required : Rule → Rule
made_required r = record r { required = true }

pub returns-clause-app : goal.returns-clause-app
returns-clause-app c =
    let name_is : rule_of c.required.result ≡ command_rule = ap rule_of c.required.ensures ∙ ap made_required c.new-2.ensures.rule in
    let name_local : c.required.result.global ≡ false = ap (λ (a : Arg). a.global) c.required.ensures ∙ c.new-2.ensures.optional.1 in
    let base : app_of c.no_binary_name.result ≡ with_no_name (new_app (codes "globex")) =
    ap app_of_fields c.no_binary_name.ensures ∙ ap with_no_name c.new.ensures.app in
    IfOk-weaker c.arg-3.result _ _ (λ r h. h.shape c.number_option-2.ensures.local ∙ ap₂ with_rule (c.in_ok-arg-2.ensures.shape c.number_option.ensures.local
    ∙ ap₂ with_rule (c.in_ok-arg.ensures.shape name_local ∙ ap₂ with_rule base name_is) c.number_option.ensures.rule) c.number_option-2.ensures.rule) c.arg-3.ensures

pub returns-clause-plain : goal.returns-clause-plain
returns-clause-plain c =
    let empty : (args_of c.no_binary_name.result ≡ []) × (groups_of c.no_binary_name.result ≡ []) =
    (ap (λ f. f.args.items) c.no_binary_name.ensures ∙ c.new.ensures.empty.0, ap (λ f. f.groups.items) c.no_binary_name.ensures ∙ c.new.ensures.empty.1) in
    let base : IsPlain c.no_binary_name.result = (subst (All IsPlainArg) (sym empty.0) (All-nil IsPlainArg), empty.1) in
    let name_plain : IsPlainArg c.required.result = subst IsPlainArg (sym c.required.ensures) c.new-2.ensures.plain in
    let one = added_plain _ _ _ c.in_ok-arg.ensures base name_plain in
    let two = added_plain _ _ _ c.in_ok-arg-2.ensures one c.number_option.ensures.plain in
    IfOk-weaker c.arg-3.result _ _ (λ r h. added_plain _ _ _ h two c.number_option-2.ensures.plain) c.arg-3.ensures

-- a command with one more argument that is not global
still_local : (old new : Command) (a : Arg) → AddsArg old a new → (fields_of old).has_globals ≡ false → a.global ≡ false → (fields_of new).has_globals ≡ false
still_local old new a added none local = added.globals ∙ ap₂ (λ (x y : Bool). x || y) none local

pub returns-clause-local : goal.returns-clause-local
returns-clause-local c =
    let name_local : c.required.result.global ≡ false = ap (λ (a : Arg). a.global) c.required.ensures ∙ c.new-2.ensures.optional.1 in
    let base : (fields_of c.no_binary_name.result).has_globals ≡ false = ap (λ f. f.has_globals) c.no_binary_name.ensures ∙ c.new.ensures.local in
    let one = still_local _ _ _ c.in_ok-arg.ensures base name_local in
    let two = still_local _ _ _ c.in_ok-arg-2.ensures one c.number_option.ensures.local in
    IfOk-weaker c.arg-3.result _ _ (λ r h. still_local _ _ _ h two c.number_option-2.ensures.local) c.arg-3.ensures
