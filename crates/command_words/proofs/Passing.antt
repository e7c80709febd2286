-- The first value of an option has passed the option's parser.
use Rattle.std.proofs.Common.{◌≡◌, ◌∙◌, ◌<◌, ap, ℕ, Bool, true, false, List, [], ◌∷◌, length, Option, Some, None, refl, sym, subst, inl, inr, arith}
use Rattle.std.specs.Prelude.{option_map, slice_get}
use Rattle.std.specs.List.{All, slice_index_or}
use Rattle.std.specs.Str.{bytes_eq}
use Rattle.std.specs.Borrow.{Bor}
use Rattle.std.proofs.lemmas.Slice.Eq.{bytes_eq-Decides}
use Rattle.std.proofs.lemmas.List.Elements.{All-get_or}
use Rattle.clap.specs.Facts.{Entry, EntryPasses, HasReading, PassesArg, args_of, parser_of, parser_of_value}
use Rattle.clap.specs.Built.{IsAuto, IsParsedFrom, IsPlain}
use Rattle.clap.specs.Matches.{found_of, matched_of, one_text}
use Rattle.clap.specs.Values.{Accepts, read_as, reading_of}
use Rattle.clap.specs.Walk.{Text}
use Rattle.clap.specs.declared.builder.arg.Arg.{Arg}
use Rattle.clap.specs.declared.builder.command.Command.{Command}
use Rattle.clap.specs.declared.builder.command.Command.TheViews.{out-Command}
use Rattle.clap.specs.declared.builder.value_parser.Reading.{Reading}
use Rattle.clap.specs.declared.builder.value_parser.ValueParser.{ValueParser}
use Rattle.clap.specs.declared.parser.matches.ArgMatches.{ArgMatches}
use Rattle.clap.specs.declared.parser.matches.MatchedArg.{MatchedArg}
use Rattle.clap.proofs.CallerLemmas.{entry_by_id, same_rules_by_id}

-- a text that some value which has passed the parser is read as
abbrev pub Passes : Bool → ValueParser → Text → Type 0
Passes ignore_case q t = (v : Text) × (t ≡ read_as (reading_of q) v) × Accepts ignore_case q v

first_of_values : (how : Reading) (vs : List (Bor Text)) (t : Text) (P : Bor Text → Type 0)
    → option_map (λ s. read_as how s.now) (slice_get vs 0) ≡ Some t → All P vs
    → (v : Bor Text) × (t ≡ read_as how v.now) × P v
first_of_values how [] t P e h = cc
first_of_values how (v ∷ vs) t P e h = (v, cc, All-get_or P (v ∷ vs) 0 v (omega arith) h)

module _ (old : Command) (m : ArgMatches) (p : IsParsedFrom old m) (k : ℕ) (d : Arg) (lt : k < length (args_of old))
    (unique : (j : ℕ) (e : Arg) → j < length (args_of old)
    → bytes_eq (slice_index_or (args_of old) j e).id.now (slice_index_or (args_of old) k d).id.now ≡ true → j ≡ k)
    (own : IsAuto (slice_index_or (args_of old) k d) → ⊥)
    (named : (slice_index_or (args_of old) k d).id.now ≡ [] → ⊥)
    (q : ValueParser) (parser : (slice_index_or (args_of old) k d).value_parser ≡ Some q)
    (plain : IsPlain old) (local : (out-Command old).has_globals ≡ false) where
  abbrev arg : Arg
  arg = slice_index_or (args_of old) k d

  read_as_parser : (id : Text) (r : Reading) → id ≡ arg.id.now → HasReading p.built id r → r ≡ reading_of q
  read_as_parser id r key any =
      let s = same_rules_by_id old m p k d lt unique own any.0 any.1 any.2 any.3 (rw key at any.4.0) in
      let is_q : parser_of any.1 ≡ q = ap parser_of_value (s.parser q parser) in
      sym any.4.1 ∙ ap reading_of is_q

  accepted : (id : Text) (v : Text) → id ≡ arg.id.now → PassesArg p.built id v → Accepts arg.ignore_case q v
  accepted id v key any =
      let s = same_rules_by_id old m p k d lt unique own any.0 any.1 any.2 any.3 (rw key at any.4.0) in
      let is_q : parser_of any.1 ≡ q = ap parser_of_value (s.parser q parser) in
      let as_q : Accepts any.1.ignore_case q v = subst (λ (w : ValueParser). Accepts any.1.ignore_case w v) is_q any.4.1 in
      subst (λ (b : Bool). Accepts b q v) s.ignore_case as_q

  no_group : (e : Entry) → e.0.now ≡ arg.id.now → EntryPasses p.built e → e.1.is_group ≡ true → ⊥
  no_group e key pass group = elim (pass.3 group) [
    | inl empty ↦ named (sym key ∙ empty)
    | inr lots ↦
        let bad : 0 < 0 = rw (p.from.plain plain).1 at lots in
        absurd (omega arith)
  ]

  of_entry : (e : Entry) (t : Text) → e.0.now ≡ arg.id.now → EntryPasses p.built e
      → option_map (λ s. read_as e.1.reading s.now) (slice_get e.1.vals.items 0) ≡ Some t → Passes arg.ignore_case q t
  of_entry e t key pass is =
      let all : All (λ v. PassesArg p.built e.0.now v.now) e.1.vals.items = elim pass.0 [ inl g ↦ absurd (no_group e key pass g) | inr vals ↦ vals ] in
      let how : e.1.reading ≡ reading_of q = elim pass.4 [
        | inl g ↦ absurd (no_group e key pass g)
        | inr h ↦ read_as_parser e.0.now e.1.reading key h
      ] in
      let first = first_of_values e.1.reading e.1.vals.items t (λ v. PassesArg p.built e.0.now v.now) is all in
      (first.0.now, first.1 ∙ ap (λ (r : Reading). read_as r first.0.now) how, accepted e.0.now first.0.now key first.2)

  of_matched : (x : MatchedArg) (t : Text) → matched_of (found_of m) arg.id.now ≡ Some x
      → option_map (λ s. read_as x.reading s.now) (slice_get x.vals.items 0) ≡ Some t → Passes arg.ignore_case q t
  of_matched x t found is =
      let parsed = p.parsed (p.from.globals ∙ local) in
      let got = entry_by_id (EntryPasses p.built) (found_of m).entries.items arg.id.now x parsed.values found in
      of_entry got.0 t ((bytes_eq-Decides got.0.0.now arg.id.now).0 got.2) got.3
      (subst (λ (y : MatchedArg). option_map (λ s. read_as y.reading s.now) (slice_get y.vals.items 0) ≡ Some t) (sym got.1) is)

  -- the text that `get_one` reads of the option
  pub option_passes : (t : Text) → one_text (found_of m) arg.id.now ≡ Some t → Passes arg.ignore_case q t
  option_passes t is = go (matched_of (found_of m) arg.id.now) refl is
    where
      go : (o : Option MatchedArg) → matched_of (found_of m) arg.id.now ≡ o → one_text (found_of m) arg.id.now ≡ Some t → Passes arg.ignore_case q t
      go None e h =
          let bad : None ≡ Some t = rw e at h in
          cc
      go (Some x) e h = of_matched x t e (rw e at h)
