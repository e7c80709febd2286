-- The report of an event is a frame, and its fields are those of its body.
use Rattle.std.proofs.Common.{◌≡◌, ℕ, ◌+◌, ◌-◌, ◌<◌, ◌≤◌, true, List, [], ◌∷◌, ◌++◌, length, get_or, take, drop, decimal, refl, sym, ap, ap₂, ◌∙◌, arith, append_assoc, append-nil, length-append, le-leb}
use Rattle.std.proofs.lemmas.Bool.{and_from}
use Rattle.std.proofs.lemmas.Fmt.{decimal_is_IsNumeral, length-decimal-le}
use Rattle.std.proofs.lemmas.List.{take_at, drop_at, get_or_at, length_push}
use Rattle.std.proofs.lemmas.Str.Parse.{digit_at}
use Rattle.std.specs.Char.{is_ascii_digit}
use Rattle.std.specs.Str.Parse.{AllDigits}
use Rattle.gx_base.specs.Frames.{head_of, trailer_of, frame_of}
use Rattle.gx_base.specs.NameLists.{NameLists}
use Rattle.gx_base.specs.Line.{body_of, line_of}
use Rattle.gx_base.specs.declared.event.Event.{Event}
use Rattle.fix_frame.specs.FrameLaws.{IsMade, made_frame, made_head, frame_made, frame_head}
use Rattle.fix_frame.specs.Grammar.{IsFrame, length_text, body_length, body_in}
use Rattle.fix_frame.specs.HeadLaws.{one_head}
use Rattle.fix_request.specs.Fields.{fields_of}
use Rattle.stream_laws.specs.Names.{AreNames}
use Rattle.stream_laws.specs.Texts.{HasTexts}
use Rattle.stream_laws.proofs.Fields.{EndsAField}
use Rattle.stream_laws.proofs.Bodies.{told_of, body-fields, body-ends}
use Rattle.stream_laws.proofs.Said.{few-fields}

digit-in : (digits : List ℕ) (k : ℕ) → AllDigits 10 digits → k < length digits → is_ascii_digit (get_or digits k 0) ≡ true
digit-in digits k all lt =
    let within = digit_at digits k all lt in
    and_from _ _ (le-leb 48 (get_or digits k 0) within.0) (le-leb (get_or digits k 0) 57 within.1)

-- a body of few bytes, with its frame
made-of : (body : List ℕ) → length body ≤ 2240 → EndsAField body → IsMade (decimal (length body)) body (frame_of (decimal (length body)) body)
made-of body few end =
    let n = length body in
    let long : n ≡ length end.front + 1 = ap length end.is ∙ length_push end.front 1 in
    let place : length end.front ≡ n - 1 = omega arith in
    let numeral = decimal_is_IsNumeral n (omega arith) in
    record {
      each = λ k lt. digit-in (decimal n) k numeral.0.1 lt;
      some = omega (arith, numeral.0.0);
      few = omega (arith, length-decimal-le 4 n (omega arith) (omega arith) (omega arith));
      value = numeral.1;
      least = omega arith;
      most = omega arith;
      last = ap (λ (x : List ℕ). get_or x (n - 1) 0) end.is ∙ get_or_at end.front 1 [] 0 (n - 1) place;
      whole = refl;
    }

-- the body of a frame is the one that it was made of
made-body : (digits body b : List ℕ) → IsMade digits body b → body_in b ≡ body
made-body digits body b made =
    let h = made_frame digits body b made in
    let t = trailer_of (head_of digits ++ body) in
    let same = one_head b (length (length_text b)) (length (body_in b)) (length digits) (length body) (frame_head b h) (made_head digits body b made) in
    let long : body_length b ≡ length body = (frame_made b h).value ∙ same.1 in
    let front : drop (13 + length digits) b ≡ body ++ t =
    ap (λ (x : List ℕ). drop (13 + length digits) x) (made.whole ∙ append_assoc (head_of digits) body t) ∙ drop_at (head_of digits) (body ++ t) (13 + length digits) (omega (arith, length-append digits (1 ∷ []))) in
    ap₂ (λ (n d : ℕ). take n (drop (13 + d) b)) long same.0 ∙ (ap (λ (x : List ℕ). take (length body) x) front ∙ take_at body t (length body) refl)

module _ (names : NameLists) (are : AreNames names) (event : Event) (texts : HasTexts event) where
  made : IsMade (decimal (length (body_of names event))) (body_of names event) (line_of names event)
  made =
      let fields = body-fields names are event texts in
      made-of (body_of names event) (omega (arith, fields.few, few-fields names event)) (body-ends names are event)

  pub line-frame : IsFrame (line_of names event)
  line-frame = made_frame _ _ _ made

  pub line-fields : fields_of (body_in (line_of names event)) ≡ told_of names event
  line-fields =
      let body = body_of names event in
      let fields = body-fields names are event texts in
      ap fields_of (made-body _ _ _ made) ∙ (ap fields_of (sym (append-nil body)) ∙ (fields.read [] ∙ append-nil (told_of names event)))
