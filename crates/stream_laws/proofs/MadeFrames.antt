-- Each made message is a frame.
use Rattle.std.proofs.Common.{◌≡◌, ℕ, ◌*◌, ◌^◌, ◌<◌, ◌≤◌, true, List, length, get_or, codes, decimal, arith, refl, le-leb}
use Rattle.std.proofs.lemmas.Bool.{and_from}
use Rattle.std.proofs.lemmas.Fmt.{decimal_is_IsNumeral, length-decimal-le}
use Rattle.std.proofs.lemmas.Str.Parse.{digit_at}
use Rattle.std.proofs.lemmas.Nat.{mul-le}
use Rattle.std.specs.Char.{is_ascii_digit}
use Rattle.std.specs.Str.Parse.{AllDigits}
use Prim.Native.String.{String}
use Rattle.gx_base.specs.Frames.{field, frame_of}
use Rattle.gx_base.specs.Line.{firm_name, instrument_name, decimals_of, side_text}
use Rattle.gx_base.specs.declared.order.Side.{Side}
use Rattle.gx_base.specs.declared.order.Side.TheVariants.{Buy, Sell}
use Rattle.fix_frame.specs.FrameLaws.{made_frame}
use Rattle.fix_frame.specs.Grammar.{IsFrame}
use Rattle.product_file.specs.Products.{ProductLists, IsRightProduct}
use Rattle.order_maker.specs.declared.made.Made.{Made}
use Rattle.order_maker.specs.declared.made.Made.TheVariants.{New, Cancel, Replace}
use Rattle.order_maker.specs.Messages.{firm_at, instrument_at, side_at}
use Rattle.order_maker.specs.Stream.{id_of, head_fields, tick_at, price_at, order_fields, body_of, frame_at}
use Rattle.stream_laws.specs.Names.{AreNames}
use Rattle.stream_laws.proofs.Drawn.{IsSmall}
use Rattle.stream_laws.proofs.MadeFields.{AreFields, one-field, more-fields, fewer-fields, last-field}
use Rattle.stream_laws.proofs.MadeValues.{short-decimal, short-price, short-name, short-firm_name, short-instrument_name, few-decimals, low-tick}

-- ---- a body

digit-in : (digits : List ℕ) (k : ℕ) → AllDigits 10 digits → k < length digits → is_ascii_digit (get_or digits k 0) ≡ true
digit-in digits k all lt =
    let within = digit_at digits k all lt in
    and_from _ _ (le-leb 48 (get_or digits k 0) within.0) (le-leb (get_or digits k 0) 57 within.1)

short-side : (side : Side) → length (side_text side) ≤ 24
short-side Buy = omega arith
short-side Sell = omega arith

module _ (p : ProductLists) (right : IsRightProduct p) (names : AreNames p.names) where
  id-field : (tag : String) (j : ℕ) → length (codes tag) ≤ 2 → j < 10 ^ 19 → AreFields 1 (field tag (id_of j))
  id-field tag j tag_short small = one-field tag (id_of j) tag_short (omega (arith, short-decimal j small))

  five-head : (type : List ℕ) (j k : ℕ) → length type ≤ 24 → j < 10 ^ 19 → AreFields 5 (head_fields p type j k)
  five-head type j k short small =
      more-fields 4 1 _ _
      (more-fields 3 1 _ _
      (more-fields 2 1 _ _
      (more-fields 1 1 _ _ (one-field "35" type (omega arith) short) (one-field "49" (firm_name p.names (firm_at p k)) (omega arith) (short-firm_name p.names names (firm_at p k))))
      (one-field "56" p.names.exchange (omega arith) (short-name p.names.exchange names.exchange)))
      (one-field "34" (decimal j) (omega arith) (omega (arith, short-decimal j small))))
      (one-field "52" (codes "20240102-00:00:00") (omega arith) (omega arith))

  short-price_at : (j ticks : ℕ) → ticks ≤ 10099 → length (price_at p j ticks) ≤ 24
  short-price_at j ticks few =
      let low : ticks * tick_at p j ≤ 10099 * 1000000 = mul-le ticks (tick_at p j) 10099 1000000 few (low-tick p j right) in
      short-price (ticks * tick_at p j) (decimals_of p.names (instrument_at p j)) (omega arith) (few-decimals p.names names (instrument_at p j))

  five-order : (j lots ticks : ℕ) → lots ≤ 100 → ticks ≤ 10099 → AreFields 5 (order_fields p j lots ticks)
  five-order j lots ticks lots_few ticks_few =
      more-fields 4 1 _ _
      (more-fields 3 1 _ _
      (more-fields 2 1 _ _
      (more-fields 1 1 _ _ (one-field "55" (instrument_name p.names (instrument_at p j)) (omega arith) (short-instrument_name p.names names (instrument_at p j))) (one-field "54" (side_text (side_at p j)) (omega arith) (short-side (side_at p j))))
      (one-field "38" (decimal lots) (omega arith) (omega (arith, short-decimal lots (omega arith)))))
      (one-field "40" (codes "2") (omega arith) (omega arith)))
      (one-field "44" (price_at p j ticks) (omega arith) (short-price_at j ticks ticks_few))

  body-fields : (j : ℕ) (made : Made) → j < 10 ^ 19 → IsSmall j made → AreFields 12 (body_of p j made)
  body-fields j (New lots ticks) small is =
      more-fields 11 1 _ _
      (more-fields 6 5 _ _ (more-fields 5 1 _ _ (five-head (codes "D") j j (omega arith) small) (id-field "11" j (omega arith) small)) (five-order j lots ticks is.0 is.1))
      (one-field "59" (codes "0") (omega arith) (omega arith))
  body-fields j (Cancel k) small is =
      fewer-fields 7 12 _ (omega arith)
      (more-fields 6 1 _ _ (more-fields 5 1 _ _ (five-head (codes "F") j k (omega arith) small) (id-field "11" j (omega arith) small)) (id-field "41" k (omega arith) (omega arith)))
  body-fields j (Replace k lots ticks) small is =
      more-fields 7 5 _ _
      (more-fields 6 1 _ _ (more-fields 5 1 _ _ (five-head (codes "G") j k (omega arith) small) (id-field "11" j (omega arith) small)) (id-field "41" k (omega arith) (omega arith)))
      (five-order k lots ticks is.1.0 is.1.1)

  -- ---- a frame

  pub made-frame : (j : ℕ) (made : Made) → j < 10 ^ 19 → IsSmall j made → IsFrame (frame_at p j made)
  unfolding frame_at
  made-frame j made small is =
      let body = body_of p j made in
      let n = length body in
      let are = body-fields j made small is in
      let last = last-field 12 body are in
      let low : n ≤ 336 = omega (arith, are.short) in
      let numeral = decimal_is_IsNumeral n (omega arith) in
      made_frame (decimal n) body (frame_of (decimal n) body) (record {
        each = λ k lt. digit-in (decimal n) k numeral.0.1 lt;
        some = omega (arith, numeral.0.0);
        few = omega (arith, length-decimal-le 3 n (omega arith) (omega arith) (omega arith));
        value = numeral.1;
        least = omega (arith, last.0);
        most = omega arith;
        last = last.1;
        whole = refl;
      })
