-- Parts of a match that are done one after the other.
use Rattle.std.proofs.Common.{◌≡◌, ℕ, ◌++◌, refl, sym, ap, subst, ◌∙◌, arith}
use Rattle.std.proofs.lemmas.List.{append-nil}
use Rattle.gx_base.specs.declared.order.Desk.{Desk}
use Rattle.gx_base.specs.declared.order.Taker.{Taker}
use Rattle.gx_base.specs.Emits.{EmitMeanings, Emits}
use Rattle.gx_base.specs.EmitLaws.{emits_none, emits_joined, emits_as}
use Rattle.plain_book.specs.Book.{Book}
use Rattle.plain_book.specs.Match.{MatchState}
use Rattle.plain_book.specs.Matches.{MatchAt, start_at, IsNow, CanTrade, KeepsRoom, Matches}
use Rattle.plain_book.proofs.TradedShares.{match_with, with_events, IgnoresEvents}

pub keeps-same : (desk : Desk) (wanted : ℕ) → KeepsRoom desk wanted desk wanted
keeps-same desk wanted = record { messages = refl; orders = refl; fewer = omega arith; trades = omega arith; reports = omega arith; lines = λ i. omega arith }

pub keeps-then : (a b c : Desk) (i j k : ℕ) → KeepsRoom a i b j → KeepsRoom b j c k → KeepsRoom a i c k
keeps-then a b c i j k f g = record {
  messages = g.messages ∙ f.messages;
  orders = g.orders ∙ f.orders;
  fewer = omega (arith, f.fewer, g.fewer);
  trades = omega (arith, f.trades, g.trades);
  reports = omega (arith, f.reports, g.reports);
  lines = λ n. omega (arith, f.lines n, g.lines n);
}

module _ {E : Type 0} (m : EmitMeanings E) where
  -- nothing was done
  pub matches-none : (a : MatchAt E) → CanTrade a.book a.desk a.taker → Matches m (λ s. s) a a
  matches-none a can = record {
    now = record { book = refl; desk = refl; taker = refl };
    emits = emits_none m a.out;
    can = can;
    room = keeps-same a.desk a.taker.order.leaves;
  }

  -- a part goes on from a state that was reached, whose events were put
  pub goes-on : (out : E) (x : MatchState) (b c : MatchAt E) (f : MatchState → MatchState) → IgnoresEvents f → IsNow x b.book b.desk b.taker → Emits m out b.out x.events
      → IsNow (f (start_at b)) c.book c.desk c.taker → Emits m b.out c.out (f (start_at b)).events → IsNow (f x) c.book c.desk c.taker × Emits m out c.out (f x).events
  goes-on out x b c f ignores is puts now more =
      let start : with_events x.events (start_at b) ≡ x =
      ap (match_with b.book b.desk b.taker) (append-nil x.events)
      ∙ ap (λ (k : Book). match_with k b.desk b.taker x.events) is.book ∙ ap (λ (k : Desk). match_with x.book k b.taker x.events) is.desk ∙ ap (λ (k : Taker). match_with x.book x.desk k x.events) is.taker in
      let done : with_events x.events (f (start_at b)) ≡ f x = sym (ignores x.events (start_at b)) ∙ ap f start in (
        record {
          book = now.book ∙ ap (λ (k : MatchState). k.book) done;
          desk = now.desk ∙ ap (λ (k : MatchState). k.desk) done;
          taker = now.taker ∙ ap (λ (k : MatchState). k.taker) done;
        },
        emits_as m out c.out (x.events ++ (f (start_at b)).events) (f x).events (ap (λ (k : MatchState). k.events) done)
            (emits_joined m out b.out c.out x.events (f (start_at b)).events puts more),
      )

  -- f was done, and then g
  pub matches-then : (f g : MatchState → MatchState) (a b c : MatchAt E) → IgnoresEvents g → Matches m f a b → Matches m g b c → Matches m (λ s. g (f s)) a c
  matches-then f g a b c ignores first second =
      let on = goes-on a.out (f (start_at a)) b c g ignores first.now first.emits second.now second.emits in
      record {
        now = on.0;
        emits = on.1;
        can = second.can;
        room = keeps-then a.desk b.desk c.desk a.taker.order.leaves b.taker.order.leaves c.taker.order.leaves first.room second.room;
      }

  -- what was done is also something else
  pub matches-as : (f g : MatchState → MatchState) (a b : MatchAt E) → f (start_at a) ≡ g (start_at a) → Matches m f a b → Matches m g a b
  matches-as f g a b same done = record {
    now = subst (λ (x : MatchState). IsNow x b.book b.desk b.taker) same done.now;
    emits = subst (λ (x : MatchState). Emits m a.out b.out x.events) same done.emits;
    can = done.can;
    room = done.room;
  }
