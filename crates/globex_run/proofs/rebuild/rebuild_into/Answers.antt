use Rattle.std.specs.Option.{unwrap_or}
use Rattle.std.proofs.Common.{◌≡◌, ℕ, Option, Result, Ok, Err, refl, ap, subst, ◌∙◌}
use Rattle.gx_station.specs.Quiet.{quiet_itself}
use Rattle.level_feed.specs.Lines.{listing_of}
use Rattle.level_feed.specs.Tables.{Table}
use Rattle.feed_reader.specs.Feeds.{EndsFeed, HasReadCause, read_into}
use Rattle.feed_reader.specs.declared.unread.Unread.{Unread}
use Rattle.journal_print.specs.ReadingLaws.{sending_only}
use Rattle.globex_run.specs.Rebuilding.{outcome_rebuilt}
use Rattle.globex_run.proofs.rebuild.rebuild_into.Goals as goal

pub returns-in-Err : goal.returns-in-Err
returns-in-Err g c =
    let m = g.S.Station.meanings in
    let i = g.I.Source.meanings in
    let feed = c.read_feed.ensures.reads in
    record {
      form = record {
        taken = feed.taken;
        took = feed.took;
        read = Err c.in-Err.why;
        ends = subst (λ (r : Result (Unit {0}) Unread). EndsFeed (listing_of c.args.product.now) feed.taken (i.left c.read_feed.new.input) (read_into c.read_feed.new.table r)) c.in-Err.is feed.ends;
        sends = (c.outcome_unread.ensures, refl);
      };
      reads = sending_only m c.args.station.now c.args.station.now (quiet_itself m c.args.station.now);
      store = refl;
      read = subst (λ (r : Result (Unit {0}) Unread). HasReadCause (i.faults c.args.input.now) (i.faults c.read_feed.new.input) (read_into c.read_feed.new.table r)) c.in-Err.is feed.cause;
      sent = refl;
    }

pub returns : goal.returns
returns g c =
    let m = g.S.Station.meanings in
    let i = g.I.Source.meanings in
    let feed = c.read_feed.ensures.reads in
    let table : Table = c.read_feed.new.table.table in
    let sends = c.print_levels-sent.ensures.sends in
    let ends : EndsFeed (listing_of c.args.product.now) feed.taken (i.left c.read_feed.new.input) (Ok table) =
    subst (λ (r : Result (Unit {0}) Unread). EndsFeed (listing_of c.args.product.now) feed.taken (i.left c.read_feed.new.input) (read_into c.read_feed.new.table r)) c.in_default.is feed.ends in
    let number : ℕ = ends.1.0 in
    let is_number : c.unwrap_or-number.result ≡ number = c.unwrap_or-number.ensures ∙ ap (λ (n : Option ℕ). unwrap_or n 0) (c.number.ensures ∙ ends.1.1) in
    record {
      form = record {
        taken = feed.taken;
        took = feed.took;
        read = Ok table;
        ends = ends;
        sends = record {
          number = number;
          is_number = ends.1.1;
          result = c.print_levels-sent.result;
          outcome_is = c.outcome_rebuilt.ensures ∙ ap (λ (n : ℕ). outcome_rebuilt n c.print_levels-sent.result) is_number;
          all = sends.all;
          part = sends.part;
        };
      };
      reads = sending_only m c.args.station.now c.print_levels-sent.new.station sends.quiet;
      store = sends.quiet.store_faults;
      read = subst (λ (r : Result (Unit {0}) Unread). HasReadCause (i.faults c.args.input.now) (i.faults c.read_feed.new.input) (read_into c.read_feed.new.table r)) c.in_default.is feed.cause;
      sent = sends.cause;
    }
