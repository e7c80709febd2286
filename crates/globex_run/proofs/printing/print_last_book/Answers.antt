use Rattle.globex_run.proofs.printing.print_last_book.Goals as goal

pub returns-clause-prints : goal.returns-clause-prints
returns-clause-prints g c = record {
  answer = c.print_kept_book-printed.result;
  outcome_is = c.outcome_printed.ensures;
  reads = c.print_kept_book-printed.ensures.reads;
  store = c.print_kept_book-printed.ensures.store;
  no_store = c.print_kept_book-printed.ensures.no_store;
  send = c.print_kept_book-printed.ensures.send;
  no_send = c.print_kept_book-printed.ensures.no_send;
  memory = c.print_kept_book-printed.ensures.memory;
  prints = λ image read. record { prints = c.print_kept_book-printed.ensures.prints image read; bytes = c.print_kept_book-printed.ensures.bytes image read };
}
