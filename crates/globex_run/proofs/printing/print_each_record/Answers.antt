use Rattle.globex_run.proofs.printing.print_each_record.Goals as goal

pub returns-clause-prints : goal.returns-clause-prints
returns-clause-prints g c = record {
  answer = c.print_events-printed.result;
  outcome_is = c.outcome_printed.ensures;
  reads = c.print_events-printed.ensures.reads;
  store = c.print_events-printed.ensures.store;
  no_store = c.print_events-printed.ensures.no_store;
  send = c.print_events-printed.ensures.send;
  no_send = c.print_events-printed.ensures.no_send;
  memory = c.print_events-printed.ensures.memory;
  prints = c.print_events-printed.ensures.prints;
}
