-- The printed forms of events: the fills, the ledger with its totals at the end, and the counts of a drill, which prints none.
use Rattle.std.specs.Prelude.{true, false, [], refl}
use Rattle.exec_report.specs.Forms.{FormMeanings, prints}
use Rattle.book_print.specs.FillText.{fill_line}
use Rattle.book_print.specs.LedgerText.{ledger_line, total_line, totals_with}
use Rattle.book_print.specs.TallyText.{tally_with}
use Rattle.book_print.specs.declared.fills.FillForm.{FillForm}
use Rattle.book_print.specs.declared.ledger.Totals.{Totals}
use Rattle.book_print.specs.declared.tally.Tally.{Tally}

abbrev pub fill_form : FormMeanings FillForm
fill_form = record {
  text = λ f. fill_line;
  after = λ f e. f;
  noted = λ f product frame. f;
  ending = λ f live. [];
  text_after = λ f e. refl;
  text_noted = λ f product frame. refl;
  apart = λ f e product frame. refl;
  is_silent = false;
  silent = prints;
}

abbrev pub ledger_form : FormMeanings Totals
ledger_form = record {
  text = λ f names. ledger_line;
  after = totals_with;
  noted = λ f product frame. f;
  ending = λ f live. total_line f.entered f.filled live f.cancelled;
  text_after = λ f e. refl;
  text_noted = λ f product frame. refl;
  apart = λ f e product frame. refl;
  is_silent = false;
  silent = prints;
}

abbrev pub tally_form : FormMeanings Tally
tally_form = record {
  text = λ f names e. [];
  after = tally_with;
  noted = λ f product frame. f;
  ending = λ f live. [];
  text_after = λ f e. refl;
  text_noted = λ f product frame. refl;
  apart = λ f e product frame. refl;
  is_silent = true;
  silent = λ yes f names e. refl;
}
