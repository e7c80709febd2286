-- Report lines as a form.
use Rattle.std.specs.Prelude.{false, [], refl}
use Rattle.gx_base.specs.Line.{line_of}
use Rattle.exec_report.specs.Forms.{FormMeanings, prints}
use Rattle.exec_report.specs.declared.line_form.ReportForm.{ReportForm}

abbrev pub report_form : FormMeanings ReportForm
report_form = record {
  text = λ f. line_of;
  after = λ f e. f;
  noted = λ f product frame. f;
  ending = λ f live. [];
  text_after = λ f e. refl;
  text_noted = λ f product frame. refl;
  apart = λ f e product frame. refl;
  is_silent = false;
  silent = prints;
}
