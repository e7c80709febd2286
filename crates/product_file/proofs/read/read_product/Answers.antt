use Rattle.std.proofs.Common.{sym, lit≤, arith, rules}
use Rattle.toml.specs.View.{view}
use Rattle.product_file.specs.declared.limits.TheConstants.{MOST_ORDERS, USUAL_ORDERS, LEAST_JOURNAL, MOST_JOURNAL, USUAL_JOURNAL}
use Rattle.product_file.specs.Inner.Documents.{product_of_document}
use Rattle.product_file.specs.Inner.Instruments.{lists_of}
use Rattle.product_file.proofs.RightProduct.{usual_within, right_names, right_product}
use Rattle.product_file.proofs.ReadTexts.{read_document, takes_memory}
use Rattle.product_file.proofs.read.read_product.Goals as goal

pub returns-in_err-exchange-clause-refused : goal.returns-in_err-exchange-clause-refused
unfolding product_of_document
returns-in_err-exchange-clause-refused c = rw (read_document c.args.text.now (view c.in_ok-document.document) (omega arith) c.in_ok-document.ensures.read) (search rules)

pub returns-in_err-firms-clause-refused : goal.returns-in_err-firms-clause-refused
unfolding product_of_document
returns-in_err-firms-clause-refused c = rw (read_document c.args.text.now (view c.in_ok-document.document) (omega arith) c.in_ok-document.ensures.read) (search rules)

pub returns-in_err-firms-clause-memory : goal.returns-in_err-firms-clause-memory
returns-in_err-firms-clause-memory c = λ _. takes_memory c.args.text.now (view c.in_ok-document.document) c.in_ok-exchange.exchange (omega arith) c.in_ok-document.ensures.read c.in_ok-exchange.ensures

pub returns-in_err-max_orders-clause-refused : goal.returns-in_err-max_orders-clause-refused
unfolding product_of_document
returns-in_err-max_orders-clause-refused c = rw (read_document c.args.text.now (view c.in_ok-document.document) (omega arith) c.in_ok-document.ensures.read) (search rules)

pub returns-in_err-max_orders-clause-memory : goal.returns-in_err-max_orders-clause-memory
returns-in_err-max_orders-clause-memory c = λ _. takes_memory c.args.text.now (view c.in_ok-document.document) c.in_ok-exchange.exchange (omega arith) c.in_ok-document.ensures.read c.in_ok-exchange.ensures

pub returns-in_err-journal_limit-clause-refused : goal.returns-in_err-journal_limit-clause-refused
unfolding product_of_document
returns-in_err-journal_limit-clause-refused c = rw (read_document c.args.text.now (view c.in_ok-document.document) (omega arith) c.in_ok-document.ensures.read) (search rules)

pub returns-in_err-journal_limit-clause-memory : goal.returns-in_err-journal_limit-clause-memory
returns-in_err-journal_limit-clause-memory c = λ _. takes_memory c.args.text.now (view c.in_ok-document.document) c.in_ok-exchange.exchange (omega arith) c.in_ok-document.ensures.read c.in_ok-exchange.ensures

pub returns-in_err-instruments-clause-refused : goal.returns-in_err-instruments-clause-refused
unfolding product_of_document
returns-in_err-instruments-clause-refused c = rw (read_document c.args.text.now (view c.in_ok-document.document) (omega arith) c.in_ok-document.ensures.read) (search rules)

pub returns-in_err-instruments-clause-memory : goal.returns-in_err-instruments-clause-memory
returns-in_err-instruments-clause-memory c = λ _. takes_memory c.args.text.now (view c.in_ok-document.document) c.in_ok-exchange.exchange (omega arith) c.in_ok-document.ensures.read c.in_ok-exchange.ensures

pub new-names-requires : goal.new-names-requires
new-names-requires c =
    let document = view c.in_ok-document.document in
    let listed = rw c.deref.ensures.0 at c.in_ok-instruments.ensures in
    rw (c.deref-2.ensures.0, c.deref-3.ensures.0) (right_names document c.in_ok-exchange.exchange c.in_ok-firms.firms.items (lists_of c.in_ok-instruments.instruments) c.in_ok-firms.ensures.read (sym listed))

pub new-requires : goal.new-requires
new-requires c =
    let document = view c.in_ok-document.document in
    let listed = rw c.deref.ensures.0 at c.in_ok-instruments.ensures in
    let orders = usual_within c.in_ok-max_orders.max_orders 1 MOST_ORDERS USUAL_ORDERS c.in_ok-max_orders.ensures.within (lit≤ tt) (lit≤ tt) in
    let limit = usual_within c.in_ok-journal_limit.journal_limit LEAST_JOURNAL MOST_JOURNAL USUAL_JOURNAL c.in_ok-journal_limit.ensures.within (lit≤ tt) (lit≤ tt) in
    rw (c.new-names.ensures, c.unwrap_or.ensures, c.unwrap_or-2.ensures, c.deref-2.ensures.0, c.deref-3.ensures.0)
    (right_product document c.in_ok-exchange.exchange c.in_ok-firms.firms.items (lists_of c.in_ok-instruments.instruments) c.in_ok-firms.ensures.read (sym listed) _ _ orders limit)

pub returns-clause-read : goal.returns-clause-read
unfolding product_of_document
returns-clause-read c = rw (read_document c.args.text.now (view c.in_ok-document.document) (omega arith) c.in_ok-document.ensures.read) (search rules)
