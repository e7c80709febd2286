use Rattle.std.proofs.Common.{◌≤◌, inr, ℕ, Option, Ok, sym, subst, ◌∙◌, ap, arith}
use Rattle.product_file.specs.ProductTexts.{product_of}
use Rattle.match_journal.specs.Opening.{IsOpened, StandsIn}
use Rattle.match_journal.specs.declared.limits.TheConstants.{LEAST_LIMIT}
use Rattle.match_journal.specs.declared.standing.Standing.{Standing}
use Rattle.book_recovery.specs.Products.{HasProducts, all_products}
use Rattle.book_recovery.specs.declared.products.NoProducts.TheVariants as none
use Rattle.book_recovery.proofs.Standings.{stands_moved}
use Rattle.journal_print.specs.Inner.Opening.{Opens}
use Rattle.journal_print.proofs.KeptJournals.{not_taken, bad_unread}
use Rattle.journal_print.proofs.Printing.{some_found}
use Rattle.journal_print.proofs.Stations.{looking_then}
use Rattle.journal_print.proofs.kept.open_kept.Goals as goal

pub returns-in-Ok-clause-reads : goal.returns-in-Ok-clause-reads
returns-in-Ok-clause-reads g c = looking_then g.S.Station.meanings _ _ _ c.open_journal.ensures.reads c.read_products.ensures.reads

pub returns-in-Err-Store-clause-reads : goal.returns-in-Err-Store-clause-reads
returns-in-Err-Store-clause-reads g c = looking_then g.S.Station.meanings _ _ _ c.open_journal.ensures.reads c.read_products.ensures.reads

pub returns-in-Err-NoMemory-clause-reads : goal.returns-in-Err-NoMemory-clause-reads
returns-in-Err-NoMemory-clause-reads g c = looking_then g.S.Station.meanings _ _ _ c.open_journal.ensures.reads c.read_products.ensures.reads

pub returns-in-Err-Bad-clause-reads : goal.returns-in-Err-Bad-clause-reads
returns-in-Err-Bad-clause-reads g c = looking_then g.S.Station.meanings _ _ _ c.open_journal.ensures.reads c.read_products.ensures.reads

pub returns-in-Ok-clause-opens : goal.returns-in-Ok-clause-opens
returns-in-Ok-clause-opens g c = λ image read.
    let told = subst (λ (o : Option Standing). Opens c.args.text.now c.args.product.now.journal_limit image (Ok o)) c.in-Ok-Some.field-0-is (c.in-Ok-Some.ensures.opens image read) in
    let stands = some_found (λ (s : Standing). StandsIn s image) c.in-Ok-Some.field-0 c.in-Ok-Some.journal c.in-Ok-Some.field-0-is (c.in-Ok-Some.ensures.stands_in image read) in
    let limit = ap (λ (s : Standing). s.limit) told.1 in
    let least : LEAST_LIMIT ≤ c.in-Ok-Some.journal.limit = omega (arith, limit, c.in-Ok-Some.ensures.least) in
    let opened = subst (λ (k : ℕ). IsOpened told.0.head k told.0.placed image) (sym limit) told.0.opened in
    let taken = c.in-Ok.ensures.takes told.0.head told.0.placed image (c.open_journal.ensures.reads.looks.keeps.holds ∙ read) stands least opened (ap product_of told.0.is ∙ c.requires.gives) in
    let rewound = c.in-Ok.ensures.rewound in
    record {
      opened = told.0;
      stands = stands_moved c.in-Ok-Some.journal c.read_products.new.journal _ _ image rewound stands;
      gate = ap (λ (s : Standing). s.gate) rewound ∙ sym (ap (λ (s : Standing). s.first) rewound);
      taken = subst (λ (k : ℕ). HasProducts told.0.head k image (all_products c.in-Ok.products)) limit taken;
    }

pub returns-in-Err-NoMemory-clause-opens : goal.returns-in-Err-NoMemory-clause-opens
returns-in-Err-NoMemory-clause-opens g c = λ image read.
    let told = subst (λ (o : Option Standing). Opens c.args.text.now c.args.product.now.journal_limit image (Ok o)) c.in-Ok-Some.field-0-is (c.in-Ok-Some.ensures.opens image read) in
    let stands = some_found (λ (s : Standing). StandsIn s image) c.in-Ok-Some.field-0 c.in-Ok-Some.journal c.in-Ok-Some.field-0-is (c.in-Ok-Some.ensures.stands_in image read) in
    let limit = ap (λ (s : Standing). s.limit) told.1 in
    let least : LEAST_LIMIT ≤ c.in-Ok-Some.journal.limit = omega (arith, limit, c.in-Ok-Some.ensures.least) in
    let opened = subst (λ (k : ℕ). IsOpened told.0.head k told.0.placed image) (sym limit) told.0.opened in
    let taken = c.in-Err-NoMemory.ensures.takes told.0.head told.0.placed image (c.open_journal.ensures.reads.looks.keeps.holds ∙ read) stands least opened (ap product_of told.0.is ∙ c.requires.gives) in
    (told.0, not_taken image told.0.head c.in-Ok-Some.journal.limit c.args.product.now.journal_limit limit c.in-Err-NoMemory.field-0 taken c.in-Err-NoMemory.field-0-is)

pub returns-in-Err-Bad-clause-opens : goal.returns-in-Err-Bad-clause-opens
returns-in-Err-Bad-clause-opens g c = λ image read.
    let told = subst (λ (o : Option Standing). Opens c.args.text.now c.args.product.now.journal_limit image (Ok o)) c.in-Ok-Some.field-0-is (c.in-Ok-Some.ensures.opens image read) in
    let stands = some_found (λ (s : Standing). StandsIn s image) c.in-Ok-Some.field-0 c.in-Ok-Some.journal c.in-Ok-Some.field-0-is (c.in-Ok-Some.ensures.stands_in image read) in
    let limit = ap (λ (s : Standing). s.limit) told.1 in
    let least : LEAST_LIMIT ≤ c.in-Ok-Some.journal.limit = omega (arith, limit, c.in-Ok-Some.ensures.least) in
    let opened = subst (λ (k : ℕ). IsOpened told.0.head k told.0.placed image) (sym limit) told.0.opened in
    let taken = c.in-Err-Bad.ensures.takes told.0.head told.0.placed image (c.open_journal.ensures.reads.looks.keeps.holds ∙ read) stands least opened (ap product_of told.0.is ∙ c.requires.gives) in
    inr (told.0, bad_unread image told.0.head c.in-Ok-Some.journal.limit c.args.product.now.journal_limit limit c.in-Err-Bad.field-0 taken _ (c.in-Err-Bad.field-0-is ∙ ap none.Bad (sym c.in-Err-Bad.at-is)))
