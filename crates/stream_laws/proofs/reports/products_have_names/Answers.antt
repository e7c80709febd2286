use Rattle.stream_laws.proofs.Products.{product-names}
use Rattle.stream_laws.proofs.reports.products_have_names.Goals as goal

pub returns : goal.returns
returns c = product-names
