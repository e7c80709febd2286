-- What a command works with, before the first message.
use Rattle.std.specs.Prelude.{◌≡◌, []}
use Rattle.plain_book.specs.declared.book.Book.{Ghosts}
use Rattle.product_file.specs.Products.{ProductLists}
use Rattle.order_kinds.specs.State.{empty_state}
use Rattle.book_recovery.specs.Recovering.{HasRoomFor}
use Rattle.globex_run.specs.Inner.Serving.{IsEmptyFramer}
use Rattle.globex_run.specs.declared.session.Engine.{Engine}
use Rattle.globex_run.specs.declared.session.Session.{Session}

pub record IsNewEngine {B : Type 0} (product : ProductLists) (engine : Engine B) : Type 0 where
  pub core : engine.core ≡ empty_state product
  pub reports : engine.reports ≡ []

pub record IsNewSession {B : Type 0} {ghosts : Ghosts B} (session : Session B ghosts) : Type 0 where
  pub engine : IsNewEngine session.product.now session.engine
  pub framer : IsEmptyFramer session.framer
  pub room : HasRoomFor session.product.now session.scratch
