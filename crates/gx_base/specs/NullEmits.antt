-- What a `NullEmit` stands for: nothing.
use Rattle.std.specs.Prelude.{false, refl}
use Rattle.gx_base.specs.Emits.{EmitMeanings}
use Rattle.gx_base.specs.declared.emit.NullEmit.{NullEmit}

abbrev pub null_meanings : EmitMeanings NullEmit
null_meanings = record {
  Seen = Unit {0};
  seen = λ _. tt;
  after = λ _ _ _. tt;
  has_failed = λ _. false;
  IsPart = λ _ _. Unit {0};
  part_itself = λ _. tt;
  Later = λ _ _. Unit {0};
  later_itself = λ _. tt;
  later_then = λ _ _ _ _ _. tt;
  after_stays = λ _ _ _. refl;
}
