-- What an image is, by its first thirteen bytes.
use Rattle.std.proofs.Common.{◌≡◌, ◌≢◌, inl, inr, ⊎_elim, ℕ, ◌+◌, ◌<◌, List, ◌++◌, length, get_or, take, drop, None, Ok, Err, refl, sym, ◌∙◌, ap, arith}
use Rattle.std.specs.Int.{w32, to_be_bytes}
use Rattle.std.proofs.Math.Seq.{take-add}
use Rattle.std.proofs.lemmas.List.{take-take, drop-take, drop-drop, get_or-take}
use Rattle.match_journal.specs.Journal.{Header, magic}
use Rattle.match_journal.specs.Classes.{HasHeader, HasOpenGate, IsForeignAt, HasBadHeader, first_difference, magic_difference}
use Rattle.match_journal.specs.HeaderLaws.{length-magic, drop-magic, header_magic, header_front}
use Rattle.match_journal.specs.Inner.Fronts.{MagicAnswers, HasSize, IsSize, SizeAnswers}
use Rattle.match_journal.specs.declared.version.Version.{Version}
use Rattle.match_journal.specs.declared.version.Version.TheVariants.{First, Second}
use Rattle.match_journal.proofs.Texts.{fd_take, fd_of_front}

-- ---- the first place at which a text differs from both magics

-- what begins with the magic of neither version differs from each before its end
pub no_version : (text : List ℕ) (at : ℕ) → MagicAnswers text (Err at) → (v : Version) → take 8 text ≡ magic v → ⊥
no_version text at answers First stands = omega (arith, answers.0, answers.1, fd_of_front (magic First) text stands)
no_version text at answers Second stands = omega (arith, answers.0, answers.1, fd_of_front (magic Second) text stands)

-- ---- by the front of an image

module _ (head image : List ℕ) (is : head ≡ take 13 image) where
  pub head_byte : get_or head 0 0 ≡ get_or image 0 0
  head_byte = ap (λ (l : List ℕ). get_or l 0 0) is ∙ get_or-take 13 image 0 0 (omega arith)

  magic_place : (v : Version) → first_difference (magic v) (drop 1 head) ≡ first_difference (magic v) (drop 1 image)
  magic_place v = ap (λ (l : List ℕ). first_difference (magic v) (drop 1 l)) is ∙ ap (first_difference (magic v)) (drop-take 1 12 image) ∙ fd_take 12 (magic v) (drop 1 image) (omega (arith, length-magic v))

  same_difference : magic_difference (drop 1 head) ≡ magic_difference (drop 1 image)
  same_difference = omega (arith, magic_place First, magic_place Second)

  magic_bytes : take 8 (drop 1 head) ≡ take 8 (drop 1 image)
  magic_bytes = ap (λ (l : List ℕ). take 8 (drop 1 l)) is ∙ ap (take 8) (drop-take 1 12 image) ∙ take-take 8 12 (drop 1 image) (omega arith)

  size_bytes : take 4 (drop 9 head) ≡ take 4 (drop 9 image)
  size_bytes = ap (λ (l : List ℕ). take 4 (drop 9 l)) is ∙ ap (take 4) (drop-take 9 4 image) ∙ take-take 4 4 (drop 9 image) (omega arith)

  no_magic : (at : ℕ) → MagicAnswers (drop 1 head) (Err at) → (v : Version) → take 8 (drop 1 image) ≡ magic v → ⊥
  no_magic at answers v stands = no_version (drop 1 head) at answers v (magic_bytes ∙ stands)

  pub header_size : (other : Header) (len : ℕ) → length image ≡ len → HasHeader other image → IsSize head len (length other.text)
  header_size other len size h = record {
    few = h.few;
    inside = omega (arith, h.inside, size);
    stands =
        size_bytes
        ∙ ap (take 4) (sym (drop-drop 8 1 image))
        ∙ sym (drop-take 8 4 (drop 1 image))
        ∙ ap (drop 8) (header_front other image h)
        ∙ drop-magic other.version (to_be_bytes w32 (length other.text));
  }

  -- the magic of a version, and the length of a text
  pub has_size : (v : Version) (len size : ℕ) → length image ≡ len → MagicAnswers (drop 1 head) (Ok v) → IsSize head len size → HasSize v size image
  has_size v len size long stands is_size = record {
    few = is_size.few;
    stands =
        take-add 8 4 (drop 1 image)
        ∙ ap (λ (l : List ℕ). l ++ take 4 (drop 8 (drop 1 image))) (sym magic_bytes ∙ stands)
        ∙ ap (λ (l : List ℕ). magic v ++ l) (ap (take 4) (drop-drop 8 1 image) ∙ sym size_bytes ∙ is_size.stands);
    inside = omega (arith, is_size.inside, long);
  }

  -- neither 0 nor 1 comes first, and no header
  pub foreign_first : 1 < length image → get_or head 0 0 ≢ 0 → get_or head 0 0 ≢ 1 → ((other : Header) → HasHeader other image → ⊥) → IsForeignAt image 0
  foreign_first some not_zero not_one no_header = record {
    foreign = record {
      not_blank = λ blank. ⊎_elim (λ short. omega (arith, short, some)) (λ closed. not_zero (head_byte ∙ closed.0)) blank;
      not_sealed = λ other s. no_header other s.header;
      not_journal = λ j. not_one (head_byte ∙ j.opened);
    };
    place = inl (λ one. not_one (head_byte ∙ one), refl);
  }

  pub foreign_magic : 1 < length image → get_or head 0 0 ≢ 0 → get_or head 0 0 ≢ 1 → (at : ℕ) → MagicAnswers (drop 1 head) (Err at) → IsForeignAt image 0
  foreign_magic some not_zero not_one at answers = foreign_first some not_zero not_one (λ other h. no_magic at answers other.version (header_magic other image h))

  pub foreign_size : (len : ℕ) → length image ≡ len → 1 < length image → get_or head 0 0 ≢ 0 → get_or head 0 0 ≢ 1 → SizeAnswers head len None → IsForeignAt image 0
  foreign_size len size some not_zero not_one none = foreign_first some not_zero not_one (λ other h. none (length other.text) (header_size other len size h))

  -- the first gate is open, and the magic of neither version stands after it
  pub foreign_open : 1 < length image → get_or head 0 0 ≡ 1 → (at : ℕ) → MagicAnswers (drop 1 head) (Err at) → IsForeignAt image (1 + at)
  foreign_open some one at answers = record {
    foreign = record {
      not_blank = λ blank. ⊎_elim (λ short. omega (arith, short, some)) (λ closed. omega (arith, one, head_byte, closed.0)) blank;
      not_sealed = λ other s. no_magic at answers other.version (header_magic other image s.header);
      not_journal = λ j. no_magic at answers j.version j.magic;
    };
    place = inr (sym head_byte ∙ one, ap (λ k. 1 + k) (answers.1 ∙ same_difference));
  }

  pub bad_size : (len : ℕ) → length image ≡ len → HasOpenGate image → SizeAnswers head len None → HasBadHeader image 9
  bad_size len size j none = record { journal = j; no_header = λ other h. none (length other.text) (header_size other len size h); place = refl }

  -- the magic of a version stands after the first gate
  pub magic_opened : get_or head 0 0 ≡ 1 → (v : Version) → MagicAnswers (drop 1 head) (Ok v) → HasOpenGate image
  magic_opened one v stands = record { opened = sym head_byte ∙ one; version = v; magic = sym magic_bytes ∙ stands }
