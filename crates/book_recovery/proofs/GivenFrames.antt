-- Giving one frame after the other.
use Rattle.std.proofs.Common.{◌≡◌, ℕ, ◌+◌, ◌≤◌, List, [], ◌∷◌, ◌++◌, length, refl, sym, ◌∙◌, ap, arith, append_assoc, length-append}
use Rattle.fix_frame.specs.Grammar.{BeginsWithNone}
use Rattle.fix_frame.specs.Stream.{messages_of, rest_of}
use Rattle.fix_frame.specs.StreamLaws.{messages_of-frame-append, rest_of-frame-append}
use Rattle.fix_frame.specs.FrameLaws.{frame_least}
use Rattle.fix_frame.specs.FrontLaws.{unfinished_none}
use Rattle.fix_frame.specs.Framing.{Framing, GivesFrame, GivesNext}
use Rattle.fix_frame.specs.declared.next.Next.{Next}
use Rattle.fix_frame.specs.declared.next.Next.TheVariants.{Frame, More, Bad}

module _ (old new : Framing) (start end : ℕ) (gives : GivesFrame old new start end) where
  pub messages_left : messages_of old.rest ≡ gives.frame ∷ messages_of new.rest
  messages_left = ap messages_of gives.front ∙ messages_of-frame-append gives.frame new.rest gives.is_frame

  pub rest_left : rest_of old.rest ≡ rest_of new.rest
  rest_left = ap rest_of gives.front ∙ rest_of-frame-append gives.frame new.rest gives.is_frame

  -- the frames given and those left are the same
  pub given_left : new.given ++ messages_of new.rest ≡ old.given ++ messages_of old.rest
  given_left =
      ap (λ (l : List (List ℕ)). l ++ messages_of new.rest) gives.given
      ∙ append_assoc old.given (gives.frame ∷ []) (messages_of new.rest)
      ∙ ap (λ (l : List (List ℕ)). old.given ++ l) (sym messages_left)

  pub least_left : 22 + length new.rest ≤ length old.rest
  least_left = omega (arith, ap length gives.front, length-append gives.frame new.rest, frame_least gives.frame gives.is_frame)

-- no frame is left
pub none_left : (old new : Framing) (next : Next) → ((start end : ℕ) → next ≡ Frame start end → ⊥) → GivesNext old new next → (new ≡ old) × BeginsWithNone old.rest
none_left old new (Frame start end) no_frame gives = absurd (no_frame start end refl)
none_left old new More no_frame gives = (gives.0, unfinished_none old.rest gives.1)
none_left old new (Bad at) no_frame gives = (gives.0, gives.2.none)
