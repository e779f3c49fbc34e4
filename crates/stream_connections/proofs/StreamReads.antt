-- What is handed out of what comes is what all of it is cut into.
use Rattle.std.proofs.Common.{◌≡◌, ◌≢◌, ◌∙◌, ℕ, List, [], ◌∷◌, ◌++◌, drop, Some, refl, ap, sym, subst, arith, append_assoc}
use Rattle.std.proofs.lemmas.List.{append-nil, drop-append-le, take-append-le}
use Rattle.sip_framing.specs.Frame.{frame_len, frame_of}
use Rattle.sip_framing.specs.declared.frame.Frame.{Frame}
use Rattle.sip_framing.specs.declared.frame.Frame.TheVariants.{More}
use Rattle.sip_framing.specs.Stream.{Cuts, FramesStay}
use Rattle.stream_connections.specs.Received.{Received, most_message}
use Rattle.stream_connections.specs.Reading.{Comes, Leaves, PiecesAreOfTheStream, came, pieces}

taken_is_settled : (f : Frame) (n : ℕ) → frame_len f ≡ Some n → f ≢ More
taken_is_settled f n e same = grind arith

module _ (stays : FramesStay) where
  pub pieces_are : PiecesAreOfTheStream
  pieces_are old new [] run none =
      subst (λ (text : List ℕ). Cuts most_message text [] new.waiting) (sym (append-nil old.waiting ∙ ap (λ (s : Received). s.waiting) (sym run))) (refl, none)
  pieces_are old new (Comes now bytes ∷ steps) run none =
      let behind = pieces_are run.0 new steps run.2 none in
      let is : run.0.waiting ≡ old.waiting ++ bytes = ap (λ (s : Received). s.waiting) run.1 in
      subst (λ (text : List ℕ). Cuts most_message text (pieces steps) new.waiting) (ap (λ (w : List ℕ). w ++ came steps) is ∙ append_assoc old.waiting bytes (came steps)) behind
  pieces_are old new (Leaves now piece ∷ steps) run none =
      let behind = pieces_are run.0 new steps run.2 none in
      let step = run.1 in
      let n = step.0 in
      let is : run.0.waiting ≡ drop n old.waiting = ap (λ (s : Received). s.waiting) step.4 in
      let fits = step.2 in
      let same = stays most_message old.waiting (came steps) (omega arith) (taken_is_settled (frame_of most_message old.waiting) n step.1) in (
        n,
        ap frame_len same ∙ step.1,
        step.3 ∙ sym (take-append-le n old.waiting (came steps) fits),
        subst (λ (text : List ℕ). Cuts most_message text (pieces steps) new.waiting) (ap (λ (w : List ℕ). w ++ came steps) is ∙ sym (drop-append-le n old.waiting (came steps) fits)) behind,
      )
