-- The headers file in pieces, cut anywhere, each answered and written before the next: what is printed is what the whole file prints
-- (`pieces_said` of `specs/Program.antt`).
-- Assumes nothing.
use Prim.Native.Nat.{ℕ}
use mathlib.Core.List.{List, [], ◌∷◌, ◌++◌, flatten}
use mathlib.Core.Path.{◌≡◌, refl, sym, ap, ◌∙◌}
use Rattle.lists.specs.Rules.{Rules}
use Rattle.text.specs.Cells.{fed}
use Rattle.text.specs.Files.{InFile}
use Rattle.text.specs.Judging.{Over}
use Rattle.text.proofs.Feeding.{fed_append}
use Rattle.gateway.specs.HeaderBytes.{Answered, headers_step, headers_end}
use Rattle.gateway.specs.Serving.{quiet}
use Rattle.gateway.specs.Program.{pieces_said}
use Rattle.gateway.proofs.Printing.{fed-prefixed}
use Rattle.gateway.proofs.Serving.{said_front, end_front}

module _ (R : Rules) (T : List ℕ) where
  -- what a state has printed, and then what its quiet one prints to the file's end
  end_said : (s : InFile (Over Answered)) (bs : List ℕ)
      → s.at.own.said ++ (headers_end R T (fed (headers_step R T) (quiet s) bs)).said ≡ (headers_end R T (fed (headers_step R T) s bs)).said
  end_said s bs =
      let w = s.at.own.said in
      sym (ap (λ r. (headers_end R T (fed (headers_step R T) r bs)).said) (said_front s)
      ∙ ap (λ r. (headers_end R T r).said) (fed-prefixed R T w (quiet s) bs)
      ∙ ap (λ y. y.said) (end_front R T w (fed (headers_step R T) (quiet s) bs)))

  pub pieces_whole : (ps : List (List ℕ)) (s : InFile (Over Answered)) → pieces_said R T s ps ≡ (headers_end R T (fed (headers_step R T) s (flatten ps))).said
  unfolding flatten
  pieces_whole [] s = refl
  pieces_whole (p ∷ ps) s =
      let t = fed (headers_step R T) s p in
      ap (λ w. t.at.own.said ++ w) (pieces_whole ps (quiet t))
      ∙ end_said t (flatten ps)
      ∙ ap (λ r. (headers_end R T r).said) (sym (fed_append (headers_step R T) s p (flatten ps)))
