-- The answers that the check does not find alone: the invariant first, so that a turn from another state fails by it.
use Prim.Native.Nat.{◌-◌, ◌<◌}
use mathlib.Core.Path.{ap, ◌∙◌}
use native.Mathlib.Omega.{arith}
use borrow.Author.Rules.{rules}
use lib.ListN.{length, take, drop}
use Rattle.text.specs.Cells.{fed}
use Rattle.text.proofs.Feeding.{fed_rest}
use Rattle.text.proofs.Files.{line_most_lem, line_rest}
use Rattle.rulesfile.specs.Bytes.{rules_in_file, rules_step}
use Rattle.rulesfile.proofs.file.rules_piece.Goals as goal

pub loop-rest-preserved : goal.loop-rest-preserved
loop-rest-preserved c =
    let l = c.loop-rest in
    let u = c.rules_line-next.result.used in (
      c.rules_line-next.auto.list ∙ l.invariant.0,
      ap (λ s. fed rules_step s (take (length l.rest.now - u) (drop u l.rest.now))) c.rules_line-next.ensures.file
          ∙ fed_rest rules_step (rules_in_file l.present l.list) l.rest.now u
          ∙ l.invariant.1,
    )

pub slice_bounds-rest-count : goal.slice_bounds-rest-count
slice_bounds-rest-count c = omega (arith, c.rules_line-next.ensures.used, line_most_lem c.loop-rest.present.reader.cr c.loop-rest.rest.now)

pub slice_bounds-rest-start : goal.slice_bounds-rest-start
slice_bounds-rest-start c = let g = line_most_lem c.loop-rest.present.reader.cr c.loop-rest.rest.now in search rules

pub loop-rest-smaller : goal.loop-rest-smaller
loop-rest-smaller c =
    let some : 0 < length c.loop-rest.rest.now = grind arith in
    line_rest c.loop-rest.present.reader.cr c.loop-rest.rest.now some c.rules_line-next.ensures.used
