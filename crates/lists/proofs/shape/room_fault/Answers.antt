-- `lists::shape::room_fault` meets its contract: at each way out the tests that led there give the law of that refusal.
-- Assumes nothing.
use mathlib.Core.Path.{sym, ap, ◌∙◌}
use Rattle.std.specs.Prelude.{Err}
use Rattle.lists.proofs.InUse.{room_no_fields, room_many_fields, room_other_length, room_stands}
use Rattle.lists.proofs.shape.room_fault.Goals as goal

-- 1: no field
pub returns-then-d-lt1 : goal.returns-then-d-lt1
returns-then-d-lt1 c = ap Err c.refuse.ensures ∙ sym (room_no_fields _ c.if-d-lt1.true)

-- 1: more than eight fields
pub returns-then-d-gt-MOST_FIELDS : goal.returns-then-d-gt-MOST_FIELDS
returns-then-d-gt-MOST_FIELDS c = ap Err c.refuse-then-d-gt-MOST_FIELDS.ensures ∙ sym (room_many_fields _ c.if-d-lt1.false c.if-d-gt-MOST_FIELDS.true)

-- 2
pub returns-then-list-d : goal.returns-then-list-d
returns-then-list-d c =
    ap Err c.refuse-then-list-d.ensures ∙ sym (room_other_length _ c.if-d-lt1.false c.if-d-gt-MOST_FIELDS.false c.if-list-d.true)

-- neither
pub returns : goal.returns
returns c =
    sym (room_stands _ c.if-d-lt1.false c.if-d-gt-MOST_FIELDS.false c.if-list-d.false)
