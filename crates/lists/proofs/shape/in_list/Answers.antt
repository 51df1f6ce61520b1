-- `lists::shape::in_list` meets its contract: at each way out the tests that led there give the law of that answer.
-- Assumes nothing.
use Rattle.lists.proofs.InList.{in_no_fields, in_many_fields, in_by}
use Rattle.lists.proofs.shape.in_list.Goals as goal

-- no field
pub returns-then-d-lt1 : goal.returns-then-d-lt1
returns-then-d-lt1 c = in_no_fields _ _ c.if-d-lt1.true

-- more than eight fields
pub returns-then-d-gt-MOST_FIELDS : goal.returns-then-d-gt-MOST_FIELDS
returns-then-d-gt-MOST_FIELDS c = in_many_fields _ _ c.if-d-lt1.false c.if-d-gt-MOST_FIELDS.true

-- where the rule's last field ends
pub returns : goal.returns
returns c = in_by _ _ _ c.if-d-lt1.false c.if-d-gt-MOST_FIELDS.false c.offset_of.ensures
