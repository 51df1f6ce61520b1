-- `lists::shape::is_date` meets its contract: there are eight flags, and shifted by f the number's lowest bit is flag f.
-- Assumes nothing.
use Rattle.lists.proofs.Dates.{flag_none, flag_by}
use Rattle.lists.proofs.shape.is_date.Goals as goal

-- past the eighth
pub returns-then-f-ge-MOST_FIELDS : goal.returns-then-f-ge-MOST_FIELDS
returns-then-f-ge-MOST_FIELDS c = flag_none _ _ c.if-f-ge-MOST_FIELDS.true

-- one of the eight
pub returns : goal.returns
returns c = flag_by _ _ c.if-f-ge-MOST_FIELDS.false
