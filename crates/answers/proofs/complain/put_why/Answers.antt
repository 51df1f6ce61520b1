-- `answers::complain::put_why` meets its contract, flaw by flaw.
-- Assumes nothing.
use Rattle.text.proofs.Puts.{puts_then}
use Rattle.answers.proofs.complain.put_why.Goals as goal

pub returns-in-NotNumber : goal.returns-in-NotNumber
returns-in-NotNumber c = rw (c.in-Some.is, c.in-NotNumber.is) (puts_then c.text.ensures c.put_not_number.ensures)

pub returns-in-LoneFeed : goal.returns-in-LoneFeed
returns-in-LoneFeed c = rw (c.in-Some.is, c.in-LoneFeed.is) (puts_then c.text-in-LoneFeed.ensures c.put_feed.ensures)

pub returns-in-OtherWidth : goal.returns-in-OtherWidth
returns-in-OtherWidth c =
    rw (c.in-Some.is, c.in-OtherWidth.is) (puts_then (puts_then (puts_then c.text-in-OtherWidth.ensures c.put_cells.ensures) c.text-in-OtherWidth-2.ensures) c.put_counted.ensures)
