-- `words::prefix_words::call_r2p` meets its contract: each test that fails is a bad line; the run is all past place 3.
-- Assumes nothing.
use Rattle.words.proofs.Words.{r2p_short, r2p_long, r2p_cut, r2p_bad, r2p_made}
use Rattle.words.proofs.prefix_words.call_r2p.Goals as goal

-- too few numbers
pub returns-then-given-lt4 : goal.returns-then-given-lt4
returns-then-given-lt4 c =
    let all = r2p_bad _ (r2p_short _ c.if-given-lt4.true) c.put_bad.ensures in
    record { put_few = all.0; given_after = all.1 }

-- a run too long
pub returns-then-k-gt-RUN_MOST : goal.returns-then-k-gt-RUN_MOST
returns-then-k-gt-RUN_MOST c =
    let all = r2p_bad _ (r2p_long _ c.if-given-lt4.false c.if-k-gt-RUN_MOST.true) c.put_bad-then-k-gt-RUN_MOST.ensures in
    record { put_few = all.0; given_after = all.1 }

-- a run cut short, or more after it
pub returns-then-given-k : goal.returns-then-given-k
returns-then-given-k c =
    let all = r2p_bad _ (r2p_cut _ c.if-given-lt4.false c.if-k-gt-RUN_MOST.false c.if-given-k.true) c.put_bad-then-given-k.ensures in
    record { put_few = all.0; given_after = all.1 }

-- the call
pub returns : goal.returns
returns c =
    let all = r2p_made _ c.if-given-lt4.false c.if-k-gt-RUN_MOST.false c.if-given-k.false c.put_expanded.ensures.put_few c.put_expanded.ensures.run_after in
    record { put_few = all.0; given_after = all.1 }
