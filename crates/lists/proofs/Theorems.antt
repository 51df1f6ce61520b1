-- What a reader may rely on of lists (layer 2). The statements, R a list with its shape and h a header:
--
--     T6  check_is_n_iff          a check answers n exactly when none of 1 to 4 applies
--         check_4_iff             it refuses by 4 at (i, f) exactly when the shape stands, the range there holds no number, and none before does so
--     T7  scan_rule_iff           a scan answers rule i exactly when none of 1 to 4 applies, i fits, and no rule before i fits
--         scan_nothing_iff        it answers none exactly when none of 1 to 4 applies and no rule fits
--         rule_fits_iff           one rule's test answers yes exactly when d is 1 to 8, the list has the rule, and all d numbers are in its ranges
--         scan_unread             headers that agree on the first d numbers get the same answer; `fits_in_unread`: of one rule, too
--     T8  independent_iff         the answer is yes exactly when none of 1 to 4 applies and no header at all fits two different rules
--         pair_iff                it is (i, j) exactly when none of 1 to 4 applies, a header fits both, and no pair before (i, j) is fitted by one
--         independent_words_iff   both of a list of 32-bit numbers, the headers being those of eight 32-bit numbers alone: yes exactly when none
--                                 of 1 to 4 applies and no such header fits two different rules;
--         pair_words_iff          (i, j) exactly when none applies, such a header fits both, and no pair before is fitted by one
--         pair_header             the header of the greater lows fits both; it has eight numbers, of 32 bits where the list's are
--     W2  edge_iff                a rule has a field at an end exactly when in one of the d fields the number is low or the last number of its range
--         rule_edge_iff           one rule's test answers yes exactly when d is 1 to 8, the list has the rule, and it has such a field
--         edge_unread             headers that agree on the first d numbers get the same answer
--     W8  flags_past_d_unread     shapes of one d whose flags agree below d give a list one and the same meaning, so that every operation gives
--                                 the same answer and leaves the same table
--         date_ends_before_high   a range of dates ends before its high ..
--         plain_ends_with_high    .. and every range of a list without flags with it
--         equal_highs_iff         highs of one field are equal exactly when their ends are, so that ranges are equal as 01 has it
--
-- The contracts of `check_list`, `plain_scan`, `rule_fits`, `independence` and `rule_edge` are equations with the definitions named here, so each
-- statement is one on the function. A header is any list of numbers, but for the two statements of T8 that say otherwise: what is said of
-- every header holds of eight numbers of 32 bits.
-- Assumes nothing.
use Prim.Native.Nat.{ℕ, ◌^◌, ◌≤◌, ◌<◌}
use mathlib.Core.Bool.{true, false}
use mathlib.Core.List.{List}
use mathlib.Core.Logic.{◌↔◌}
use mathlib.Core.Path.{◌≡◌, sym, ap, ◌∙◌}
use native.Mathlib.Omega.{arith}
use lib.Dec.{ltb}
use lib.ListN.{length, get_or}
use borrow.Author.Tests.{lt-ltb, le-ltb, ltb-true, le-leb, lt-leb, leb-true, leb-false}
use Rattle.std.specs.Prelude.{Ok, Err, Some, None}
use Rattle.ranges.specs.Numbers.{least}
use Rattle.ranges.specs.Sides.{end_of}
use Rattle.ranges.specs.Refusals.{Refusal, Fault, none, refused_at, refusing, unless, number_in}
use Rattle.ranges.specs.declared.refusal.Cause.TheVariants.{LowAboveHigh}
use Rattle.ranges.proofs.InARow.{not-none, else_none, else_iff}
use Rattle.ranges.proofs.Sides.{past_one}
use Rattle.ranges.proofs.Numbers.{picked, and_left, and_right, least_is, least-none, least_hit, least_under}
use Rattle.lists.specs.declared.shape.Shape.{Shape}
use Rattle.lists.specs.Rules.{Rules, Shaped, shape_of, flag_of, listed, is_date, fields_of, rules_in, low_of, high_of, ends_at, is_void}
use Rattle.lists.specs.Found.{found_below}
use Rattle.lists.specs.Faults.{in_list, shape_fault, ends_fault, list_fault, bad_rule}
use Rattle.lists.specs.Check.{check_of}
use Rattle.lists.specs.Headers.{header_length, IsHeader}
use Rattle.lists.specs.FirstMatch.{fits, first_match}
use Rattle.lists.specs.Scan.{fits_in, match_of, scan_of}
use Rattle.lists.specs.Edges.{edge_of, rule_edge}
use Rattle.lists.specs.Independence.{meet, independence_of}
use Rattle.lists.proofs.Search.{found_is, found_none}
use Rattle.lists.proofs.Dates.{date_flag, dates_same, date_ends, ends_plain}
use Rattle.lists.proofs.InList.{Listed, in_told, in_yes}
use Rattle.lists.proofs.Faults.{shaped, shape_few}
use Rattle.lists.proofs.Voids.{bad, bad_field, ends_4, SoundRule, not-bad}
use Rattle.lists.proofs.Sound.{Accepted, list_accepted, accepted_none, shaped_none, sound_answered}
use Rattle.lists.proofs.Fitting.{Inside, fits_inside, inside_fits, fits_same, first_same}
use Rattle.lists.proofs.Edges.{AtEdge, edge_at_iff, edge_same}
use Rattle.lists.proofs.Meeting.{shared_header, shared_length, shared_below, fits-meet, meet-fits}
use Rattle.lists.proofs.Pairs.{WhenMeet, independent_share_iff, pair_share_iff}
pub use Rattle.lists.proofs.Pairs.{LeastPair}

-- ---- T6
-- a check answers n exactly when none of 1 to 4 applies: it refuses nothing else, and lets none of them pass
pub check_is_n_iff : (R : Rules) → (check_of R ≡ Ok (rules_in R)) ↔ Accepted R
check_is_n_iff R = (
  λ e. list_accepted R ((else_none (list_fault R) (Ok (rules_in R))).0 e).0,
  λ s. rw (accepted_none R s),
)

-- the place of refusal 4: the range in field f of rule i holds no number, and none does so in a rule before it, nor in a field before it
pub record LeastVoid (R : Rules) (i f : ℕ) : Type 0 where
  pub shape : Shaped R
  pub rule : i < rules_in R
  pub field : f < fields_of R
  pub void : ends_at R i f ≤ low_of R i f
  pub rules_before : (k : ℕ) → k < i → SoundRule R k
  pub fields_before : (g : ℕ) → g < f → low_of R i g < ends_at R i g

-- the least rule with a void range, at its least such field
void_here : (R : Rules) (b : ℕ) → Shaped R → b < rules_in R → bad R b ≡ true → ((k : ℕ) → k < b → bad R k ≡ false)
    → LeastVoid R b (least (fields_of R) (is_void R b))
void_here R b s lt is-bad under =
    let v = least (fields_of R) (is_void R b) in
    let field = bad_field R b is-bad in
    record {
      shape = s;
      rule = lt;
      field = field;
      void = leb-true (ends_at R b v) (low_of R b v) (least_hit (is_void R b) (fields_of R) field);
      rules_before = λ k below. not-bad R k (under k below);
      fields_before = λ g below. leb-false (ends_at R b g) (low_of R b g) (least_under (is_void R b) (fields_of R) g below);
    }

-- so 4 is given at no other place
ends_least : (R : Rules) (i f : ℕ) → Shaped R → ends_fault R ≡ refused_at LowAboveHigh i f → LeastVoid R i f
unfolding ends_fault bad_rule
ends_least R i f s e =
    let b = least (rules_in R) (bad R) in
    let v = least (fields_of R) (is_void R b) in
    let told = picked (refused_at LowAboveHigh b v) none (refused_at LowAboveHigh i f) (ltb b (rules_in R)) e (λ r. not-none (sym r)) in
    let same : refusing LowAboveHigh b v ≡ refusing LowAboveHigh i f = cc told.1 in
    let lt = ltb-true b (rules_in R) told.0 in
    let here = void_here R b s lt (least_hit (bad R) (rules_in R) lt) (least_under (bad R) (rules_in R)) in
    moved b v (ap (λ (x : Refusal). x.at) same) (ap (λ (x : Refusal). x.then) same) here
  where
    moved : (b v : ℕ) → b ≡ i → v ≡ f → LeastVoid R b v → LeastVoid R i f
    moved b v is_i is_f here = rw (← is_i, ← is_f) here

-- 4 is given exactly at the smallest rule number with a range that holds no number, and there at its smallest such field, and only where 1, 2, 3
-- do not apply
pub check_4_iff : (R : Rules) (i f : ℕ) → (check_of R ≡ refused_at LowAboveHigh i f) ↔ LeastVoid R i f
check_4_iff R i f = (λ e. to (refusal e), fro)
  where
    four : Refusal
    four = refusing LowAboveHigh i f

    refusal : check_of R ≡ Err four → list_fault R ≡ Err four
    refusal = go (list_fault R)
      where
        go : (y : Fault) → unless y (rules_in R) ≡ Err four → y ≡ Err four
        go (Ok u) e = absurd (not-none (sym e))
        go (Err x) e = cc

    not_shape : shape_fault R ≡ Err four → ⊥
    not_shape r = absurd (omega (arith, ap number_in r, shape_few R))

    to : list_fault R ≡ Err four → LeastVoid R i f
    to e =
        let told = (else_iff (shape_fault R) (ends_fault R) four not_shape).0 e in
        ends_least R i f (shaped R told.0) told.1

    fro : LeastVoid R i f → check_of R ≡ Err four
    fro l =
        let here = le-leb (ends_at R i f) (low_of R i f) l.void in
        let first = least_is (is_void R i) (fields_of R) f l.field here (λ g lt. lt-leb (ends_at R i g) (low_of R i g) (l.fields_before g lt)) in
        let le : i ≤ rules_in R = omega (arith, l.rule) in
        let found : Some f ≡ found_below (fields_of R) (least (fields_of R) (is_void R i)) = rw (first, lt-ltb f (fields_of R) l.field) in
        let ends = ends_4 R i (sound_answered R i le l.rules_before) found l.rule in
        rw (shaped_none R l.shape, ← ends)

-- ---- T7
-- rule i is the first that fits
pub record First (R : Rules) (h : List ℕ) (i : ℕ) : Type 0 where
  pub rule : i < rules_in R
  pub here : fits R h i ≡ true
  pub before : (k : ℕ) → k < i → fits R h k ≡ false

-- the least rule number that fits is such a rule, and the only one
first-here : (R : Rules) (h : List ℕ) → first_match R h < rules_in R → First R h (first_match R h)
unfolding first_match
first-here R h lt =
    record { rule = lt; here = least_hit (fits R h) (rules_in R) lt; before = least_under (fits R h) (rules_in R) }

first_one : (R : Rules) (h : List ℕ) (i : ℕ) → First R h i → first_match R h ≡ i
unfolding first_match
first_one R h i first = least_is (fits R h) (rules_in R) i first.rule first.here first.before

module _ (R : Rules) (h : List ℕ) where
  -- a rule returned fits and none before it does; and the first rule that fits is returned
  pub scan_rule_iff : (i : ℕ) → (scan_of R h ≡ Ok (Some i)) ↔ (Accepted R × First R h i)
  scan_rule_iff i = (
    λ e.
        let told = (else_none (list_fault R) (Ok (match_of R h))).0 e in
        let is : Some i ≡ match_of R h = cc told.1 in
        let found = found_is is in
        (list_accepted R told.0, rw (sym found.0) at (first-here R h (rw found.0 at found.1))),
    λ p. rw (accepted_none R p.0, first_one R h i p.1, lt-ltb i (rules_in R) p.1.rule),
  )

  -- none is returned exactly where no rule fits
  pub scan_nothing_iff : (scan_of R h ≡ Ok None) ↔ (Accepted R × ((k : ℕ) → k < rules_in R → fits R h k ≡ false))
  unfolding first_match
  scan_nothing_iff =
      let n = rules_in R in (
        λ e.
            let told = (else_none (list_fault R) (Ok (match_of R h))).0 e in
            let is : None ≡ match_of R h = cc told.1 in
            let over = found_none is in
            (list_accepted R told.0, λ k lt. least_under (fits R h) n k (omega arith)),
        λ p. rw (accepted_none R p.0, least-none (fits R h) n p.1, le-ltb n n (omega arith)),
      )

-- rule i is one of the list, and its range holds the number in all d fields
pub record FitsRule (R : Rules) (h : List ℕ) (i : ℕ) : Type 0 where
  pub listed : Listed R i
  pub inside : (f : ℕ) → f < fields_of R → Inside R h i f

-- what a yes of `rule_fits` tells, and when it is given; a lookup confirms its candidate by it
pub rule_fits_iff : (R : Rules) (h : List ℕ) (i : ℕ) → (fits_in R h i ≡ true) ↔ FitsRule R h i
unfolding fits_in
rule_fits_iff R h i = (
  λ e. record { listed = in_told R i (and_left (in_list R i) (fits R h i) e); inside = fits_inside R h i (and_right (in_list R i) (fits R h i) e) },
  λ p. rw (in_yes R i p.listed) (inside_fits R h i p.inside),
)

-- a header's numbers past d alter nothing
module _ (R : Rules) (h g : List ℕ) (agree : (f : ℕ) → f < fields_of R → get_or h f 0 ≡ get_or g f 0) where
  pub scan_unread : scan_of R h ≡ scan_of R g
  scan_unread = rw (first_same R h g agree)

  pub fits_in_unread : (i : ℕ) → fits_in R h i ≡ fits_in R g i
  unfolding fits_in
  fits_in_unread i = rw (fits_same R h g agree i)

-- ---- T8
-- rules i and j share a header: some list of numbers fits both
abbrev pub Shared : Rules → ℕ → ℕ → Type 0
Shared R i j = (h : List ℕ) × (fits R h i ≡ true) × (fits R h j ≡ true)

-- they share one of eight 32-bit numbers
abbrev pub SharedWords : Rules → ℕ → ℕ → Type 0
SharedWords R i j = (h : List ℕ) × IsHeader h × (fits R h i ≡ true) × (fits R h j ≡ true)

-- each number of the list is of 32 bits
abbrev pub Words : Rules → Type 0
Words R = (k : ℕ) → get_or R.numbers k 0 < 2 ^ 32

-- of rules that meet, the header of the greater lows fits both ..
shared_fits : (R : Rules) → Accepted R → (i j : ℕ) → i < rules_in R → j < rules_in R → meet R i j ≡ true
    → (fits R (shared_header R i j) i ≡ true) × (fits R (shared_header R i j) j ≡ true)
shared_fits R s i j i-rule j-rule met = meet-fits R i j s.shape.few_fields (λ f. s.ranges.ends i f i-rule) (λ f. s.ranges.ends j f j-rule) met

-- .. and is eight 32-bit numbers where the list's are of 32 bits
shared_is_header : (R : Rules) → Words R → (i j : ℕ) → IsHeader (shared_header R i j)
shared_is_header R words i j = record { eight = shared_length R i j; words = shared_below R i j (2 ^ 32) words }

-- so rules share a header exactly when they meet, among all headers and among those of eight 32-bit numbers
shared_when : (R : Rules) → WhenMeet R (Shared R)
shared_when R =
    record {
      met = λ i j p. fits-meet R i j p.0 p.1 p.2;
      share = λ s i j i-rule j-rule met. let fit = shared_fits R s i j i-rule j-rule met in (shared_header R i j, fit.0, fit.1);
    }

shared_words_when : (R : Rules) → Words R → WhenMeet R (SharedWords R)
shared_words_when R words =
    record {
      met = λ i j p. fits-meet R i j p.0 p.2 p.3;
      share = λ s i j i-rule j-rule met. let fit = shared_fits R s i j i-rule j-rule met in (shared_header R i j, shared_is_header R words i j, fit.0, fit.1);
    }

-- yes is answered exactly when nothing is refused and no two rules share a header
pub independent_iff : (R : Rules)
    → (independence_of R ≡ Ok None) ↔ (Accepted R × ((i j : ℕ) → i < j → j < rules_in R → Shared R i j → ⊥))
independent_iff R = independent_share_iff R (shared_when R)

-- a pair is named exactly when nothing is refused, it shares a header, and no pair before it does: none with a smaller i, nor with this i
-- and a smaller j
pub pair_iff : (R : Rules) (i j : ℕ) → (independence_of R ≡ Ok (Some (i, j))) ↔ LeastPair R (Shared R) i j
pair_iff R = pair_share_iff R (shared_when R)

-- the same of a list of 32-bit numbers, where a header is eight 32-bit numbers and nothing else: yes ..
pub independent_words_iff : (R : Rules) → Words R
    → (independence_of R ≡ Ok None) ↔ (Accepted R × ((i j : ℕ) → i < j → j < rules_in R → SharedWords R i j → ⊥))
independent_words_iff R words = independent_share_iff R (shared_words_when R words)

-- .. and the pair
pub pair_words_iff : (R : Rules) → Words R → (i j : ℕ) → (independence_of R ≡ Ok (Some (i, j))) ↔ LeastPair R (SharedWords R) i j
pair_words_iff R words = pair_share_iff R (shared_words_when R words)

-- h fits both rules of the pair; it is eight numbers, and of 32 bits each where the list's are
pub record FitsBoth (R : Rules) (i j : ℕ) (h : List ℕ) : Type 0 where
  pub eight : length h ≡ header_length
  pub first : fits R h i ≡ true
  pub second : fits R h j ≡ true
  pub words : Words R → IsHeader h

-- a header that both rules of the pair named fit can be written down: in each field the greater of their lows
pub pair_header : (R : Rules) (i j : ℕ) → independence_of R ≡ Ok (Some (i, j)) → FitsBoth R i j (shared_header R i j)
pair_header R i j e =
    let p = (pair_iff R i j).0 e in
    let i-rule : i < rules_in R = omega (arith, p.after, p.rule) in
    let fit = shared_fits R p.accepted i j i-rule p.rule ((shared_when R).met i j p.both) in
    record { eight = shared_length R i j; first = fit.0; second = fit.1; words = λ words. shared_is_header R words i j }

-- ---- W2
-- rule i has a field at an end exactly when in some field below d the number is inside its range, and low or the last number of it
pub edge_iff : (R : Rules) (h : List ℕ) (i : ℕ) → (edge_of R h i ≡ true) ↔ AtEdge R h i
edge_iff = edge_at_iff

-- what a yes of `rule_edge` tells, and when it is given
pub rule_edge_iff : (R : Rules) (h : List ℕ) (i : ℕ) → (rule_edge R h i ≡ true) ↔ (Listed R i × AtEdge R h i)
unfolding rule_edge
rule_edge_iff R h i = (
  λ e. (in_told R i (and_left (in_list R i) (edge_of R h i) e), (edge_at_iff R h i).0 (and_right (in_list R i) (edge_of R h i) e)),
  λ p. rw (in_yes R i p.0) ((edge_at_iff R h i).1 p.1),
)

-- a header's numbers past d alter nothing
pub edge_unread : (R : Rules) (h g : List ℕ) → ((f : ℕ) → f < fields_of R → get_or h f 0 ≡ get_or g f 0) → (i : ℕ) → rule_edge R h i ≡ rule_edge R g i
unfolding rule_edge
edge_unread R h g agree i = rw (edge_same R h g agree i)

-- ---- W8
-- every contract and every statement speaks of a list through `listed`, which keeps the flags of the d fields alone: so this one equation
-- says of every operation, also of those of the crates above, that it takes no notice of the others
pub flags_past_d_unread : (s t : Shape) → s.d ≡ t.d → ((f : ℕ) → f < s.d → flag_of s f ≡ flag_of t f) → (l : List ℕ) → listed s l ≡ listed t l
flags_past_d_unread = dates_same

pub date_ends_before_high : (s : Shape) (l : List ℕ) (i f : ℕ) → f < s.d → flag_of s f ≡ true → ends_at (listed s l) i f ≡ high_of (listed s l) i f
date_ends_before_high s l i f in_row flag = date_ends (listed s l) i f (date_flag s l f in_row ∙ flag)

pub plain_ends_with_high : (d : ℕ) (l : List ℕ) (i f : ℕ) → ends_at (listed (shape_of d) l) i f ≡ end_of (high_of (listed (shape_of d) l) i f)
plain_ends_with_high = ends_plain

-- a field is a date for every rule or for none
pub equal_highs_iff : (R : Rules) (i j f : ℕ) → (ends_at R i f ≡ ends_at R j f) ↔ (high_of R i f ≡ high_of R j f)
unfolding ends_at
equal_highs_iff R i j f = past_one (is_date R f) (high_of R i f) (high_of R j f)
