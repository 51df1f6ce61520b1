-- Laws of what the functions that read, hand on and write leave (`specs/Serving.antt`).
--     RulesOn, on_start, on_more, on_flawed, on_ended         its pieces, one after the other
--     said_front, end_front, quiet-fed, quiet_end             what was printed before does not matter
--     TurnOn, turn_start, turn_more, turn_all, turn_some    the bytes of one read
--     HeadersOn, headers_start, headers_more, headers_ended   the headers file's pieces, one after the other
--     read_at_front                                           answered by what stands at the front of what is lent
-- Assumes nothing.
use Prim.Native.Nat.{ℕ, ◌-◌, ◌/◌}
use mathlib.Core.Bool.{Bool, true, false, not}
use mathlib.Core.List.{List, [], ◌∷◌, ◌++◌, flatten, append_assoc, append-nil}
use mathlib.Core.Path.{◌≡◌, refl, sym, ap, ◌∙◌, subst}
use lib.ListN.{length, take, drop}
use Rattle.std.proofs.lemmas.List.{take-append-drop, nil_from_length}
use Rattle.std.specs.Prelude.{Option, None, Some, is_some, is_none}
use Rattle.ranges.specs.Numbers.{pick}
use Rattle.lists.specs.Rules.{Rules, listed, shape_of}
use Rattle.lists.specs.declared.shape.Shape.{Shape}
use Rattle.text.specs.Cells.{fed}
use Rattle.text.specs.Files.{InFile, in_file}
use Rattle.text.specs.declared.put.Out.{Out}
use Rattle.text.specs.Judging.{judged, Over, over, over_byte, over_close, over_begun}
use Rattle.text.proofs.Feeding.{rest_is, fed_append}
use Rattle.text.proofs.Files.{map_in_file, finish_map}
use Rattle.rulesfile.specs.Bytes.{no_rules, rules_in_file, rules_step, rules_end, rules_pieces}
use Rattle.rulesfile.specs.Tabled.{length_read, list_read, room_read}
use Rattle.rulesfile.specs.declared.file.RulesSoFar.{RulesSoFar}
use Rattle.rulesfile.specs.declared.file.RulesFile.{RulesFile}
use Rattle.gateway.specs.HeaderBytes.{no_headers, Answered, answered, header_at, judge_header, headers_in_file, headers_step, headers_fed, headers_end, HeadersPiece}
use Rattle.gateway.specs.Serving.{RulesOver, RulesEnded, RulesFrom, RulesReadFrom, quiet, TurnTook, HeadersOver, HeadersLost, HeadersEnded, headers_after, HeadersReadFrom}
use Rattle.gateway.specs.declared.input.NoBytes.{NoBytes}
use Rattle.gateway.specs.declared.input.NoBytes.TheVariants.{End, Folder, Failed}
use Rattle.gateway.specs.declared.read_rules.RulesRead.{RulesRead}
use Rattle.gateway.specs.declared.headers.HeadersFile.{HeadersFile}
use Rattle.gateway.specs.declared.headers.Progress.{Progress}
use Rattle.gateway.specs.declared.answer_headers.HeadersRead.{HeadersRead}
use Rattle.gateway.specs.declared.answer_headers.HeadersRead.TheVariants.{Are as HeadersAre, Stopped, Failed as NoHeaders}
use Rattle.gateway.proofs.Printing.{prefixed, fed-prefixed}

-- ---- the rules file's pieces
-- those read so far, to which more may come
pub record RulesOn (list : List ℕ) (file : RulesFile) (left : List ℕ) : Type 0 where
  pub pieces : List (List ℕ)
  pub long : length left ≡ length list
  pub on : (qs : List (List ℕ)) → rules_pieces (rules_in_file no_rules list) (pieces ++ qs) ≡ rules_pieces (rules_in_file file left) qs

module _ (list : List ℕ) where
  pub on_start : {file : RulesFile} → file ≡ no_rules → RulesOn list file list
  on_start is = record { pieces = []; long = refl; on = λ qs. rw is }

  module _ {file : RulesFile} {left : List ℕ} (before : RulesOn list file left) where
    -- the file's end
    on_over : (said : Bool) (r : Option RulesRead) (after : List ℕ) → RulesOver file left said r after → RulesReadFrom list r after
    on_over said None after ends = tt
    on_over said (Some r) after ends = record { pieces = before.pieces ++ []; are = ends.0 ∙ sym (before.on []) }

    pub on_ended : (why : NoBytes) (r : Option RulesRead) (after : List ℕ) → RulesEnded why file left r after → RulesReadFrom list r after
    on_ended End r after ends = on_over false r after ends
    on_ended Folder r after ends = on_over true r after ends
    on_ended Failed r after ends = rw ends.0 tt

    module _ (p : List ℕ) {next : RulesFile} {after : List ℕ} (read : rules_in_file next after ≡ fed rules_step (rules_in_file file left) p) where
      -- a piece without flaw
      pub on_more : is_some next.rules.flaw ≡ false → length after ≡ length left → RulesOn list next after
      on_more fine kept =
          record {
            pieces = before.pieces ++ (p ∷ []);
            long = kept ∙ before.long;
            on = λ qs.
                let same : is_none (fed rules_step (rules_in_file file left) p).at.own.flaw ≡ true = ap (λ s. is_none s.at.own.flaw) (sym read) ∙ ap not fine in
                let rest : rules_pieces (rules_in_file file left) (p ∷ qs) ≡ rules_pieces (rules_in_file next after) qs
                = ap (λ t. pick t (rules_pieces (fed rules_step (rules_in_file file left) p) qs) (rules_end (fed rules_step (rules_in_file file left) p))) same ∙ ap (λ s. rules_pieces s qs) (sym read) in
                ap (rules_pieces (rules_in_file no_rules list)) (append_assoc before.pieces (p ∷ []) qs) ∙ before.on (p ∷ qs) ∙ rest;
          }

      -- a piece with one: nothing more is read
      pub on_flawed : is_some next.rules.flaw ≡ true → {rules : RulesSoFar} {last : List ℕ} → judged rules last ≡ rules_end (rules_in_file next after)
          → RulesFrom list rules last
      on_flawed some {rules} {last} ends =
          let same : is_none (fed rules_step (rules_in_file file left) p).at.own.flaw ≡ false = ap (λ s. is_none s.at.own.flaw) (sym read) ∙ ap not some in
          let stop : rules_pieces (rules_in_file file left) (p ∷ []) ≡ rules_end (rules_in_file next after)
          = ap (λ t. pick t (rules_pieces (fed rules_step (rules_in_file file left) p) []) (rules_end (fed rules_step (rules_in_file file left) p))) same ∙ ap rules_end (sym read) in
          record { pieces = before.pieces ++ (p ∷ []); are = ends ∙ sym (before.on (p ∷ []) ∙ stop) }

-- a file that can't be opened comes from no piece
pub missing_none : (list : List ℕ) {file : RulesFile} {rules : RulesSoFar} {after : List ℕ} → file ≡ no_rules → judged rules after ≡ rules_end (rules_in_file file list) → RulesFrom list rules after
missing_none list is ends = record { pieces = []; are = ends ∙ ap (λ f. rules_end (rules_in_file f list)) is }

-- ---- what was printed before does not matter
-- a state is its quiet one with that in front
pub said_front : (s : InFile (Over Answered)) → s ≡ map_in_file (prefixed s.at.own.said) (quiet s)
said_front s = ap (λ w. in_file s.cr (over s.at.now (answered s.at.own.headers w))) (sym (append-nil s.at.own.said))

module _ (R : Rules) (T : List ℕ) where
  pub quiet-fed : (s : InFile (Over Answered)) (bs : List ℕ) → quiet (fed (headers_step R T) s bs) ≡ quiet (fed (headers_step R T) (quiet s) bs)
  quiet-fed s bs =
      ap (λ r. quiet (fed (headers_step R T) r bs)) (said_front s)
      ∙ ap quiet (fed-prefixed R T s.at.own.said (quiet s) bs)

  pub end_front : (w : List ℕ) (s : InFile (Over Answered)) → headers_end R T (map_in_file (prefixed w) s) ≡ (prefixed w (over s.at.now (headers_end R T s))).own
  end_front w s =
      ap (λ x. x.own)
      (finish_map (over_byte header_at) (over_close header_at (judge_header R T)) (prefixed w) (λ x b. refl) (λ x. rw (append_assoc w x.own.said)) over_begun (λ x. refl) s)

  pub quiet_end : (s : InFile (Over Answered)) → (headers_end R T s).headers ≡ (headers_end R T (quiet s)).headers
  quiet_end s = ap (λ r. (headers_end R T r).headers) (said_front s) ∙ ap (λ y. y.headers) (end_front s.at.own.said (quiet s))

-- ---- the bytes of one read
-- a first part of them has been answered, and this is the rest
pub record TurnOn (R : Rules) (T : List ℕ) (f : HeadersFile) (bytes header : List ℕ) (n : ℕ) (present : HeadersFile) (left out rest : List ℕ) : Type 0 where
  pub done : List ℕ
  pub cut : done ++ rest ≡ bytes
  pub long : length out ≡ n
  pub state : headers_in_file present left [] ≡ quiet (headers_fed R T f header done)

module _ (R : Rules) (T : List ℕ) (f : HeadersFile) (bytes header : List ℕ) where
  pub turn_start : (out : List ℕ) → TurnOn R T f bytes header (length out) f header out bytes
  turn_start out = record { done = []; cut = refl; long = refl; state = refl }

  module _ {n : ℕ} {present : HeadersFile} {left out rest : List ℕ} (before : TurnOn R T f bytes header n present left out rest) where
    pub turn_all : length rest ≡ 0 → TurnTook R T f bytes header (Some present) left
    turn_all none =
        let all : before.done ≡ bytes = sym (append-nil before.done) ∙ ap (λ r. before.done ++ r) (sym (nil_from_length rest none)) ∙ before.cut in
        record { done = before.done; rest = rest; cut = before.cut; file = present; state = before.state; all = (refl, all) }

    module _ {r : Progress} {left' : List ℕ} {old new : Out} (took : HeadersPiece R T present rest left old r left' new) where
      abbrev part : List ℕ
      part = take r.used rest

      cut_then : (before.done ++ part) ++ drop r.used rest ≡ bytes
      cut_then = append_assoc before.done part (drop r.used rest) ∙ ap (λ r. before.done ++ r) (take-append-drop r.used rest) ∙ before.cut

      state_then : headers_in_file r.file left' [] ≡ quiet (headers_fed R T f header (before.done ++ part))
      state_then =
          ap quiet took.printed.reads
          ∙ ap (λ s. quiet (fed (headers_step R T) s part)) before.state
          ∙ sym (quiet-fed R T (headers_fed R T f header before.done) part)
          ∙ ap quiet (sym (fed_append (headers_step R T) (headers_in_file f header []) before.done part))

      pub turn_more : {after : List ℕ} → length after ≡ length out → TurnOn R T f bytes header n r.file left' after (take (length rest - r.used) (drop r.used rest))
      turn_more {after} kept =
          record { done = before.done ++ part; cut = ap (λ q. (before.done ++ part) ++ q) (rest_is rest r.used) ∙ cut_then; long = kept ∙ before.long; state = state_then }

      -- what they print can't be written
      pub turn_some : TurnTook R T f bytes header None left'
      turn_some = record { done = before.done ++ part; rest = drop r.used rest; cut = cut_then; file = r.file; state = state_then; all = tt }

-- ---- the headers file's pieces
flatten_more : (ps : List (List ℕ)) (p : List ℕ) → flatten ps ++ p ≡ flatten (ps ++ (p ∷ []))
unfolding flatten
flatten_more [] p = sym (append-nil p)
flatten_more (q ∷ ps) p = append_assoc q (flatten ps) p ∙ ap (λ r. q ++ r) (flatten_more ps p)

pub record HeadersOn (R : Rules) (T header : List ℕ) (n : ℕ) (file : HeadersFile) (left out : List ℕ) : Type 0 where
  pub pieces : List (List ℕ)
  pub long : length out ≡ n
  pub state : headers_in_file file left [] ≡ quiet (headers_after R T header pieces)

module _ (R : Rules) (T header : List ℕ) where
  pub headers_start : {file : HeadersFile} (out : List ℕ) → file ≡ no_headers → HeadersOn R T header (length out) file header out
  unfolding flatten
  headers_start out is = record { pieces = []; long = refl; state = rw is }

  module _ {n : ℕ} {file : HeadersFile} {left out : List ℕ} (before : HeadersOn R T header n file left out) where
    headers_over : (r : HeadersRead) → HeadersOver R T file left r → HeadersReadFrom R T header r
    headers_over (HeadersAre headers) ends =
        record {
          pieces = before.pieces;
          are = ends ∙ ap (λ s. (headers_end R T s).headers) before.state ∙ sym (quiet_end R T (headers_after R T header before.pieces));
        }
    headers_over (Stopped headers) ends = absurd ends
    headers_over NoHeaders ends = tt

    headers_lost : (r : HeadersRead) → HeadersLost file r → HeadersReadFrom R T header r
    headers_lost (HeadersAre headers) ends = absurd ends
    headers_lost (Stopped headers) ends = record { pieces = before.pieces; are = ends ∙ ap (λ s. s.at.own.headers) before.state }
    headers_lost NoHeaders ends = absurd ends

    pub headers_ended : (why : NoBytes) (r : HeadersRead) → HeadersEnded why R T file left r → HeadersReadFrom R T header r
    headers_ended End r ends = headers_over r ends
    headers_ended Folder r ends = headers_lost r ends
    headers_ended Failed r ends = headers_lost r ends

    pub headers_more : (p : List ℕ) {next : HeadersFile} {left' after : List ℕ} → TurnTook R T file p left (Some next) left' → length after ≡ length out
        → HeadersOn R T header n next left' after
    unfolding flatten
    headers_more p {next} {left'} {after} took kept =
        record {
          pieces = before.pieces ++ (p ∷ []);
          long = kept ∙ before.long;
          state =
              ap (λ f. headers_in_file f left' []) took.all.0
              ∙ took.state
              ∙ ap (λ bs. quiet (headers_fed R T file left bs)) took.all.1
              ∙ ap (λ s. quiet (fed (headers_step R T) s p)) before.state
              ∙ sym (quiet-fed R T (headers_after R T header before.pieces) p)
              ∙ ap quiet (sym (fed_append (headers_step R T) (headers_in_file no_headers header []) (flatten before.pieces) p))
              ∙ ap (λ bs. quiet (fed (headers_step R T) (headers_in_file no_headers header []) bs)) (flatten_more before.pieces p);
        }

  -- a file that can't be opened comes from no piece
  pub headers_none : {file : HeadersFile} → file ≡ no_headers → (r : HeadersRead) → HeadersLost file r → HeadersReadFrom R T header r
  headers_none is r lost = headers_lost (headers_start [] is) r lost

-- by the list and the table at the front of what is lent, whose lengths the code works out
pub read_at_front : (rules : RulesSoFar) (list table header : List ℕ) (r : HeadersRead) {shape : Shape} {k t : ℕ}
    → shape ≡ shape_of (rules.width / 2) → k ≡ length_read rules list → t ≡ room_read rules table
    → HeadersReadFrom (listed shape (take k list)) (take t table) header r → HeadersReadFrom (list_read rules list) (take (room_read rules table) table) header r
read_at_front rules list table header r {shape} {k} {t} shaped long room reads =
    let R-is : listed shape (take k list) ≡ list_read rules list = ap (λ s. listed s (take k list)) shaped ∙ ap (λ n. listed (shape_of (rules.width / 2)) (take n list)) long in
    subst (λ R. HeadersReadFrom R (take (room_read rules table) table) header r) R-is
    (subst (λ n. HeadersReadFrom (listed shape (take k list)) (take n table) header r) room reads)
