-- A worker's attempt is over and listed, as a row or as a rolled line, and the trace is tracked again. Here s is the trace before and p the worker.
use Rattle.std.proofs.Common.{◌≡◌, ◌≢◌, ◌++◌, ℕ, suc, ◌<◌, ◌≤◌, Bool, true, false, MatchBool, nat_eq, List, [], ◌∷◌, length, Some, refl, sym, ap, ◌∙◌, subst, arith, inl, inr, append_assoc}
use Rattle.std.proofs.lemmas.Bool.{cases_eq, eq-eqb, eqb-true, ne_eqb}
use Rattle.std.proofs.lemmas.List.{length_push}
use Rattle.std.proofs.lemmas.List.Elements.{filter_passes, recursion_from_All}
use Rattle.std.specs.List.{AllByRecursion}
use Rattle.stm_model.specs.Attempt.{Announce, Attempt, Ended, flies_at, stamp_of}
use Rattle.stm_model.specs.History.{Entry}
use Rattle.stm_model.specs.Safe.{caller_at}
use Rattle.stm_model.specs.declared.cause.Cause.TheVariants.{Retry}
use Rattle.stm_model.specs.declared.ending.Ending.TheVariants.{Rolled as RolledBack}
use Rattle.stm_model.specs.declared.settings.Settings.{Settings}
use Rattle.ledger_model.specs.declared.job.Job.{Job}
use Rattle.ledger_model.specs.declared.listing.Rolled.{Rolled}
use Rattle.ledger_model.specs.declared.listing.Row.{Row}
use Rattle.ledger_model.specs.Replays.{rolled_of, rows_of, scripts_of, settled_by}
use Rattle.ledger_model.specs.Traced.{Trace, attempt_in, is_flying}
use Rattle.ledger_model.proofs.Lists.{each_weaker, filter_keeps, filter_leaves}
use Rattle.trace_laws.proofs.Tracked.{Flies, HasWriter, IsAccounted, ListsWorker, Rests, ShowsRolled, ShowsRow, Tracked, TracksWorker}
use Rattle.trace_laws.proofs.Lasting.{worker_lasts}
use Rattle.trace_laws.proofs.Lists.{each_push}
use Rattle.trace_laws.proofs.Midway.{AreFrom, AreOrdered, IsAccountedBut, Midway}
use Rattle.trace_laws.proofs.Placing.{IsBehind, line_placed, row_placed}

-- a listed writer stays listed
writer_stays : (rows : List Row) (row : Row) (position : ℕ) → HasWriter rows position → HasWriter (rows ++ row ∷ []) position
writer_stays rows row position has = record {
  before = has.before;
  row = has.row;
  behind = has.behind ++ row ∷ [];
  whole = ap (λ (list : List Row). list ++ row ∷ []) has.whole ∙ append_assoc has.before (has.row ∷ has.behind) (row ∷ []);
  writer = has.writer;
  at = has.at;
}

module _ {lawful : List ℕ → Type 0} {may : List ℕ → List ℕ → Type 0} {job : Job} {settings : Settings} (p : ℕ) (s : Trace) (old : Midway lawful may job settings p s)
    (ended : (attempt_in s p).stage ≡ Ended) (nothing_due : (attempt_in s p).due ≡ []) where
  abbrev t : Attempt
  t = attempt_in s p

  abbrev h : List Entry
  h = s.world.history

  abbrev relisted : List Row → List Rolled → Trace
  relisted rows lines = record s { rows = rows; rolled = lines }

  begun : t.stage ≢ Announce
  begun is = let never : Ended ≡ Announce = sym ended ∙ is in cc

  grounded : is_flying s p ≡ false
  unfolding flies_at
  grounded = ap flies_at ended

  -- what was listed is from what the caller had seen before the attempt's first access
  pub from : AreFrom (s.world.view p).since (rows_of p s.rows) (rolled_of p s.rolled)
  from = old.own.since begun

  -- ---- the whole

  -- what is to be shown of the rows and lines then
  record Relists (rows : List Row) (lines : List Rolled) : Type 0 where
    other_rows : (q : ℕ) → q ≢ p → rows_of q rows ≡ rows_of q s.rows
    other_lines : (q : ℕ) → q ≢ p → rolled_of q lines ≡ rolled_of q s.rolled
    shown_rows : AllByRecursion (ShowsRow job settings h) rows
    shown_lines : AllByRecursion (ShowsRolled job settings h) lines
    ordered : AreOrdered (rows_of p rows) (rolled_of p lines)
    most : settled_by rows p ≤ length (scripts_of job p)
    seen : AreFrom (s.world.view p).seen (rows_of p rows) (rolled_of p lines)
    rests : Rests (relisted rows lines) p
    accounted : (n : ℕ) → n < length h → IsAccounted (relisted rows lines) n

  module _ (rows : List Row) (lines : List Rolled) (new : Relists rows lines) where
    lists_own : ListsWorker job (relisted rows lines) p
    lists_own = record {
      numbered = new.ordered.numbered;
      most = new.most;
      rows = new.ordered.rows_rise;
      rolled = new.ordered.lines_rise;
      between = new.ordered.between;
      seen = new.seen.0;
      rolled_seen = new.seen.1;
      since = λ apart flies. let never : false ≡ true = sym grounded ∙ flies in cc;
    }

    own_tracked : TracksWorker job settings (relisted rows lines) p
    own_tracked = record {
      lists = lists_own;
      known = old.own.known;
      settings_are = old.own.settings_are;
      serial = old.own.serial;
      stands = subst (λ (flies : Bool). MatchBool flies (Flies job (relisted rows lines) p) (Rests (relisted rows lines) p)) (sym grounded) new.rests;
    }

    relisted_tracked : Tracked lawful may job settings (relisted rows lines)
    relisted_tracked = record {
      safe = old.around.safe;
      alone = old.around.alone;
      workers = λ q low high. elim (cases_eq q p) [
        | inl own ↦ rw own own_tracked
        | inr apart ↦ worker_lasts job settings s (relisted rows lines) q refl (new.other_rows q apart) (new.other_lines q apart) refl (old.around.workers q apart low high)
      ];
      others = old.around.others;
      rows = new.shown_rows;
      rolled = new.shown_lines;
      accounted = new.accounted;
    }

  -- ---- a row

  module _ (row : Row) (worker : row.worker ≡ p) (number : row.number ≡ suc (settled_by s.rows p)) (shows : ShowsRow job settings h row) (behind : IsBehind (s.world.view p).since row.writer row.position)
      (seen : row.position ≤ (s.world.view p).seen) (not_retried : (prefix : ℕ) → t.ending ≡ Some (RolledBack Retry prefix) → ⊥)
      (writes : (n : ℕ) → stamp_of t ≡ suc n → (row.writer ≡ true) × (row.position ≡ suc n)) where
    abbrev with_it : List Row
    with_it = s.rows ++ row ∷ []

    own_rows : rows_of p with_it ≡ rows_of p s.rows ++ row ∷ []
    own_rows = filter_keeps (λ (each : Row). nat_eq each.worker p) s.rows row (eq-eqb row.worker p worker)

    one_more : settled_by with_it p ≡ suc (settled_by s.rows p)
    one_more = let long = length_push (rows_of p s.rows) row in let same : settled_by with_it p ≡ length (rows_of p s.rows ++ row ∷ []) = ap length own_rows in omega (arith, long, same)

    still_accounted : (n : ℕ) → IsAccountedBut p s n → IsAccounted (relisted with_it s.rolled) n
    still_accounted n (inl listed) = inl (writer_stays s.rows row (suc n) listed)
    still_accounted n (inr flies) = elim (cases_eq (caller_at s.world n) p) [
      | inl own ↦
          let is = writes n (rw own at flies.1) in
          inl (record { before = s.rows; row = row; behind = []; whole = refl; writer = is.0; at = is.1 })
      | inr apart ↦ inr (flies.0 apart, flies.1)
    ]

    row_relists : Relists with_it s.rolled
    row_relists =
        let left = old.own.left in
        let made = old.own.made in
        record {
          other_rows = λ q apart. filter_leaves (λ (each : Row). nat_eq each.worker q) s.rows row (ne_eqb row.worker q (λ same. apart (sym same ∙ worker)));
          other_lines = λ q apart. refl;
          shown_rows = each_push (ShowsRow job settings h) s.rows row old.around.rows shows;
          shown_lines = old.around.rolled;
          ordered = rw own_rows (row_placed (rows_of p s.rows) (rolled_of p s.rolled) old.own.ordered (s.world.view p).since from row number behind);
          most = omega (arith, one_more, left);
          seen = (rw own_rows (each_push (λ (each : Row). each.position ≤ (s.world.view p).seen) (rows_of p s.rows) row old.own.seen.0 seen), old.own.seen.1);
          rests = record { nothing_due = nothing_due; made = omega (arith, one_more, made); retried = λ prefix is. absurd (not_retried prefix is) };
          accounted = λ n within. still_accounted n (old.around.accounted n within);
        }

    pub row_settles : Tracked lawful may job settings (relisted with_it s.rolled)
    row_settles = relisted_tracked with_it s.rolled row_relists

  -- ---- a rolled line

  module _ (line : Rolled) (worker : line.worker ≡ p) (number : line.number ≡ suc (settled_by s.rows p)) (shows : ShowsRolled job settings h line) (behind : (s.world.view p).since ≤ line.prefix)
      (seen : line.prefix ≤ (s.world.view p).seen) (unstamped : stamp_of t ≡ 0) (retried : (prefix : ℕ) → t.ending ≡ Some (RolledBack Retry prefix) → (line.cause ≡ Retry) × (line.prefix ≡ prefix)) where
    abbrev with_line : List Rolled
    with_line = s.rolled ++ line ∷ []

    own_lines : rolled_of p with_line ≡ rolled_of p s.rolled ++ line ∷ []
    own_lines = filter_keeps (λ (each : Rolled). nat_eq each.worker p) s.rolled line (eq-eqb line.worker p worker)

    line_more : length (rolled_of p with_line) ≡ suc (length (rolled_of p s.rolled))
    line_more = let long = length_push (rolled_of p s.rolled) line in let same : length (rolled_of p with_line) ≡ length (rolled_of p s.rolled ++ line ∷ []) = ap length own_lines in omega (arith, long, same)

    own_workers : AllByRecursion (λ earlier. earlier.worker ≡ line.worker) (rolled_of p s.rolled)
    own_workers =
        each_weaker (λ (earlier : Rolled). nat_eq earlier.worker p ≡ true) (λ (earlier : Rolled). earlier.worker ≡ line.worker)
        (λ earlier passes. eqb-true earlier.worker p passes ∙ sym worker) (rolled_of p s.rolled)
        (recursion_from_All (λ (earlier : Rolled). nat_eq earlier.worker p ≡ true) (rolled_of p s.rolled) (filter_passes (λ (earlier : Rolled). nat_eq earlier.worker p) s.rolled))

    accounted_still : (n : ℕ) → IsAccountedBut p s n → IsAccounted (relisted s.rows with_line) n
    accounted_still n (inl listed) = inl listed
    accounted_still n (inr flies) = elim (cases_eq (caller_at s.world n) p) [
      | inl own ↦ let stamp : stamp_of t ≡ suc n = rw own at flies.1 in absurd (omega (arith, stamp, unstamped))
      | inr apart ↦ inr (flies.0 apart, flies.1)
    ]

    line_relists : Relists s.rows with_line
    line_relists =
        let left = old.own.left in
        let made = old.own.made in
        record {
          other_rows = λ q apart. refl;
          other_lines = λ q apart. filter_leaves (λ (each : Rolled). nat_eq each.worker q) s.rolled line (ne_eqb line.worker q (λ same. apart (sym same ∙ worker)));
          shown_rows = old.around.rows;
          shown_lines = each_push (ShowsRolled job settings h) s.rolled line old.around.rolled shows;
          ordered = rw own_lines (line_placed (rows_of p s.rows) (rolled_of p s.rolled) old.own.ordered (s.world.view p).since from line number behind own_workers);
          most = omega (arith, left);
          seen = (old.own.seen.0, rw own_lines (each_push (λ (each : Rolled). each.prefix ≤ (s.world.view p).seen) (rolled_of p s.rolled) line old.own.seen.1 seen));
          rests = record {
            nothing_due = nothing_due;
            made = omega (arith, line_more, made);
            retried = λ prefix is. let so = retried prefix is in (line, (rolled_of p s.rolled, own_lines), number, so.0, so.1);
          };
          accounted = λ n within. accounted_still n (old.around.accounted n within);
        }

    pub line_settles : Tracked lawful may job settings (relisted s.rows with_line)
    line_settles = relisted_tracked s.rows with_line line_relists
