-- What a row or a rolled line shows stays shown as the history grows, and a worker is tracked as long as its view and its listing stay.
use Rattle.std.proofs.Common.{◌≡◌, ◌++◌, ℕ, ◌-◌, ◌≤◌, Bool, true, false, MatchBool, List, length, ap, sym, ◌∙◌, subst, arith, length-append}
use Rattle.std.specs.List.{AllByRecursion}
use Rattle.stm_model.specs.Attempt.{is_in_flight}
use Rattle.stm_model.specs.History.{Entry}
use Rattle.stm_model.specs.Telling.{Extends}
use Rattle.stm_model.specs.World.{View}
use Rattle.stm_model.specs.declared.settings.Settings.{Settings}
use Rattle.stm_model.proofs.HistoryLemmas.{entry_after-append, state-append}
use Rattle.ledger_model.specs.declared.job.Contents.{Contents}
use Rattle.ledger_model.specs.declared.job.Job.{Job}
use Rattle.ledger_model.specs.declared.listing.Rolled.{Rolled}
use Rattle.ledger_model.specs.declared.listing.Row.{Row}
use Rattle.ledger_model.specs.Contents.{opening_contents}
use Rattle.ledger_model.specs.Replays.{TellsReader, TellsRolled, TellsWriter, rolled_of, rows_of, run_of, settled_by}
use Rattle.ledger_model.specs.Traced.{Trace, attempt_in, is_flying}
use Rattle.ledger_model.proofs.Lists.{each_weaker}
use Rattle.trace_laws.proofs.Told.{with_refs}
use Rattle.trace_laws.proofs.Tracked.{Flies, ListsWorker, Rests, ShowsRolled, ShowsRow, ShowsWriter, TracksWorker, contents_at, over_of}

-- ---- rows and rolled lines

module _ (job : Job) (settings : Settings) (h more : List Entry) where
  contents_last : (n : ℕ) → n ≤ length h → contents_at job (h ++ more) n ≡ contents_at job h n
  contents_last n low = ap (with_refs (opening_contents job)) (state-append (opening_contents job).refs h more n low)

  longer : (n : ℕ) → n ≤ length h → n ≤ length (h ++ more)
  longer n low = omega (arith, low, length-append h more)

  writer_lasts : (row : Row) → row.position ≤ length h → ShowsWriter job settings h row → ShowsWriter job settings (h ++ more) row
  writer_lasts row low shows =
      let above = shows.from in
      let before = contents_last (row.position - 1) (omega (arith, low)) in
      record {
        from = shows.from;
        own = ap (λ (entry : Entry). entry.caller) (entry_after-append h more (row.position - 1) (omega (arith, low, above))) ∙ shows.own;
        tells = subst (λ (contents : Contents). TellsWriter settings row (run_of job row.worker row.number contents)) (sym before) shows.tells;
        leaves = ap (λ (contents : Contents). (run_of job row.worker row.number contents).after.contents) before ∙ shows.leaves ∙ sym (contents_last row.position low);
      }

  pub row_lasts : (row : Row) → ShowsRow job settings h row → ShowsRow job settings (h ++ more) row
  row_lasts row shows = record { named = shows.named; to = longer row.position shows.to; drawn = shows.drawn; script = go row.writer shows.script }
    where
      go : (writer : Bool) → MatchBool writer (ShowsWriter job settings h row) (TellsReader settings row (run_of job row.worker row.number (contents_at job h row.position)))
          → MatchBool writer (ShowsWriter job settings (h ++ more) row) (TellsReader settings row (run_of job row.worker row.number (contents_at job (h ++ more) row.position)))
      go true script = writer_lasts row shows.to script
      go false script = subst (λ (contents : Contents). TellsReader settings row (run_of job row.worker row.number contents)) (sym (contents_last row.position shows.to)) script

  pub rolled_lasts : (rolled : Rolled) → ShowsRolled job settings h rolled → ShowsRolled job settings (h ++ more) rolled
  rolled_lasts rolled shows = record {
    named = shows.named;
    to = longer rolled.prefix shows.to;
    tells = subst (λ (contents : Contents). TellsRolled job settings rolled (run_of job rolled.worker rolled.number contents)) (sym (contents_last rolled.prefix shows.to)) shows.tells;
  }

module _ (job : Job) (settings : Settings) (h g : List Entry) (grows : Extends h g) where
  pub rows_last : (rows : List Row) → AllByRecursion (ShowsRow job settings h) rows → AllByRecursion (ShowsRow job settings g) rows
  rows_last rows shown =
      each_weaker (ShowsRow job settings h) (ShowsRow job settings g)
      (λ row shows. subst (λ (history : List Entry). ShowsRow job settings history row) (sym grows.1) (row_lasts job settings h grows.0 row shows)) rows shown

  pub lines_last : (lines : List Rolled) → AllByRecursion (ShowsRolled job settings h) lines → AllByRecursion (ShowsRolled job settings g) lines
  lines_last lines shown =
      each_weaker (ShowsRolled job settings h) (ShowsRolled job settings g)
      (λ rolled shows. subst (λ (history : List Entry). ShowsRolled job settings history rolled) (sym grows.1) (rolled_lasts job settings h grows.0 rolled shows)) lines shown

-- ---- workers

-- What is known of a worker speaks of its view, its listing and how far its script has come alone.
module _ (job : Job) (settings : Settings) (s u : Trace) (p : ℕ) (view : u.world.view p ≡ s.world.view p) (rows : rows_of p u.rows ≡ rows_of p s.rows) (rolled : rolled_of p u.rolled ≡ rolled_of p s.rolled)
    (progress : u.progress p ≡ s.progress p) where
  attempt : attempt_in u p ≡ attempt_in s p
  attempt = ap (λ (each : View). each.attempt) view

  settled : settled_by u.rows p ≡ settled_by s.rows p
  settled = ap length rows

  over : over_of u p ≡ over_of s p
  over = let lines : length (rolled_of p u.rolled) ≡ length (rolled_of p s.rolled) = ap length rolled in omega (arith, settled, lines)

  lists_last : ListsWorker job s p → ListsWorker job u p
  lists_last old = record {
    numbered = rw rows old.numbered;
    most = rw settled old.most;
    rows = rw rows old.rows;
    rolled = rw rolled old.rolled;
    between = rw (rows, rolled) old.between;
    seen = rw (view, rows) old.seen;
    rolled_seen = rw (view, rolled) old.rolled_seen;
    since = rw (attempt, view, rows, rolled) old.since;
  }

  flies_last : Flies job s p → Flies job u p
  flies_last old = record { told = rw (attempt, settled, progress) old.told; left = rw settled old.left; made = rw (over, attempt) old.made; early = rw attempt old.early }

  rests_last : Rests s p → Rests u p
  rests_last old = record { nothing_due = rw attempt old.nothing_due; made = rw (over, attempt) old.made; retried = rw (attempt, rolled, settled) old.retried }

  pub worker_lasts : TracksWorker job settings s p → TracksWorker job settings u p
  worker_lasts old = record {
    lists = lists_last old.lists;
    known = rw view old.known;
    settings_are = rw attempt old.settings_are;
    serial = rw attempt old.serial;
    stands = subst (λ (flies : Bool). MatchBool flies (Flies job u p) (Rests u p)) (sym (ap is_in_flight attempt)) (go (is_flying s p) old.stands);
  }
    where
      go : (flies : Bool) → MatchBool flies (Flies job s p) (Rests s p) → MatchBool flies (Flies job u p) (Rests u p)
      go true stands = flies_last stands
      go false stands = rests_last stands
