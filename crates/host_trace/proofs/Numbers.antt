-- What the end of a worker's attempt leaves of the rows and the rolled lines of others, and the numbers of its rows. Here p is the worker, s and u are traces, before and after.
use Rattle.std.proofs.Common.{◌≡◌, ◌≢◌, inl, inr, ℕ, suc, ◌+◌, Bool, true, false, nat_eq, if◌then◌else◌, List, [], ◌∷◌, ◌++◌, length, map, Option, Some, None, refl, ap, sym, subst, ◌∙◌, arith}
use Rattle.std.specs.List.{range_with_len}
use Rattle.std.proofs.lemmas.Bool.{cases_eq, eq-eqb, ne_eqb}
use Rattle.std.proofs.lemmas.List.{length_push, map-append}
use Rattle.stm_model.specs.declared.cause.Cause.{Cause}
use Rattle.stm_model.specs.declared.cause.Cause.TheVariants.{ClockEnd, User}
use Rattle.stm_model.specs.declared.ending.Ending.{Ending}
use Rattle.stm_model.specs.declared.ending.Ending.TheVariants.{Committed, Read, Rolled as RolledBack}
use Rattle.ledger_model.specs.declared.listing.Rolled.{Rolled}
use Rattle.ledger_model.specs.declared.listing.Row.{Row}
use Rattle.ledger_model.specs.declared.listing.RowResult.{RowResult}
use Rattle.ledger_model.specs.declared.listing.RowResult.TheVariants.{Done, Fail, Spent}
use Rattle.ledger_model.specs.Replays.{rolled_of, rows_of, settled_by}
use Rattle.ledger_model.specs.Traced.{Trace, access, attempt_in, ended_with, is_flying, rolled_with, with_rolled, with_row}
use Rattle.ledger_model.proofs.Lists.{filter_keeps, filter_leaves, range_push}
use Rattle.host_trace.specs.Flights.{flown}
use Rattle.host_trace.specs.Tracings.{AreNumbered}
use Rattle.host_trace.proofs.Others.{Stays, flown_stays}

-- All that is of other workers is as before, and rows stay numbered.
pub record Spares (p : ℕ) (s u : Trace) : Type 0 where
  pub rows : (q : ℕ) → q ≢ p → rows_of q u.rows ≡ rows_of q s.rows
  pub rolled : (q : ℕ) → q ≢ p → rolled_of q u.rolled ≡ rolled_of q s.rolled
  pub attempts : (q : ℕ) → q ≢ p → attempt_in u q ≡ attempt_in s q
  pub progress : (q : ℕ) → q ≢ p → u.progress q ≡ s.progress q
  pub numbered : AreNumbered s.rows → AreNumbered u.rows

module _ {p : ℕ} where
  pub stays_spares : {s u : Trace} → Stays p s u → Spares p s u
  stays_spares stays = record {
    rows = λ q other. ap (λ (rows : List Row). rows_of q rows) stays.rows;
    rolled = λ q other. ap (λ (lines : List Rolled). rolled_of q lines) stays.rolled;
    attempts = stays.attempts;
    progress = stays.progress;
    numbered = λ numbered. rw stays.rows numbered;
  }

  spares_on : {s u v : Trace} → Spares p s u → Spares p u v → Spares p s v
  spares_on first second = record {
    rows = λ q other. second.rows q other ∙ first.rows q other;
    rolled = λ q other. second.rolled q other ∙ first.rolled q other;
    attempts = λ q other. second.attempts q other ∙ first.attempts q other;
    progress = λ q other. second.progress q other ∙ first.progress q other;
    numbered = λ numbered. second.numbered (first.numbered numbered);
  }

  spares_none : (s : Trace) → Spares p s s
  spares_none s = record { rows = λ q other. refl; rolled = λ q other. refl; attempts = λ q other. refl; progress = λ q other. refl; numbered = λ numbered. numbered }

-- ---- numbers

numbered_own : (rows : List Row) (row : Row) → row.number ≡ suc (settled_by rows row.worker)
    → map (λ row. row.number) (rows_of row.worker rows) ≡ range_with_len 1 (settled_by rows row.worker)
    → map (λ row. row.number) (rows_of row.worker (rows ++ row ∷ [])) ≡ range_with_len 1 (settled_by (rows ++ row ∷ []) row.worker)
numbered_own rows row next numbered =
    let p = row.worker in
    let n = settled_by rows p in
    let more = filter_keeps (λ row. nat_eq row.worker p) rows row (eq-eqb p p refl) in
    let numbers : map (λ row. row.number) (rows_of p (rows ++ row ∷ [])) ≡ range_with_len 1 n ++ (1 + n) ∷ [] =
    ap (map (λ (row : Row). row.number)) more ∙ map-append (λ (row : Row). row.number) (rows_of p rows) (row ∷ [])
    ∙ ap (λ (ns : List ℕ). ns ++ row.number ∷ []) numbered ∙ ap (λ (k : ℕ). range_with_len 1 n ++ k ∷ []) (omega (arith, next)) in
    let counted : settled_by (rows ++ row ∷ []) p ≡ suc n = ap (length {A = Row}) more ∙ omega (arith, length_push (rows_of p rows) row) in
    numbers ∙ range_push 1 n ∙ ap (λ (k : ℕ). range_with_len 1 k) (sym counted)

-- A row whose number is the next one of its worker keeps the numbers.
numbered_more : (rows : List Row) (row : Row) → row.number ≡ suc (settled_by rows row.worker) → AreNumbered rows → AreNumbered (rows ++ row ∷ [])
numbered_more rows row next numbered q = elim (cases_eq q row.worker) [
  | inl is ↦ subst (λ (q : ℕ). map (λ row. row.number) (rows_of q (rows ++ row ∷ [])) ≡ range_with_len 1 (settled_by (rows ++ row ∷ []) q)) (sym is) (numbered_own rows row next (numbered row.worker))
  | inr other ↦ rw (filter_leaves (λ row. nat_eq row.worker q) rows row (ne_eqb row.worker q (λ same. other (sym same)))) (numbered q)
]

-- ---- the end

module _ (p : ℕ) where
  with_row_spares : (position : ℕ) (writer : Bool) (result : RowResult) (prints : List ℕ) (s : Trace) → Spares p s (with_row p position writer result prints s)
  with_row_spares position writer result prints s = record {
    rows = λ q other. filter_leaves (λ row. nat_eq row.worker q) s.rows _ (ne_eqb p q (λ same. other (sym same)));
    rolled = λ q other. refl;
    attempts = λ q other. refl;
    progress = λ q other. refl;
    numbered = numbered_more s.rows _ refl;
  }

  with_rolled_spares : (prefix : ℕ) (cause : Cause) (s : Trace) → Spares p s (with_rolled p prefix cause s)
  with_rolled_spares prefix cause s = record {
    rows = λ q other. refl;
    rolled = λ q other. filter_leaves (λ line. nat_eq line.worker q) s.rolled _ (ne_eqb p q (λ same. other (sym same)));
    attempts = λ q other. refl;
    progress = λ q other. refl;
    numbered = λ numbered. numbered;
  }

  rolled_with_spares : (cause : Cause) (prefix : ℕ) (s : Trace) → Spares p s (rolled_with cause p prefix s)
  rolled_with_spares (User code) prefix s = with_row_spares prefix false (Fail code) [] s
  rolled_with_spares (ClockEnd clock) prefix s = with_row_spares prefix false Spent [] s
  rolled_with_spares cause prefix s = with_rolled_spares prefix cause s

  ended_with_spares : (ending : Option Ending) (s : Trace) → Spares p s (ended_with ending p s)
  ended_with_spares None s = spares_none s
  ended_with_spares (Some (Committed stamp)) s = with_row_spares stamp true Done (s.progress p).prints s
  ended_with_spares (Some (Read prefix)) s = with_row_spares prefix false Done (s.progress p).prints s
  ended_with_spares (Some (RolledBack cause prefix)) s = rolled_with_spares cause prefix s

  ends_spares : (flies : Bool) (s : Trace) → Spares p s (if flies then s else ended_with (attempt_in s p).ending p s)
  ends_spares true s = spares_none s
  ends_spares false s = ended_with_spares (attempt_in s p).ending s

  pub access_spares : (s : Trace) → Spares p s (access p s)
  access_spares s = spares_on (stays_spares (flown_stays p s)) (ends_spares (is_flying (flown p s) p) (flown p s))
