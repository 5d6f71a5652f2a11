-- The listing of a tracked trace in which it is nobody's turn replays the job.
use Rattle.std.proofs.Common.{◌≡◌, ◌≢◌, inl, inr, ℕ, suc, ◌+◌, ◌-◌, ◌<◌, ◌≤◌, Bool, true, false, not, ◌&&◌, cond, if◌then◌else◌, nat_eq, nat_lt, List, [], ◌∷◌, ◌++◌, length, map, Option, Some, refl, sym, ap, subst, ◌∙◌, arith}
use Rattle.std.specs.List.{AllByRecursion, AllPairs, range_with_len}
use Rattle.std.proofs.lemmas.Bool.{both_ways, cases_lt, eqb-true, ltb-true, ltb-false, ne_eqb, not-true}
use Rattle.std.proofs.lemmas.Bool.Decides.{nat_tests}
use Rattle.std.proofs.lemmas.List.Elements.{filter-append}
use Rattle.stm_model.specs.History.{Entry}
use Rattle.stm_model.specs.Pairs.{KeysAscend}
use Rattle.stm_model.specs.Safe.{EndsWith}
use Rattle.stm_model.specs.declared.cause.Cause.TheVariants.{Retry}
use Rattle.stm_model.specs.declared.ending.Ending.{Ending}
use Rattle.stm_model.specs.declared.ending.Ending.TheVariants.{Rolled as RolledBack}
use Rattle.stm_model.specs.declared.settings.Settings.{Settings}
use Rattle.ledger_model.specs.declared.job.Contents.{Contents}
use Rattle.ledger_model.specs.declared.job.Job.{Job}
use Rattle.ledger_model.specs.declared.listing.Listing.{Listing}
use Rattle.ledger_model.specs.declared.listing.Rolled.{Rolled}
use Rattle.ledger_model.specs.declared.listing.Row.{Row}
use Rattle.ledger_model.specs.Run.{Retried}
use Rattle.ledger_model.specs.Replays.{AreStamped, ArePlaced, ComesBefore, CountsAttempts, IsBlocked, IsPlaced, ListsJob, ListsScripts, MayPrecede, NamesScript, Replays, TellsReader, TellsRolled, TellsWriter, attempts_of, contents_after, names_of, others_of, rolled_of, rows_of, run_after, run_of, scripts_of, settled_by, writer_count, writers_of}
use Rattle.ledger_model.specs.Traced.{IsListed, Trace, attempt_in, has_left, is_parked, left_where, retried_at, workers_of}
use Rattle.ledger_model.proofs.Lists.{each_weaker}
use Rattle.trace_laws.proofs.Tracked.{ComesEarlier, ShowsRolled, ShowsRow, StandsBetween, contents_at, run_at}
use Rattle.trace_laws.proofs.Left.{each_left, left_ascends, worker_left}
use Rattle.trace_laws.proofs.Lists.{Has, Has-middle, Ordered, each_both, each_filter, each_flat_map, each_has, each_passing, each_permutation, filter_none}
use Rattle.trace_laws.proofs.Numbers.{IsBetween, each_in_range}
use Rattle.trace_laws.proofs.Resting.{Rested, contents_last, may_not_begin, rests, tracks, written}
use Rattle.trace_laws.proofs.Stamps.{are_stamped, as_many, left_alike}
use Rattle.trace_laws.proofs.Telling.{none_used, tells_reader, tells_rolled, tells_writer}
use Rattle.trace_laws.proofs.Workers.{lines_in_order, owned, worker_lines, worker_rows}

-- The first script that isn't settled is left once, blocked or worn.
left_once : (parked : Bool) (settled all : ℕ) (name : ℕ × ℕ) → settled ≤ all
    → cond (nat_lt settled all && parked) (name ∷ []) [] ++ cond (nat_lt settled all && not parked) (name ∷ []) [] ≡ (if nat_eq settled all then [] else name ∷ [])
left_once true settled all name most = grind (arith, nat_tests)
left_once false settled all name most = grind (arith, nat_tests)

-- Who is parked asked for a retry at the clock.
parked_at : (ending : Option Ending) (clock : ℕ) → retried_at ending clock ≡ true → (prefix : ℕ) × (ending ≡ Some (RolledBack Retry prefix)) × (prefix ≡ clock)
parked_at (Some (RolledBack Retry prefix)) clock parked = (prefix, refl, eqb-true prefix clock parked)
parked_at ending clock parked = absurd (both_ways false refl parked)

-- the same run by other names
retries_here : (job : Job) (h : List Entry) (w p m k i j : ℕ) → w ≡ p → m ≡ k → i ≡ j → (run_at job h w m i).end ≡ Retried → (run_at job h p k j).end ≡ Retried
retries_here job h w p m k i j own number prefix there =
    subst (λ (i : ℕ). (run_at job h p k i).end ≡ Retried) prefix
    (subst (λ (m : ℕ). (run_at job h p m i).end ≡ Retried) number (subst (λ (w : ℕ). (run_at job h w m i).end ≡ Retried) own there))

-- Where a script is left and its worker isn't parked, only the third test can be what fails.
not_enough : (left free more : Bool) → left ≡ true → free ≡ true → (left && free && more) ≡ false → more ≡ false
not_enough true true more has unparked stays = stays
not_enough true false more has unparked stays = cc
not_enough false free more has unparked stays = cc

module _ {lawful : List ℕ → Type 0} {may : List ℕ → List ℕ → Type 0} {job : Job} {settings : Settings} {s : Trace} {listing : Listing} (r : Rested lawful may job settings s listing) where
  abbrev n : ℕ
  n = length job.workers

  abbrev h : List Entry
  h = s.world.history

  abbrev is : IsListed job s listing
  is = r.listed

  -- ---- rows

  shown_row : (row : Row) → Has row s.rows → ShowsRow job settings h row
  shown_row row has = each_has (ShowsRow job settings h) s.rows row r.tracked.rows has

  earlier : (row : Row) → Has row s.rows → Ordered ComesEarlier (rows_of row.worker s.rows)
  earlier row has =
      let named = (shown_row row has).named in
      let to = named.worker_to in
      (tracks r row.worker (named.worker_from, omega arith)).lists.rows

  shown_rows : AllByRecursion (ShowsRow job settings h) listing.rows
  shown_rows = each_permutation (ShowsRow job settings h) s.rows listing.rows is.rows r.tracked.rows

  stamped : AreStamped listing.rows
  stamped = are_stamped job settings h s.rows listing.rows is.rows is.in_order r.tracked.rows earlier (written r)

  counted : writer_count listing.rows ≡ length h
  counted = as_many job settings h s.rows listing.rows is.rows is.in_order r.tracked.rows earlier (written r)

  alike : (k : ℕ) → k ≤ length h → contents_after job listing.rows k ≡ contents_at job h k
  alike = left_alike job settings h s.rows listing.rows is.rows is.in_order r.tracked.rows earlier (written r)

  -- what the listing is to tell of a writer, of another row and of a rolled line
  abbrev Writes : Row → Type 0
  Writes row = TellsWriter settings row (run_after job listing.rows (row.position - 1) row.worker row.number)

  abbrev Reads : Row → Type 0
  Reads row = TellsReader settings row (run_after job listing.rows row.position row.worker row.number)

  abbrev RollsBack : Rolled → Type 0
  RollsBack line = TellsRolled job settings line (run_after job listing.rows line.prefix line.worker line.number)

  writers : AllByRecursion Writes (writers_of listing.rows)
  writers =
      each_passing (λ row. row.writer) Writes listing.rows
      (each_weaker (ShowsRow job settings h) (λ row. row.writer ≡ true → Writes row) (tells_writer job settings h listing.rows alike) listing.rows shown_rows)

  others : AllByRecursion Reads (others_of listing.rows)
  others =
      each_passing (λ row. not row.writer) Reads listing.rows
      (each_weaker (ShowsRow job settings h) (λ row. not row.writer ≡ true → Reads row)
      (λ row shows passes. tells_reader job settings h listing.rows alike row shows (not-true row.writer passes)) listing.rows shown_rows)

  -- ---- the rows and rolled lines of a worker

  rows_alike : (p : ℕ) → IsBetween 1 n p → rows_of p listing.rows ≡ rows_of p s.rows
  rows_alike p within = worker_rows p s.rows listing.rows is.rows is.in_order (tracks r p within).lists.rows

  settled_alike : (p : ℕ) → IsBetween 1 n p → settled_by listing.rows p ≡ settled_by s.rows p
  settled_alike p within = ap (λ (rows : List Row). length rows) (rows_alike p within)

  lines_alike : (p : ℕ) → IsBetween 1 n p → rolled_of p listing.rolled ≡ rolled_of p s.rolled
  lines_alike p within = ap (λ (lines : List Rolled). rolled_of p lines) is.rolled ∙ worker_lines s.rolled p n within

  shown_lines : (p : ℕ) → AllByRecursion (ShowsRolled job settings h) (rolled_of p s.rolled)
  shown_lines p = each_filter (λ line. nat_eq line.worker p) (ShowsRolled job settings h) s.rolled r.tracked.rolled

  each_line : (P : Rolled → Type 0) → ((p : ℕ) → IsBetween 1 n p → AllByRecursion P (rolled_of p s.rolled)) → AllByRecursion P listing.rolled
  each_line P each = subst (λ (lines : List Rolled). AllByRecursion P lines) (sym is.rolled)
      (each_flat_map P (λ p. rolled_of p s.rolled) (workers_of job) (each_weaker (IsBetween 1 n) (λ p. AllByRecursion P (rolled_of p s.rolled)) each (workers_of job) (each_in_range 1 n)))

  each_shown : (P : Rolled → Type 0) → ((rolled : Rolled) → ShowsRolled job settings h rolled → P rolled) → AllByRecursion P listing.rolled
  each_shown P f = each_line P (λ p within. each_weaker (ShowsRolled job settings h) P f (rolled_of p s.rolled) (shown_lines p))

  rolled : AllByRecursion RollsBack listing.rolled
  rolled = each_shown RollsBack (tells_rolled job settings h listing.rows alike)

  -- ---- places

  is_placed : (p : ℕ) → IsBetween 1 n p → (line : Rolled) → line.worker ≡ p → ShowsRolled job settings h line → StandsBetween (rows_of p s.rows) line → IsPlaced listing.rows line
  is_placed p within line own shows between =
      let same : rows_of p s.rows ≡ rows_of line.worker listing.rows = sym (ap (λ (q : ℕ). rows_of q listing.rows) own ∙ rows_alike p within) in
      let to = shows.to in
      let behind = each_weaker (λ row. row.number < line.number → row.position ≤ line.prefix) (λ row. suc row.number ≡ line.number → row.position ≤ line.prefix)
      (λ row less next. less (omega arith)) (rows_of p s.rows) between.behind in
      let before = each_weaker (λ row. line.number ≤ row.number → ComesBefore line.prefix row) (λ row. row.number ≡ line.number → ComesBefore line.prefix row)
      (λ row most here. most (omega arith)) (rows_of p s.rows) between.before in
      record {
        number = subst (λ (rows : List Row). line.number ≤ suc (length rows)) same between.number;
        prefix = omega (arith, counted);
        behind = subst (λ (rows : List Row). AllByRecursion (λ row. suc row.number ≡ line.number → row.position ≤ line.prefix) rows) same behind;
        before = subst (λ (rows : List Row). AllByRecursion (λ row. row.number ≡ line.number → ComesBefore line.prefix row) rows) same before;
      }

  placed : ArePlaced listing
  placed = record {
    in_order = subst (AllPairs MayPrecede) (sym is.rolled) (lines_in_order s.rolled n (λ p within. (tracks r p within).lists.rolled));
    placed = each_line (IsPlaced listing.rows) (λ p within.
        each_both (λ line. line.worker ≡ p) (λ line. ShowsRolled job settings h line × StandsBetween (rows_of p s.rows) line) (IsPlaced listing.rows)
        (λ line own both. is_placed p within line own both.0 both.1) (rolled_of p s.rolled) (owned s.rolled p)
        (each_both (ShowsRolled job settings h) (StandsBetween (rows_of p s.rows)) (λ line. ShowsRolled job settings h line × StandsBetween (rows_of p s.rows) line)
        (λ line shows between. (shows, between)) (rolled_of p s.rolled) (shown_lines p) (tracks r p within).lists.between));
  }

  -- ---- names

  lists_worker : (p : ℕ) → IsBetween 1 n p → ListsScripts job listing p
  lists_worker p within =
      let lists = (tracks r p within).lists in
      let settled : ℕ = settled_by s.rows p in
      let most = lists.most in
      let all : ℕ = length (scripts_of job p) in
      record {
        numbered = ap (λ (rows : List Row). map (λ row. row.number) rows) (rows_alike p within) ∙ lists.numbered ∙ ap (λ (k : ℕ). range_with_len 1 k) (sym (settled_alike p within));
        left = ap (λ (names : List (ℕ × ℕ)). names_of p (names ++ listing.worn)) is.blocked
            ∙ ap (λ (names : List (ℕ × ℕ)). names_of p (left_where job s (is_parked s) ++ names)) is.worn
            ∙ filter-append (λ name. nat_eq name.0 p) (left_where job s (is_parked s)) (left_where job s (λ q. not (is_parked s q)))
            ∙ ap (λ (names : List (ℕ × ℕ)). names ++ names_of p (left_where job s (λ q. not (is_parked s q)))) (worker_left job s (is_parked s) p within)
            ∙ ap (λ (names : List (ℕ × ℕ)). cond (has_left job s p && is_parked s p) ((p, suc settled) ∷ []) [] ++ names) (worker_left job s (λ q. not (is_parked s q)) p within)
            ∙ left_once (is_parked s p) settled all (p, suc settled) most
            ∙ ap (λ (k : ℕ). let names : List (ℕ × ℕ) = if nat_eq k all then [] else (p, suc k) ∷ [] in names) (sym (settled_alike p within));
      }

  left_named : (test : ℕ → Bool) → AllByRecursion (λ name. NamesScript job name.0 name.1) (left_where job s test)
  left_named test = each_left job s test (λ name. NamesScript job name.0 name.1) (λ p within left passes.
      let less = ltb-true (settled_by s.rows p) (length (scripts_of job p)) left in
      record { worker_from = within.0; worker_to = omega arith; number_from = omega arith; number_to = less })

  lists_job : ListsJob job listing
  lists_job = record {
    rows = each_weaker (ShowsRow job settings h) (λ row. NamesScript job row.worker row.number) (λ row shows. shows.named) listing.rows shown_rows;
    rolled = each_shown (λ line. NamesScript job line.worker line.number) (λ line shows. shows.named);
    blocked = subst (λ (names : List (ℕ × ℕ)). AllByRecursion (λ name. NamesScript job name.0 name.1) names) (sym is.blocked) (left_named (is_parked s));
    worn = subst (λ (names : List (ℕ × ℕ)). AllByRecursion (λ name. NamesScript job name.0 name.1) names) (sym is.worn) (left_named (λ p. not (is_parked s p)));
    workers = λ p from to. lists_worker p (from, omega arith);
    blocked_ascend = subst KeysAscend (sym is.blocked) (left_ascends job s (is_parked s));
    worn_ascend = subst KeysAscend (sym is.worn) (left_ascends job s (λ p. not (is_parked s p)));
  }

  -- ---- what is left

  contents_whole : contents_after job listing.rows (writer_count listing.rows) ≡ contents_at job h (length h)
  contents_whole = ap (λ (k : ℕ). contents_after job listing.rows k) counted ∙ alike (length h) (omega arith)

  is_blocked : (p : ℕ) → IsBetween 1 n p → is_parked s p ≡ true → IsBlocked job listing (p, suc (settled_by s.rows p))
  is_blocked p within parked =
      let asked = parked_at (attempt_in s p).ending s.world.clock parked in
      let retried = (rests r p within).retried asked.0 asked.1 in
      let line = retried.0 in
      let last = retried.1 in
      let has : Has line (rolled_of p s.rolled) = subst (λ (lines : List Rolled). Has line lines) (sym last.1) (Has-middle last.0 line []) in
      let own : line.worker ≡ p = each_has (λ line. line.worker ≡ p) (rolled_of p s.rolled) line (owned s.rolled p) has in
      let shows = each_has (ShowsRolled job settings h) (rolled_of p s.rolled) line (shown_lines p) has in
      let prefix : line.prefix ≡ length h = retried.4 ∙ asked.2 ∙ r.tracked.safe.clock in
      let there = (shows.tells.retry retried.3).retries in
      let here : (run_at job h p (suc (settled_by s.rows p)) (length h)).end ≡ Retried = retries_here job h _ _ _ _ _ _ own retried.2 prefix there in
      record {
        retries = subst (λ (contents : Contents). (run_of job p (suc (settled_by s.rows p)) contents).end ≡ Retried) (sym contents_whole) here;
        rolled = line;
        last = subst (λ (lines : List Rolled). EndsWith lines (line ∷ [])) (sym (lines_alike p within)) last;
        number = retried.2;
        cause = retried.3;
        prefix = prefix ∙ sym counted;
      }

  blocked : AllByRecursion (IsBlocked job listing) listing.blocked
  blocked = subst (λ (names : List (ℕ × ℕ)). AllByRecursion (IsBlocked job listing) names) (sym is.blocked)
      (each_left job s (is_parked s) (IsBlocked job listing) (λ p within left parked. is_blocked p within parked))

  -- ---- attempts

  made : (p : ℕ) → IsBetween 1 n p → attempts_of listing p ≡ (attempt_in s p).serial
  made p within =
      ap (λ (k : ℕ). k + length (rolled_of p listing.rolled)) (settled_alike p within)
      ∙ ap (λ (lines : List Rolled). settled_by s.rows p + length lines) (lines_alike p within)
      ∙ (rests r p within).made

  -- A number that no worker has is listed nowhere.
  none_made : (p : ℕ) → ((q : ℕ) → IsBetween 1 n q → q ≢ p) → attempts_of listing p ≡ 0
  none_made p apart =
      let other : (q m : ℕ) → NamesScript job q m → nat_eq q p ≡ false =
      λ q m named. let to = named.worker_to in ne_eqb q p (apart q (named.worker_from, omega arith)) in
      ap (λ (rows : List Row). length rows + length (rolled_of p listing.rolled))
      (filter_none (λ row. nat_eq row.worker p) listing.rows (each_weaker (λ row. NamesScript job row.worker row.number) (λ row. nat_eq row.worker p ≡ false) (λ row. other row.worker row.number) listing.rows lists_job.rows))
      ∙ ap (λ (lines : List Rolled). 0 + length lines)
      (filter_none (λ line. nat_eq line.worker p) listing.rolled (each_weaker (λ line. NamesScript job line.worker line.number) (λ line. nat_eq line.worker p ≡ false) (λ line. other line.worker line.number) listing.rolled lists_job.rolled))

  at_most : (p : ℕ) → attempts_of listing p ≤ settings.attempts
  at_most p = elim (cases_lt n p) [
    | inl past ↦ let none = none_made p (λ q within same. absurd (omega arith)) in omega arith
    | inr below ↦ elim (cases_lt 0 p) [
      | inl above ↦ let within : IsBetween 1 n p = omega arith in let most = (tracks r p within).serial in omega (arith, made p within)
      | inr zero_p ↦ let none = none_made p (λ q within same. absurd (omega arith)) in omega arith
    ]
  ]

  attempts : CountsAttempts settings listing
  attempts = record {
    most = at_most;
    worn = subst (λ (names : List (ℕ × ℕ)). AllByRecursion (λ name. attempts_of listing name.0 ≡ settings.attempts) names) (sym is.worn)
        (each_left job s (λ p. not (is_parked s p)) (λ name. attempts_of listing name.0 ≡ settings.attempts) (λ p within left free.
        let most = (tracks r p within).serial in
        let least = ltb-false _ _ (not_enough _ _ _ left free (may_not_begin r p within)) in
        made p within ∙ omega arith));
  }

  pub replays : Replays job settings listing
  replays = record {
    in_order = is.in_order;
    stamped = stamped;
    listed = lists_job;
    writers = writers;
    others = others;
    used = none_used job settings h listing.rows alike counted;
    placed = placed;
    rolled = rolled;
    blocked = blocked;
    attempts = attempts;
    contents = is.contents ∙ contents_last r ∙ sym contents_whole;
  }
