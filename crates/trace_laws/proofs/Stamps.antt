-- The positions of writers count up, and the contents after so many of them are what the history left.
use Rattle.std.proofs.Common.{◌≡◌, ◌≢◌, inl, inr, ℕ, zero, suc, ◌+◌, ◌-◌, ◌<◌, ◌≤◌, Bool, true, not, nat_eq, nat_lt, IsTrue, List, [], ◌∷◌, length, map, take, refl, sym, ap, subst, ◌∙◌, arith, add-zero, zero-add}
use Rattle.std.specs.List.{AllByRecursion, range_with_len}
use Rattle.std.specs.List.Sorted.{IsPermutation}
use Rattle.std.proofs.lemmas.Bool.{MatchBool-at_true, eq-eqb}
use Rattle.std.proofs.lemmas.Bool.Decides.{nat_tests}
use Rattle.std.proofs.lemmas.List.{length-map}
use Rattle.std.proofs.lemmas.List.FromFn.{length-range_with_len}
use Rattle.std.proofs.lemmas.List.Sorted.{IsPermutation-sym}
use Rattle.stm_model.specs.History.{Entry, entry_after}
use Rattle.stm_model.specs.declared.settings.Settings.{Settings}
use Rattle.stm_model.proofs.HistoryLemmas.{state-zero}
use Rattle.ledger_model.specs.declared.job.Contents.{Contents}
use Rattle.ledger_model.specs.declared.job.Job.{Job}
use Rattle.ledger_model.specs.declared.listing.Row.{Row}
use Rattle.ledger_model.specs.Contents.{opening_contents}
use Rattle.ledger_model.specs.Order.{kind_rank, less_or_tied}
use Rattle.ledger_model.specs.Replays.{AreStamped, InOrder, after_writers, contents_after, left_by, rows_of, writer_count, writers_of}
use Rattle.ledger_model.proofs.Lists.{each_weaker}
use Rattle.trace_laws.proofs.Told.{with_refs}
use Rattle.trace_laws.proofs.Tracked.{ComesEarlier, HasWriter, ShowsRow, ShowsWriter, contents_at, run_at}
use Rattle.trace_laws.proofs.Lists.{Has, Has-filter, Has-from_filter, Has-map, Has-middle, Has-permutation, Ordered, Ordered-filter, Ordered-map, Ordered-weaker, each_filter, each_from, each_has, each_map, each_permutation, from_pairs, ordered_either}
use Rattle.trace_laws.proofs.Numbers.{IsBetween, counts_up}
use Rattle.trace_laws.proofs.RowsInOrder.{Before}

-- ---- two rows in order

no_later : (a b : Row) → Before a b → a.position ≤ b.position
no_later a b before = positions a.position b.position _ before where
  positions : (p q : ℕ) (then_by : Bool) → IsTrue (less_or_tied p q then_by) → p ≤ q
  positions p q then_by h = grind (arith, nat_tests)

-- Two writers of one worker at one position stand in the order of their numbers.
numbers_ascend : (p q w v m n : ℕ) (first second : Bool) → IsTrue (less_or_tied p q (less_or_tied (kind_rank first) (kind_rank second) (less_or_tied w v (nat_lt m n))))
    → first ≡ true → second ≡ true → p ≡ q → w ≡ v → m < n
numbers_ascend p q w v m n first second h is too same own =
    go (subst (λ (b : Bool). IsTrue (less_or_tied p q (less_or_tied (kind_rank true) (kind_rank b) (less_or_tied w v (nat_lt m n))))) too
    (subst (λ (b : Bool). IsTrue (less_or_tied p q (less_or_tied (kind_rank b) (kind_rank second) (less_or_tied w v (nat_lt m n))))) is h)) where
      go : IsTrue (less_or_tied p q (less_or_tied 0 0 (less_or_tied w v (nat_lt m n)))) → m < n
      go h = grind (arith, nat_tests)

-- ---- the writers

module _ (job : Job) (settings : Settings) (h : List Entry) (rows listed : List Row) (moved : IsPermutation rows listed) (order : InOrder listed)
    (shown : AllByRecursion (ShowsRow job settings h) rows)
    (earlier : (row : Row) → Has row rows → Ordered ComesEarlier (rows_of row.worker rows))
    (accounted : (n : ℕ) → n < length h → HasWriter rows (suc n)) where
  abbrev writers : List Row
  writers = writers_of listed

  -- It is one of the rows, and a writer.
  abbrev IsWriter : Row → Type 0
  IsWriter row = Has row rows × (row.writer ≡ true)

  each_writer : AllByRecursion IsWriter writers
  each_writer = each_from IsWriter writers (λ row has.
      let both = Has-from_filter (λ row. row.writer) listed row has in
      (Has-permutation listed rows (IsPermutation-sym rows listed moved) row both.0, both.1))

  pub shows_row : (row : Row) → Has row rows → ShowsRow job settings h row
  shows_row row has = each_has (ShowsRow job settings h) rows row shown has

  pub shows_writer : (row : Row) → IsWriter row → ShowsWriter job settings h row
  shows_writer row writes = MatchBool-at_true _ _ writes.1 (shows_row row writes.0).script

  -- Two writers in order have two positions.
  two_positions : (a b : Row) → IsWriter a → IsWriter b → Before a b → a.position ≡ b.position → ⊥
  two_positions a b first second before same =
      let own : a.worker ≡ b.worker = sym (shows_writer a first).own ∙ ap (λ (n : ℕ). (entry_after h (n - 1)).caller) same ∙ (shows_writer b second).own in
      let numbers : a.number < b.number = numbers_ascend a.position b.position a.worker b.worker a.number b.number a.writer b.writer before first.1 second.1 same own in
      let here : Has a (rows_of a.worker rows) = Has-filter (λ row. nat_eq row.worker a.worker) rows a (eq-eqb a.worker a.worker refl) first.0 in
      let there : Has b (rows_of a.worker rows) = Has-filter (λ row. nat_eq row.worker a.worker) rows b (eq-eqb b.worker a.worker (sym own)) second.0 in
      elim (ordered_either ComesEarlier (rows_of a.worker rows) a b (earlier a first.0) here there) [
        | inl comes ↦ let less : a.position < b.position = MatchBool-at_true _ _ second.1 comes.position in omega arith
        | inr rest ↦ elim rest [
          | inl comes ↦ let less = comes.number in omega arith
          | inr is ↦ let number : a.number ≡ b.number = ap (λ (row : Row). row.number) is in omega arith
        ]
      ]

  positions_ascend : (a b : Row) → IsWriter a → IsWriter b → Before a b → a.position < b.position
  positions_ascend a b first second before =
      let most = no_later a b before in
      let apart : a.position ≢ b.position = two_positions a b first second before in
      omega arith

  -- A writer stands at each position.
  stands_at : (i : ℕ) → IsBetween 1 (length h) i → Has i (map (λ row. row.position) writers)
  stands_at i between =
      let writer = accounted (i - 1) (omega arith) in
      let at : writer.row.position ≡ i = writer.at ∙ omega arith in
      let has : Has writer.row rows = subst (λ (some : List Row). Has writer.row some) (sym writer.whole) (Has-middle writer.before writer.row writer.behind) in
      let there = Has-filter (λ row. row.writer) listed writer.row writer.writer (Has-permutation rows listed moved writer.row has) in
      subst (λ (n : ℕ). Has n (map (λ row. row.position) writers)) at (Has-map (λ row. row.position) writers writer.row there)

  pub stamps : map (λ row. row.position) writers ≡ range_with_len 1 (length h)
  stamps = counts_up 1 (length h) (map (λ row. row.position) writers)
      (Ordered-map (λ i j. i < j) (λ row. row.position) writers
      (Ordered-weaker Before (λ a b. a.position < b.position) IsWriter positions_ascend writers each_writer (Ordered-filter Before (λ row. row.writer) listed (from_pairs Before listed order))))
      (each_map (IsBetween 1 (length h)) (λ row. row.position) writers
      (each_weaker IsWriter (λ row. IsBetween 1 (length h) row.position) (λ row writes. let to = (shows_row row writes.0).to in ((shows_writer row writes).from, omega arith)) writers each_writer))
      stands_at

  pub as_many : writer_count listed ≡ length h
  as_many = sym (length-map writers (λ (row : Row). row.position)) ∙ ap (λ (ns : List ℕ). length ns) stamps ∙ length-range_with_len 1 (length h)

  pub are_stamped : AreStamped listed
  are_stamped = record {
    writers = stamps ∙ ap (λ (n : ℕ). range_with_len 1 n) (sym as_many);
    others = each_filter (λ row. not row.writer) (λ row. row.position ≤ writer_count listed) listed
        (each_permutation (λ row. row.position ≤ writer_count listed) rows listed moved
        (each_weaker (ShowsRow job settings h) (λ row. row.position ≤ writer_count listed) (λ row shows. let to = shows.to in omega (arith, as_many)) rows shown));
  }

  -- ---- what they leave

  -- what a writer at this position leaves of what the history left before it
  one_leaves : (row : Row) (n : ℕ) → IsWriter row → row.position ≡ suc n → left_by job row (contents_at job h n) ≡ contents_at job h (suc n)
  one_leaves row n writes at =
      let leaves = subst (λ (p : ℕ). (run_at job h row.worker row.number (p - 1)).after.contents ≡ contents_at job h p) at (shows_writer row writes).leaves in
      let before : suc n - 1 ≡ n = omega arith in
      let left : (run_at job h row.worker row.number n).after.contents ≡ contents_at job h (suc n) = rw before at leaves in
      ap (λ (some : Contents). let more : Contents = record some { used = some.used + row.drawn } in more) left
      ∙ ap (λ (k : ℕ). let more : Contents = record (contents_at job h (suc n)) { used = k } in more) (ap (λ (k : ℕ). 0 + k) (shows_row row writes.0).drawn)

  all_leave : (some : List Row) (k n : ℕ) → AllByRecursion IsWriter some → map (λ row. row.position) some ≡ range_with_len (suc k) (length some) → n ≤ length some
      → after_writers job (take n some) (contents_at job h k) ≡ contents_at job h (k + n)
  all_leave some k zero each counted most = ap (λ (m : ℕ). contents_at job h m) (sym (add-zero k))
  all_leave [] k (suc n) each counted most = absurd (omega arith)
  all_leave (row ∷ some) k (suc n) each counted most =
      let at : row.position ≡ suc k = cc in
      let rest : map (λ row. row.position) some ≡ range_with_len (suc k + 1) (length some) = cc in
      let next : suc k + 1 ≡ suc (suc k) = omega arith in
      let many : suc k + n ≡ k + suc n = omega arith in
      ap (λ (contents : Contents). after_writers job (take n some) contents) (one_leaves row k each.0 at)
      ∙ all_leave some (suc k) n each.1 (rest ∙ ap (λ (m : ℕ). range_with_len m (length some)) next) (omega arith)
      ∙ ap (λ (m : ℕ). contents_at job h m) many

  -- The contents after the first n listed writers are what the first n entries left.
  pub left_alike : (n : ℕ) → n ≤ length h → contents_after job listed n ≡ contents_at job h n
  left_alike n most =
      let opening : opening_contents job ≡ contents_at job h 0 = ap (λ (refs : List ℕ). with_refs (opening_contents job) refs) (sym (state-zero (opening_contents job).refs h)) in
      ap (λ (contents : Contents). after_writers job (take n writers) contents) opening
      ∙ all_leave writers 0 n each_writer (stamps ∙ ap (λ (m : ℕ). range_with_len 1 m) (sym as_many)) (omega (arith, as_many))
      ∙ ap (λ (m : ℕ). contents_at job h m) (zero-add n)
