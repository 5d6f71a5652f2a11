-- The lines of a report are rows of words, and they tell the listing.
use Rattle.std.proofs.Common.{◌≡◌, ◌-◌, ℕ, Bool, true, false, not, cond, IsTrue, List, [], ◌∷◌, ◌++◌, map, length, refl, ap, ◌∙◌, sym, codes, decimal}
use Rattle.std.proofs.lemmas.Fmt.{decimal_injective}
use Rattle.std.specs.List.{AllByRecursion, enumerate_from}
use Rattle.std.specs.Str.{bytes_eq}
use Rattle.stm_model.specs.declared.cause.Cause.{Cause}
use Rattle.stm_model.specs.declared.cause.Cause.TheVariants.{Doomed}
use Rattle.stm_model.specs.declared.settings.Settings.{Settings}
use Rattle.stm_model.specs.Evidence.{Evidence}
use Rattle.text_lines.specs.Lines.{Row as Line, is_word, AreWords, lines, words}
use Rattle.text_lines.proofs.Lists.{AllByRecursion-append, AllByRecursion-map, heads_same, front_same, map_same}
use Rattle.text_lines.proofs.LineLemmas.{words_come_back, words_same}
use Rattle.text_lines.proofs.NumberLemmas.{all_digits, decimal_digits, decimal_word}
use Rattle.ledger_model.specs.declared.job.Contents.{Contents}
use Rattle.ledger_model.specs.declared.job.Job.{Job}
use Rattle.ledger_model.specs.declared.listing.Listing.{Listing}
use Rattle.ledger_model.specs.declared.listing.Row.{Row}
use Rattle.ledger_model.specs.declared.listing.RowResult.{RowResult}
use Rattle.ledger_model.specs.declared.listing.RowResult.TheVariants.{Done, Fail, Spent, Full}
use Rattle.ledger_model.specs.Replays.{Replays, TellsReader, TellsResult, TellsRolled, TellsWriter, others_of, run_after, writer_count, writers_of}
use Rattle.ledger_model.specs.Run.{Outcome}
use Rattle.ledger_model.specs.Report.{name_word, row_line, has_text, rolled_line, left_line, ref_line, ref_lines, pair_lines, contents_lines, rolled_and_left_lines, closing_lines, report_lines, report}
use Rattle.ledger_model.specs.Reported.{HaveAsMany, HaveTexts, IsReportedWhole, PrintsIfDone, ShowsDoom}
use Rattle.ledger_model.proofs.Listed.{listed_sized}
use Rattle.host_report.specs.OneText.{OneTextOneListing, TextFixesListing}
use Rattle.host_report.specs.WithinTypes.{IsNameWithinTypes, IsRolledWithinTypes, IsRowWithinTypes, IsWithinTypes, IsWord}
use Rattle.ledger_model.proofs.Lists.{each_weaker}
use Rattle.host_report.proofs.WordLemmas.{all_both, all_pass, name_is_word, name_same}
use Rattle.host_report.proofs.RowLemmas.{IsRowShown, row_line_of_words, row_same}
use Rattle.host_report.proofs.RolledLemmas.{IsRolledShown, rolled_line_of_words, rolled_same}
use Rattle.host_report.proofs.ContentsLemmas.{by_contents, contents_of_words, maps_same, refs_same}
use Rattle.host_report.proofs.Parts.{begins, behind_rows, blocked_stop, counts, counts_stop, from_blocked, from_maps, from_refs, from_rolled, from_slots, from_worn, maps_and_more_stop, maps_begin, part_begins, refs_stop, rolled_stop, slots_stop, worn_stop}

-- ---- they are rows of words

left_of_words : (word : List ℕ) (name : ℕ × ℕ) → is_word word ≡ true → IsNameWithinTypes name → AreWords (left_line word name)
left_of_words word name w h = (w, (name_is_word name.0 name.1 h, tt))

unsettled_of_words : (listing : Listing) → IsWithinTypes listing → AllByRecursion AreWords (rolled_and_left_lines listing)
unsettled_of_words listing h =
    AllByRecursion-append AreWords (map rolled_line listing.rolled) (map (left_line (codes "blocked")) listing.blocked ++ map (left_line (codes "worn")) listing.worn)
    (AllByRecursion-map IsRolledWithinTypes AreWords rolled_line rolled_line_of_words listing.rolled h.rolled)
    (AllByRecursion-append AreWords (map (left_line (codes "blocked")) listing.blocked) (map (left_line (codes "worn")) listing.worn)
    (AllByRecursion-map IsNameWithinTypes AreWords (left_line (codes "blocked")) (λ name. left_of_words (codes "blocked") name refl) listing.blocked h.blocked)
    (AllByRecursion-map IsNameWithinTypes AreWords (left_line (codes "worn")) (λ name. left_of_words (codes "worn") name refl) listing.worn h.worn))

closing_of_words : (listing : Listing) → IsWithinTypes listing → AllByRecursion AreWords (closing_lines listing)
closing_of_words listing h =
    AllByRecursion-append AreWords (contents_lines listing.contents) (counts listing) (contents_of_words listing.contents h.contents)
    ((refl, (decimal_word listing.contents.used h.contents.used, tt)), ((refl, (decimal_word (length listing.rows) h.rows.count, tt)), tt))

-- each line of a report is a row of words
pub report_of_words : (listing : Listing) → IsWithinTypes listing → AllByRecursion AreWords (report_lines listing)
report_of_words listing h = (
  (refl, (refl, tt)),
  AllByRecursion-append AreWords (map row_line listing.rows) (rolled_and_left_lines listing ++ closing_lines listing)
      (AllByRecursion-map IsRowWithinTypes AreWords row_line row_line_of_words listing.rows h.rows.each)
      (AllByRecursion-append AreWords (rolled_and_left_lines listing) (closing_lines listing) (unsettled_of_words listing h) (closing_of_words listing h)),
)

pub lines_come_back : (listing : Listing) → IsWithinTypes listing → map words (lines (report listing)) ≡ report_lines listing
lines_come_back listing h = words_come_back (report_lines listing) (report_of_words listing h)

-- ---- their parts are told apart

-- this very word
abbrev is : List ℕ → List ℕ → Bool
is word other = bytes_eq other word

row_begins : (row : Row) → IsRowWithinTypes row → begins all_digits (row_line row) ≡ true
row_begins row h = decimal_digits row.position h.position

left_same : (word : List ℕ) (a b : ℕ × ℕ) → IsNameWithinTypes a → IsNameWithinTypes b → left_line word a ≡ left_line word b → a ≡ b
left_same word a b h k e =
    let names : name_word a.0 a.1 ≡ name_word b.0 b.1 = cc in
    let t = name_same a.0 a.1 b.0 b.1 h k names in
    by_parts a b t.0 t.1 where
      by_parts : (a b : ℕ × ℕ) → a.0 ≡ b.0 → a.1 ≡ b.1 → a ≡ b
      by_parts a b p n = rw (p, n) refl

-- each part of the one is that part of the other
record SameParts (a b : Listing) : Type 0 where
  rows : map row_line a.rows ≡ map row_line b.rows
  rolled : map rolled_line a.rolled ≡ map rolled_line b.rolled
  blocked : map (left_line (codes "blocked")) a.blocked ≡ map (left_line (codes "blocked")) b.blocked
  worn : map (left_line (codes "worn")) a.worn ≡ map (left_line (codes "worn")) b.worn
  refs : ref_lines a.contents.refs ≡ ref_lines b.contents.refs
  maps : pair_lines (codes "map") a.contents.maps ≡ pair_lines (codes "map") b.contents.maps
  slots : pair_lines (codes "snap") a.contents.slots ≡ pair_lines (codes "snap") b.contents.slots
  counts : counts a ≡ counts b

parts_same : (a b : Listing) → IsWithinTypes a → IsWithinTypes b → map row_line a.rows ++ from_rolled a ≡ map row_line b.rows ++ from_rolled b → SameParts a b
parts_same a b h k e =
    let rows = front_same (begins all_digits) (map row_line a.rows) (map row_line b.rows) (from_rolled a) (from_rolled b)
    (all_pass IsRowWithinTypes (begins all_digits) row_line row_begins a.rows h.rows.each) (all_pass IsRowWithinTypes (begins all_digits) row_line row_begins b.rows k.rows.each)
    (rolled_stop all_digits a refl refl refl (refl, refl, refl, refl)) (rolled_stop all_digits b refl refl refl (refl, refl, refl, refl)) e in
    let rolled = front_same (begins (is (codes "rolled"))) (map rolled_line a.rolled) (map rolled_line b.rolled) (from_blocked a) (from_blocked b)
    (part_begins (is (codes "rolled")) rolled_line a.rolled (λ x. refl)) (part_begins (is (codes "rolled")) rolled_line b.rolled (λ x. refl))
    (blocked_stop (is (codes "rolled")) a refl refl (refl, refl, refl, refl)) (blocked_stop (is (codes "rolled")) b refl refl (refl, refl, refl, refl)) rows.1 in
    let blocked = front_same (begins (is (codes "blocked"))) (map (left_line (codes "blocked")) a.blocked) (map (left_line (codes "blocked")) b.blocked) (from_worn a) (from_worn b)
    (part_begins (is (codes "blocked")) (left_line (codes "blocked")) a.blocked (λ x. refl)) (part_begins (is (codes "blocked")) (left_line (codes "blocked")) b.blocked (λ x. refl))
    (worn_stop (is (codes "blocked")) a refl (refl, refl, refl, refl)) (worn_stop (is (codes "blocked")) b refl (refl, refl, refl, refl)) rolled.1 in
    let worn = front_same (begins (is (codes "worn"))) (map (left_line (codes "worn")) a.worn) (map (left_line (codes "worn")) b.worn) (from_refs a) (from_refs b)
    (part_begins (is (codes "worn")) (left_line (codes "worn")) a.worn (λ x. refl)) (part_begins (is (codes "worn")) (left_line (codes "worn")) b.worn (λ x. refl))
    (refs_stop (is (codes "worn")) a (refl, refl, refl, refl)) (refs_stop (is (codes "worn")) b (refl, refl, refl, refl)) blocked.1 in
    let refs = front_same (begins (is (codes "ref"))) (ref_lines a.contents.refs) (ref_lines b.contents.refs) (from_maps a) (from_maps b)
    (part_begins (is (codes "ref")) ref_line (enumerate_from 0 a.contents.refs) (λ x. refl)) (part_begins (is (codes "ref")) ref_line (enumerate_from 0 b.contents.refs) (λ x. refl))
    (maps_and_more_stop (is (codes "ref")) a refl refl refl) (maps_and_more_stop (is (codes "ref")) b refl refl refl) worn.1 in
    let maps = front_same (begins (is (codes "map"))) (pair_lines (codes "map") a.contents.maps) (pair_lines (codes "map") b.contents.maps) (from_slots a) (from_slots b)
    (maps_begin (is (codes "map")) (codes "map") 0 a.contents.maps refl) (maps_begin (is (codes "map")) (codes "map") 0 b.contents.maps refl)
    (slots_stop (is (codes "map")) a refl refl) (slots_stop (is (codes "map")) b refl refl) refs.1 in
    let slots = front_same (begins (is (codes "snap"))) (pair_lines (codes "snap") a.contents.slots) (pair_lines (codes "snap") b.contents.slots) (counts a) (counts b)
    (maps_begin (is (codes "snap")) (codes "snap") 0 a.contents.slots refl) (maps_begin (is (codes "snap")) (codes "snap") 0 b.contents.slots refl)
    (counts_stop (is (codes "snap")) a refl) (counts_stop (is (codes "snap")) b refl) maps.1 in
    record { rows = rows.0; rolled = rolled.0; blocked = blocked.0; worn = worn.0; refs = refs.0; maps = maps.0; slots = slots.0; counts = slots.1 }

-- ---- listings with one report are equal

by_fields : (a b : Listing) → a.rows ≡ b.rows → a.rolled ≡ b.rolled → a.blocked ≡ b.blocked → a.worn ≡ b.worn → a.contents ≡ b.contents → a ≡ b
by_fields a b r o l w c = rw (r, o, l, w, c) refl

used_same : (a b : Listing) → IsWord a.contents.used → IsWord b.contents.used → counts a ≡ counts b → a.contents.used ≡ b.contents.used
used_same a b h k e =
    let digits : decimal a.contents.used ≡ decimal b.contents.used = cc in
    decimal_injective a.contents.used b.contents.used h k digits

rows_shown : (a : Listing) → IsWithinTypes a → IsReportedWhole a → AllByRecursion IsRowShown a.rows
rows_shown a h p = all_both IsRowWithinTypes (λ row. PrintsIfDone row.result row.prints) a.rows h.rows.each p.prints

all_rolled_shown : (a : Listing) → IsWithinTypes a → IsReportedWhole a → AllByRecursion IsRolledShown a.rolled
all_rolled_shown a h p =
    all_both IsRolledWithinTypes (λ rolled. has_text rolled.cause ≡ true × ShowsDoom rolled.cause) a.rolled h.rolled
    (all_both (λ rolled. has_text rolled.cause ≡ true) (λ rolled. ShowsDoom rolled.cause) a.rolled p.texts p.dooms)

told_same : (a b : Listing) → IsWithinTypes a → IsWithinTypes b → IsReportedWhole a → IsReportedWhole b → HaveAsMany a b → SameParts a b → a ≡ b
told_same a b h k p q many same =
    by_fields a b
    (map_same IsRowShown row_line row_same a.rows b.rows (rows_shown a h p) (rows_shown b k q) same.rows)
    (map_same IsRolledShown rolled_line rolled_same a.rolled b.rolled (all_rolled_shown a h p) (all_rolled_shown b k q) same.rolled)
    (map_same IsNameWithinTypes (left_line (codes "blocked")) (left_same (codes "blocked")) a.blocked b.blocked h.blocked k.blocked same.blocked)
    (map_same IsNameWithinTypes (left_line (codes "worn")) (left_same (codes "worn")) a.worn b.worn h.worn k.worn same.worn)
    (by_contents a.contents b.contents
    (refs_same a.contents.refs b.contents.refs h.contents.refs.each k.contents.refs.each same.refs)
    (maps_same (codes "map") a.contents.maps b.contents.maps many.maps h.contents.maps.count h.contents.maps.each k.contents.maps.each same.maps)
    (maps_same (codes "snap") a.contents.slots b.contents.slots many.slots h.contents.slots.count h.contents.slots.each k.contents.slots.each same.slots)
    (used_same a b h.contents.used k.contents.used same.counts))

pub one_text : OneTextOneListing
one_text a b h k p q many e =
    let all = words_same (report_lines a) (report_lines b) (report_of_words a h) (report_of_words b k) e in
    let body = heads_same (codes "ledger" ∷ codes "1" ∷ []) (codes "ledger" ∷ codes "1" ∷ []) (map row_line a.rows ++ (rolled_and_left_lines a ++ closing_lines a)) (map row_line b.rows ++ (rolled_and_left_lines b ++ closing_lines b)) all in
    told_same a b h k p q many
    (parts_same a b h k (sym (ap (λ (t : List Line). map row_line a.rows ++ t) (behind_rows a)) ∙ body.1 ∙ ap (λ (t : List Line). map row_line b.rows ++ t) (behind_rows b)))

-- ---- listings that replay a job are shown whole

-- what holds of all writers and of all others holds of all rows
all_rows : (P : Row → Type 0) (rows : List Row) → AllByRecursion P (writers_of rows) → AllByRecursion P (others_of rows) → AllByRecursion P rows
all_rows P [] h k = tt
all_rows P (row ∷ rows) h k = at row.writer (all_rows P rows) h k where
  at : (w : Bool) → (AllByRecursion P (writers_of rows) → AllByRecursion P (others_of rows) → AllByRecursion P rows)
      → AllByRecursion P (cond w (row ∷ writers_of rows) (writers_of rows)) → AllByRecursion P (cond (not w) (row ∷ others_of rows) (others_of rows)) → AllByRecursion P (row ∷ rows)
  at true rest h k = (h.0, rest h.1 k)
  at false rest h k = (k.0, rest h k.1)

done_prints : (r : RowResult) (prints : List ℕ) → r ≡ Done → PrintsIfDone r prints
done_prints Done prints e = tt
done_prints (Fail code) prints e = cc
done_prints Spent prints e = cc
done_prints (Full used allowance) prints e = cc

result_prints : (r : RowResult) (settings : Settings) (row : Row) (outcome : Outcome) → TellsResult r settings row outcome → PrintsIfDone r row.prints
result_prints Done settings row outcome h = tt
result_prints (Fail code) settings row outcome h = h.printed
result_prints Spent settings row outcome h = h.printed
result_prints (Full used allowance) settings row outcome h = absurd h

rows_print : (job : Job) (settings : Settings) (a : Listing) → Replays job settings a → AllByRecursion (λ row. PrintsIfDone row.result row.prints) a.rows
rows_print job settings a h =
    all_rows (λ row. PrintsIfDone row.result row.prints) a.rows
    (each_weaker (λ row. TellsWriter settings row (run_after job a.rows (row.position - 1) row.worker row.number)) (λ row. PrintsIfDone row.result row.prints) (λ row t. done_prints row.result row.prints t.done) (writers_of a.rows) h.writers)
    (each_weaker (λ row. TellsReader settings row (run_after job a.rows row.position row.worker row.number)) (λ row. PrintsIfDone row.result row.prints)
    (λ row t. result_prints row.result settings row (run_after job a.rows row.position row.worker row.number) t.tells) (others_of a.rows) h.others)

shows_doom : (own : ℕ) (settings : Settings) (cause : Cause) → Evidence own settings cause → ShowsDoom cause
unfolding Evidence
shows_doom own settings (Doomed status) h = h
shows_doom own settings _ h = tt

-- each rolled attempt of a listing that replays a job has a cause that a report can name
pub replay_texts : (job : Job) (settings : Settings) (a : Listing) → Replays job settings a → HaveTexts a
replay_texts job settings a h = each_weaker (λ rolled. TellsRolled job settings rolled (run_after job a.rows rolled.prefix rolled.worker rolled.number)) (λ rolled. IsTrue (has_text rolled.cause)) (λ rolled t. t.cause) a.rolled h.rolled

replay_shown : (job : Job) (settings : Settings) (a : Listing) → Replays job settings a → IsReportedWhole a
replay_shown job settings a h = record {
  texts = replay_texts job settings a h;
  prints = rows_print job settings a h;
  dooms = each_weaker (λ rolled. TellsRolled job settings rolled (run_after job a.rows rolled.prefix rolled.worker rolled.number)) (λ rolled. ShowsDoom rolled.cause)
      (λ rolled t. shows_doom rolled.worker settings rolled.cause t.evidence) a.rolled h.rolled;
}

replays_have_as_many : (job : Job) (settings others : Settings) (a b : Listing) → Replays job settings a → Replays job others b → HaveAsMany a b
replays_have_as_many job settings others a b h k =
    let left = listed_sized job a.rows (writer_count a.rows) in
    let right = listed_sized job b.rows (writer_count b.rows) in
    record {
      maps = ap (λ (c : Contents). length c.maps) h.contents ∙ left.1 ∙ sym right.1 ∙ sym (ap (λ (c : Contents). length c.maps) k.contents);
      slots = ap (λ (c : Contents). length c.slots) h.contents ∙ left.2 ∙ sym right.2 ∙ sym (ap (λ (c : Contents). length c.slots) k.contents);
    }

pub text_fixes_listing : TextFixesListing
text_fixes_listing job settings others a b h k p q e =
    one_text a b h k (replay_shown job settings a p) (replay_shown job others b q) (replays_have_as_many job settings others a b p q) e
