-- The report of a listing, as lines of words.
use Rattle.std.specs.Prelude.{ℕ, zero, suc, Bool, nat_lt, if◌then◌else◌, List, [], ◌∷◌, ◌++◌, length, map, flat_map, codes, decimal}
use Rattle.std.specs.List.{enumerate_from}
use Rattle.text_lines.specs.Lines.{Row as Line, text_of}
use Rattle.meta_word.specs.declared.meta.Meta.{Meta}
use Rattle.stm_model.specs.declared.cause.Cause.{Cause}
use Rattle.stm_model.specs.declared.cause.Cause.TheVariants.{ReadConflict, Moved, Stale, WriteConflict, Doomed, ClockMoved, Retry}
use Rattle.stm_model.specs.declared.cause.HookPhase.{HookPhase}
use Rattle.stm_model.specs.declared.cause.HookPhase.TheVariants.{Preparing, Committing, Commit, Rollback, Completion}
use Rattle.ledger_model.specs.declared.job.Contents.{Contents}
use Rattle.ledger_model.specs.declared.listing.Listing.{Listing}
use Rattle.ledger_model.specs.declared.listing.Rolled.{Rolled}
use Rattle.ledger_model.specs.declared.listing.Row.{Row}
use Rattle.ledger_model.specs.declared.listing.RowResult.{RowResult}
use Rattle.ledger_model.specs.declared.listing.RowResult.TheVariants.{Done, Fail, Spent, Full}

-- ---- rows

abbrev pub kind_word : Bool → List ℕ
kind_word writer = if writer then codes "w" else codes "r"

-- WORKER.NUMBER
abbrev pub name_word : ℕ → ℕ → List ℕ
name_word worker number = decimal worker ++ codes "." ++ decimal number

abbrev pub result_words : RowResult → Line
result_words Done = codes "ok" ∷ []
result_words (Fail code) = codes "fail" ∷ decimal code ∷ []
result_words Spent = codes "spent" ∷ []
result_words (Full used allowance) = codes "full" ∷ decimal used ∷ decimal allowance ∷ []

-- what was printed, where the script took place
abbrev pub print_words : RowResult → List ℕ → Line
print_words Done prints = map decimal prints
print_words _ prints = []

abbrev pub phase_word : HookPhase → List ℕ
phase_word Preparing = codes "preparing"
phase_word Committing = codes "committing"
phase_word Commit = codes "commit"
phase_word Rollback = codes "rollback"
phase_word Completion = codes "completion"

-- PHASE:TOKEN
abbrev pub run_word : HookPhase × ℕ → List ℕ
run_word run = phase_word run.0 ++ codes ":" ++ decimal run.1

-- +DRAWN, where blocks were drawn
abbrev pub drawn_words : ℕ → Line
drawn_words zero = []
drawn_words (suc n) = (codes "+" ++ decimal (suc n)) ∷ []

-- POSITION KIND WORKER.NUMBER RESULT, the prints, the handlers' runs and the drawn blocks
abbrev pub row_line : Row → Line
row_line row =
    decimal row.position ∷ kind_word row.writer ∷ name_word row.worker row.number ∷ result_words row.result ++
    (print_words row.result row.prints ++ (map run_word row.runs ++ drawn_words row.drawn))

-- ---- attempts that were rolled back

-- this letter, where the bit is set
abbrev pub flag : List ℕ → Bool → List ℕ
flag letter bit = if bit then letter else []

-- vVERSIONoOWNER, and then c where the word is changing and p where it is pending
abbrev pub meta_text : Meta → List ℕ
meta_text meta = codes "v" ++ decimal meta.version ++ codes "o" ++ decimal meta.owner ++ flag (codes "c") meta.changing ++ flag (codes "p") meta.pending

-- the cause and the words that show it
abbrev pub cause_words : Cause → Line
cause_words (ReadConflict addr meta) = codes "readconflict" ∷ decimal addr.0 ∷ meta_text meta ∷ []
cause_words (Moved addr first second) = codes "moved" ∷ decimal addr.0 ∷ meta_text first ∷ meta_text second ∷ []
cause_words (Stale addr version meta) = codes "stale" ∷ decimal addr.0 ∷ decimal version ∷ meta_text meta ∷ []
cause_words (WriteConflict addr meta) = codes "writeconflict" ∷ decimal addr.0 ∷ meta_text meta ∷ []
cause_words (Doomed status) = codes "doomed" ∷ decimal status.serial ∷ []
cause_words (ClockMoved first second) = codes "clockmoved" ∷ decimal first ∷ decimal second ∷ []
cause_words Retry = codes "retry" ∷ []
cause_words _ = []

-- Whether a rolled line can name the cause. The others end a script or the whole run.
abbrev pub has_text : Cause → Bool
has_text cause = nat_lt 0 (length (cause_words cause))

-- a colon and all that was printed, where anything was
abbrev pub trail_words : List ℕ → Line
trail_words [] = []
trail_words (n ∷ trail) = codes ":" ∷ map decimal (n ∷ trail)

-- rolled WORKER.NUMBER at PREFIX CAUSE, and the trail
abbrev pub rolled_line : Rolled → Line
rolled_line rolled =
    codes "rolled" ∷ name_word rolled.worker rolled.number ∷ codes "at" ∷ decimal rolled.prefix ∷ cause_words rolled.cause ++
    trail_words rolled.trail

-- ---- scripts that are left

-- the word and WORKER.NUMBER
abbrev pub left_line : List ℕ → ℕ × ℕ → Line
left_line word name = word ∷ name_word name.0 name.1 ∷ []

-- ---- contents

-- ref A V
abbrev pub ref_line : ℕ × ℕ → Line
ref_line ref = codes "ref" ∷ decimal ref.0 ∷ decimal ref.1 ∷ []

-- each reference with its value
abbrev pub ref_lines : List ℕ → List Line
ref_lines refs = map ref_line (enumerate_from 0 refs)

-- the word, the number of the map or slot, and a pair
abbrev pub pair_line : List ℕ → ℕ → ℕ × ℕ → Line
pair_line word number pair = word ∷ decimal number ∷ decimal pair.0 ∷ decimal pair.1 ∷ []

-- each pair of each of these maps or slots
abbrev pub pair_lines : List ℕ → List (List (ℕ × ℕ)) → List Line
pair_lines word maps = flat_map (λ m. map (pair_line word m.0) m.1) (enumerate_from 0 maps)

-- the references, then the pairs of the maps, then those of the slots
abbrev pub contents_lines : Contents → List Line
contents_lines contents = ref_lines contents.refs ++ (pair_lines (codes "map") contents.maps ++ pair_lines (codes "snap") contents.slots)

-- ---- the whole

abbrev pub count_line : List ℕ → ℕ → Line
count_line word n = word ∷ decimal n ∷ []

-- what was rolled back, and what is left
abbrev pub rolled_and_left_lines : Listing → List Line
rolled_and_left_lines listing =
    map rolled_line listing.rolled ++ (map (left_line (codes "blocked")) listing.blocked ++ map (left_line (codes "worn")) listing.worn)

-- the contents, the number of blocks in use and the number of rows
abbrev pub closing_lines : Listing → List Line
closing_lines listing =
    contents_lines listing.contents ++
    (count_line (codes "used") listing.contents.used ∷ count_line (codes "done") (length listing.rows) ∷ [])

abbrev pub report_lines : Listing → List Line
report_lines listing =
    (codes "ledger" ∷ codes "1" ∷ []) ∷ map row_line listing.rows ++ (rolled_and_left_lines listing ++ closing_lines listing)

abbrev pub report : Listing → List ℕ
report listing = text_of (report_lines listing)
