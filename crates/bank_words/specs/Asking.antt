-- Which task words ask for. How the words are cut into arguments is `clap`'s own definition.
use Rattle.std.specs.Prelude.{ℕ, true, ◌&&◌, nat_le, List, [], ◌∷◌, length, nat_eq, Option, Some, None, codes, option_and_then, if◌then◌else◌}
use Rattle.std.specs.Str.{bytes_eq}
use Rattle.clap.specs.Words.{App, Rule, Text, fault_of, first_of, matches_of, new_app, new_rule, with_rule}
use Rattle.text_lines.specs.Numbers.{number_of}
use Rattle.bank_words.specs.declared.task.Load.{Load}
use Rattle.bank_words.specs.declared.task.Load.TheVariants.{Transfers, Hot, Disjoint, Reads, One}
use Rattle.bank_words.specs.declared.task.TheConstants.{MOST_SCRIPTS, MOST_THREADS}

-- ---- what the three arguments say

-- the load of a name
abbrev pub load_of : Text → Option Load
load_of name =
    if bytes_eq name (codes "transfers") then Some Transfers else
    if bytes_eq name (codes "hot") then Some Hot else
    if bytes_eq name (codes "disjoint") then Some Disjoint else
    if bytes_eq name (codes "reads") then Some Reads else
    if bytes_eq name (codes "one") then Some One else None

-- one where the load is that of one worker
abbrev pub threads_of : Load → ℕ → ℕ
threads_of One threads = 1
threads_of load threads = threads

-- the task, where the numbers are within the limits
abbrev pub task_in : Load → ℕ → ℕ → Option (Load × ℕ × ℕ)
task_in load scripts threads =
    if nat_le scripts MOST_SCRIPTS && nat_le 1 threads && nat_le threads MOST_THREADS
    then Some (load, scripts, threads_of load threads) else None

-- the task of a load, a number of scripts and a number of threads as they are written
abbrev pub task_by : Option Text → Option Text → Option Text → Option (Load × ℕ × ℕ)
task_by load scripts threads =
    option_and_then (λ load.
    option_and_then (λ scripts.
    option_and_then (λ threads. task_in load scripts threads)
    (option_and_then number_of threads))
    (option_and_then number_of scripts))
    (option_and_then load_of load)

-- ---- the words

-- an argument that has to be given
abbrev pub wanted : Text → Rule
wanted name = record (new_rule name) { required = true }

-- `--threads`, which is 1 where it isn't given
abbrev pub threads_option : Rule
threads_option = record (new_rule (codes "threads")) { long = Some (codes "threads"); defaults = codes "1" ∷ [] }

-- the command: a load, a number of scripts, and `--threads` with a number
abbrev pub bank : App
bank = with_rule (with_rule (with_rule (new_app (codes "bank")) (wanted (codes "load"))) (wanted (codes "scripts"))) threads_option

-- what the words give for an argument
abbrev pub given : List Text → Text → Option Text
given words name = first_of name (matches_of bank words)

-- The task that the words ask for: none where they aren't words of the command.
abbrev pub asked_for : List Text → Option (Load × ℕ × ℕ)
asked_for words =
    if nat_eq (length (fault_of bank words)) 0
    then task_by (given words (codes "load")) (given words (codes "scripts")) (given words (codes "threads")) else None
