-- What a line says by its keyword and the words behind that, or why not: first for their number, then for a word that is no number, then for a number out of range.
use Rattle.std.specs.Prelude.{ℕ, ◌+◌, ◌||◌, nat_eq, nat_lt, if◌then◌else◌, List, [], ◌∷◌, length, Result, Ok, Err}
use Rattle.text_lines.specs.Lines.{Row}
use Rattle.ledger_model.specs.Limits.{most_refs, most_steps_on_line}
use Rattle.ledger_model.specs.declared.reason.Reason.{Reason}
use Rattle.ledger_model.specs.declared.reason.Reason.TheVariants.{Unbuilt, Count}
use Rattle.ledger_model.specs.declared.script.Statement.{Statement}
use Rattle.ledger_model.specs.declared.script.Statement.TheVariants as made
use Rattle.script_text.specs.declared.keyword.Keyword.{Keyword}
use Rattle.script_text.specs.declared.keyword.Keyword.TheVariants as key
use Rattle.script_text.specs.declared.line.Line.{Line}
use Rattle.script_text.specs.declared.line.Line.TheVariants as says
use Rattle.script_text.specs.Words.{◌>>=◌, both, number, below, from_one_to, register, operand_of, code_of, phase_of, no_word, one_word, two_words, three_words}

-- what is made of no word, or of so many, each read in its own way
abbrev pub none : {C : Type 0} → C → Row → Result C Reason
none value args = no_word args >>= λ _. Ok value

abbrev pub one : {A C : Type 0} → (List ℕ → Result A Reason) → (A → C) → Row → Result C Reason
one a make args = one_word args >>= λ w. a w >>= λ x. Ok (make x)

abbrev pub two : {A B C : Type 0} → (List ℕ → Result A Reason) → (List ℕ → Result B Reason) → (A → B → C) → Row → Result C Reason
two a b make args = two_words args >>= λ w. both (a w.0) (b w.1) >>= λ x. Ok (make x.0 x.1)

abbrev pub three : {A B C D : Type 0} → (List ℕ → Result A Reason) → (List ℕ → Result B Reason) → (List ℕ → Result C Reason) → (A → B → C → D) → Row → Result D Reason
three a b c make args = three_words args >>= λ w. both (a w.0) (both (b w.1) (c w.2)) >>= λ x. Ok (make x.0 x.1.0 x.1.1)

-- worker numbers, of which there are so many workers
abbrev pub workers_of : ℕ → Row → Result (List ℕ) Reason
workers_of workers [] = Ok []
workers_of workers (word ∷ more) = both (from_one_to workers word) (workers_of workers more) >>= λ x. Ok (x.0 ∷ x.1)

-- worker numbers, at least one and as many as a line may have
abbrev pub steps_of : ℕ → Row → Result (List ℕ) Reason
steps_of workers args = if nat_eq (length args) 0 || nat_lt most_steps_on_line (length args) then Err Count else workers_of workers args

-- the statements that name references, which are below `refs`; other keywords begin none
abbrev pub statement_on : ℕ → Keyword → Row → Result Statement Reason
statement_on refs key.Read args = two register (below refs) made.Read args
statement_on refs key.Write args = two (below refs) operand_of made.Write args
statement_on refs key.Move args = three (below refs) (below refs) operand_of made.Move args
statement_on refs _ args = Err Unbuilt

-- the statement of a keyword and the words behind it
abbrev pub statement_of : ℕ → Keyword → Row → Result Statement Reason
statement_of refs key.Const args = two register number made.Const args
statement_of refs key.Add args = two register operand_of made.Add args
statement_of refs key.Sub args = two register operand_of made.Sub args
statement_of refs key.Print args = one operand_of made.Print args
statement_of refs key.Check args = three operand_of operand_of code_of made.Check args
statement_of refs key.Need args = two operand_of operand_of made.Need args
statement_of refs key.Hook args = two phase_of number made.Hook args
statement_of refs keyword args = statement_on refs keyword args

-- what a keyword and the words behind it say, where there are so many references and workers
abbrev pub said : ℕ → ℕ → Keyword → Row → Result Line Reason
said refs workers key.Refs args = one (below (most_refs + 1)) says.Refs args
said refs workers key.Ref args = two (below refs) number says.Opening args
said refs workers key.Worker args = none says.Worker args
said refs workers key.Script args = none says.Script args
said refs workers key.End args = none says.End args
said refs workers key.Steps args = steps_of workers args >>= λ numbers. Ok (says.Steps numbers)
said refs workers key.Inner args = one register says.Inner args
said refs workers key.Either args = none says.Either args
said refs workers key.Or args = none says.Or args
said refs workers key.Late args = none says.Late args
said refs workers keyword args = statement_of refs keyword args >>= λ m. Ok (says.Plain m)
