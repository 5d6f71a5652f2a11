-- What single words of a line say, or why they don't.
use Rattle.std.specs.Prelude.{ℕ, Bool, true, false, ◌&&◌, nat_eq, nat_le, nat_lt, if◌then◌else◌, List, [], ◌∷◌, length, slice_index, codes, bytes_eq, Option, Some, None, Result, Ok, Err}
use Rattle.text_lines.specs.Lines.{Row}
use Rattle.text_lines.specs.Numbers.{number_of}
use Rattle.stm_model.specs.declared.cause.HookPhase.{HookPhase}
use Rattle.stm_model.specs.declared.cause.HookPhase.TheVariants.{Preparing, Committing, Commit, Rollback, Completion}
use Rattle.ledger_model.specs.declared.reason.Reason.{Reason}
use Rattle.ledger_model.specs.declared.reason.Reason.TheVariants.{Count, Number, Range}
use Rattle.ledger_model.specs.declared.script.Operand.{Operand}
use Rattle.ledger_model.specs.declared.script.Operand.TheVariants as operand
use Rattle.ledger_model.specs.Limits.{registers, most_code}
use Rattle.ledger_model.specs.Report.{phase_word}
use Rattle.script_text.specs.declared.keyword.Keyword.{Keyword}
use Rattle.script_text.specs.declared.keyword.Keyword.TheVariants as key

-- ---- keywords

abbrev pub keyword_word : Keyword → List ℕ
keyword_word key.Stm = codes "stm"
keyword_word key.Refs = codes "refs"
keyword_word key.Maps = codes "maps"
keyword_word key.Snaps = codes "snaps"
keyword_word key.Blocks = codes "blocks"
keyword_word key.Ref = codes "ref"
keyword_word key.Worker = codes "worker"
keyword_word key.Script = codes "script"
keyword_word key.End = codes "end"
keyword_word key.Steps = codes "steps"
keyword_word key.Const = codes "const"
keyword_word key.Read = codes "read"
keyword_word key.Write = codes "write"
keyword_word key.Add = codes "add"
keyword_word key.Sub = codes "sub"
keyword_word key.Print = codes "print"
keyword_word key.Check = codes "check"
keyword_word key.Need = codes "need"
keyword_word key.Move = codes "move"
keyword_word key.Inner = codes "inner"
keyword_word key.Either = codes "either"
keyword_word key.Or = codes "or"
keyword_word key.Late = codes "late"
keyword_word key.Hook = codes "hook"
keyword_word key.Put = codes "put"
keyword_word key.Del = codes "del"
keyword_word key.Look = codes "look"
keyword_word key.From = codes "from"
keyword_word key.Snap = codes "snap"
keyword_word key.Share = codes "share"

abbrev pub keywords : List Keyword
keywords =
    key.Stm ∷ key.Refs ∷ key.Maps ∷ key.Snaps ∷ key.Blocks ∷ key.Ref ∷ key.Worker ∷ key.Script ∷ key.End ∷ key.Steps ∷
    key.Const ∷ key.Read ∷ key.Write ∷ key.Add ∷ key.Sub ∷ key.Print ∷ key.Check ∷ key.Need ∷ key.Move ∷
    key.Inner ∷ key.Either ∷ key.Or ∷ key.Late ∷ key.Hook ∷
    key.Put ∷ key.Del ∷ key.Look ∷ key.From ∷ key.Snap ∷ key.Share ∷ []

-- the first of these keywords whose word it is
abbrev pub keyword_among : List Keyword → List ℕ → Option Keyword
keyword_among [] word = None
keyword_among (keyword ∷ more) word = if bytes_eq word (keyword_word keyword) then Some keyword else keyword_among more word

abbrev pub keyword_of : List ℕ → Option Keyword
keyword_of word = keyword_among keywords word

-- the headers and statements of maps, which are not built yet
abbrev pub is_unbuilt : Keyword → Bool
is_unbuilt key.Maps = true
is_unbuilt key.Snaps = true
is_unbuilt key.Blocks = true
is_unbuilt key.Put = true
is_unbuilt key.Del = true
is_unbuilt key.Look = true
is_unbuilt key.From = true
is_unbuilt key.Snap = true
is_unbuilt key.Share = true
is_unbuilt _ = false

-- ---- what comes of a result

infixl 10 ◌>>=◌
-- what comes of the value; a refusal stays
abbrev pub ◌>>=◌ : {A B E : Type 0} → Result A E → (A → Result B E) → Result B E
(Ok x) >>= f = f x
(Err e) >>= f = Err e

-- the value, or this reason where there is none
abbrev pub or_reason : {A : Type 0} → Reason → Option A → Result A Reason
or_reason reason (Some x) = Ok x
or_reason reason None = Err reason

-- the value, where the test holds
abbrev pub provided : {A : Type 0} → Bool → Reason → A → Result A Reason
provided test reason x = if test then Ok x else Err reason

abbrev pub is_number_reason : Reason → Bool
is_number_reason Number = true
is_number_reason _ = false

-- both, or why not: that a word is no number comes before that a number is out of range
abbrev pub both : {A B : Type 0} → Result A Reason → Result B Reason → Result (A × B) Reason
both (Ok x) (Ok y) = Ok (x, y)
both (Ok x) (Err e) = Err e
both (Err e) (Ok y) = Err e
both (Err d) (Err e) = Err (if is_number_reason e then Number else d)

-- ---- words

abbrev pub number : List ℕ → Result ℕ Reason
number word = or_reason Number (number_of word)

-- a number below the limit
abbrev pub below : ℕ → List ℕ → Result ℕ Reason
below limit word = number word >>= λ n. provided (nat_lt n limit) Range n

-- a number from 1 to this one
abbrev pub from_one_to : ℕ → List ℕ → Result ℕ Reason
from_one_to most word = number word >>= λ n. provided (nat_le 1 n && nat_le n most) Range n

-- it has more than one digit, the first of which is 0
abbrev pub leads_with_zero : List ℕ → Bool
leads_with_zero digits = nat_lt 1 (length digits) && nat_eq (slice_index digits 0) 48

-- the number of a register: too great a one is out of range, and one with a leading zero is none
abbrev pub register_number : List ℕ → Result ℕ Reason
register_number digits = number digits >>= λ n. if nat_le registers n then Err Range else (if leads_with_zero digits then Err Number else Ok n)

-- `r0` to `r15`
abbrev pub register : List ℕ → Result ℕ Reason
register [] = Err Number
register (b ∷ digits) = if nat_eq b 114 then register_number digits else Err Number

abbrev pub begins_with_r : List ℕ → Bool
begins_with_r [] = false
begins_with_r (b ∷ digits) = nat_eq b 114

-- a register or a number
abbrev pub operand_of : List ℕ → Result Operand Reason
operand_of word =
    if begins_with_r word then (register word >>= λ r. Ok (operand.Reg r)) else (number word >>= λ n. Ok (operand.Number n))

-- a code to fail with
abbrev pub code_of : List ℕ → Result ℕ Reason
code_of word = from_one_to most_code word

abbrev pub phases : List HookPhase
phases = Preparing ∷ Committing ∷ Commit ∷ Rollback ∷ Completion ∷ []

-- the first of these phases whose word it is
abbrev pub phase_among : List HookPhase → List ℕ → Option HookPhase
phase_among [] word = None
phase_among (phase ∷ more) word = if bytes_eq word (phase_word phase) then Some phase else phase_among more word

abbrev pub phase_of : List ℕ → Result HookPhase Reason
phase_of word = or_reason Number (phase_among phases word)

-- ---- so many words, and no more

abbrev pub no_word : Row → Result (Unit {0}) Reason
no_word [] = Ok tt
no_word (a ∷ more) = Err Count

abbrev pub one_word : Row → Result (List ℕ) Reason
one_word [] = Err Count
one_word (a ∷ more) = no_word more >>= λ _. Ok a

abbrev pub two_words : Row → Result (List ℕ × List ℕ) Reason
two_words [] = Err Count
two_words (a ∷ more) = one_word more >>= λ b. Ok (a, b)

abbrev pub three_words : Row → Result (List ℕ × List ℕ × List ℕ) Reason
three_words [] = Err Count
three_words (a ∷ more) = two_words more >>= λ b. Ok (a, b.0, b.1)
