-- A part of a talk without maps, heard on plain contents, goes on as that part of the run ends.
use Rattle.std.proofs.Common.{◌≡◌, ◌+◌, ◌-◌, ◌^◌, ℕ, Bool, true, false, if◌then◌else◌, List, ◌∷◌, ◌++◌, length, take, nat_lt, refl, ap, sym, ◌∙◌, append_assoc}
use Rattle.std.proofs.Math.Seq.{take-append_seam}
use Rattle.stm_model.specs.Accesses.{addr_of}
use Rattle.stm_model.specs.declared.access.Ask.TheVariants as ask
use Rattle.stm_model.specs.Telling.{Extends}
use Rattle.ledger_model.specs.declared.script.Operand.{Operand}
use Rattle.ledger_model.specs.declared.script.Operand.TheVariants.{Reg, Number}
use Rattle.ledger_model.specs.declared.script.Statement.{Statement}
use Rattle.ledger_model.specs.Heard.{Heard, Undoable, hear, heard_at}
use Rattle.ledger_model.specs.Run.{State, Outcome, Meaning, End, Kept, Failed, Retried, Known, kept, and_then, in_turn, nested, undone, undone_unless_kept, caught, or_else, either, move, moved_into, value_of, ref_at, set_ref}
use Rattle.ledger_model.specs.Talk.{Talk, Own, Next, Part, Spoken, tells, value_in, if_kept, all_of, closed, level, catching, if_retried, first_of_them, adding, moving}

-- what a script keeps to itself at a moment of its run, where these before-commit bodies have had their turn
abbrev pub own : List (List Statement) → State → Own
own front s = record { registers = s.registers; lates = front ++ s.lates }

-- a part that ended so, and then what comes next
abbrev pub goes_on : List (List Statement) → Next → List Undoable → Outcome → Heard
goes_on front next saved o = hear (next o.end (own front o.after)) (heard_at saved o.after)

-- A part of a talk goes on as that part of the run ends.
abbrev pub Alike : Part → Meaning → Type 0
Alike part does = (front : List (List Statement)) (next : Next) (saved : List Undoable) (s : State) → hear (part (own front s) next) (heard_at saved s) ≡ goes_on front next saved (does s)

pub value_same : (x : Operand) (front : List (List Statement)) (s : State) → value_in x (own front s) ≡ value_of x s
value_same (Reg r) front s = refl
value_same (Number n) front s = refl

-- ---- parts

pub turn_alike : (part : Spoken) (parts : List Spoken) (this : Known) (others : List Known) → Alike part.says this.does → Alike (all_of parts) (in_turn others)
    → Alike (all_of (part ∷ parts)) (in_turn (this ∷ others))
turn_alike part parts this others first rest front next saved s =
    first front (if_kept (λ t. all_of parts t next) next) saved s ∙ by_end (this.does s).end (this.does s).after where
      by_end : (end : End) (after : State)
          → goes_on front (if_kept (λ t. all_of parts t next) next) saved (record { end = end; after = after }) ≡ goes_on front next saved (and_then (record { end = end; after = after }) (in_turn others))
      by_end Kept after = rest front next saved after
      by_end (Failed code) after = refl
      by_end Retried after = refl

-- the bodies registered before a level are the first so many after it
lates_back : (front before after : List (List Statement)) → Extends before after → take (length (front ++ before)) (front ++ after) ≡ front ++ before
lates_back front before after more =
    ap (λ lates. take (length (front ++ before)) lates) (ap (λ lates. front ++ lates) more.1 ∙ sym (append_assoc front before more.0)) ∙ take-append_seam (front ++ before) more.0

pub level_alike : (parts : List Spoken) (block : List Known) → Alike (all_of parts) (in_turn block) → ((s : State) → Extends s.lates (in_turn block s).after.lates)
    → Alike (level parts) (nested block)
level_alike parts block inside grows front next saved s =
    inside front (closed s.registers (length (front ++ s.lates)) next) (now ∷ saved) s ∙ by_end (in_turn block s).end (in_turn block s).after (grows s) where
      now : Undoable
      now = (heard_at saved s).now

      by_end : (end : End) (after : State) → Extends s.lates after.lates
          → goes_on front (closed s.registers (length (front ++ s.lates)) next) (now ∷ saved) (record { end = end; after = after })
          ≡ goes_on front next saved (undone_unless_kept s (record { end = end; after = after }))
      by_end Kept after more = refl
      by_end (Failed code) after more =
          ap (λ lates. hear (next (Failed code) (record { registers = s.registers; lates = lates })) (heard_at saved (undone s after))) (lates_back front s.lates after.lates more)
      by_end Retried after more =
          ap (λ lates. hear (next Retried (record { registers = s.registers; lates = lates })) (heard_at saved (undone s after))) (lates_back front s.lates after.lates more)

pub caught_alike : (r : ℕ) (parts : List Spoken) (block : List Known) → Alike (level parts) (nested block) → Alike (λ s next. level parts s (catching r next)) (λ s. caught r (nested block s))
caught_alike r parts block inside front next saved s = inside front (catching r next) saved s ∙ by_end (nested block s).end (nested block s).after where
  by_end : (end : End) (after : State) → goes_on front (catching r next) saved (record { end = end; after = after }) ≡ goes_on front next saved (caught r (record { end = end; after = after }))
  by_end Kept after = refl
  by_end (Failed code) after = refl
  by_end Retried after = refl

pub first_alike : (part : List Spoken) (parts : List (List Spoken)) (this : List Known) (others : List (List Known)) → Alike (level part) (nested this) → Alike (first_of_them parts) (either others)
    → Alike (first_of_them (part ∷ parts)) (either (this ∷ others))
first_alike part parts this others first rest front next saved s =
    first front (if_retried (λ t. first_of_them parts t next) next) saved s ∙ by_end (nested this s).end (nested this s).after where
      by_end : (end : End) (after : State)
          → goes_on front (if_retried (λ t. first_of_them parts t next) next) saved (record { end = end; after = after }) ≡ goes_on front next saved (or_else (record { end = end; after = after }) (either others))
      by_end Kept after = refl
      by_end (Failed code) after = refl
      by_end Retried after = rest front next saved after

-- ---- statements that have no others inside

-- either way of a test
pub tested : (b : Bool) (this that : Talk) (o other : Outcome) (front : List (List Statement)) (next : Next) (saved : List Undoable) (s : State)
    → hear this (heard_at saved s) ≡ goes_on front next saved o → hear that (heard_at saved s) ≡ goes_on front next saved other
    → hear (if b then this else that) (heard_at saved s) ≡ goes_on front next saved (if b then o else other)
tested true this that o other front next saved s h g = h
tested false this that o other front next saved s h g = g

pub moves_alike : (from into n : ℕ) → Alike (moving from into n) (move from into n)
moves_alike from into n front next saved s =
    let there : ℕ = ref_at from s in
    let t : State = set_ref from (there - n) s in
    let here : ℕ = ref_at into t in
    tested (nat_lt there n) (next (Failed 1) (own front s)) (tells (ask.Set (addr_of from) (there - n)) (adding into n (own front s) next))
    (record { end = Failed 1; after = s }) (moved_into into n t) front next saved s refl
    (tested (nat_lt (here + n) (2 ^ 64)) (tells (ask.Set (addr_of into) (here + n)) (next Kept (own front s))) (next (Failed 2) (own front s))
    (kept (set_ref into (here + n) t)) (record { end = Failed 2; after = t }) front next saved t refl refl)
