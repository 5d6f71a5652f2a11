-- Private: what a call that may be refused gives, against what its definition gives.
use Rattle.std.specs.Prelude.{◌≡◌, Result, Ok, Err}
use Rattle.ledger_model.specs.declared.reason.Reason.{Reason}
use Rattle.script_text.specs.declared.fault.Fault.{Fault}
use Rattle.script_text.specs.declared.fault.Fault.TheVariants as fault

-- the same, seen by this view
abbrev pub Gives : {A B : Type 0} → (A → B) → Result A Reason → Result B Reason → Type 0
Gives view (Ok x) given = given ≡ Ok (view x)
Gives view (Err reason) given = given ≡ Err reason

-- the definition's reason; out of memory says nothing
abbrev pub IsRefused : {A : Type 0} → Fault → Result A Reason → Type 0
IsRefused fault.Memory given = Unit {0}
IsRefused (fault.Refused reason) given = given ≡ Err reason

-- the same, unless it is out of memory
abbrev pub Says : {A : Type 0} → Result A Fault → Result A Reason → Type 0
Says (Ok x) given = given ≡ Ok x
Says (Err e) given = IsRefused e given
