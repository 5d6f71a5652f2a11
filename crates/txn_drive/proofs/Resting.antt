-- An attempt goes on until it makes no access.
use Rattle.std.proofs.Common.{◌≡◌, ℕ, ◌<◌, List, [], length, Option, Some, None, refl, ap, arith, ⊎_elim, inl, inr}
use Rattle.stm_model.proofs.AttemptLemmas.{next-none}
use Rattle.stm_model.specs.Accesses.{Act, ExchangeClock, next, next_access, packed}
use Rattle.stm_model.specs.Attempt.{Attempt}
use Rattle.stm_model.specs.Owes.{Owes}
use Rattle.txn_drive.specs.Paying.{IsLed, Pays}
use Rattle.txn_drive.specs.Standing.{Rests}
use Rattle.txn_drive.proofs.Led.{led_on, led_self}

none_packed : (this : Option Act) → packed this ≡ None → this ≡ None
none_packed None is = refl
none_packed (Some act) is = absurd (cc is)

-- Who makes no access, where nothing is due, waits to be asked or is over.
pub rests_so : (t : Attempt) → t.due ≡ [] → next_access t ≡ None → Rests t
rests_so t nothing makes = ⊎_elim
    (λ (some : 0 < length t.due). absurd (let none = ap length nothing in omega (arith, some, none)))
    (λ rest. ⊎_elim (λ waits. inl (record { stands = waits; nothing_due = nothing })) (λ over. inr (record { stage = over; nothing_due = nothing })) rest)
    (next-none t (none_packed (next t) makes))

pub pays_on : (lawful : List ℕ → Type 0) (may : List ℕ → List ℕ → Type 0) (size : ℕ) (t u : Attempt) → IsLed t u → Pays lawful may size t → Pays lawful may size u
pays_on lawful may size t u led pays later old more takes = pays later old (led_on t u later led more) takes

pub pays_now : (lawful : List ℕ → Type 0) (may : List ℕ → List ℕ → Type 0) (size : ℕ) (t : Attempt) → Pays lawful may size t → (old : ℕ) → next t ≡ Some (ExchangeClock old) → Owes lawful may size t.notes t.now.writes
pays_now lawful may size t pays old takes = pays t old (led_self t) takes
