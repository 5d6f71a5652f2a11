-- What an access finds is an answer that its attempt may take.
use Rattle.std.proofs.Common.{◌≡◌, ℕ, ◌≤◌, IsSome, Option, Some, None, refl, sym, subst}
use Rattle.ref_table.specs.Performs.{FoundFits}
use Rattle.stm_core.specs.Machine.{ClockFits, MayTake}
use Rattle.stm_model.specs.Accesses.{Act, ExchangeClock, LoadClock, access_of, next, next_access, word_of}
use Rattle.stm_model.specs.Attempt.{Attempt}
use Rattle.stm_model.specs.World.{Terms}
use Rattle.stm_model.specs.declared.access.Access.{Access}
use Rattle.txn_drive.proofs.Led.{next_act}

clock_fits : (terms : Terms) (t : Attempt) (act : Act) (found : ℕ) → t.settings.clock ≡ terms.limit → FoundFits terms (word_of (access_of act)) found → ClockFits t (Some act) found
unfolding FoundFits ClockFits word_of access_of
clock_fits terms t LoadClock found limit fits = subst (λ (n : ℕ). found ≤ n) (sym limit) fits
clock_fits terms t (ExchangeClock old) found limit fits = subst (λ (n : ℕ). found ≤ n) (sym limit) fits
clock_fits terms t act found limit fits = tt

some_is : {X : Type 0} (this : Option X) (x : X) → this ≡ Some x → IsSome this
some_is None x is = absurd (cc is)
some_is (Some y) x is = refl

pub may_take : (terms : Terms) (t : Attempt) (access : Access) (found : ℕ) → next_access t ≡ Some access → t.settings.clock ≡ terms.limit → FoundFits terms (word_of access) found → MayTake t found
may_take terms t access found comes limit fits =
    let this = next_act t access comes in
    let same : access ≡ access_of this.act = cc (this.made) in
    record {
      going = some_is (next t) this.act this.is;
      clock = subst (λ (act : Option Act). ClockFits t act found) (sym this.is) (clock_fits terms t this.act found limit (subst (λ (a : Access). FoundFits terms (word_of a) found) same fits));
    }
