use Rattle.std.proofs.Common.{◌≡◌, ◌∙◌, ℕ, zero, suc, ◌+◌, ◌/◌, ◌%◌, Bool, true, false, cond, nat_eq, refl, ap, sym, add-one, arith}
use Rattle.std.specs.Prelude.{count_by}
use Rattle.std.proofs.lemmas.Bool.Decides.{nat_tests}
use Rattle.std.proofs.lemmas.List.FromFn.{sum_by-map-range_with_len_more}
use Rattle.bank_words.specs.declared.task.Load.{Load}
use Rattle.bank_words.specs.declared.task.Load.TheVariants.{Transfers, Hot, Disjoint, Reads, One}
use Rattle.bank_loads.specs.Turns.{is_adding, script_of, scripts_of}
use Rattle.bank_loads.proofs.laws.how_many_scripts_add.Goals as goal

-- one script more
more : (load : Load) (worker scripts : ℕ)
    → count_by is_adding (scripts_of load worker (suc scripts)) ≡ count_by is_adding (scripts_of load worker scripts) + cond (is_adding (script_of load worker scripts)) 1 0
more load worker scripts =
    ap (λ n. count_by is_adding (scripts_of load worker n)) (sym (add-one scripts))
    ∙ sum_by-map-range_with_len_more (λ script. cond (is_adding script) 1 0) (script_of load worker) 0 scripts scripts (omega arith)

none : (load : Load) (worker : ℕ) → ((number : ℕ) → is_adding (script_of load worker number) ≡ false) → (scripts : ℕ) → count_by is_adding (scripts_of load worker scripts) ≡ 0
none load worker never zero = refl
none load worker never (suc scripts) = more load worker scripts ∙ rw (never scripts, none load worker never scripts) refl

all : (worker scripts : ℕ) → count_by is_adding (scripts_of One worker scripts) ≡ scripts
all worker zero = refl
all worker (suc scripts) = more One worker scripts ∙ rw (all worker scripts) (add-one scripts)

tenth : (scripts : ℕ) (b : Bool) → nat_eq (scripts % 10) 9 ≡ b → scripts / 10 + cond b 1 0 ≡ suc scripts / 10
tenth scripts true is = let last : scripts % 10 ≡ 9 = grind (arith, nat_tests) in omega arith
tenth scripts false is = let other : scripts % 10 ≡ 9 → ⊥ = grind (arith, nat_tests) in omega arith

tenths : (worker scripts : ℕ) → count_by is_adding (scripts_of Reads worker scripts) ≡ scripts / 10
tenths worker zero = refl
tenths worker (suc scripts) = more Reads worker scripts ∙ rw (tenths worker scripts) (tenth scripts _ refl)

pub returns : goal.returns
returns c Transfers scripts threads worker one = rw (none Transfers worker (λ number. refl) scripts) (omega arith)
returns c Hot scripts threads worker one = rw (none Hot worker (λ number. refl) scripts) (omega arith)
returns c Disjoint scripts threads worker one = rw (none Disjoint worker (λ number. refl) scripts) (omega arith)
returns c Reads scripts threads worker one = rw (tenths worker scripts) refl
returns c One scripts threads worker one = rw (all worker scripts, one refl) (omega arith)
