-- What is made of three words, where one of them isn't what it should be.
use Rattle.std.proofs.Common.{◌≡◌, List, ℕ, Result, Ok, Err, refl}
use Rattle.text_lines.specs.Lines.{Row}
use Rattle.ledger_model.specs.declared.reason.Reason.{Reason}
use Rattle.script_text.specs.Words.{both, three_words}
use Rattle.script_text.specs.Line.{three}

pub three_refused : {A B C D : Type 0} (a : List ℕ → Result A Reason) (b : List ℕ → Result B Reason) (c : List ℕ → Result C Reason) (make : A → B → C → D)
    (args : Row) (w : List ℕ × List ℕ × List ℕ) (e : Reason) → three_words args ≡ Ok w → both (a w.0) (both (b w.1) (c w.2)) ≡ Err e → three a b c make args ≡ Err e
three_refused a b c make args w e h k = rw h (rw k refl)
