-- The statements that stand on one line, and what a fold makes of them.
use Rattle.std.proofs.Common.{◌≡◌, ℕ, Bool, [], ◌∷◌, refl, sym, ap, ◌∙◌, codes, decimal}
use Rattle.text_lines.specs.Lines.{Row}
use Rattle.stm_model.specs.declared.cause.HookPhase.{HookPhase}
use Rattle.ledger_model.specs.declared.script.Operand.{Operand}
use Rattle.ledger_model.specs.declared.script.Statement.{Statement}
use Rattle.ledger_model.specs.declared.script.Statement.TheOpen.{Statement-F}
use Rattle.ledger_model.specs.declared.script.Statement.TheOpen as layer
use Rattle.ledger_model.specs.declared.script.Statement.TheVariants as made
use Rattle.ledger_model.specs.declared.script.Statement.TheViews.{roll-Statement}
use Rattle.ledger_model.specs.declared.script.Statement.TheFolds.{fold-Statement, fold-roll-Statement, map-Statement}
use Rattle.ledger_model.specs.Fits.{Places, fits, fits_step}
use Rattle.ledger_model.specs.Report.{phase_word}
use Rattle.script_text.specs.Printing.{register_word, operand_word, statement_lines, statement_step}

pub data Simple : Type 0 where
  const : ℕ → ℕ → Simple
  read : ℕ → ℕ → Simple
  write : ℕ → Operand → Simple
  add : ℕ → Operand → Simple
  sub : ℕ → Operand → Simple
  print : Operand → Simple
  check : Operand → Operand → ℕ → Simple
  need : Operand → Operand → Simple
  move : ℕ → ℕ → Operand → Simple
  hook : HookPhase → ℕ → Simple

abbrev pub made_of : Simple → Statement
made_of (const r n) = made.Const r n
made_of (read r cell) = made.Read r cell
made_of (write cell x) = made.Write cell x
made_of (add r x) = made.Add r x
made_of (sub r x) = made.Sub r x
made_of (print x) = made.Print x
made_of (check x y code) = made.Check x y code
made_of (need x y) = made.Need x y
made_of (move a b x) = made.Move a b x
made_of (hook phase token) = made.Hook phase token

abbrev pub layer_of : {A : Type 0} → Simple → Statement-F A
layer_of (const r n) = layer.Const r n
layer_of (read r cell) = layer.Read r cell
layer_of (write cell x) = layer.Write cell x
layer_of (add r x) = layer.Add r x
layer_of (sub r x) = layer.Sub r x
layer_of (print x) = layer.Print x
layer_of (check x y code) = layer.Check x y code
layer_of (need x y) = layer.Need x y
layer_of (move a b x) = layer.Move a b x
layer_of (hook phase token) = layer.Hook phase token

rolls : (s : Simple) → made_of s ≡ roll-Statement (layer_of s)
rolls (const r n) = sym (made.rolls-Const r n)
rolls (read r cell) = sym (made.rolls-Read r cell)
rolls (write cell x) = sym (made.rolls-Write cell x)
rolls (add r x) = sym (made.rolls-Add r x)
rolls (sub r x) = sym (made.rolls-Sub r x)
rolls (print x) = sym (made.rolls-Print x)
rolls (check x y code) = sym (made.rolls-Check x y code)
rolls (need x y) = sym (made.rolls-Need x y)
rolls (move a b x) = sym (made.rolls-Move a b x)
rolls (hook phase token) = sym (made.rolls-Hook phase token)

maps : {A B : Type 0} (f : A → B) (s : Simple) → map-Statement A B f (layer_of s) ≡ layer_of s
maps f (const r n) = refl
maps f (read r cell) = refl
maps f (write cell x) = refl
maps f (add r x) = refl
maps f (sub r x) = refl
maps f (print x) = refl
maps f (check x y code) = refl
maps f (need x y) = refl
maps f (move a b x) = refl
maps f (hook phase token) = refl

-- a fold of it is the fold's step at its layer
pub folds : {A : Type 0} (f : Statement-F A → A) (s : Simple) → fold-Statement A f (made_of s) ≡ f (layer_of s)
folds {A} f s =
    ap (fold-Statement A f) (rolls s) ∙ fold-roll-Statement A f (layer_of s) ∙ ap f (maps (fold-Statement A f) s)

-- its line
abbrev pub row_of : Simple → Row
row_of (const r n) = codes "const" ∷ register_word r ∷ decimal n ∷ []
row_of (read r cell) = codes "read" ∷ register_word r ∷ decimal cell ∷ []
row_of (write cell x) = codes "write" ∷ decimal cell ∷ operand_word x ∷ []
row_of (add r x) = codes "add" ∷ register_word r ∷ operand_word x ∷ []
row_of (sub r x) = codes "sub" ∷ register_word r ∷ operand_word x ∷ []
row_of (print x) = codes "print" ∷ operand_word x ∷ []
row_of (check x y code) = codes "check" ∷ operand_word x ∷ operand_word y ∷ decimal code ∷ []
row_of (need x y) = codes "need" ∷ operand_word x ∷ operand_word y ∷ []
row_of (move a b x) = codes "move" ∷ decimal a ∷ decimal b ∷ operand_word x ∷ []
row_of (hook phase token) = codes "hook" ∷ phase_word phase ∷ decimal token ∷ []

pub simple_lines : (s : Simple) → statement_lines (made_of s) ≡ row_of s ∷ []
simple_lines s = folds statement_step s ∙ at s where
  at : (s : Simple) → statement_step (layer_of s) ≡ row_of s ∷ []
  at (const r n) = refl
  at (read r cell) = refl
  at (write cell x) = refl
  at (add r x) = refl
  at (sub r x) = refl
  at (print x) = refl
  at (check x y code) = refl
  at (need x y) = refl
  at (move a b x) = refl
  at (hook phase token) = refl

-- its limits, whatever is left of levels
abbrev pub simple_fits : Places → Simple → Bool
simple_fits p s = fits_step p (layer_of s) 0

pub simple_fits_is : (p : Places) (s : Simple) (left : ℕ) → fits p (made_of s) left ≡ simple_fits p s
simple_fits_is p s left = ap (λ (f : ℕ → Bool). f left) (folds (fits_step p) s) ∙ at s where
  at : (s : Simple) → fits_step p (layer_of s) left ≡ fits_step p (layer_of s) 0
  at (const r n) = refl
  at (read r cell) = refl
  at (write cell x) = refl
  at (add r x) = refl
  at (sub r x) = refl
  at (print x) = refl
  at (check x y code) = refl
  at (need x y) = refl
  at (move a b x) = refl
  at (hook phase token) = refl
