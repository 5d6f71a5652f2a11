-- A line that is said where it may stand is one that the reader takes.
use Rattle.std.proofs.Common.{◌≡◌, ℕ, Bool, true, false, not, ◌&&◌, ◌||◌, nat_eq, nat_le, nat_lt, List, [], ◌∷◌, None, Result, Ok, Err, refl, subst, arith}
use Rattle.std.proofs.lemmas.Bool.Decides.{nat_tests}
use Rattle.text_lines.specs.Lines.{Row}
use Rattle.ledger_model.specs.declared.reason.Reason.{Reason}
use Rattle.ledger_model.specs.declared.reason.Reason.TheVariants.{Unbuilt, Order, Depth, Many}
use Rattle.script_text.specs.declared.keyword.Keyword.{Keyword}
use Rattle.script_text.specs.declared.keyword.Keyword.TheVariants as key
use Rattle.script_text.specs.declared.line.Line.{Line}
use Rattle.script_text.specs.declared.line.Line.TheVariants as says
use Rattle.script_text.specs.Words.{◌>>=◌, below, number, register, no_word, one_word, two_words, both}
use Rattle.script_text.specs.Line.{none, one, two, said, steps_of, statement_of}
use Rattle.script_text.specs.Standing.{Standing, in_script, in_part, rank, out_of_order, too_deep, too_many, first_of, misplaced}
use Rattle.script_text.specs.Reading.{may_come}

-- ---- what comes of a result

made : {B : Type 0} (x : B) (P : B → Type 0) → P x → (y : B) → ◌≡◌ {A = Result B Reason} (Ok x) (Ok y) → P y
made x P p y e = let k : x ≡ y = cc in subst P k p

bound : {A B : Type 0} (r : Result A Reason) (f : A → Result B Reason) (P : B → Type 0) → ((x : A) (y : B) → f x ≡ Ok y → P y) → (y : B) → (r >>= f) ≡ Ok y → P y
bound (Ok x) f P h y e = h x y e
bound (Err d) f P h y e = cc

made_of : {A B : Type 0} (r : Result A Reason) (make : A → B) (P : B → Type 0) → ((x : A) → P (make x)) → (y : B) → (r >>= λ x. Ok (make x)) ≡ Ok y → P y
made_of r make P h y e = bound r (λ x. Ok (make x)) P (λ x z k. made (make x) P (h x) z k) y e

none_made : {C : Type 0} (x : C) (P : C → Type 0) → P x → (args : Row) (y : C) → none x args ≡ Ok y → P y
none_made x P p args y e = made_of (no_word args) (λ _. x) P (λ _. p) y e

one_made : {A C : Type 0} (a : List ℕ → Result A Reason) (make : A → C) (P : C → Type 0) → ((x : A) → P (make x)) → (args : Row) (y : C) → one a make args ≡ Ok y → P y
one_made a make P h args y e = bound (one_word args) (λ w. a w >>= λ x. Ok (make x)) P (λ w z k. made_of (a w) make P h z k) y e

two_made : {A B C : Type 0} (a : List ℕ → Result A Reason) (b : List ℕ → Result B Reason) (make : A → B → C) (P : C → Type 0) → ((x : A) (z : B) → P (make x z)) → (args : Row) (y : C) → two a b make args ≡ Ok y → P y
two_made a b make P h args y e = bound (two_words args) (λ w. both (a w.0) (b w.1) >>= λ x. Ok (make x.0 x.1)) P (λ w z k. made_of (both (a w.0) (b w.1)) (λ x. make x.0 x.1) P (λ x. h x.0 x.1) z k) y e

-- ---- truth values

not_less : (m n : ℕ) → nat_lt m n ≡ false → nat_le n m ≡ true
not_less m n e = grind (arith, nat_tests)

not_more : (m n : ℕ) → nat_le m n ≡ false → nat_lt n m ≡ true
not_more m n e = grind (arith, nat_tests)

first_false : (a b : Bool) → (a || b) ≡ false → a ≡ false
first_false true b e = cc
first_false false b e = refl

free_with_room : (a b : Bool) → a ≡ false → b ≡ true → (not a && b) ≡ true
free_with_room a b e h = rw e h

not_not : (b : Bool) → not b ≡ false → b ≡ true
not_not true e = refl
not_not false e = cc

none_holds : (a b c d : Bool) → first_of ((a, Unbuilt) ∷ (b, Order) ∷ (c, Depth) ∷ (d, Many) ∷ []) ≡ None → (b ≡ false) × (d ≡ false)
none_holds true b c d e = cc
none_holds false true c d e = cc
none_holds false false true d e = cc
none_holds false false false true e = cc
none_holds false false false false e = (refl, refl)

-- ---- lines

plain : (p : Standing) (keyword : Keyword) (args : Row) (line : Line) → (statement_of p.refs keyword args >>= λ m. Ok (says.Plain m)) ≡ Ok line → may_come p line ≡ true
plain p keyword args line e = made_of (statement_of p.refs keyword args) says.Plain (λ line. may_come p line ≡ true) (λ m. refl) line e

allowed : (p : Standing) (keyword : Keyword) (args : Row) (line : Line) → out_of_order p keyword args ≡ false → too_many p keyword args ≡ false
    → said p.refs p.workers keyword args ≡ Ok line → may_come p line ≡ true
allowed p key.Refs args line o m e = one_made (below 65537) says.Refs (λ line. may_come p line ≡ true) (λ n. not_less 1 (rank p.come_to) o) args line e
allowed p key.Ref args line o m e = two_made (below p.refs) number says.Opening (λ line. may_come p line ≡ true) (λ a n. refl) args line e
allowed p key.Worker args line o m e = none_made says.Worker (λ line. may_come p line ≡ true)
    (free_with_room (in_script p) (nat_lt p.workers 16) (first_false (in_script p) (nat_lt 4 (rank p.come_to)) o) (not_more 16 p.workers m)) args line e
allowed p key.Script args line o m e = none_made says.Script (λ line. may_come p line ≡ true)
    (free_with_room (in_script p) (nat_lt p.scripts 4096) (first_false (in_script p) (not (nat_eq (rank p.come_to) 4)) o) (not_more 4096 p.scripts m)) args line e
allowed p key.End args line o m e = none_made says.End (λ line. may_come p line ≡ true) refl args line e
allowed p key.Steps args line o m e = made_of (steps_of p.workers args) says.Steps (λ line. may_come p line ≡ true) (λ numbers. refl) line e
allowed p key.Inner args line o m e = one_made register says.Inner (λ line. may_come p line ≡ true) (λ r. refl) args line e
allowed p key.Either args line o m e = none_made says.Either (λ line. may_come p line ≡ true) refl args line e
allowed p key.Or args line o m e = none_made says.Or (λ line. may_come p line ≡ true) (not_not (in_part p.openers) o) args line e
allowed p key.Late args line o m e = none_made says.Late (λ line. may_come p line ≡ true) refl args line e
allowed p key.Stm args line o m e = plain p key.Stm args line e
allowed p key.Maps args line o m e = plain p key.Maps args line e
allowed p key.Snaps args line o m e = plain p key.Snaps args line e
allowed p key.Blocks args line o m e = plain p key.Blocks args line e
allowed p key.Const args line o m e = plain p key.Const args line e
allowed p key.Read args line o m e = plain p key.Read args line e
allowed p key.Write args line o m e = plain p key.Write args line e
allowed p key.Add args line o m e = plain p key.Add args line e
allowed p key.Sub args line o m e = plain p key.Sub args line e
allowed p key.Print args line o m e = plain p key.Print args line e
allowed p key.Check args line o m e = plain p key.Check args line e
allowed p key.Need args line o m e = plain p key.Need args line e
allowed p key.Move args line o m e = plain p key.Move args line e
allowed p key.Hook args line o m e = plain p key.Hook args line e
allowed p key.Put args line o m e = plain p key.Put args line e
allowed p key.Del args line o m e = plain p key.Del args line e
allowed p key.Look args line o m e = plain p key.Look args line e
allowed p key.From args line o m e = plain p key.From args line e
allowed p key.Snap args line o m e = plain p key.Snap args line e
allowed p key.Share args line o m e = plain p key.Share args line e

pub may_come_said : (p : Standing) (keyword : Keyword) (args : Row) (line : Line) → misplaced p keyword args ≡ None → said p.refs p.workers keyword args ≡ Ok line → may_come p line ≡ true
may_come_said p keyword args line m e = let h = none_holds _ (out_of_order p keyword args) (too_deep p keyword) (too_many p keyword args) m in allowed p keyword args line h.0 h.1 e
