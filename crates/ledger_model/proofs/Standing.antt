-- Where a part of a script stands, and what each change makes of it.
use Rattle.std.proofs.Common.{◌≡◌, ◌≤◌, ◌+◌, ◌^◌, ℕ, zero, suc, IsTrue, List, [], ◌∷◌, ◌++◌, length, take, drop, refl, subst, arith, length-append}
use Rattle.std.specs.Prelude.{Option, Some, IfSome, slice_get}
use Rattle.std.specs.List.{AllByRecursion}
use Rattle.std.proofs.lemmas.List.{length-take-le}
use Rattle.text_lines.proofs.Lists.{AllByRecursion-append}
use Rattle.stm_model.specs.Refusing.{deepest}
use Rattle.ledger_model.specs.declared.script.Operand.{Operand}
use Rattle.ledger_model.specs.declared.script.Operand.TheVariants.{Reg, Number}
use Rattle.ledger_model.specs.declared.script.Statement.{Statement}
use Rattle.ledger_model.specs.Allowed.{Footing}
use Rattle.ledger_model.specs.Fits.{Places, block_fits, operand_fits}
use Rattle.ledger_model.specs.Run.{statement_count}
use Rattle.ledger_model.specs.Talk.{Own, back_to, own_start, value_in, with_register}
use Rattle.ledger_model.specs.Words.{IsWord}
use Rattle.ledger_model.proofs.Lates.{waiting}
use Rattle.ledger_model.proofs.MapLemmas.{All-at, All-replicate, All-set}
use Rattle.ledger_model.proofs.Moments.{below}

-- ---- lists

All-take : {X : Type 0} (P : X → Type 0) (n : ℕ) (list : List X) → AllByRecursion P list → AllByRecursion P (take n list)
All-take P zero list h = tt
All-take P (suc n) [] h = tt
All-take P (suc n) (x ∷ list) h = (h.0, All-take P n list h.1)

All-get : {X : Type 0} (P : X → Type 0) (list : List X) (index : ℕ) → AllByRecursion P list → IfSome (slice_get list index) P
All-get P [] index h = tt
All-get P (x ∷ list) zero h = h.0
All-get P (x ∷ list) (suc index) h = All-get P list index h.1

-- ---- bodies that wait

-- the first so many have no more behind their first few than all have
waiting_front : (bodies : List (List Statement)) (n turn : ℕ) → waiting (drop turn (take n bodies)) ≤ waiting (drop turn bodies)
unfolding waiting
waiting_front bodies zero zero = omega arith
waiting_front bodies zero (suc turn) = omega arith
waiting_front [] (suc n) turn = omega arith
waiting_front (body ∷ bodies) (suc n) zero = let more = waiting_front bodies n zero in omega (arith, more)
waiting_front (body ∷ bodies) (suc n) (suc turn) = waiting_front bodies n turn

waiting_push : (bodies : List (List Statement)) (turn : ℕ) (body : List Statement) → waiting (drop turn (bodies ++ body ∷ [])) ≤ waiting (drop turn bodies) + (1 + statement_count body)
unfolding waiting
waiting_push [] zero body = omega arith
waiting_push [] (suc zero) body = omega arith
waiting_push [] (suc (suc turn)) body = omega arith
waiting_push (first ∷ bodies) zero body = let more = waiting_push bodies zero body in omega (arith, more)
waiting_push (first ∷ bodies) (suc turn) body = waiting_push bodies turn body

-- the body whose turn it is waits before all those behind it
pub waiting_turn : (bodies : List (List Statement)) (turn : ℕ) (body : List Statement) → slice_get bodies turn ≡ Some body
    → waiting (drop turn bodies) ≡ 1 + statement_count body + waiting (drop (suc turn) bodies)
unfolding waiting
waiting_turn [] turn body is = cc
waiting_turn (first ∷ bodies) zero body is = let same : first ≡ body = cc in rw same refl
waiting_turn (first ∷ bodies) (suc turn) body is = waiting_turn bodies turn body is

-- ---- where it stands

-- how many bodies were registered where each open level began, how many have had their turn, and how many are registered at the least
pub record Frame : Type 0 where
  pub saved : List ℕ
  pub turn : ℕ
  pub least : ℕ

abbrev pub footing : Frame → Own → Footing
footing f s = record { registered = length s.lates; saved = f.saved; turn = f.turn }

-- one more level open
abbrev pub inside : Frame → Own → Frame
inside f s = record { saved = length s.lates ∷ f.saved; turn = f.turn; least = length s.lates }

-- no level open, with so many bodies that have had their turn
abbrev pub behind : ℕ → Frame
behind turn = record { saved = []; turn = turn; least = 0 }

module _ (p : Places) where
  -- a before-commit body that fits, with no more levels left than may open
  abbrev pub BodyFits : List Statement → Type 0
  BodyFits body = (left : ℕ) × (left ≤ deepest) × IsTrue (block_fits p left body)

  -- Registers hold words, and the bodies fit. No fewer are registered than the frame says, and what waits is within the room.
  pub record Stands (f : Frame) (room : ℕ) (s : Own) : Type 0 where
    pub registers : AllByRecursion IsWord s.registers
    pub lates : AllByRecursion BodyFits s.lates
    pub least : f.least ≤ length s.lates
    pub waits : waiting (drop f.turn s.lates) ≤ room

  pub wider : (f : Frame) (room most : ℕ) (s : Own) → room ≤ most → Stands f room s → Stands f most s
  wider f room most s more h = let waits = h.waits in record { registers = h.registers; lates = h.lates; least = h.least; waits = omega (arith, more, waits) }

  pub sets : (f : Frame) (room r n : ℕ) (s : Own) → IsWord n → Stands f room s → Stands f room (with_register r n s)
  sets f room r n s word h = record { registers = All-set IsWord s.registers r n h.registers word; lates = h.lates; least = h.least; waits = h.waits }

  pub registers_body : (f : Frame) (room : ℕ) (body : List Statement) (s : Own) → BodyFits body → Stands f room s
      → Stands f (room + (1 + statement_count body)) (record s { lates = s.lates ++ body ∷ [] })
  registers_body f room body s fit h =
      let least = h.least in
      let waits = h.waits in
      let longer = length-append s.lates (body ∷ []) in
      let push = waiting_push s.lates f.turn body in
      record {
        registers = h.registers;
        lates = AllByRecursion-append BodyFits s.lates (body ∷ []) h.lates (fit, tt);
        least = omega (arith, least, longer);
        waits = omega (arith, waits, push);
      }

  -- ---- levels

  pub enters : (f : Frame) (room : ℕ) (s : Own) → Stands f room s → Stands (inside f s) room s
  enters f room s h = record { registers = h.registers; lates = h.lates; least = omega arith; waits = h.waits }

  pub leaves : (f : Frame) (room most : ℕ) (s t : Own) → Stands f room s → Stands (inside f s) most t → Stands f most t
  leaves f room most s t before after =
      let least = before.least in let more = after.least in record { registers = after.registers; lates = after.lates; least = omega (arith, least, more); waits = after.waits }

  -- as many bodies are registered again as before the level
  pub as_many : (f : Frame) (most : ℕ) (s t : Own) → Stands (inside f s) most t → length (take (length s.lates) t.lates) ≡ length s.lates
  as_many f most s t after = length-take-le (length s.lates) t.lates after.least

  pub goes_back : (f : Frame) (room most : ℕ) (s t : Own) → Stands f room s → Stands (inside f s) most t → Stands f most (back_to s.registers (length s.lates) t)
  goes_back f room most s t before after =
      let least = before.least in
      let many = as_many f most s t after in
      let waits = after.waits in
      let fewer = waiting_front t.lates (length s.lates) f.turn in
      record {
        registers = before.registers;
        lates = All-take BodyFits (length s.lates) t.lates after.lates;
        least = omega (arith, least, many);
        waits = omega (arith, waits, fewer);
      }

  -- ---- values

  pub value : (f : Frame) (room : ℕ) (x : Operand) (s : Own) → IsTrue (operand_fits x) → Stands f room s → IsWord (value_in x s)
  value f room (Reg r) s fit h = All-at IsWord s.registers r 0 h.registers (omega arith)
  value f room (Number n) s fit h = below n (2 ^ 64) fit

  -- ---- bodies that have their turn

  pub first_stands : Stands (behind 0) 0 own_start
  unfolding waiting
  first_stands = record { registers = All-replicate IsWord 16 0 (omega arith); lates = tt; least = omega arith; waits = omega arith }

  pub body_fits : (f : Frame) (room turn : ℕ) (body : List Statement) (s : Own) → slice_get s.lates turn ≡ Some body → Stands f room s → BodyFits body
  body_fits f room turn body s is h = subst (λ (found : Option (List Statement)). IfSome found BodyFits) is (All-get BodyFits s.lates turn h.lates)

  -- its turn takes it off those that wait
  pub takes_turn : (turn room : ℕ) (body : List Statement) (s : Own) → slice_get s.lates turn ≡ Some body → Stands (behind turn) room s
      → Stands (behind (suc turn)) (waiting (drop (suc turn) s.lates)) s
  takes_turn turn room body s is h = record { registers = h.registers; lates = h.lates; least = omega arith; waits = omega arith }
