-- Bodies of one operation on one cell: what they do on each heap, by the calls that they made.
use Rattle.std.proofs.Common.{◌≡◌, ◌≢◌, ℕ, ◌<◌, Bool, true, List, length, get_or, set, Option, Some, None, refl, sym, ap, subst, ◌∙◌}
use Rattle.std.specs.Prelude.{Result, Ok, IsTrue, is_some}
use Rattle.std.proofs.lemmas.List.{get_or-set_same}
use Rattle.stm_model.specs.declared.cause.Cause.{Cause}
use Rattle.stm_model.specs.CellsState.{Book, CellsState}
use Rattle.stm_model.specs.Heap.{over, put}
use Rattle.stm_model.specs.Owes.{IsPossible}
use Rattle.stm_model.specs.Ran.{Ran, Running}
use Rattle.stm_model.specs.Telling.{Changed, Owing}
use Rattle.stm_model.proofs.CellsLemmas.{IsPossible-before}
use Rattle.stm_model.proofs.HeapLemmas.{length-over, over-put}
use Rattle.stm_model.proofs.RanLemmas.{Ran-wrote}
use Rattle.stm_model.proofs.TellingLemmas.{Led, Moments, Read, Wrote, owing_wrote, wrote_nothing}
use Rattle.ref_views.specs.Typed.{Holds, HoldsWordOf, Puts, Replaces}
use Rattle.ref_views.specs.Using.{Uses}
use Rattle.ref_views.specs.Operating.{MayWrite, Operated}

-- a body that only reads and writes, by what it means on each possible heap
pub Ran-so : {T : Type 0} (lawful : List ℕ → Type 0) (may : List ℕ → List ℕ → Type 0)
    (means : List ℕ → Book → Result T Cause → Book → Type 0) (leaves : List ℕ → Book → Type 0) (step : List ℕ → List ℕ → Type 0) (out : T) (s t : CellsState)
    → ((heap : List ℕ) → IsPossible lawful s.size t.reads heap → means heap s.now (Ok out) t.now)
    → ((heap : List ℕ) → IsPossible lawful s.size t.reads heap → leaves heap s.now)
    → Owing lawful may t → Changed lawful step s t → Ran {T = T} lawful may means leaves (Ok out) s t
Ran-so {T} lawful may means leaves step out s t so left owing changed =
    let ran : Ran {T = T} lawful may (λ heap before answer after. Unit {0}) (λ heap book. Unit {0}) (Ok out) s t =
    Ran-wrote lawful may (λ heap before answer after. Unit {0}) (λ heap book. Unit {0}) step out s t (λ heap writes is. tt) (λ heap. tt) owing changed in
    record {
      size = ran.size;
      reads = ran.reads;
      saved = ran.saved;
      levels = ran.levels;
      grows = ran.grows;
      whole = λ none decided heap possible. so heap possible;
      left = left;
      owes = ran.owes;
      causes = ran.causes;
      again = ran.again;
    }

-- words are of one value where they are the same
pub same_value : {T : Type 0} (value_of : ℕ → Option T) (one two : ℕ) (v w : T) → value_of one ≡ Some v → value_of two ≡ Some w → one ≡ two → v ≡ w
same_value value_of one two v w first second same = cc

-- and else of two
pub other_value : {T : Type 0} (word_of : T → ℕ) (one two : ℕ) (v w : T) → one ≡ word_of v → two ≡ word_of w → one ≢ two → v ≢ w
other_value word_of one two v w first second apart same = apart (first ∙ (ap word_of same ∙ sym second))

-- the value of a cell that holds a word of the type
there_is : {T : Type 0} (value_of : ℕ → Option T) (address : ℕ) (heap : List ℕ) (told : Option T) → value_of (get_or heap address 0) ≡ told → IsTrue (is_some told)
    → (former : T) × Holds value_of address former heap
there_is value_of address heap None is some = cc
there_is value_of address heap (Some former) is some = (former, is)

module _ {S L T Out : Type 0} (m : Moments S L) (word_of : T → ℕ) (value_of : ℕ → Option T) (may : L → List ℕ → List ℕ → Type 0)
    (address : ℕ) (operation : T → Out → Option T → Type 0) (means : List ℕ → Book → Result Out Cause → Book → Type 0) (leaves : List ℕ → Book → Type 0) (c d : S) (out : Out) where
  -- it read the cell and wrote nothing
  pub ran_read : (former : T)
      → ((heap : List ℕ) → Operated word_of value_of address operation heap (m.state c).now out (m.state d).now → means heap (m.state c).now (Ok out) (m.state d).now)
      → ((heap : List ℕ) → IsPossible (m.lawful (m.law c)) (m.state c).size (m.state d).reads heap → leaves heap (m.state c).now)
      → operation former out None
      → Owing (m.lawful (m.law c)) (may (m.law c)) (m.state d)
      → Read m c d (Holds value_of address former)
      → Running m.lawful may m.law m.follows m.state c d means leaves (Ok out)
  ran_read former so left does owing p = record {
    same_law = p.same_law;
    goes = p.goes;
    states = Ran-so (m.lawful (m.law c)) (may (m.law c)) means leaves _ out (m.state c) (m.state d)
        (λ heap possible. so heap (record {
          former = former;
          written = None;
          held = p.states.each heap possible;
          does = does;
          book = ap (λ (x : CellsState). x.now) p.states.only_reads;
        }))
        left owing (wrote_nothing m c d (Holds value_of address former) p).states;
  }

  -- the word that was written is that of the value
  word_is : (heap : List ℕ) (value : T) (word : ℕ) → address < length heap → (m.state d).now.writes ≡ put (m.state c).now.writes address word
      → Puts word_of value_of address value (over heap (m.state c).now.writes) (over heap (m.state d).now.writes) → word ≡ word_of value
  word_is heap value word within wrote puts =
      let before : List ℕ = over heap (m.state c).now.writes in
      let inside : address < length before = subst (λ n. address < n) (sym (length-over heap (m.state c).now.writes)) within in
      let one : over heap (m.state d).now.writes ≡ set before address word = ap (over heap) wrote ∙ over-put heap (m.state c).now.writes address word in
      sym (get_or-set_same before address word 0 inside) ∙ (ap (λ h. get_or h address 0) (sym one ∙ puts.heap) ∙ get_or-set_same before address (word_of value) 0 inside)

  -- it put a value into the cell
  pub ran_wrote : (reads : Bool) (value : T) (step : List ℕ → List ℕ → Type 0)
      → address < (m.state c).size
      → ((heap : List ℕ) → IsPossible (m.lawful (m.law c)) (m.state c).size (m.state d).reads heap
      → step (over heap (m.state c).now.writes) (over heap (m.state d).now.writes)
      → (former : T) × Holds value_of address former (over heap (m.state c).now.writes) × operation former out (Some value)
      × Puts word_of value_of address value (over heap (m.state c).now.writes) (over heap (m.state d).now.writes))
      → ((heap : List ℕ) → Operated word_of value_of address operation heap (m.state c).now out (m.state d).now → means heap (m.state c).now (Ok out) (m.state d).now)
      → ((heap : List ℕ) → IsPossible (m.lawful (m.law c)) (m.state c).size (m.state d).reads heap → leaves heap (m.state c).now)
      → Owing (m.lawful (m.law c)) (may (m.law c)) (m.state d)
      → Led m c d (Uses address (record { reads = reads; writes = true }))
      → Wrote m c d step
      → Running m.lawful may m.law m.follows m.state c d means leaves (Ok out)
  ran_wrote reads value step within does so left owing uses p = record {
    same_law = p.same_law;
    goes = p.goes;
    states = Ran-so (m.lawful (m.law c)) (may (m.law c)) means leaves step out (m.state c) (m.state d)
        (λ heap possible.
        let told = does heap possible (p.states.each heap possible) in
        let wrote = uses.states.wrote in
        let word = word_is heap value wrote.0 (subst (λ n. address < n) (sym possible.cells) within) wrote.1 told.3 in
        so heap (record {
          former = told.0;
          written = Some value;
          held = told.1;
          does = told.2;
          book = ap (λ (x : CellsState). x.now) p.states.only_writes ∙ ap (λ ws. record (m.state c).now { writes = ws }) (wrote.1 ∙ ap (put (m.state c).now.writes address) word);
        }))
        left owing p.states;
  }

module _ {S L T Out : Type 0} (m : Moments S L) (may : L → List ℕ → List ℕ → Type 0)
    (trans : (l : L) (first second third : List ℕ) → m.lawful l first → m.lawful l second → m.lawful l third → may l first second → may l second third → may l first third)
    (word_of : T → ℕ) (value_of : ℕ → Option T) (address : ℕ) (operation : T → Out → Option T → Type 0) (c d : S) (out : Out) where
  -- each write that the operation may make leaves what was owed
  pub owing_put : (value : T) (step : List ℕ → List ℕ → Type 0)
      → ((heap : List ℕ) → IsPossible (m.lawful (m.law c)) (m.state c).size (m.state d).reads heap
      → step (over heap (m.state c).now.writes) (over heap (m.state d).now.writes)
      → (former : T) × Holds value_of address former (over heap (m.state c).now.writes) × operation former out (Some value)
      × Puts word_of value_of address value (over heap (m.state c).now.writes) (over heap (m.state d).now.writes))
      → MayWrite word_of value_of (m.lawful (m.law c)) (may (m.law c)) address operation
      → Wrote m c d step
      → Owing (m.lawful (m.law c)) (may (m.law c)) (m.state c) → Owing (m.lawful (m.law c)) (may (m.law c)) (m.state d)
  owing_put value step does allowed p owing =
      let told : Wrote m c d (λ before after. (former : T) × operation former out (Some value) × Replaces word_of value_of address former value before after) =
      record {
        same_law = p.same_law;
        goes = p.goes;
        states = record {
          only_writes = p.states.only_writes;
          reads = p.states.reads;
          each = λ heap possible. let t = does heap possible (p.states.each heap possible) in (t.0, t.2, (t.1, t.3));
        };
      } in
      subst (λ l. Owing (m.lawful l) (may l) (m.state d)) p.same_law
      (owing_wrote m may trans c d _ (λ before after lawful t. allowed t.0 out value t.1 before after lawful t.2) told owing)

  -- it put a value into the cell, as it might
  pub ran_put : (reads : Bool) (value : T) (step : List ℕ → List ℕ → Type 0)
      (means : List ℕ → Book → Result Out Cause → Book → Type 0) (leaves : List ℕ → Book → Type 0)
      → address < (m.state c).size
      → ((heap : List ℕ) → IsPossible (m.lawful (m.law c)) (m.state c).size (m.state d).reads heap
      → step (over heap (m.state c).now.writes) (over heap (m.state d).now.writes)
      → (former : T) × Holds value_of address former (over heap (m.state c).now.writes) × operation former out (Some value)
      × Puts word_of value_of address value (over heap (m.state c).now.writes) (over heap (m.state d).now.writes))
      → ((heap : List ℕ) → Operated word_of value_of address operation heap (m.state c).now out (m.state d).now → means heap (m.state c).now (Ok out) (m.state d).now)
      → ((heap : List ℕ) → IsPossible (m.lawful (m.law c)) (m.state c).size (m.state d).reads heap → leaves heap (m.state c).now)
      → MayWrite word_of value_of (m.lawful (m.law c)) (may (m.law c)) address operation
      → Owing (m.lawful (m.law c)) (may (m.law c)) (m.state c)
      → Led m c d (Uses address (record { reads = reads; writes = true }))
      → Wrote m c d step
      → Running m.lawful may m.law m.follows m.state c d means leaves (Ok out)
  ran_put reads value step means leaves within does so left allowed owing uses p =
      ran_wrote m word_of value_of may address operation means leaves c d out reads value step within does so left (owing_put value step does allowed p owing) uses p

-- whatever is put there, it held some value before
pub held_some : {T : Type 0} (value_of : ℕ → Option T) (address : ℕ) (s t : CellsState) (lawful : List ℕ → Type 0) (step : List ℕ → List ℕ → Type 0) (heap : List ℕ)
    → s.cause ≡ None → HoldsWordOf value_of lawful address s
    → Changed lawful step s t → IsPossible lawful s.size t.reads heap → (former : T) × Holds value_of address former (over heap s.now.writes)
held_some value_of address s t lawful step heap going holds changed possible =
    there_is value_of address (over heap s.now.writes) _ refl (holds.holds going heap (IsPossible-before lawful s.size s.reads t.reads heap changed.reads possible))
