-- Where cells hold words of a type, and where they still do after calls.
use Rattle.std.proofs.Common.{◌≡◌, ◌≢◌, ℕ, ◌<◌, Bool, true, false, List, [], ◌∷◌, ◌++◌, length, get_or, set, Option, Some, None, refl, sym, ap, subst, ◌∙◌, inl, inr}
use Rattle.std.specs.Prelude.{IsTrue, MatchBool, is_some, ◌⊎◌}
use Rattle.std.proofs.Math.Logic.{∥∥₁_elim, ∥∥₁_map}
use Rattle.std.proofs.lemmas.Bool.Decides.{eqb_tells}
use Rattle.std.proofs.lemmas.List.{get_or-set_same, get_or-set_other}
use Rattle.stm_model.specs.declared.cause.Cause.{Cause}
use Rattle.stm_model.specs.declared.note.Note.{Note}
use Rattle.stm_model.specs.CellsState.{CellsState, written}
use Rattle.stm_model.specs.Heap.{over, put}
use Rattle.stm_model.specs.Owes.{IsPossible}
use Rattle.stm_model.specs.Refusing.{IsAway}
use Rattle.stm_model.specs.Telling.{Changed, Does, Extends, Got, Learned, Witness}
use Rattle.stm_model.proofs.CellsLemmas.{Extends-same, IsPossible-before, none_before}
use Rattle.stm_model.proofs.HeapLemmas.{length-over, over-put}
use Rattle.stm_model.proofs.TellingLemmas.{Led, Moments, Read, Wrote, changed_written, learned_got, wrote_nothing, wrote_then}
use Rattle.ref_views.specs.Typed.{Holds, HoldsWord, HoldsWordOf, KeepsAllWords, KeepsWords, MayHold, Puts, Replaces, is_word_of}
use Rattle.ref_views.specs.Using.{Use, Uses}

-- ---- states after calls

written_there : (address word : ℕ) (s t : CellsState) (heap : List ℕ) → address < length heap → Does (written address word) s t
    → get_or (over heap t.now.writes) address 0 ≡ word
written_there address word s t heap within does =
    ap (λ (x : CellsState). get_or (over heap x.now.writes) address 0) does.is ∙ (ap (λ h. get_or h address 0) (over-put heap s.now.writes address word)
    ∙ get_or-set_same (over heap s.now.writes) address word 0 (subst (λ n. address < n) (sym (length-over heap s.now.writes)) within))

notes_extend : (address : ℕ) (reads : Bool) (s t : CellsState)
    → (t.reads ≡ s.reads) ⊎ (IsTrue reads × IsAway address s × (note : Note) × (note.addr.0 ≡ address) × (t.reads ≡ s.reads ++ note ∷ []))
    → Extends s.reads t.reads
notes_extend address reads s t (inl same) = Extends-same s.reads t.reads same
notes_extend address reads s t (inr new) = (new.2 ∷ [], new.4)

cause_stays : (s t : CellsState) → ((earlier : Cause) → s.cause ≡ Some earlier → t ≡ s) → (earlier : Cause) → s.cause ≡ Some earlier → t.cause ≡ Some earlier
cause_stays s t again earlier is = ap (λ (x : CellsState). x.cause) (again earlier is) ∙ is

-- what another cell holds, the writes leave there
other_stays : (used address : ℕ) (writes : Bool) (s t : CellsState) (heap : List ℕ) → address ≢ used
    → MatchBool writes ((word : ℕ) × (t.now.writes ≡ put s.now.writes used word)) (t.now.writes ≡ s.now.writes)
    → get_or (over heap t.now.writes) address 0 ≡ get_or (over heap s.now.writes) address 0
other_stays used address true s t heap apart wrote =
    ap (λ ws. get_or (over heap ws) address 0) wrote.1 ∙ (ap (λ h. get_or h address 0) (over-put heap s.now.writes used wrote.0)
    ∙ get_or-set_other (over heap s.now.writes) used address wrote.0 0 apart)
other_stays used address false s t heap apart wrote = ap (λ ws. get_or (over heap ws) address 0) wrote

module _ (is_word : ℕ → Bool) (lawful : List ℕ → Type 0) where
  -- it stays where no possible heap comes in, and each holds such a word there as before
  pub holds_later : (address : ℕ) (s t : CellsState) → t.size ≡ s.size → Extends s.reads t.reads → (t.cause ≡ None → s.cause ≡ None)
      → ((heap : List ℕ) → address < length heap → IsTrue (is_word (get_or (over heap s.now.writes) address 0)) → IsTrue (is_word (get_or (over heap t.now.writes) address 0)))
      → HoldsWord is_word lawful address s → HoldsWord is_word lawful address t
  holds_later address s t size reads going stays h = record {
    within = subst (λ n. address < n) (sym size) h.within;
    holds = λ none heap possible.
        let here : IsPossible lawful s.size t.reads heap = subst (λ n. IsPossible lawful n t.reads heap) size possible in
        let within : address < length heap = subst (λ n. address < n) (sym here.cells) h.within in
        stays heap within (h.holds (going none) heap (IsPossible-before lawful s.size s.reads t.reads heap reads here));
  }

  some_put : (heap : List ℕ) (address place word : ℕ) → address < length heap → IsTrue (is_word word)
      → IsTrue (is_word (get_or heap address 0)) → IsTrue (is_word (get_or (set heap place word) address 0))
  some_put heap address place word within new old = elim (eqb_tells address place) [
    | inl same ↦ rw same.1 (subst (λ w. IsTrue (is_word w)) (sym (get_or-set_same heap place word 0 (subst (λ n. n < length heap) same.1 within))) new)
    | inr other ↦ subst (λ w. IsTrue (is_word w)) (sym (get_or-set_other heap place address word 0 other.1)) old
  ]

  -- such a word was written, to this cell or to another
  pub holds_written : (address place word : ℕ) (s t : CellsState) → IsTrue (is_word word) → Does (written place word) s t
      → HoldsWord is_word lawful address s → HoldsWord is_word lawful address t
  holds_written address place word s t some does =
      holds_later address s t (ap (λ (x : CellsState). x.size) does.is) (Extends-same s.reads t.reads (ap (λ (x : CellsState). x.reads) does.is)) (λ none. does.going)
      (λ heap within old. subst (λ h. IsTrue (is_word (get_or h address 0))) (sym (ap (λ (x : CellsState). over heap x.now.writes) does.is ∙ over-put heap s.now.writes place word))
      (some_put (over heap s.now.writes) address place word (subst (λ n. address < n) (sym (length-over heap s.now.writes)) within) some old))

  -- such a word was written to this cell, whatever it held
  pub holds_put : (address word : ℕ) (s t : CellsState) → address < s.size → IsTrue (is_word word) → Does (written address word) s t → HoldsWord is_word lawful address t
  holds_put address word s t within some does =
      let size : t.size ≡ s.size = ap (λ (x : CellsState). x.size) does.is in
      record {
        within = subst (λ n. address < n) (sym size) within;
        holds = λ none heap possible. subst (λ w. IsTrue (is_word w))
            (sym (written_there address word s t heap (subst (λ n. address < n) (sym (possible.cells ∙ size)) within) does)) some;
      }

  -- calls on this cell wrote none
  pub holds_unwritten : (used address : ℕ) (reads : Bool) (s t : CellsState) → Uses used (record { reads = reads; writes = false }) s t → HoldsWord is_word lawful address s → HoldsWord is_word lawful address t
  holds_unwritten used address reads s t uses h =
      holds_later address s t (ap (λ (x : CellsState). x.size) uses.only) (notes_extend used reads s t uses.notes) (none_before s.cause t.cause (cause_stays s t uses.again))
      (λ heap within some. subst (λ ws. IsTrue (is_word (get_or (over heap ws) address 0))) (sym uses.wrote) some) h

  -- calls on this cell wrote no other
  pub holds_other : (used address : ℕ) (how : Use) (s t : CellsState) → address ≢ used → Uses used how s t → HoldsWord is_word lawful address s → HoldsWord is_word lawful address t
  holds_other used address how s t apart uses h =
      holds_later address s t (ap (λ (x : CellsState). x.size) uses.only) (notes_extend used how.reads s t uses.notes) (none_before s.cause t.cause (cause_stays s t uses.again))
      (λ heap within some. subst (λ w. IsTrue (is_word w)) (sym (other_stays used address how.writes s t heap apart uses.wrote)) some) h

module _ {T : Type 0} (value_of : ℕ → Option T) (lawful : List ℕ → Type 0) where
  pub puts_written : (word_of : T → ℕ) (address word : ℕ) (value : T) (s t : CellsState) → address < s.size → word ≡ word_of value → value_of word ≡ Some value
      → Does (written address word) s t → Changed lawful (Puts word_of value_of address value) s t
  puts_written word_of address word value s t within is back does =
      let changed = changed_written lawful address word s t does in
      record {
        only_writes = changed.only_writes;
        reads = changed.reads;
        each = λ heap possible. record {
          heap = changed.each heap possible ∙ ap (set (over heap s.now.writes) address) is;
          holds = ap value_of (written_there address word s t heap (subst (λ n. address < n) (sym possible.cells) within) does) ∙ back;
        };
      }

  -- what a read of such a cell tells is a word of the type
  pub some_told : (address word : ℕ) (s t : CellsState) → HoldsWordOf value_of lawful address s → ∥ Witness lawful t.size t.reads ∥₁ → Got lawful address word s t
      → value_of word ≡ None → ⊥
  some_told address word s t h witness got none =
      let size : t.size ≡ s.size = ap (λ (x : CellsState). x.size) got.only_reads in
      ∥∥₁_elim witness (hlevel) (λ (w : Witness lawful t.size t.reads).
      let possible : IsPossible lawful s.size t.reads w.0 = subst (λ n. IsPossible lawful n t.reads w.0) size w.1 in
      let reads = (learned_got lawful address word s t got).reads in
      let some = h.holds got.going w.0 (IsPossible-before lawful s.size s.reads t.reads w.0 reads possible) in
      let told = got.told w.0 possible in
      no_some none (subst (λ v. IsTrue (is_word_of value_of v)) told some))
    where
      no_some : value_of word ≡ None → IsTrue (is_word_of value_of word) → ⊥
      no_some none some = let is : is_some {T = T} None ≡ true = ap is_some (sym none) ∙ some in cc

  -- what was read may have been there before
  pub may_hold : (address : ℕ) (value : T) (s t : CellsState) → ∥ Witness lawful t.size t.reads ∥₁ → Learned lawful (Holds value_of address value) s t → MayHold value_of lawful address value s
  may_hold address value s t witness learned =
      let size : t.size ≡ s.size = ap (λ (x : CellsState). x.size) learned.only_reads in
      ∥∥₁_map witness (λ (w : Witness lawful t.size t.reads).
      let possible : IsPossible lawful s.size t.reads w.0 = subst (λ n. IsPossible lawful n t.reads w.0) size w.1 in
      (w.0, IsPossible-before lawful s.size s.reads t.reads w.0 learned.reads possible, learned.each w.0 possible))

-- ---- between moments of cells

module _ {S L : Type 0} (m : Moments S L) (is_word : ℕ → Bool) where
  under_same_law : (address : ℕ) (c d : S) → m.law d ≡ m.law c → HoldsWord is_word (m.lawful (m.law c)) address (m.state d) → HoldsWord is_word (m.lawful (m.law d)) address (m.state d)
  under_same_law address c d same h = subst (λ l. HoldsWord is_word (m.lawful l) address (m.state d)) (sym same) h

  keep_written : (c d : S) (address place word : ℕ) → IsTrue (is_word word) → Led m c d (Does (written place word)) → HoldsWord is_word (m.lawful (m.law c)) address (m.state c)
      → HoldsWord is_word (m.lawful (m.law d)) address (m.state d)
  keep_written c d address place word some p h = under_same_law address c d p.same_law
      (holds_written is_word (m.lawful (m.law c)) address place word (m.state c) (m.state d) some p.states h)

  put_there : (c d : S) (address word : ℕ) → address < (m.state c).size → IsTrue (is_word word) → Led m c d (Does (written address word)) → HoldsWord is_word (m.lawful (m.law d)) address (m.state d)
  put_there c d address word within some p = under_same_law address c d p.same_law
      (holds_put is_word (m.lawful (m.law c)) address word (m.state c) (m.state d) within some p.states)

module _ {S L : Type 0} (m : Moments S L) where
  pub keeps_unchanged : (c d : S) → m.law d ≡ m.law c → (m.state d).size ≡ (m.state c).size → (m.state d).now.writes ≡ (m.state c).now.writes
      → Extends (m.state c).reads (m.state d).reads → ((m.state d).cause ≡ None → (m.state c).cause ≡ None) → KeepsAllWords m.lawful m.law m.state c d
  keeps_unchanged c d law size writes reads going is_word address h = under_same_law m is_word address c d law
      (holds_later is_word (m.lawful (m.law c)) address (m.state c) (m.state d) size reads going
      (λ heap within some. subst (λ ws. IsTrue (is_word (get_or (over heap ws) address 0))) (sym writes) some) h)

  pub keeps_read : (c d : S) (used : ℕ) (reads : Bool) → Led m c d (Uses used (record { reads = reads; writes = false })) → KeepsAllWords m.lawful m.law m.state c d
  keeps_read c d used reads p is_word address h = under_same_law m is_word address c d p.same_law
      (holds_unwritten is_word (m.lawful (m.law c)) used address reads (m.state c) (m.state d) p.states h)

module _ {S L T : Type 0} (m : Moments S L) (value_of : ℕ → Option T) where
  pub keeps_written : (c d : S) (used word : ℕ) (value : T) → value_of word ≡ Some value → Led m c d (Does (written used word)) → Led m c d (Uses used (record { reads = false; writes = true }))
      → KeepsWords value_of m.lawful m.law m.state used c d
  keeps_written c d used word value back p uses = record {
    alike = λ address h. keep_written m (is_word_of value_of) c d address used word (subst (λ o. IsTrue (is_some o)) (sym back) refl) p h;
    others = λ is_word address apart h. under_same_law m is_word address c d p.same_law
        (holds_other is_word (m.lawful (m.law c)) used address (record { reads = false; writes = true }) (m.state c) (m.state d) apart uses.states h);
  }

  pub keeps_all : (c d : S) (used : ℕ) → KeepsAllWords m.lawful m.law m.state c d → KeepsWords value_of m.lawful m.law m.state used c d
  keeps_all c d used kept = record { alike = kept (is_word_of value_of); others = λ is_word address apart. kept is_word address }

  pub keeps_then : (c d e : S) (used : ℕ) → KeepsAllWords m.lawful m.law m.state c d → KeepsWords value_of m.lawful m.law m.state used d e → KeepsWords value_of m.lawful m.law m.state used c e
  keeps_then c d e used kept keeps = record {
    alike = λ address h. keeps.alike address (kept (is_word_of value_of) address h);
    others = λ is_word address apart h. keeps.others is_word address apart (kept is_word address h);
  }

  -- the cell that was written
  pub holds_there : (c d : S) (address word : ℕ) (value : T) → address < (m.state c).size → value_of word ≡ Some value → Led m c d (Does (written address word))
      → HoldsWordOf value_of (m.lawful (m.law d)) address (m.state d)
  holds_there c d address word value within back p = put_there m (is_word_of value_of) c d address word within (subst (λ o. IsTrue (is_some o)) (sym back) refl) p

  pub wrote_puts : (word_of : T → ℕ) (c d : S) (address word : ℕ) (value : T) → address < (m.state c).size → word ≡ word_of value → value_of word ≡ Some value
      → Led m c d (Does (written address word)) → Wrote m c d (Puts word_of value_of address value)
  wrote_puts word_of c d address word value within is back p = record {
    same_law = p.same_law;
    goes = p.goes;
    states = puts_written value_of (m.lawful (m.law c)) word_of address word value (m.state c) (m.state d) within is back p.states;
  }

  -- a value was read, and then another one put
  pub wrote_replaces : (word_of : T → ℕ) (c d e : S) (address : ℕ) (former value : T) → Read m c d (Holds value_of address former) → Wrote m d e (Puts word_of value_of address value)
      → Wrote m c e (Replaces word_of value_of address former value)
  wrote_replaces word_of c d e address former value read wrote =
      wrote_then m c d e (λ before after. (after ≡ before) × Holds value_of address former before) (Puts word_of value_of address value) (Replaces word_of value_of address former value)
      (λ first second third same puts. (same.1, subst (λ heap. Puts word_of value_of address value heap third) same.0 puts))
      (wrote_nothing m c d (Holds value_of address former) read) wrote

  -- what was read may have been there before
  pub read_may_hold : (c d : S) (address : ℕ) (value : T) → ∥ Witness (m.lawful (m.law d)) (m.state d).size (m.state d).reads ∥₁ → Read m c d (Holds value_of address value)
      → MayHold value_of (m.lawful (m.law c)) address value (m.state c)
  read_may_hold c d address value witness p =
      may_hold value_of (m.lawful (m.law c)) address value (m.state c) (m.state d)
      (subst (λ l. ∥ Witness (m.lawful l) (m.state d).size (m.state d).reads ∥₁) p.same_law witness) p.states
