-- What calls on one cell leave of all else.
use Rattle.std.proofs.Common.{◌≡◌, ℕ, Bool, true, false, nat_eq, ◌||◌, List, [], ◌∷◌, ◌++◌, None, Some, refl, sym, ap, ◌∙◌, inl, inr, arith}
use Rattle.std.specs.Prelude.{IsTrue, MatchBool, ◌⊎◌}
use Rattle.std.proofs.lemmas.Bool.Decides.{eqb_tells, nat_tests}
use Rattle.std.proofs.lemmas.List.Quantifiers.{Any-push}
use Rattle.stm_model.specs.declared.note.Note.{Note}
use Rattle.stm_model.specs.CellsState.{CellsState, written}
use Rattle.stm_model.specs.Heap.{put, writes_to}
use Rattle.stm_model.specs.Refusing.{IsAway}
use Rattle.stm_model.specs.Telling.{Does, Got, IsAtHand, IsNewNote}
use Rattle.stm_model.proofs.TellingLemmas.{Led, Moments, leads_map, leads_then}
use Rattle.ref_views.specs.Using.{Use, Uses}

abbrev pub how : Bool → Bool → Use
how reads writes = record { reads = reads; writes = writes }

-- ---- between states

noted_own : (address word : ℕ) (before : CellsState) (notes : List Note)
    → (IsAtHand address before × (notes ≡ before.reads)) ⊎ ((note : Note) × IsNewNote address word before note × (notes ≡ before.reads ++ note ∷ []))
    → (notes ≡ before.reads) ⊎ (IsTrue true × IsAway address before × (note : Note) × (note.addr.0 ≡ address) × (notes ≡ before.reads ++ note ∷ []))
noted_own address word before notes (inl same) = inl same.1
noted_own address word before notes (inr new) = inr (refl, new.1.away, new.0, new.1.cell, new.2)

at_hand_noted : (address word : ℕ) (s t : CellsState) → t.now.writes ≡ s.now.writes
    → (IsAtHand address s × (t.reads ≡ s.reads)) ⊎ ((note : Note) × IsNewNote address word s note × (t.reads ≡ s.reads ++ note ∷ [])) → IsAtHand address t
at_hand_noted address word s t writes (inl same) = rw (writes, same.1) same.0
at_hand_noted address word s t writes (inr new) = inr (rw new.2 (Any-push (λ note. note.addr.0 ≡ address) s.reads new.0 new.1.cell))

is_same : (address : ℕ) (rest : Bool) → (nat_eq address address || rest) ≡ true
is_same address rest = grind (arith, nat_tests)

writes_to-put : (writes : List (ℕ × ℕ)) (address value : ℕ) → writes_to (put writes address value) address ≡ true
writes_to-put [] address value = is_same address false
writes_to-put (write ∷ writes) address value = elim (eqb_tells address write.0) [
  | inl same ↦ rw same.0 (is_same address (writes_to writes address))
  | inr other ↦ rw other.0 (rw other.0 (writes_to-put writes address value))
]

pub uses_got : (lawful : List ℕ → Type 0) (address word : ℕ) (s t : CellsState) → Got lawful address word s t → Uses address (how true false) s t
uses_got lawful address word s t got = record {
  only = rw got.only_reads refl;
  notes = noted_own address word s t.reads got.noted;
  wrote = ap (λ (x : CellsState). x.now.writes) got.only_reads;
  at_hand = λ none. at_hand_noted address word s t (ap (λ (x : CellsState). x.now.writes) got.only_reads) got.noted;
  again = λ earlier is. let never : None ≡ Some earlier = sym got.going ∙ is in cc;
}

pub uses_written : (address word : ℕ) (s t : CellsState) → Does (written address word) s t → Uses address (how false true) s t
uses_written address word s t does = record {
  only = rw does.is refl;
  notes = inl (ap (λ (x : CellsState). x.reads) does.is);
  wrote = (word, ap (λ (x : CellsState). x.now.writes) does.is);
  at_hand = λ none. inl (ap (λ (x : CellsState). writes_to x.now.writes address) does.is ∙ writes_to-put s.now.writes address word);
  again = λ earlier is. let never : None ≡ Some earlier = sym does.going ∙ is in cc;
}

-- ---- a read, and then a write or none

notes_then : (address : ℕ) (s t u : CellsState)
    → (t.reads ≡ s.reads) ⊎ (IsTrue true × IsAway address s × (note : Note) × (note.addr.0 ≡ address) × (t.reads ≡ s.reads ++ note ∷ []))
    → (u.reads ≡ t.reads) ⊎ (IsTrue false × IsAway address t × (note : Note) × (note.addr.0 ≡ address) × (u.reads ≡ t.reads ++ note ∷ []))
    → (u.reads ≡ s.reads) ⊎ (IsTrue true × IsAway address s × (note : Note) × (note.addr.0 ≡ address) × (u.reads ≡ s.reads ++ note ∷ []))
notes_then address s t u (inl same) (inl still) = inl (still ∙ same)
notes_then address s t u (inr new) (inl still) = inr (new.0, new.1, new.2, new.3, still ∙ new.4)
notes_then address s t u one (inr never) = cc (never.0)

wrote_later : (address : ℕ) (writes : Bool) (s t u : CellsState) → t.now.writes ≡ s.now.writes
    → MatchBool writes ((word : ℕ) × (u.now.writes ≡ put t.now.writes address word)) (u.now.writes ≡ t.now.writes)
    → MatchBool writes ((word : ℕ) × (u.now.writes ≡ put s.now.writes address word)) (u.now.writes ≡ s.now.writes)
wrote_later address true s t u same wrote = (wrote.0, wrote.1 ∙ ap (λ ws. put ws address wrote.0) same)
wrote_later address false s t u same wrote = wrote ∙ same

pub uses_then : (address : ℕ) (writes : Bool) (s t u : CellsState) → Uses address (how true false) s t → Uses address (how false writes) t u → Uses address (how true writes) s u
uses_then address writes s t u one two = record {
  only = two.only ∙ ap (λ (x : CellsState). record x { reads = u.reads; now = record x.now { writes = u.now.writes }; cause = u.cause }) one.only;
  notes = notes_then address s t u one.notes two.notes;
  wrote = wrote_later address writes s t u one.wrote two.wrote;
  at_hand = two.at_hand;
  again = λ earlier is.
      let same : t ≡ s = one.again earlier is in
      two.again earlier (ap (λ (x : CellsState). x.cause) same ∙ is) ∙ same;
}

-- ---- between moments of cells

module _ {S L : Type 0} (m : Moments S L) where
  pub own_got : (c d : S) (address word : ℕ) → Led m c d (Got (m.lawful (m.law c)) address word) → Led m c d (Uses address (how true false))
  own_got c d address word p = leads_map m c d _ _ (uses_got (m.lawful (m.law c)) address word) p

  pub own_written : (c d : S) (address word : ℕ) → Led m c d (Does (written address word)) → Led m c d (Uses address (how false true))
  own_written c d address word p = leads_map m c d _ _ (uses_written address word) p

  pub own_then : (c d e : S) (address : ℕ) (writes : Bool) → Led m c d (Uses address (how true false)) → Led m d e (Uses address (how false writes)) → Led m c e (Uses address (how true writes))
  own_then c d e address writes p q = leads_then m c d e _ _ _ (uses_then address writes) p q
