-- What the loads of a read, of an extension and of a commit show.
use Rattle.std.proofs.Common.{◌≡◌, ◌≢◌, ℕ, nat_eq, ◌<◌, ◌≤◌, ◌⊎◌, ◌&&◌, not, true, false, Bool, List, [], ◌∷◌, ◌++◌, length, get_or, refl, sym, ◌∙◌, arith, inl, inr, append_assoc}
use Rattle.std.specs.List.{All}
use Rattle.std.proofs.lemmas.Bool.{cases_eq, cases_lt}
use Rattle.std.proofs.lemmas.Bool.Decides.{nat_tests}
use Rattle.std.proofs.lemmas.List.{append-nil}
use Rattle.std.proofs.lemmas.List.Elements.{All-nil, All-push}
use Rattle.meta_word.specs.Meta.{changing_by_another}
use Rattle.stm_model.specs.declared.note.Note.{Note}
use Rattle.stm_model.specs.Attempt.{Attempt, stamp_of}
use Rattle.stm_model.specs.History.{Entry, IsCurrent, last}
use Rattle.stm_model.specs.Safe.{HoldsNewest, Safe, WasFetched, WasSampled, stamp_on, value_then}
use Rattle.stm_model.specs.World.{Terms, World, attempt_of, cells_in}
use Rattle.stm_model.proofs.HistoryLemmas.{IsCurrent-moved, last_below, same_since_last}
use Rattle.opacity.proofs.Touch.{free_stamp}

-- the last writer at a later place is no earlier
last_rises : (opening : List ℕ) (history : List Entry) (m n cell : ℕ) → m ≤ n → last history m cell ≤ last history n cell
last_rises opening history m n cell low = elim (cases_lt (last history n cell) m) [
  | inl less ↦ omega (arith, (same_since_last opening history n m cell low (omega arith)).0)
  | inr more ↦ omega (arith, more, last_below history m cell)
]

module _ (w : World) (t : Attempt) (clock : ℕ) where
  pub sampled_start : t.prefix ≤ clock → clock ≤ length w.history → WasSampled w t clock t.notes
  sampled_start low high = record { low = low; high = high; checked = []; notes = refl; each = All-nil (λ note. note.version ≡ last w.history clock note.addr.0) }

  pub sampled_more : (note : Note) (behind : List Note) → WasSampled w t clock (note ∷ behind) → note.version ≡ last w.history clock note.addr.0 → WasSampled w t clock behind
  sampled_more note behind sampled is = record {
    low = sampled.low;
    high = sampled.high;
    checked = sampled.checked ++ note ∷ [];
    notes = sampled.notes ∙ sym (append_assoc sampled.checked (note ∷ []) behind);
    each = All-push (λ each. each.version ≡ last w.history clock each.addr.0) sampled.checked note sampled.each is;
  }

  -- At the end of the notes all of them are current there.
  pub sampled_all : (opening : List ℕ) → WasSampled w t clock [] → All (IsCurrent opening w.history t.prefix) t.notes → All (IsCurrent opening w.history clock) t.notes
  sampled_all opening sampled current =
      let same : t.notes ≡ sampled.checked = sampled.notes ∙ append-nil sampled.checked in
      let each : All (λ note. note.version ≡ last w.history clock note.addr.0) t.notes = rw same sampled.each in
      λ k d within. IsCurrent-moved opening w.history t.prefix clock (get_or t.notes k d) (current k d within) (each k d within)

module _ (lawful : List ℕ → Type 0) (may : List ℕ → List ℕ → Type 0) (terms : Terms) (w : World) (safe : Safe lawful may terms w) where
  another : (changing : Bool) (owner own : ℕ) → changing ≡ true → owner ≢ 0 → owner ≢ own → (changing && (not (nat_eq owner 0) && not (nat_eq owner own))) ≡ true
  another changing owner own is some other = grind (arith, nat_tests)

  -- a word that isn't changing by another is no decided writer's, where the caller is none
  pub not_written : (p cell : ℕ) → cell < cells_in terms → stamp_of (attempt_of w p) ≡ 0 → changing_by_another p (w.meta cell) ≡ false → stamp_on w cell ≡ 0
  not_written p cell within undecided quiet = elim (cases_eq (stamp_on w cell) 0) [
    | inl none ↦ none
    | inr some ↦ absurd (never (omega arith) (cases_eq (w.meta cell).owner 0) (cases_eq (w.meta cell).owner p))
  ]
    where
      never : 0 < stamp_on w cell → ((w.meta cell).owner ≡ 0) ⊎ ((w.meta cell).owner ≢ 0) → ((w.meta cell).owner ≡ p) ⊎ ((w.meta cell).owner ≢ p) → ⊥
      never some (inl nobody) own = let none : stamp_on w cell ≡ 0 = free_stamp lawful may terms w safe cell nobody in omega arith
      never some (inr other) (inl own) = let none : stamp_on w cell ≡ 0 = rw own undecided in omega arith
      never some (inr other) (inr else) =
          let loud : changing_by_another p (w.meta cell) ≡ true = another (w.meta cell).changing (w.meta cell).owner p ((safe.cells cell within).written some).changing other else in
          let clash : true ≡ false = sym loud ∙ quiet in
          cc

  -- a value that is loaded
  pub fetched_now : (cell version : ℕ) → cell < cells_in terms → version ≤ (w.meta cell).version → WasFetched terms w cell version (w.value cell)
  fetched_now cell version within behind = elim (cases_eq (stamp_on w cell) 0) [
    | inl none ↦ here ((safe.cells cell within).settled none)
    | inr some ↦ inr (inr (omega arith))
  ]
    where
      here : HoldsNewest terms w cell → WasFetched terms w cell version (w.value cell)
      here settled = elim (cases_lt version (w.meta cell).version) [
        | inl less ↦ inr (inl less)
        | inr more ↦
            let low : version ≤ length w.history = omega (arith, behind, settled.version, last_below w.history (length w.history) cell) in
            inl (settled.value ∙ sym (same_since_last terms.opening w.history (length w.history) version cell low (omega (arith, settled.version))).1)
      ]

  -- a note that is added: the cell still has the version at which its value was loaded
  pub noted_now : (cell version value prefix : ℕ) (note : Note) → cell < cells_in terms → stamp_on w cell ≡ 0 → (w.meta cell).version ≡ version → version ≤ prefix → prefix ≤ length w.history
      → WasFetched terms w cell version value → note.addr.0 ≡ cell → note.version ≡ version → note.value ≡ value → IsCurrent terms.opening w.history prefix note
  noted_now cell version value prefix note within none is low high fetched addr noted stored = go ((safe.cells cell within).settled none)
    where
      loaded : WasFetched terms w cell version value → value ≡ value_then terms w version cell
      loaded (inl same) = same
      loaded (inr (inl less)) = absurd (omega arith)
      loaded (inr (inr some)) = absurd (omega arith)

      go : HoldsNewest terms w cell → IsCurrent terms.opening w.history prefix note
      go settled =
          let since = same_since_last terms.opening w.history (length w.history) prefix cell high (omega (arith, settled.version)) in
          let early = same_since_last terms.opening w.history (length w.history) version cell (omega arith) (omega (arith, settled.version)) in
          record {
            value = rw addr (since.1 ∙ sym early.1 ∙ sym (loaded fetched) ∙ sym stored);
            version = rw addr (noted ∙ sym is ∙ settled.version ∙ sym since.0);
          }

  -- a note that is found as it was, at a clock that was loaded before
  pub still_current : (prefix clock : ℕ) (note : Note) → note.addr.0 < cells_in terms → stamp_on w note.addr.0 ≡ 0 → (w.meta note.addr.0).version ≡ note.version → IsCurrent terms.opening w.history prefix note
      → prefix ≤ clock → clock ≤ length w.history → note.version ≡ last w.history clock note.addr.0
  still_current prefix clock note within none is current low high =
      let settled : HoldsNewest terms w note.addr.0 = (safe.cells note.addr.0 within).settled none in
      omega (
        arith,
        settled.version,
        is,
        current.version,
        last_rises terms.opening w.history prefix clock note.addr.0 low,
        last_rises terms.opening w.history clock (length w.history) note.addr.0 high,
      )
