-- Chains through each change of an index.
use Rattle.std.proofs.Common.{◌≡◌, ◌≢◌, ℕ, ◌+◌, ◌%◌, ◌<◌, List, [], ◌∷◌, ◌++◌, length, get_or, set, refl, ap, sym, ◌∙◌, inl, inr, arith, length-append}
use Rattle.std.proofs.Math.Nat.{mod-lt}
use Rattle.std.proofs.lemmas.List.{get_or-set_same, get_or-set_other, get_or_append_left, get_or_at, get_or_past}
use Rattle.std.proofs.lemmas.Bool.{cases_eq, cases_lt}
use Rattle.cell_index.specs.Chains.{IsChained, IsNewest, chain_at}

-- what stands among the first entries alone counts
IsNewest_same : (entries other : List (ℕ × ℕ)) (count chain link : ℕ)
    → ((place : ℕ) → place < count → chain_at other place ≡ chain_at entries place)
    → IsNewest entries count chain link → IsNewest other count chain link
IsNewest_same entries other count chain link same newest = record {
  within = newest.within;
  here = λ place is. same place (let within = newest.within in omega arith) ∙ newest.here place is;
  last = λ place from to is. newest.last place from to (sym (same place to) ∙ is);
}

chain_kept : (entries : List (ℕ × ℕ)) (entry : ℕ × ℕ) (place : ℕ) → place < length entries → chain_at (entries ++ entry ∷ []) place ≡ chain_at entries place
chain_kept entries entry place within = ap (λ (e : ℕ × ℕ). e.0 % 256) (get_or_append_left entries (entry ∷ []) (0, 0) place within)

chain_end : (entries : List (ℕ × ℕ)) (entry : ℕ × ℕ) → chain_at (entries ++ entry ∷ []) (length entries) ≡ entry.0 % 256
chain_end entries entry = ap (λ (e : ℕ × ℕ). e.0 % 256) (get_or_at entries entry [] (0, 0) (length entries) refl)

-- ---- an entry more

-- the new entry is the newest of its chain
newest_new : (entries : List (ℕ × ℕ)) (entry : ℕ × ℕ) → IsNewest (entries ++ entry ∷ []) (length entries + 1) (entry.0 % 256) (length entries + 1)
newest_new entries entry = record {
  within = omega arith;
  here = λ place is. let at : place ≡ length entries = omega arith in rw at (chain_end entries entry);
  last = λ place from to. absurd (omega arith);
}

-- and no other chain's
newest_other : (entries : List (ℕ × ℕ)) (entry : ℕ × ℕ) (chain link : ℕ) → chain ≢ entry.0 % 256
    → IsNewest entries (length entries) chain link → IsNewest (entries ++ entry ∷ []) (length entries + 1) chain link
newest_other entries entry chain link other newest =
    let before = IsNewest_same entries (entries ++ entry ∷ []) (length entries) chain link (chain_kept entries entry) newest in
    record {
      within = let within = newest.within in omega arith;
      here = before.here;
      last = λ place from to. elim (cases_lt place (length entries)) [
        | inl less ↦ before.last place from less
        | inr past ↦ (let at : place ≡ length entries = omega arith in rw at (λ is. other (sym is ∙ chain_end entries entry)))
      ];
    }

pub IsChained_push : (heads : List ℕ) (entries : List (ℕ × ℕ)) (address older : ℕ) → IsChained heads entries → address % 256 < length heads → older ≡ get_or heads (address % 256) 0
    → IsChained (set heads (address % 256) (length entries + 1)) (entries ++ (address, older) ∷ [])
IsChained_push heads entries address older chained within is =
    let entry : ℕ × ℕ = (address, older) in
    let chain_below : address % 256 < 256 = mod-lt address (omega arith) in
    let count : length (entries ++ entry ∷ []) ≡ length entries + 1 = length-append entries (entry ∷ []) in
    record {
      starts = λ chain below. rw count (elim (cases_eq chain (address % 256)) [
        | inl same ↦ rw (same, get_or-set_same heads (address % 256) (length entries + 1) 0 within) (newest_new entries entry)
        | inr other ↦ rw (get_or-set_other heads (address % 256) chain (length entries + 1) 0 other) (newest_other entries entry chain _ other (chained.starts chain below))
      ]);
      links = λ place to. elim (cases_lt place (length entries)) [
        | inl less ↦ (rw (get_or_append_left entries (entry ∷ []) (0, 0) place less)
            (IsNewest_same entries (entries ++ entry ∷ []) place _ _ (λ p less'. chain_kept entries entry p (omega arith)) (chained.links place less)))
        | inr past ↦ (let at : place ≡ length entries = omega arith in
            let start : IsNewest entries (length entries) (address % 256) older = rw (← is) at (chained.starts (address % 256) chain_below) in
            rw (at, get_or_at entries entry [] (0, 0) (length entries) refl)
            (IsNewest_same entries (entries ++ entry ∷ []) (length entries) _ _ (chain_kept entries entry) start))
      ];
    }

-- ---- an entry less

-- the newest entry's chain has it at its head
head_of_last : (heads : List ℕ) (rest : List (ℕ × ℕ)) (entry : ℕ × ℕ) → IsChained heads (rest ++ entry ∷ []) → entry.0 % 256 < length heads
head_of_last heads rest entry chained =
    let count : length (rest ++ entry ∷ []) ≡ length rest + 1 = length-append rest (entry ∷ []) in
    elim (cases_lt (entry.0 % 256) (length heads)) [
      | inl less ↦ less
      | inr past ↦ (let none : get_or heads (entry.0 % 256) 0 ≡ 0 = get_or_past heads (entry.0 % 256) 0 past in
          absurd ((chained.starts (entry.0 % 256) (mod-lt entry.0 (omega arith))).last (length rest) (rw none (omega arith)) (omega arith) (chain_end rest entry)))
    ]

pub last_has_head : (heads : List ℕ) (entries rest : List (ℕ × ℕ)) (address older : ℕ) → entries ≡ rest ++ (address, older) ∷ [] → IsChained heads entries → address % 256 < length heads
last_has_head heads entries rest address older popped chained = head_of_last heads rest (address, older) (rw popped at chained)

pop_starts : (heads : List ℕ) (rest : List (ℕ × ℕ)) (entry : ℕ × ℕ) (chain : ℕ) → chain < 256 → IsChained heads (rest ++ entry ∷ [])
    → IsNewest rest (length rest) chain (get_or (set heads (entry.0 % 256) entry.1) chain 0)
pop_starts heads rest entry chain below chained =
    let count : length (rest ++ entry ∷ []) ≡ length rest + 1 = length-append rest (entry ∷ []) in
    elim (cases_eq chain (entry.0 % 256)) [
      | inl same ↦ (let link = chained.links (length rest) (omega arith) in
          rw (same, get_or-set_same heads (entry.0 % 256) entry.1 0 (head_of_last heads rest entry chained))
          (IsNewest_same (rest ++ entry ∷ []) rest (length rest) _ _ (λ place less. sym (chain_kept rest entry place less))
          (rw (chain_end rest entry, get_or_at rest entry [] (0, 0) (length rest) refl) at link)))
      | inr other ↦ (let start : IsNewest (rest ++ entry ∷ []) (length rest + 1) chain (get_or heads chain 0) = rw count at (chained.starts chain below) in
          rw (get_or-set_other heads (entry.0 % 256) chain entry.1 0 other)
          (record {
            within = elim (cases_eq (get_or heads chain 0) (length rest + 1)) [
              | inl full ↦ absurd (other (sym (start.here (length rest) (sym full)) ∙ chain_end rest entry))
              | inr less ↦ (let within = start.within in omega arith)
            ];
            here = λ place is. (let within = start.within in
                elim (cases_lt place (length rest)) [
                  | inl less ↦ sym (chain_kept rest entry place less) ∙ start.here place is
                  | inr past ↦ absurd (other (sym (start.here place is) ∙ (let at : place ≡ length rest = omega arith in rw at (chain_end rest entry))))
                ]);
            last = λ place from to is. start.last place from (omega arith) (chain_kept rest entry place to ∙ is);
          }))
    ]

pub IsChained_pop : (heads : List ℕ) (entries rest : List (ℕ × ℕ)) (address older : ℕ) → entries ≡ rest ++ (address, older) ∷ [] → IsChained heads entries
    → IsChained (set heads (address % 256) older) rest
IsChained_pop heads entries rest address older popped chained =
    let entry : ℕ × ℕ = (address, older) in
    let before : IsChained heads (rest ++ entry ∷ []) = rw popped at chained in
    let count : length (rest ++ entry ∷ []) ≡ length rest + 1 = length-append rest (entry ∷ []) in
    record {
      starts = λ chain below. pop_starts heads rest entry chain below before;
      links = λ place to.
          (let link = before.links place (omega arith) in
          IsNewest_same (rest ++ entry ∷ []) rest place _ _ (λ p less. sym (chain_kept rest entry p (omega arith)))
          (rw (chain_kept rest entry place to, get_or_append_left rest (entry ∷ []) (0, 0) place to) at link));
    }

-- ---- the same chains

pub IsChained_same : (heads other : List ℕ) (entries : List (ℕ × ℕ)) → ((chain : ℕ) → chain < 256 → get_or other chain 0 ≡ get_or heads chain 0)
    → IsChained heads entries → IsChained other entries
IsChained_same heads other entries same chained = record {
  starts = λ chain below. rw (same chain below) (chained.starts chain below);
  links = chained.links;
}

pub IsChained_empty : (heads : List ℕ) (entries : List (ℕ × ℕ)) → heads ≡ [] → entries ≡ [] → IsChained heads entries
IsChained_empty heads entries none empty = rw (none, empty) (record {
  starts = λ chain below. record { within = omega arith; here = λ place is. absurd (omega arith); last = λ place from to. absurd (omega arith) };
  links = λ place to. absurd (omega arith);
})
