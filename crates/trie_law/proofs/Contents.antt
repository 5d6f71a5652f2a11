-- What a heap holds at its opening, and what a new token, a snapshot and a share make of it.
use Rattle.std.proofs.Common.{◌≡◌, ◌≢◌, ℕ, ◌+◌, ◌*◌, ◌<◌, ◌≤◌, zero, suc, List, [], length, replicate, take, get_or, set, refl, sym, ◌∙◌, arith, inl, inr, length-set}
use Rattle.std.proofs.lemmas.Bool.Decides.{eqb_tells}
use Rattle.std.proofs.lemmas.List.{get_or-replicate, get_or-set_other, get_or-set_same, length-replicate}
use Rattle.stm_model.specs.declared.sizes.Layout.{Layout}
use Rattle.stm_model.specs.Layouts.{cell_count, generation_at, root_at, slot_at, stripe_at}
use Rattle.ledger_model.specs.declared.job.Contents.{Contents}
use Rattle.trie_law.specs.Blocks.{drawn_count, sum_below, used_count}
use Rattle.trie_law.specs.Growing.{DrewToken}
use Rattle.trie_law.specs.Holding.{HasPairs, HoldsContents}
use Rattle.trie_law.specs.Law.{IsLawful, map_root, slot_root}
use Rattle.trie_law.specs.Opening.{IsOpening}
use Rattle.trie_law.specs.Tries.{Leaves}
use Rattle.trie_law.proofs.Bounds.{used_behind, used_token}
use Rattle.trie_law.proofs.Holdings.{pairs_stay, take_same}
use Rattle.trie_law.proofs.Lawful.{behind_set}
use Rattle.trie_law.proofs.Openings.{root_none}
use Rattle.trie_law.proofs.Tokens.{renewed_lawful, renewed_stands, share_stands, snapshot_stands, token_grown}

-- ---- the opening

-- a root of 0 has no pairs
none_held : (layout : Layout) (heap : List ℕ) (root : ℕ) → root ≡ 0 → HasPairs layout heap root []
none_held layout heap root none = record {
  tree = Leaves [];
  trie = root_none layout heap root none;
  ascend = tt;
  values = λ key. refl;
}

sum_of_none : (n : ℕ) (f : ℕ → ℕ) → ((i : ℕ) → i < n → f i ≡ 0) → sum_below n f ≡ 0
sum_of_none zero f none = refl
sum_of_none (suc n) f none = omega (arith, sum_of_none n f (λ i within. none i (omega (arith, within))), none n (omega arith))

pub opening_holds : (layout : Layout) (heap : List ℕ) → IsOpening layout heap
    → HoldsContents layout heap (record { refs = take layout.refs heap; maps = replicate layout.maps []; slots = replicate layout.snaps []; used = 0 })
opening_holds layout heap opening = record {
  refs = refl;
  map_count = length-replicate {A = List (ℕ × ℕ)} layout.maps [];
  maps = λ map within. rw (get_or-replicate {A = List (ℕ × ℕ)} layout.maps map [] [] within) (none_held layout heap (map_root layout heap map) (opening.zero (root_at layout map) (omega arith)));
  slot_count = length-replicate {A = List (ℕ × ℕ)} layout.snaps [];
  slots = λ snap within. rw (get_or-replicate {A = List (ℕ × ℕ)} layout.snaps snap [] [] within) (none_held layout heap (slot_root layout heap snap) (opening.zero (slot_at layout snap) (omega arith)));
  used = sym (sum_of_none layout.stripes (drawn_count layout heap) (λ stripe within. opening.zero (stripe_at layout stripe) (omega arith)));
}

-- ---- a new token, and a snapshot

module _ (layout : Layout) (start below : List ℕ) (map token : ℕ) (contents : Contents) (lawful : IsLawful layout start) (within : map < layout.maps) (drew : DrewToken layout start below token)
    (holds : HoldsContents layout start contents) where
  abbrev renewed : List ℕ
  renewed = set below (generation_at layout map) token

  room : cell_count layout ≤ length start
  room = omega (arith, lawful.size)

  renewed_size : length renewed ≡ length start
  renewed_size = length-set below (generation_at layout map) token ∙ (token_grown layout start below token room drew).size

  renewed_cell : (cell : ℕ) → cell < layout.refs + 2 * layout.maps + layout.snaps → cell ≢ generation_at layout map → get_or renewed cell 0 ≡ get_or start cell 0
  renewed_cell cell low apart = get_or-set_other below (generation_at layout map) cell token 0 apart ∙ (token_grown layout start below token room drew).others cell low

  renewed_used : used_count layout renewed ≡ contents.used + 1
  renewed_used = omega (
    arith,
    used_behind layout below renewed (behind_set layout below (generation_at layout map) token (omega (arith, within))),
    used_token layout start below token room drew,
    holds.used,
  )

  pub token_contents : HoldsContents layout renewed (record contents { used = contents.used + 1 })
  token_contents = record {
    refs = holds.refs ∙ sym (take_same layout.refs renewed start renewed_size (λ i low. renewed_cell i (omega (arith, low)) (λ same. omega (arith, same, low))));
    map_count = holds.map_count;
    maps = λ n there. rw (renewed_cell (root_at layout n) (omega (arith, there)) (λ same. omega (arith, same)))
        (pairs_stay layout start renewed (map_root layout start n) (get_or contents.maps n []) (renewed_stands layout start below map token lawful within drew (map_root layout start n)) (holds.maps n there));
    slot_count = holds.slot_count;
    slots = λ snap there. rw (renewed_cell (slot_at layout snap) (omega (arith, there)) (λ same. omega (arith, same, within)))
        (pairs_stay layout start renewed (slot_root layout start snap) (get_or contents.slots snap []) (renewed_stands layout start below map token lawful within drew (slot_root layout start snap)) (holds.slots snap there));
    used = sym renewed_used;
  }

  module _ (snap : ℕ) (snap_in : snap < layout.snaps) where
    abbrev taken : List ℕ
    taken = set renewed (slot_at layout snap) (map_root layout start map)

    taken_cell : (cell : ℕ) → cell < layout.refs + 2 * layout.maps + layout.snaps → cell ≢ generation_at layout map → cell ≢ slot_at layout snap → get_or taken cell 0 ≡ get_or start cell 0
    taken_cell cell low one two = get_or-set_other renewed (slot_at layout snap) cell (map_root layout start map) 0 two ∙ renewed_cell cell low one

    pub snapshot_contents : HoldsContents layout taken (record contents { slots = set contents.slots snap (get_or contents.maps map []); used = contents.used + 1 })
    snapshot_contents = record {
      refs = holds.refs ∙ sym (take_same layout.refs taken start (length-set renewed (slot_at layout snap) (map_root layout start map) ∙ renewed_size)
          (λ i low. taken_cell i (omega (arith, low)) (λ same. omega (arith, same, low)) (λ same. omega (arith, same, low))));
      map_count = holds.map_count;
      maps = λ n there. rw (taken_cell (root_at layout n) (omega (arith, there)) (λ same. omega (arith, same)) (λ same. omega (arith, same, there)))
          (pairs_stay layout start taken (map_root layout start n) (get_or contents.maps n [])
          (snapshot_stands layout start below map token lawful within drew snap snap_in (map_root layout start n)) (holds.maps n there));
      slot_count = length-set contents.slots snap (get_or contents.maps map []) ∙ holds.slot_count;
      slots = λ s there. elim (eqb_tells s snap) [
        | inl same ↦ rw (
          same.1,
          get_or-set_same renewed (slot_at layout snap) (map_root layout start map) 0 (omega (arith, snap_in, renewed_size, lawful.size)),
          get_or-set_same contents.slots snap (get_or contents.maps map []) [] (omega (arith, snap_in, holds.slot_count)),
        )
            (pairs_stay layout start taken (map_root layout start map) (get_or contents.maps map [])
            (snapshot_stands layout start below map token lawful within drew snap snap_in (map_root layout start map)) (holds.maps map within))
        | inr differs ↦ rw (
          taken_cell (slot_at layout s) (omega (arith, there)) (λ same. omega (arith, same, within)) (λ same. differs.1 (omega (arith, same))),
          get_or-set_other contents.slots snap s (get_or contents.maps map []) [] differs.1,
        )
            (pairs_stay layout start taken (slot_root layout start s) (get_or contents.slots s [])
            (snapshot_stands layout start below map token lawful within drew snap snap_in (slot_root layout start s)) (holds.slots s there))
      ];
      used = sym (used_behind layout renewed taken (behind_set layout renewed (slot_at layout snap) (map_root layout start map) (omega (arith, snap_in))) ∙ renewed_used);
    }

-- ---- a share

module _ (layout : Layout) (start below second : List ℕ) (from into token other : ℕ) (contents : Contents) (lawful : IsLawful layout start) (from_in : from < layout.maps) (into_in : into < layout.maps)
    (drew : DrewToken layout start below token) (drew_other : DrewToken layout (set below (generation_at layout from) token) second other) (holds : HoldsContents layout start contents) where
  abbrev first_heap : List ℕ
  first_heap = set below (generation_at layout from) token

  abbrev second_heap : List ℕ
  second_heap = set second (generation_at layout into) other

  abbrev shared : List ℕ
  shared = set second_heap (root_at layout into) (map_root layout start from)

  first_lawful : IsLawful layout first_heap
  first_lawful = renewed_lawful layout start below from token lawful from_in drew

  first_holds : HoldsContents layout first_heap (record contents { used = contents.used + 1 })
  first_holds = token_contents layout start below from token contents lawful from_in drew holds

  shared_size : length shared ≡ length start
  shared_size = length-set second_heap (root_at layout into) (map_root layout start from)
      ∙ (renewed_size layout first_heap second into other (record contents { used = contents.used + 1 }) first_lawful into_in drew_other first_holds
      ∙ renewed_size layout start below from token contents lawful from_in drew holds)

  second_cell : (cell : ℕ) → cell < layout.refs + 2 * layout.maps + layout.snaps → cell ≢ generation_at layout from → cell ≢ generation_at layout into → get_or second_heap cell 0 ≡ get_or start cell 0
  second_cell cell low one two = renewed_cell layout first_heap second into other (record contents { used = contents.used + 1 }) first_lawful into_in drew_other first_holds cell low two
      ∙ renewed_cell layout start below from token contents lawful from_in drew holds cell low one

  shared_cell : (cell : ℕ) → cell < layout.refs + 2 * layout.maps + layout.snaps → cell ≢ generation_at layout from → cell ≢ generation_at layout into → cell ≢ root_at layout into
      → get_or shared cell 0 ≡ get_or start cell 0
  shared_cell cell low one two three = get_or-set_other second_heap (root_at layout into) cell (map_root layout start from) 0 three ∙ second_cell cell low one two

  pub share_contents : HoldsContents layout shared (record contents { maps = set contents.maps into (get_or contents.maps from []); used = contents.used + 2 })
  share_contents = record {
    refs = holds.refs ∙ sym (take_same layout.refs shared start shared_size
        (λ i low. shared_cell i (omega (arith, low)) (λ same. omega (arith, same, low)) (λ same. omega (arith, same, low)) (λ same. omega (arith, same, low))));
    map_count = length-set contents.maps into (get_or contents.maps from []) ∙ holds.map_count;
    maps = λ n there. elim (eqb_tells n into) [
      | inl same ↦ rw (
        same.1,
        get_or-set_same second_heap (root_at layout into) (map_root layout start from) 0
            (omega (arith, into_in, shared_size, length-set second_heap (root_at layout into) (map_root layout start from), lawful.size)),
        get_or-set_same contents.maps into (get_or contents.maps from []) [] (omega (arith, into_in, holds.map_count)),
      )
          (pairs_stay layout start shared (map_root layout start from) (get_or contents.maps from [])
          (share_stands layout start below second from into token other lawful from_in into_in drew drew_other (map_root layout start from)) (holds.maps from from_in))
      | inr differs ↦ rw (
        shared_cell (root_at layout n) (omega (arith, there)) (λ same. omega (arith, same)) (λ same. omega (arith, same)) (λ same. differs.1 (omega (arith, same))),
        get_or-set_other contents.maps into n (get_or contents.maps from []) [] differs.1,
      )
          (pairs_stay layout start shared (map_root layout start n) (get_or contents.maps n [])
          (share_stands layout start below second from into token other lawful from_in into_in drew drew_other (map_root layout start n)) (holds.maps n there))
    ];
    slot_count = holds.slot_count;
    slots = λ snap there. rw (shared_cell (slot_at layout snap) (omega (arith, there)) (λ same. omega (arith, same, from_in)) (λ same. omega (arith, same, into_in)) (λ same. omega (arith, same, into_in)))
        (pairs_stay layout start shared (slot_root layout start snap) (get_or contents.slots snap [])
        (share_stands layout start below second from into token other lawful from_in into_in drew drew_other (slot_root layout start snap)) (holds.slots snap there));
    used = omega (
      arith,
      used_behind layout second_heap shared (behind_set layout second_heap (root_at layout into) (map_root layout start from) (omega (arith, into_in))),
      renewed_used layout first_heap second into other (record contents { used = contents.used + 1 }) first_lawful into_in drew_other first_holds,
    );
  }
