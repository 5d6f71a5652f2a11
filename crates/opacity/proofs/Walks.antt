-- Lists of distinct cells, and a walk along writes.
use Rattle.std.proofs.Common.{◌≡◌, ◌≢◌, ℕ, nat_eq, Bool, true, false, ◌||◌, List, [], ◌∷◌, ◌++◌, Option, Some, inl, inr, if◌then◌else◌, refl, sym, ap, ◌∙◌, arith, append_assoc}
use Rattle.std.specs.List.{All, AllByRecursion, IsDistinct, list_any}
use Rattle.std.specs.Map.{keys_of, lookup}
use Rattle.std.proofs.lemmas.Bool.{or_parts}
use Rattle.std.proofs.lemmas.Bool.Decides.{eqb_tells, nat_tests}
use Rattle.std.proofs.lemmas.List.Elements.{All-head, All-tail}
use Rattle.std.proofs.lemmas.List.Folds.{list_any-append}
use Rattle.stm_model.specs.Attempt.{Write}
use Rattle.stm_model.specs.Heap.{put, writes_to}
use Rattle.stm_model.specs.Safe.{EndsWith}

-- ---- lists of cells

-- a cell is one of these
abbrev pub among : List ℕ → ℕ → Bool
among cells cell = list_any (nat_eq cell) cells

pub among-append : (front behind : List ℕ) (cell : ℕ) → among (front ++ behind) cell ≡ (among front cell || among behind cell)
among-append front behind cell = list_any-append (nat_eq cell) front behind

among_none : (cell : ℕ) (cells : List ℕ) → AllByRecursion (λ other. nat_eq cell other ≡ false) cells → among cells cell ≡ false
among_none cell [] apart = refl
among_none cell (other ∷ cells) apart = rw apart.0 (among_none cell cells apart.1)

apart_front : (cell : ℕ) (front behind : List ℕ) → AllByRecursion (λ other. nat_eq cell other ≡ false) (front ++ behind) → AllByRecursion (λ other. nat_eq cell other ≡ false) front
apart_front cell [] behind apart = tt
apart_front cell (other ∷ front) behind apart = (apart.0, apart_front cell front behind apart.1)

apart_at : (cell other : ℕ) (front behind : List ℕ) → AllByRecursion (λ each. nat_eq cell each ≡ false) (front ++ other ∷ behind) → nat_eq cell other ≡ false
apart_at cell other [] behind apart = apart.0
apart_at cell other (each ∷ front) behind apart = apart_at cell other front behind apart.1

pub distinct_front : (front behind : List ℕ) → IsDistinct nat_eq (front ++ behind) → IsDistinct nat_eq front
unfolding IsDistinct
distinct_front [] behind apart = tt
distinct_front (cell ∷ front) behind apart = (apart_front cell front behind apart.0, distinct_front front behind apart.1)

turned : (cell other : ℕ) → nat_eq cell other ≡ false → nat_eq other cell ≡ false
turned cell other apart = grind (arith, nat_tests)

-- a cell in the middle of distinct cells stands neither before nor behind
pub none_before : (front behind : List ℕ) (cell : ℕ) → IsDistinct nat_eq (front ++ cell ∷ behind) → among front cell ≡ false
unfolding IsDistinct
none_before [] behind cell apart = refl
none_before (first ∷ front) behind cell apart = rw (turned first cell (apart_at first cell front behind apart.0)) (none_before front behind cell apart.1)

pub none_behind : (front behind : List ℕ) (cell : ℕ) → IsDistinct nat_eq (front ++ cell ∷ behind) → among behind cell ≡ false
unfolding IsDistinct
none_behind [] behind cell apart = among_none cell behind apart.0
none_behind (first ∷ front) behind cell apart = none_behind front behind cell apart.1

-- a new cell behind distinct ones
apart_push : (cell new : ℕ) (cells : List ℕ) → nat_eq cell new ≡ false → AllByRecursion (λ other. nat_eq cell other ≡ false) cells
    → AllByRecursion (λ other. nat_eq cell other ≡ false) (cells ++ new ∷ [])
apart_push cell new [] apart each = (apart, tt)
apart_push cell new (other ∷ cells) apart each = (each.0, apart_push cell new cells apart each.1)

pub distinct_push : (cells : List ℕ) (new : ℕ) → IsDistinct nat_eq cells → among cells new ≡ false → IsDistinct nat_eq (cells ++ new ∷ [])
unfolding IsDistinct
distinct_push [] new apart none = (tt, tt)
distinct_push (cell ∷ cells) new apart none =
    let parts : (nat_eq new cell ≡ false) × (among cells new ≡ false) = or_parts (nat_eq new cell) (among cells new) none in
    (apart_push cell new cells (turned new cell parts.0) apart.0, distinct_push cells new apart.1 parts.1)

-- ---- writes

pub keys-append : (front behind : List Write) → keys_of (front ++ behind) ≡ keys_of front ++ keys_of behind
keys-append [] behind = refl
keys-append (write ∷ front) behind = ap (λ cells. write.0 ∷ cells) (keys-append front behind)

pub writes_to_keys : (writes others : List Write) (cell : ℕ) → keys_of writes ≡ keys_of others → writes_to writes cell ≡ writes_to others cell
writes_to_keys writes others cell same = ap (λ cells. among cells cell) same

pub writes_to_here : (write : Write) (behind : List Write) → writes_to (write ∷ behind) write.0 ≡ true
writes_to_here write behind = grind (arith, nat_tests)

pub writes_to_else : (write : Write) (behind : List Write) (cell : ℕ) → cell ≢ write.0 → writes_to (write ∷ behind) cell ≡ writes_to behind cell
writes_to_else write behind cell other = grind (arith, nat_tests)

pub keys-put_written : (writes : List Write) (cell value : ℕ) → writes_to writes cell ≡ true → keys_of (put writes cell value) ≡ keys_of writes
keys-put_written [] cell value written = cc
keys-put_written (write ∷ writes) cell value written = elim (eqb_tells cell write.0) [
  | inl same ↦ rw same.0 (ap (λ key. key ∷ keys_of writes) same.1)
  | inr other ↦
      let rest : writes_to writes cell ≡ true = rw other.0 at written in
      rw other.0 (ap (λ keys. write.0 ∷ keys) (keys-put_written writes cell value rest))
]

pub keys-put_new : (writes : List Write) (cell value : ℕ) → writes_to writes cell ≡ false → keys_of (put writes cell value) ≡ keys_of writes ++ cell ∷ []
keys-put_new [] cell value none = refl
keys-put_new (write ∷ writes) cell value none =
    let parts : (nat_eq cell write.0 ≡ false) × (writes_to writes cell ≡ false) = or_parts (nat_eq cell write.0) (writes_to writes cell) none in
    rw parts.0 (ap (λ keys. write.0 ∷ keys) (keys-put_new writes cell value parts.1))

-- The write at which a walk along distinct ones stands
pub record IsNext (writes : List Write) (write : Write) (behind : List Write) : Type 0 where
  pub there : writes_to writes write.0 ≡ true
  pub done : writes_to behind write.0 ≡ false
  pub found : lookup (nat_eq write.0) writes ≡ Some write.1

there_behind : (front behind : List Write) (write : Write) → writes_to (front ++ write ∷ behind) write.0 ≡ true
there_behind [] behind write = writes_to_here write behind
there_behind (first ∷ front) behind write = rw (there_behind front behind write) (or_true (nat_eq write.0 first.0))
  where
    or_true : (b : Bool) → (b || true) ≡ true
    or_true b = grind arith

found_here : (key value : ℕ) (rest : Option ℕ) → (if nat_eq key key then Some value else rest) ≡ Some value
found_here key value rest = grind (arith, nat_tests)

found_behind : (front behind : List Write) (write : Write) → IsDistinct nat_eq (keys_of (front ++ write ∷ behind)) → lookup (nat_eq write.0) (front ++ write ∷ behind) ≡ Some write.1
unfolding IsDistinct
found_behind [] behind write apart = found_here write.0 write.1 _
found_behind (first ∷ front) behind write apart =
    let cells : AllByRecursion (λ each. nat_eq first.0 each ≡ false) (keys_of front ++ write.0 ∷ keys_of behind) = rw (keys-append front (write ∷ behind)) at apart.0 in
    rw (turned first.0 write.0 (apart_at first.0 write.0 (keys_of front) (keys_of behind) cells)) (found_behind front behind write apart.1)

pub next_of : (writes : List Write) (write : Write) (behind : List Write) → IsDistinct nat_eq (keys_of writes) → EndsWith writes (write ∷ behind) → IsNext writes write behind
next_of writes write behind apart ends =
    let cells : IsDistinct nat_eq (keys_of (ends.0 ++ write ∷ behind)) = rw ends.1 at apart in
    let keys : IsDistinct nat_eq (keys_of ends.0 ++ write.0 ∷ keys_of behind) = rw (keys-append ends.0 (write ∷ behind)) at cells in
    rw ends.1 (record {
      there = there_behind ends.0 behind write;
      done = none_behind (keys_of ends.0) (keys_of behind) write.0 keys;
      found = found_behind ends.0 behind write cells;
    })

pub ends_more : (writes : List Write) (write : Write) (behind : List Write) → EndsWith writes (write ∷ behind) → EndsWith writes behind
ends_more writes write behind ends = (ends.0 ++ write ∷ [], ends.1 ∙ sym (append_assoc ends.0 (write ∷ []) behind))

-- what holds of all cells holds of one of them
pub all_among : (P : ℕ → Type 0) (cells : List ℕ) (cell : ℕ) → All P cells → among cells cell ≡ true → P cell
all_among P [] cell all there = absurd (never there)
  where
    never : false ≡ true → ⊥
    never is = cc
all_among P (first ∷ cells) cell all there = elim (eqb_tells cell first) [
  | inl same ↦ rw same.1 (All-head P first cells all)
  | inr other ↦
      let rest : among cells cell ≡ true = rw other.0 at there in
      all_among P cells cell (All-tail P first cells all) rest
]
