-- What calls tell, one after another.
use Rattle.std.proofs.Common.{◌≡◌, ℕ, ◌+◌, ◌≤◌, List, [], ◌∷◌, ◌++◌, length, get_or, set, None, Some, refl, sym, ap, subst, ◌∙◌, inl, inr, arith, length-append}
use Rattle.std.specs.Prelude.{Result, Ok, Err, MatchResult, ◌⊎◌}
use Rattle.std.proofs.Math.Logic.{∥∥₁_elim}
use denote.Struct.Props.{props}
use Rattle.stm_model.specs.declared.cause.Cause.{Cause}
use Rattle.stm_model.specs.declared.note.Note.{Note}
use Rattle.stm_model.specs.Heap.{over, put}
use Rattle.stm_model.specs.Owes.{IsPossible}
use Rattle.stm_model.specs.CellsState.{CellsState, written}
use Rattle.stm_model.specs.Telling.{Extends, Witness, Got, IsAtHand, IsNewNote, Does, Refused, Leads, Learned, Changed, Cut, AddsAtMost, Reading, Writing, Stopping, Failing, Knows, Owing, StaysLawful}
use Rattle.stm_model.proofs.HeapLemmas.{over-put}
use Rattle.stm_model.proofs.CellsLemmas.{Extends-refl, Extends-same, Extends-trans, IsPossible-before, Owes-later, length-put}

-- ---- between states

got_reads : (reads notes : List Note) (A : Type 0) (P : Note → Type 0) → (A × (notes ≡ reads)) ⊎ ((note : Note) × P note × (notes ≡ reads ++ note ∷ [])) → Extends reads notes
got_reads reads notes A P (inl same) = Extends-same reads notes same.1
got_reads reads notes A P (inr new) = (new.0 ∷ [], new.2)

pub learned_got : (lawful : List ℕ → Type 0) (address value : ℕ) (s t : CellsState) → Got lawful address value s t
    → Learned lawful (λ heap. get_or heap address 0 ≡ value) s t
learned_got lawful address value s t got = record {
  only_reads = got.only_reads;
  reads = got_reads s.reads t.reads (IsAtHand address s) (IsNewNote address value s) got.noted;
  each = got.told;
}

pub learned_nothing : (lawful : List ℕ → Type 0) (fact : List ℕ → Type 0) (s : CellsState) → ((heap : List ℕ) → fact heap) → Learned lawful fact s s
learned_nothing lawful fact s always = record { only_reads = refl; reads = Extends-refl s.reads; each = λ heap possible. always (over heap s.now.writes) }

pub learned_map : (lawful : List ℕ → Type 0) (A B : List ℕ → Type 0) (s t : CellsState) → ((heap : List ℕ) → A heap → B heap) → Learned lawful A s t → Learned lawful B s t
learned_map lawful A B s t so p = record { only_reads = p.only_reads; reads = p.reads; each = λ heap possible. so (over heap s.now.writes) (p.each heap possible) }

pub learned_then : (lawful : List ℕ → Type 0) (A B D : List ℕ → Type 0) (s t u : CellsState) → ((heap : List ℕ) → A heap → B heap → D heap)
    → Learned lawful A s t → Learned lawful B t u → Learned lawful D s u
learned_then lawful A B D s t u both p q = record {
  only_reads = q.only_reads ∙ ap (λ (x : CellsState). record x { reads = u.reads }) p.only_reads;
  reads = Extends-trans s.reads t.reads u.reads p.reads q.reads;
  each = λ heap possible.
      let size : t.size ≡ s.size = ap (λ (x : CellsState). x.size) p.only_reads in
      let writes : t.now.writes ≡ s.now.writes = ap (λ (x : CellsState). x.now.writes) p.only_reads in
      let later : B (over heap t.now.writes) = q.each heap (subst (λ n. IsPossible lawful n u.reads heap) (sym size) possible) in
      both (over heap s.now.writes) (p.each heap (IsPossible-before lawful s.size t.reads u.reads heap q.reads possible)) (subst (λ ws. B (over heap ws)) writes later);
}

pub changed_written : (lawful : List ℕ → Type 0) (address value : ℕ) (s t : CellsState) → Does (written address value) s t
    → Changed lawful (λ before after. after ≡ set before address value) s t
changed_written lawful address value s t does = record {
  only_writes = rw does.is refl;
  reads = Extends-same s.reads t.reads (ap (λ (x : CellsState). x.reads) does.is);
  each = λ heap possible. ap (λ (x : CellsState). over heap x.now.writes) does.is ∙ over-put heap s.now.writes address value;
}

-- who only reads changes nothing
pub changed_learned : (lawful : List ℕ → Type 0) (fact : List ℕ → Type 0) (s t : CellsState) → Learned lawful fact s t
    → Changed lawful (λ before after. (after ≡ before) × fact before) s t
changed_learned lawful fact s t p = record {
  only_writes = rw p.only_reads refl;
  reads = p.reads;
  each = λ heap possible. (ap (λ (x : CellsState). over heap x.now.writes) p.only_reads, p.each heap possible);
}

pub changed_map : (lawful : List ℕ → Type 0) (A B : List ℕ → List ℕ → Type 0) (s t : CellsState) → ((before after : List ℕ) → A before after → B before after)
    → Changed lawful A s t → Changed lawful B s t
changed_map lawful A B s t so p = record { only_writes = p.only_writes; reads = p.reads; each = λ heap possible. so (over heap s.now.writes) (over heap t.now.writes) (p.each heap possible) }

pub changed_then : (lawful : List ℕ → Type 0) (A B D : List ℕ → List ℕ → Type 0) (s t u : CellsState)
    → ((first second third : List ℕ) → A first second → B second third → D first third)
    → Changed lawful A s t → Changed lawful B t u → Changed lawful D s u
changed_then lawful A B D s t u both p q = record {
  only_writes = q.only_writes ∙ ap (λ (x : CellsState). record x { reads = u.reads; now = record x.now { writes = u.now.writes } }) p.only_writes;
  reads = Extends-trans s.reads t.reads u.reads p.reads q.reads;
  each = λ heap possible.
      let size : t.size ≡ s.size = ap (λ (x : CellsState). x.size) p.only_writes in
      both (over heap s.now.writes) (over heap t.now.writes) (over heap u.now.writes)
      (p.each heap (IsPossible-before lawful s.size t.reads u.reads heap q.reads possible))
      (q.each heap (subst (λ n. IsPossible lawful n u.reads heap) (sym size) possible));
}

pub cut_refused : (fresh : Cause → Type 0) (cause : Cause) (s t : CellsState) → Refused fresh cause s t → Cut cause s t
cut_refused fresh cause s t refused = record {
  size = ap (λ (x : CellsState). x.size) refused.is;
  reads = Extends-same s.reads t.reads (ap (λ (x : CellsState). x.reads) refused.is);
  saved = ap (λ (x : CellsState). x.saved) refused.is;
  stopped = ap (λ (x : CellsState). x.cause) refused.is;
  again = refused.again;
}

-- what was cut after reads and writes was cut from their begin on
pub cut_later : (lawful : List ℕ → Type 0) (step : List ℕ → List ℕ → Type 0) (cause : Cause) (s t u : CellsState) → Changed lawful step s t → Cut cause t u → Cut cause s u
cut_later lawful step cause s t u p q = record {
  size = q.size ∙ ap (λ (x : CellsState). x.size) p.only_writes;
  reads = Extends-trans s.reads t.reads u.reads p.reads q.reads;
  saved = q.saved ∙ ap (λ (x : CellsState). x.saved) p.only_writes;
  stopped = q.stopped;
  again = λ earlier is. q.again earlier (ap (λ (x : CellsState). x.cause) p.only_writes ∙ is);
}

-- ---- how many notes and writes

adds_note : (reads notes : List Note) (A : Type 0) (P : Note → Type 0) → (A × (notes ≡ reads)) ⊎ ((note : Note) × P note × (notes ≡ reads ++ note ∷ [])) → length notes ≤ length reads + 1
adds_note reads notes A P (inl same) = let e : length notes ≡ length reads = ap length same.1 in omega arith
adds_note reads notes A P (inr new) = let e : length notes ≡ length reads + 1 = ap length new.2 ∙ length-append reads (new.0 ∷ []) in omega arith

pub adds_got : (lawful : List ℕ → Type 0) (address value : ℕ) (s t : CellsState) → Got lawful address value s t → AddsAtMost 1 s t
adds_got lawful address value s t got =
    let same : t.now.writes ≡ s.now.writes = ap (λ (x : CellsState). x.now.writes) got.only_reads in
    let most = adds_note s.reads t.reads (IsAtHand address s) (IsNewNote address value s) got.noted in
    let writes : length t.now.writes ≡ length s.now.writes = ap length same in omega arith

pub adds_written : (address value : ℕ) (s t : CellsState) → Does (written address value) s t → AddsAtMost 1 s t
adds_written address value s t does =
    let writes : length t.now.writes ≡ length (put s.now.writes address value) = ap (λ (x : CellsState). length x.now.writes) does.is in
    let reads : length t.reads ≡ length s.reads = ap (λ (x : CellsState). length x.reads) does.is in
    let most = length-put s.now.writes address value in omega arith

pub adds_then : (m n : ℕ) (s t u : CellsState) → AddsAtMost m s t → AddsAtMost n t u → AddsAtMost (m + n) s u
adds_then m n s t u one two = omega arith

-- ---- between moments of cells

-- What the lemmas below have to know of cells: the law that each moment keeps, what may follow on what, and what is told.
pub record Moments (S L : Type 0) : Type 1 where
  pub lawful : L → List ℕ → Type 0
  pub law : S → L
  pub follows : S → S → Type 0
  pub state : S → CellsState
  pub same : (c : S) → follows c c
  pub trans : (c d e : S) → follows c d → follows d e → follows c e

abbrev pub moments : {S L : Type 0} (lawful : L → List ℕ → Type 0) (law : S → L) (follows : S → S → Type 0) (state : S → CellsState)
    → ((c : S) → follows c c) → ((c d e : S) → follows c d → follows d e → follows c e) → Moments S L
moments lawful law follows state same trans =
    record { lawful = lawful; law = law; follows = follows; state = state; same = same; trans = trans }

-- from one moment to another, as they are told
abbrev pub Led : {S L : Type 0} → Moments S L → S → S → (CellsState → CellsState → Type 0) → Type 0
Led m c d relation = Leads m.law m.follows m.state c d relation

abbrev pub Read : {S L : Type 0} → Moments S L → S → S → (List ℕ → Type 0) → Type 0
Read m c d fact = Reading m.lawful m.law m.follows m.state c d fact

abbrev pub Wrote : {S L : Type 0} → Moments S L → S → S → (List ℕ → List ℕ → Type 0) → Type 0
Wrote m c d step = Writing m.lawful m.law m.follows m.state c d step

abbrev pub Stopped : {S L : Type 0} → Moments S L → S → S → Cause → Type 0
Stopped m c d cause = Stopping m.law m.follows m.state c d cause

abbrev pub Failed : {S L : Type 0} → Moments S L → S → S → (Cause → Type 0) → (List ℕ → List ℕ → Type 0) → Cause → Type 0
Failed m c d own step cause = Failing m.lawful m.law m.follows m.state c d own step cause

module _ {S L : Type 0} (m : Moments S L) where
  pub leads_then : (c d e : S) (P Q R : CellsState → CellsState → Type 0) → ((s t u : CellsState) → P s t → Q t u → R s u)
      → Led m c d P → Led m d e Q → Led m c e R
  leads_then c d e P Q R both p q = record {
    same_law = q.same_law ∙ p.same_law;
    goes = m.trans c d e p.goes q.goes;
    states = both (m.state c) (m.state d) (m.state e) p.states q.states;
  }

  pub leads_map : (c d : S) (P Q : CellsState → CellsState → Type 0) → ((s t : CellsState) → P s t → Q s t) → Led m c d P → Led m c d Q
  leads_map c d P Q so p = record { same_law = p.same_law; goes = p.goes; states = so (m.state c) (m.state d) p.states }

  -- ---- reads

  pub read_nothing : (c : S) (fact : List ℕ → Type 0) → ((heap : List ℕ) → fact heap) → Read m c c fact
  read_nothing c fact always = record { same_law = refl; goes = m.same c; states = learned_nothing (m.lawful (m.law c)) fact (m.state c) always }

  pub read_got : (c d : S) (address value : ℕ) → Led m c d (Got (m.lawful (m.law c)) address value) → Read m c d (λ heap. get_or heap address 0 ≡ value)
  read_got c d address value p = leads_map c d _ _ (λ s t. learned_got (m.lawful (m.law c)) address value s t) p

  -- an address by its equation
  pub read_at : (c d : S) (address place value : ℕ) → address ≡ place → Led m c d (Got (m.lawful (m.law c)) address value)
      → Read m c d (λ heap. get_or heap place 0 ≡ value)
  read_at c d address place value is p = subst (λ cell. Read m c d (λ heap. get_or heap cell 0 ≡ value)) is (read_got c d address value p)

  pub read_map : (c d : S) (A B : List ℕ → Type 0) → ((heap : List ℕ) → A heap → B heap) → Read m c d A → Read m c d B
  read_map c d A B so p = leads_map c d _ _ (λ s t. learned_map (m.lawful (m.law c)) A B s t so) p

  pub read_then : (c d e : S) (A B D : List ℕ → Type 0) → ((heap : List ℕ) → A heap → B heap → D heap) → Read m c d A → Read m d e B → Read m c e D
  read_then c d e A B D both p q = record {
    same_law = q.same_law ∙ p.same_law;
    goes = m.trans c d e p.goes q.goes;
    states = learned_then (m.lawful (m.law c)) A B D (m.state c) (m.state d) (m.state e) both p.states
        (subst (λ l. Learned (m.lawful l) B (m.state d) (m.state e)) p.same_law q.states);
  }

  pub read_size : (c d : S) (A : List ℕ → Type 0) → Read m c d A → (m.state d).size ≡ (m.state c).size
  read_size c d A p = ap (λ (x : CellsState). x.size) p.states.only_reads

  -- ---- writes

  pub wrote_set : (c d : S) (address value : ℕ) → Led m c d (Does (written address value)) → Wrote m c d (λ before after. after ≡ set before address value)
  wrote_set c d address value p = leads_map c d _ _ (λ s t. changed_written (m.lawful (m.law c)) address value s t) p

  -- an address by its equation
  pub wrote_at : (c d : S) (address place value : ℕ) → address ≡ place → Led m c d (Does (written address value))
      → Wrote m c d (λ before after. after ≡ set before place value)
  wrote_at c d address place value is p = subst (λ cell. Wrote m c d (λ before after. after ≡ set before cell value)) is (wrote_set c d address value p)

  pub wrote_nothing : (c d : S) (fact : List ℕ → Type 0) → Read m c d fact → Wrote m c d (λ before after. (after ≡ before) × fact before)
  wrote_nothing c d fact p = leads_map c d _ _ (λ s t. changed_learned (m.lawful (m.law c)) fact s t) p

  pub wrote_map : (c d : S) (A B : List ℕ → List ℕ → Type 0) → ((before after : List ℕ) → A before after → B before after) → Wrote m c d A → Wrote m c d B
  wrote_map c d A B so p = leads_map c d _ _ (λ s t. changed_map (m.lawful (m.law c)) A B s t so) p

  pub wrote_then : (c d e : S) (A B D : List ℕ → List ℕ → Type 0) → ((first second third : List ℕ) → A first second → B second third → D first third)
      → Wrote m c d A → Wrote m d e B → Wrote m c e D
  wrote_then c d e A B D both p q = record {
    same_law = q.same_law ∙ p.same_law;
    goes = m.trans c d e p.goes q.goes;
    states = changed_then (m.lawful (m.law c)) A B D (m.state c) (m.state d) (m.state e) both p.states
        (subst (λ l. Changed (m.lawful l) B (m.state d) (m.state e)) p.same_law q.states);
  }

  -- no call at all
  pub wrote_none : (c : S) (step : List ℕ → List ℕ → Type 0) → ((heap : List ℕ) → step heap heap) → Wrote m c c step
  wrote_none c step stays = wrote_map c c (λ before after. (after ≡ before) × Unit {0}) step (λ before after p. rw p.0 (stays before))
      (wrote_nothing c c (λ heap. Unit {0}) (read_nothing c (λ heap. Unit {0}) (λ heap. tt)))

  pub wrote_size : (c d : S) (step : List ℕ → List ℕ → Type 0) → Wrote m c d step → (m.state d).size ≡ (m.state c).size
  wrote_size c d step p = ap (λ (x : CellsState). x.size) p.states.only_writes

  -- ---- causes

  pub stop_refused : (c d : S) (fresh : Cause → Type 0) (cause : Cause) → Led m c d (Refused fresh cause) → Stopped m c d cause
  stop_refused c d fresh cause p = leads_map c d _ _ (cut_refused fresh cause) p

  pub stop_wrote : (c d e : S) (A : List ℕ → List ℕ → Type 0) (cause : Cause) → Wrote m c d A → Stopped m d e cause → Stopped m c e cause
  stop_wrote c d e A cause p q = leads_then c d e _ _ _ (cut_later (m.lawful (m.law c)) A cause) p q

  pub stop_then : (c d e : S) (A : List ℕ → Type 0) (cause : Cause) → Read m c d A → Stopped m d e cause → Stopped m c e cause
  stop_then c d e A cause p q = stop_wrote c d e _ cause (wrote_nothing c d A p) q

  -- what failed after what was written
  pub fail_wrote : (c d e : S) (own : Cause → Type 0) (A B D : List ℕ → List ℕ → Type 0) (cause : Cause)
      → ((first second third : List ℕ) → A first second → B second third → D first third)
      → Wrote m c d A → Failed m d e own B cause → Failed m c e own D cause
  fail_wrote c d e own A B D cause both p (inl stop) = inl (stop_wrote c d e A cause p stop)
  fail_wrote c d e own A B D cause both p (inr failed) = inr (failed.0, wrote_then c d e A B D both p failed.1)

  -- ---- answers

  -- what the last of several calls told is told from their begin on
  pub told_later : {T : Type 0} (c d e : S) (A : List ℕ → Type 0) (B : T → List ℕ → Type 0) (answer : Result T Cause) → Read m c d A
      → MatchResult answer (λ out. Read m d e (B out)) (λ cause. Stopped m d e cause)
      → MatchResult answer (λ out. Read m c e (B out)) (λ cause. Stopped m c e cause)
  told_later c d e A B (Ok out) p q = read_then c d e A (B out) (B out) (λ heap a b. b) p q
  told_later c d e A B (Err cause) p q = stop_then c d e A cause p q

  -- the same after writes
  pub told_wrote : {T : Type 0} (c d e : S) (A : List ℕ → List ℕ → Type 0) (B D : T → List ℕ → List ℕ → Type 0) (answer : Result T Cause)
      → ((out : T) (first second third : List ℕ) → A first second → B out second third → D out first third) → Wrote m c d A
      → MatchResult answer (λ out. Wrote m d e (B out)) (λ cause. Stopped m d e cause)
      → MatchResult answer (λ out. Wrote m c e (D out)) (λ cause. Stopped m c e cause)
  told_wrote c d e A B D (Ok out) both p q = wrote_then c d e A (B out) (D out) (both out) p q
  told_wrote c d e A B D (Err cause) both p q = stop_wrote c d e A cause p q

  -- the same where the last call may fail with a cause of its own
  pub told_failing : {T : Type 0} (c d e : S) (own : Cause → Type 0) (A : List ℕ → List ℕ → Type 0) (B D : T → List ℕ → List ℕ → Type 0)
      (F G : List ℕ → List ℕ → Type 0) (answer : Result T Cause)
      → ((out : T) (first second third : List ℕ) → A first second → B out second third → D out first third)
      → ((first second third : List ℕ) → A first second → F second third → G first third) → Wrote m c d A
      → MatchResult answer (λ out. Wrote m d e (B out)) (λ cause. Failed m d e own F cause)
      → MatchResult answer (λ out. Wrote m c e (D out)) (λ cause. Failed m c e own G cause)
  told_failing c d e own A B D F G (Ok out) both fail p q = wrote_then c d e A (B out) (D out) (both out) p q
  told_failing c d e own A B D F G (Err cause) both fail p q = fail_wrote c d e own A F G cause fail p q

  -- ---- what is owed

  -- Calls that change no write leave what was owed.
  pub owing_same : (may : L → List ℕ → List ℕ → Type 0) (c d : S) → m.law d ≡ m.law c → (m.state d).size ≡ (m.state c).size
      → (m.state d).now.writes ≡ (m.state c).now.writes → Extends (m.state c).reads (m.state d).reads
      → ((m.state d).cause ≡ None → (m.state c).cause ≡ None)
      → Owing (m.lawful (m.law c)) (may (m.law c)) (m.state c) → Owing (m.lawful (m.law d)) (may (m.law d)) (m.state d)
  owing_same may c d law size writes reads causes owing going = rw law
      (Owes-later (m.lawful (m.law c)) (may (m.law c)) (m.state c) (m.state d) size writes reads (owing (causes going)))

  pub owing_read : (may : L → List ℕ → List ℕ → Type 0) (c d : S) (fact : List ℕ → Type 0) → Read m c d fact
      → Owing (m.lawful (m.law c)) (may (m.law c)) (m.state c) → Owing (m.lawful (m.law d)) (may (m.law d)) (m.state d)
  owing_read may c d fact p = owing_same may c d p.same_law (read_size c d fact p) (ap (λ (x : CellsState). x.now.writes) p.states.only_reads) p.states.reads
      (λ going. sym (ap (λ (x : CellsState). x.cause) p.states.only_reads) ∙ going)

  -- Writes that lead from lawful heaps to lawful ones that they may become leave what was owed.
  pub owing_wrote : (may : L → List ℕ → List ℕ → Type 0)
      → ((l : L) (first second third : List ℕ) → m.lawful l first → m.lawful l second → m.lawful l third → may l first second → may l second third → may l first third)
      → (c d : S) (step : List ℕ → List ℕ → Type 0)
      → ((before after : List ℕ) → m.lawful (m.law c) before → step before after → m.lawful (m.law c) after × may (m.law c) before after)
      → Wrote m c d step
      → Owing (m.lawful (m.law c)) (may (m.law c)) (m.state c) → Owing (m.lawful (m.law d)) (may (m.law d)) (m.state d)
  owing_wrote may trans c d step keeps p owing going heap possible =
      let law : m.law d ≡ m.law c = p.same_law in
      let size : (m.state d).size ≡ (m.state c).size = wrote_size c d step p in
      let here : IsPossible (m.lawful (m.law c)) (m.state c).size (m.state d).reads heap =
      subst (λ l. IsPossible (m.lawful l) (m.state c).size (m.state d).reads heap) law
      (subst (λ n. IsPossible (m.lawful (m.law d)) n (m.state d).reads heap) size possible) in
      let before = IsPossible-before (m.lawful (m.law c)) (m.state c).size (m.state c).reads (m.state d).reads heap p.states.reads here in
      let old = owing (sym (ap (λ (x : CellsState). x.cause) p.states.only_writes) ∙ going) heap before in
      let new = keeps (over heap (m.state c).now.writes) (over heap (m.state d).now.writes) old.0 (p.states.each heap here) in
      rw law (new.0, trans (m.law c) heap (over heap (m.state c).now.writes) (over heap (m.state d).now.writes) here.keeps_law old.0 new.0 old.1 new.1)

  -- Who was refused something owes nothing.
  pub owing_stopped : (may : L → List ℕ → List ℕ → Type 0) (c d : S) (cause : Cause) → Stopped m c d cause
      → Owing (m.lawful (m.law d)) (may (m.law d)) (m.state d)
  owing_stopped may c d cause p going = let never : Some cause ≡ None = sym p.states.stopped ∙ going in cc

-- What is owed contains that heaps stay lawful.
pub owing_lawful : (lawful : List ℕ → Type 0) (may : List ℕ → List ℕ → Type 0) (s : CellsState) → Owing lawful may s → StaysLawful lawful s
owing_lawful lawful may s owing going heap possible = (owing going heap possible).0

-- ---- what is known at a moment

pub knows_map : (lawful : List ℕ → Type 0) (A B : List ℕ → Type 0) (s : CellsState) → ((heap : List ℕ) → A heap → B heap) → Knows lawful A s → Knows lawful B s
knows_map lawful A B s so p = record { going = p.going; each = λ heap possible. so (over heap s.now.writes) (p.each heap possible) }

-- where heaps stay lawful, that is known
pub knows_lawful : (lawful : List ℕ → Type 0) (s : CellsState) → s.cause ≡ None → StaysLawful lawful s → Knows lawful lawful s
knows_lawful lawful s going stays = record { going = going; each = stays going }

-- what was known stays known, with what a call learned
pub knows_then : (lawful : List ℕ → Type 0) (A B D : List ℕ → Type 0) (s t : CellsState) → ((heap : List ℕ) → A heap → B heap → D heap)
    → Knows lawful A s → Learned lawful B s t → Knows lawful D t
knows_then lawful A B D s t both p q =
    let size : t.size ≡ s.size = ap (λ (x : CellsState). x.size) q.only_reads in
    let writes : t.now.writes ≡ s.now.writes = ap (λ (x : CellsState). x.now.writes) q.only_reads in
    record {
      going = ap (λ (x : CellsState). x.cause) q.only_reads ∙ p.going;
      each = λ heap possible.
          let here = subst (λ n. IsPossible lawful n t.reads heap) size possible in
          let old = p.each heap (IsPossible-before lawful s.size s.reads t.reads heap q.reads here) in
          subst (λ ws. D (over heap ws)) (sym writes) (both (over heap s.now.writes) old (q.each heap here));
    }

-- what is known of the heaps is so, where it doesn't depend on them
pub knows_bound : (lawful : List ℕ → Type 0) (fact : List ℕ → Type 0) (s : CellsState) (m n : ℕ) → ((heap : List ℕ) → fact heap → m ≤ n)
    → ∥ Witness lawful s.size s.reads ∥₁ → Knows lawful fact s → m ≤ n
knows_bound lawful fact s m n so witness p =
    ∥∥₁_elim witness (hlevel props) (λ (w : Witness lawful s.size s.reads). so (over w.0 s.now.writes) (p.each w.0 w.1))
