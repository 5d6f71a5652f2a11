-- A body: an attempt that is asked for one thing after another.
use Rattle.std.proofs.Common.{◌≡◌, ◌⊎◌, inl, inr, ℕ, suc, ◌+◌, ◌-◌, ◌<◌, List, [], ◌∷◌, ◌++◌, length, take, drop, get_or, Option, ap, refl, sym, ◌∙◌, subst, append-nil, append_assoc, arith}
use Rattle.std.proofs.lemmas.List.{drop_more, take-append-drop, take_more}
use Rattle.std.proofs.lemmas.List.Elements.{All-get_or}
use Rattle.std.specs.List.{All}
use Rattle.stm_model.specs.Attempt.{Attempt, Close, Ended, Late, Ready, RollBack, Stage, Stopped, Write}
use Rattle.stm_model.specs.CellsState.{Book, empty_book}
use Rattle.stm_model.specs.Moves.{AwaitsAsk, AwaitsAskAt, MayAsk, OutOfMemory, Takes}
use Rattle.stm_model.specs.World.{IsCaller, Moves}
use Rattle.stm_model.specs.declared.access.Ask.{Ask}
use Rattle.stm_model.specs.declared.access.Ask.TheVariants.{Enter, Finish, Get, Keep, Undo}
use Rattle.stm_model.specs.declared.ending.Ending.{Ending}
use Rattle.world_run.specs.Going.{BodyGoes, BodyMeets, ComesThrough, CutsOff, Finishes, GoesAlong, GoesOn, IsClosing, IsEnding, LostAt, MeetsOwedAt, MeetsOwedBy, writes_of}
use Rattle.world_run.specs.Run.{ClosesLevel, ClosesOpen}
use Rattle.world_run.specs.Simulation.{Simulation, Happens, Invariant, IsAlwaysTaken, IsAskable, IsSameOf, attempt_in, terms_in}
use Rattle.world_run.proofs.Closings.{closing_waits, gone_rolled}
use Rattle.world_run.proofs.Going.{asks_on, goes_on}

-- the ask at a place
abbrev pub ask_in : List Ask → ℕ → Ask
ask_in asks index = get_or asks index (Get (record { 0 = 0 }))

-- An ask that is always taken is taken, or else it closes a level and none is open.
taken_or_none : (size : ℕ) (ask : Ask) → IsAlwaysTaken size ask → (t : Attempt) → t.turn ≡ 0 → MayAsk size t ask ⊎ (ClosesLevel ask × (t.saved ≡ []))
unfolding MayAsk
taken_or_none size Keep taken t own = go t.saved
  where
    go : (levels : List Book) → (0 < length levels) ⊎ (Unit {0} × (levels ≡ []))
    go [] = inr (tt, refl)
    go (book ∷ books) = inl (omega arith)
taken_or_none size Undo taken t own = go t.saved
  where
    go : (levels : List Book) → (0 < length levels) ⊎ (Unit {0} × (levels ≡ []))
    go [] = inr (tt, refl)
    go (book ∷ books) = inl (omega arith)
taken_or_none size ask taken t own = inl (taken.able (record t { saved = empty_book ∷ [] }) own (omega arith))

closes_none : {A : Type 0} (ask : Ask) (asks : List Ask) → ClosesLevel ask → ClosesOpen 0 (ask ∷ asks) → A
unfolding ClosesOpen
closes_none Keep asks closes some = absurd (omega (arith, some.0))
closes_none Undo asks closes some = absurd (omega (arith, some.0))
closes_none ask asks closes some = absurd closes

-- Who meets what it owes, waits, and can't close a level was refused something.
lost_here : (lawful : List ℕ → Type 0) (may : List ℕ → List ℕ → Type 0) (size : ℕ) (t : Attempt) (stage : Stage) (ask : Ask) (asks : List Ask) → t.turn ≡ 0 → t.saved ≡ [] → ClosesLevel ask → AwaitsAskAt stage
    → MeetsOwedAt lawful may size (ask ∷ asks) t.turn t.now.writes (writes_of t.saved) stage → LostAt stage t.ending
unfolding AwaitsAskAt MeetsOwedAt BodyMeets LostAt
lost_here lawful may size t (Ready told) ask asks own none closes waits meets =
    closes_none ask asks closes (rw (own, none) at meets).1
lost_here lawful may size t (Late token) ask asks own none closes waits meets =
    closes_none ask asks closes (rw (own, none) at meets).1
lost_here lawful may size t (Stopped cause) ask asks own none closes waits meets = tt
lost_here lawful may size t stage ask asks own none closes waits meets = absurd waits

-- Who is lost owes nothing.
pub lost_meets : (lawful : List ℕ → Type 0) (may : List ℕ → List ℕ → Type 0) (size : ℕ) (asks : List Ask) (turn : ℕ) (writes : List Write) (levels : List (List Write)) (stage : Stage) (ending : Option Ending)
    → LostAt stage ending → MeetsOwedAt lawful may size asks turn writes levels stage
unfolding LostAt MeetsOwedAt
lost_meets lawful may size asks turn writes levels (Stopped cause) ending lost = tt
lost_meets lawful may size asks turn writes levels (RollBack write behind) ending lost = tt
lost_meets lawful may size asks turn writes levels Close ending lost = tt
lost_meets lawful may size asks turn writes levels Ended ending lost = tt
lost_meets lawful may size asks turn writes levels stage ending lost = absurd lost

-- With so many levels open, the asks and the finish behind them close no other.
pub closes_then : (depth : ℕ) (asks : List Ask) → ClosesOpen depth asks → ClosesOpen depth (asks ++ Finish ∷ [])
unfolding ClosesOpen
closes_then depth [] closes = tt
closes_then depth (Enter ∷ asks) closes = closes_then (suc depth) asks closes
closes_then depth (Keep ∷ asks) closes = (closes.0, closes_then (depth - 1) asks closes.1)
closes_then depth (Undo ∷ asks) closes = (closes.0, closes_then (depth - 1) asks closes.1)
closes_then depth (ask ∷ asks) closes = closes_then depth asks closes

module _ {L : Type 0} {lawful : L → List ℕ → Type 0} {may : L → List ℕ → List ℕ → Type 0} {p : ℕ} where
  pub along_whole : {a b : Simulation L} {asks : List Ask} → GoesOn lawful may a p asks b → GoesAlong lawful may a p asks b
  along_whole {asks = asks} goes = record { asked = asks; behind = []; front = sym (append-nil asks); goes = goes }

  pub along_from : {a b c : Simulation L} {asks : List Ask} → GoesOn lawful may a p [] b → GoesAlong lawful may b p asks c → GoesAlong lawful may a p asks c
  along_from first along = record { asked = along.asked; behind = along.behind; front = along.front; goes = goes_on first along.goes }

  pub along_more : {a b : Simulation L} {asks : List Ask} (more : List Ask) → GoesAlong lawful may a p asks b → GoesAlong lawful may a p (asks ++ more) b
  along_more more along = record {
    asked = along.asked;
    behind = along.behind ++ more;
    front = ap (λ (list : List Ask). list ++ more) along.front ∙ append_assoc along.asked along.behind more;
    goes = along.goes;
  }

  -- It was asked for none of these yet.
  pub along_none : {a b : Simulation L} (asks : List Ask) → GoesOn lawful may a p [] b → GoesAlong lawful may a p asks b
  along_none asks goes = record { asked = []; behind = asks; front = refl; goes = goes }

  along_then : {a b c : Simulation L} {asks : List Ask} → GoesAlong lawful may a p asks b → GoesOn lawful may b p [] c → GoesAlong lawful may a p asks c
  along_then along goes = record {
    asked = along.asked ++ [];
    behind = along.behind;
    front = along.front ∙ ap (λ (list : List Ask). list ++ along.behind) (sym (append-nil along.asked));
    goes = goes_on along.goes goes;
  }

  -- It was asked for the first ones, not yet to finish.
  pub body_along : {a b : Simulation L} {asks : List Ask} → GoesAlong lawful may a p asks b → BodyGoes lawful may a p asks b
  body_along {asks = asks} along = let more = along_more (Finish ∷ []) along in record { came = more.asked; asked = inl (more.behind, more.front); goes = more.goes }

  pub body_from : {a b c : Simulation L} {asks : List Ask} → GoesOn lawful may a p [] b → BodyGoes lawful may b p asks c → BodyGoes lawful may a p asks c
  body_from first body = record { came = body.came; asked = body.asked; goes = goes_on first body.goes }

  -- Who is over isn't asked to finish.
  body_end : {a b c : Simulation L} {asks : List Ask} → GoesAlong lawful may a p asks b → ComesThrough lawful may a p asks b → Finishes lawful may b p c → IsClosing (attempt_in c p).stage → BodyGoes lawful may a p asks c
  unfolding IsClosing
  body_end along through (inl goes) closing = body_along (along_then along goes)
  body_end {asks = asks} along (inl whole) (inr asked) closing = record { came = asks ++ Finish ∷ []; asked = inl ([], sym (append-nil (asks ++ Finish ∷ []))); goes = goes_on whole asked.1 }
  body_end {b = b} along (inr (inl over)) (inr asked) closing = closing_waits (attempt_in b p).stage (rw over tt) asked.0.stands
  body_end {c = c} along (inr (inr cut)) (inr asked) closing = record {
    came = cut.front ++ Finish ∷ [];
    asked = inr (
      record { front = cut.front; close = cut.close; behind = cut.behind; closes = cut.closes; whole = cut.whole; last = refl },
      gone_rolled (attempt_in c p).stage (attempt_in c p).ending closing (asked.1.lost cut.lost),
    );
    goes = goes_on cut.goes asked.1;
  }

  -- A body from its first reply: asked for all of these, and then to finish.
  pub body_whole : {a b c d : Simulation L} {asks : List Ask} → GoesOn lawful may a p [] b → GoesAlong lawful may b p asks c → ComesThrough lawful may b p asks c → Finishes lawful may c p d
      → IsClosing (attempt_in d p).stage → BodyGoes lawful may a p asks d
  body_whole first along through last closing = body_from first (body_end along through last closing)

  -- ---- one ask of a body

  pub goes_settled : {a b c : Simulation L} {asks : List Ask} → GoesOn lawful may a p asks b → GoesOn lawful may b p [] c → GoesOn lawful may a p asks c
  goes_settled {a = a} {c = c} {asks = asks} first second = subst (λ (list : List Ask). GoesOn lawful may a p list c) (append-nil asks) (goes_on first second)

  pub still_ending : {a b : Simulation L} {asks : List Ask} → GoesOn lawful may a p asks b → IsEnding (attempt_in a p) → IsEnding (attempt_in b p)
  still_ending goes (inl closing) = inl (goes.closes closing)
  still_ending goes (inr late) = inr (let more = goes.turn in omega (arith, late, more))

  -- It was asked for the front of these.
  pub along_front : {a b : Simulation L} {asks : List Ask} (index : ℕ) → GoesOn lawful may a p (take index asks) b → GoesAlong lawful may a p asks b
  along_front {asks = asks} index goes = record { asked = take index asks; behind = drop index asks; front = sym (take-append-drop index asks); goes = goes }

  always_here : {a here : Simulation L} (asks : List Ask) (index : ℕ) → index < length asks → All (IsAlwaysTaken (length a.opening)) asks → GoesOn lawful may a p (take index asks) here
      → IsAlwaysTaken (length here.opening) (ask_in asks index)
  always_here {a = a} asks index within taken goes = subst (λ (size : ℕ). IsAlwaysTaken size (ask_in asks index)) (ap length (sym goes.leads.terms.opening))
      (All-get_or (IsAlwaysTaken (length a.opening)) asks index (Get (record { 0 = 0 })) within taken)

  module _ {a here : Simulation L} (asks : List Ask) (index : ℕ) (within : index < length asks) (goes : GoesOn lawful may a p (take index asks) here) (own : (attempt_in here p).turn ≡ 0) (waits : AwaitsAsk (attempt_in here p)) where
    pub goes_more : {after : Simulation L} → Invariant lawful may here → IsCaller (terms_in here) p → IsSameOf p here after
        → Happens lawful may here (Moves p (Takes (ask_in asks index))) after ⊎ Happens lawful may here (Moves p (OutOfMemory (ask_in asks index))) after → GoesOn lawful may a p (take (index + 1) asks) after
    goes_more {after = after} whole caller same asked = subst (λ (list : List Ask). GoesOn lawful may a p list after) (sym (take_more asks index _ within))
        (goes_on goes (asks_on p whole.world whole.shows caller same (ask_in asks index) own waits asked))

  -- What is owed by the asks behind is met where it was by all of them.
  pub meets_behind : {a b : Simulation L} (asks : List Ask) (index : ℕ) (more : List Ask) → GoesOn lawful may a p (take index asks) b → MeetsOwedBy lawful may a p (asks ++ more) → MeetsOwedBy lawful may b p (drop index asks ++ more)
  meets_behind {a = a} asks index more goes owed =
      let whole : asks ++ more ≡ take index asks ++ (drop index asks ++ more) =
      ap (λ (list : List Ask). list ++ more) (sym (take-append-drop index asks)) ∙ append_assoc (take index asks) (drop index asks) more in
      goes.meets (drop index asks ++ more) (subst (λ (list : List Ask). MeetsOwedBy lawful may a p list) whole owed)

  module _ {a here : Simulation L} (asks : List Ask) (index : ℕ) (within : index < length asks) (taken : All (IsAlwaysTaken (length a.opening)) asks) (goes : GoesOn lawful may a p (take index asks) here)
      (own : (attempt_in here p).turn ≡ 0) (waits : AwaitsAsk (attempt_in here p)) (more : List Ask) (owed : MeetsOwedBy lawful may a p (asks ++ more)) where
    next_asks : drop index asks ≡ ask_in asks index ∷ drop (index + 1) asks
    next_asks = drop_more asks index (Get (record { 0 = 0 })) within

    meets_next : MeetsOwedBy lawful may here p (ask_in asks index ∷ (drop (index + 1) asks ++ more))
    meets_next = subst (λ (list : List Ask). MeetsOwedBy lawful may here p (list ++ more)) next_asks (meets_behind asks index more goes owed)

    -- Who isn't asked for the next of these is cut off.
    pub cut_here : (IsAskable (length here.opening) (attempt_in here p) (ask_in asks index) → ⊥) → CutsOff lawful may a p asks here
    cut_here not = let always = always_here asks index within taken goes in elim (taken_or_none (length here.opening) (ask_in asks index) always (attempt_in here p) own) [
      | inl able ↦ absurd (not (record { waits = waits; able = able }))
      | inr none ↦ record {
        front = take index asks;
        close = ask_in asks index;
        behind = drop (index + 1) asks;
        closes = none.0;
        whole = sym (take-append-drop index asks) ∙ ap (λ (list : List Ask). take index asks ++ list) next_asks;
        goes = goes;
        lost = lost_here (lawful here.law) (may here.law) (length here.opening) (attempt_in here p) (attempt_in here p).stage (ask_in asks index) (drop (index + 1) asks ++ more) own none.1 none.0 waits.stands meets_next;
      }
    ]
