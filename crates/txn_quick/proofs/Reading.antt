-- A read, access by access. Here op is the read and t the attempt but for where it stands.
use Rattle.std.proofs.Common.{◌≡◌, ◌≢◌, ℕ, List, [], Option, Some, None, IsNone, refl, sym, ap, subst, ◌∙◌}
use Rattle.op_read.specs.Read.{end_of_read, ended_at, reading, reading_at}
use Rattle.op_read.specs.declared.read.ReadEnd.TheVariants.{Bad, Got, NeedExtension}
use Rattle.op_read.specs.declared.read.ReadOp.{ReadOp}
use Rattle.op_read.specs.declared.read.ReadPlace.{ReadPlace}
use Rattle.op_read.specs.declared.read.ReadPlace.TheVariants as at_read
use Rattle.ref_table.specs.Seats.{SeatState}
use Rattle.stm_core.specs.Machine.{IsSameAttempt}
use Rattle.stm_core.specs.Running.{base}
use Rattle.txn_drive.specs.Paying.{Pays}
use Rattle.stm_core.specs.declared.running.Running.{Running}
use Rattle.stm_model.specs.Accesses.{answer_of, next_access, next_at}
use Rattle.stm_model.specs.After.{after_at, after_word, at}
use Rattle.stm_model.specs.Attempt.{Attempt, Due, ReadMeta, ReadValue, Stage, Validate}
use Rattle.stm_model.specs.Handlers.{Handlers}
use Rattle.stm_model.specs.World.{Terms}
use Rattle.stm_model.specs.declared.access.Access.{Access}
use Rattle.stm_model.specs.declared.cause.Addr.{Addr}
use Rattle.meta_word.specs.declared.meta.Meta.{Meta}
use Rattle.txn_drive.specs.Going.{Goes}
use Rattle.txn_drive.specs.Moment.{moment}
use Rattle.txn_drive.specs.Stepping.{MayAccess}
use Rattle.txn_drive.specs.Standing.{IsOn}
use Rattle.txn_drive.proofs.Here.{may_access}
use Rattle.txn_drive.proofs.Onward.{accessed_goes, goes_on}
use Rattle.txn_drive.proofs.Owing.{IsCalm, calm_next, calm_pays}
use Rattle.txn_quick.specs.Reads.{IsUnderWay, LoadsValue, ReadsOn, cell_loaded, meta_loaded, to_read}
use Rattle.txn_quick.proofs.Steps.{none_due_so}

-- ---- where it stands

-- It makes one of the accesses of a read.
abbrev Reads : Stage → Type 0
Reads (ReadMeta cell left) = Unit {0}
Reads (ReadValue cell left first) = Unit {0}
Reads (Validate cell left first value) = Unit {0}
Reads _ = ⊥

going_at : (t : Attempt) (cell left : ℕ) (place : ReadPlace) → Reads (reading_at t cell left place).stage → ended_at place ≡ None
going_at t cell left (at_read.Ended (Got value version)) reads = absurd reads
going_at t cell left (at_read.Ended (NeedExtension meta)) reads = absurd reads
going_at t cell left (at_read.Ended (Bad cause)) reads = absurd reads
going_at t cell left _ reads = refl

-- The read goes on where its attempt makes one of its accesses.
pub going_so : (op : ReadOp) (t u : Attempt) → reading op t ≡ u → Reads u.stage → end_of_read op ≡ None
going_so op t u is reads = going_at t op.addr.0 op.left op.place (subst (λ (a : Attempt). Reads a.stage) (sym is) reads)

calm_at : (t : Attempt) (cell left : ℕ) (place : ReadPlace) → IsCalm (reading_at t cell left place).stage
unfolding IsCalm
calm_at t cell left at_read.ReadMeta = tt
calm_at t cell left (at_read.ReadValue first) = tt
calm_at t cell left (at_read.Validate first value) = tt
calm_at t cell left (at_read.Ended (Got value version)) = tt
calm_at t cell left (at_read.Ended (NeedExtension meta)) = tt
calm_at t cell left (at_read.Ended (Bad cause)) = tt

pub reading_calm : (op : ReadOp) (t : Attempt) → IsCalm (reading op t).stage
reading_calm op t = calm_at t op.addr.0 op.left op.place

-- It owes nothing.
pub reading_pays : (lawful : List ℕ → Type 0) (may : List ℕ → List ℕ → Type 0) (size : ℕ) (op : ReadOp) (t u : Attempt) → u ≡ reading op t → Pays lawful may size u
reading_pays lawful may size op t u is = subst (Pays lawful may size) (sym is) (calm_pays lawful may size (reading op t) (reading_calm op t))

same_at : (t : Attempt) (cell left : ℕ) (place : ReadPlace) → IsSameAttempt t (reading_at t cell left place)
same_at t cell left at_read.ReadMeta = record { own = refl; serial = refl; settings = refl }
same_at t cell left (at_read.ReadValue first) = record { own = refl; serial = refl; settings = refl }
same_at t cell left (at_read.Validate first value) = record { own = refl; serial = refl; settings = refl }
same_at t cell left (at_read.Ended (Got value version)) = record { own = refl; serial = refl; settings = refl }
same_at t cell left (at_read.Ended (NeedExtension meta)) = record { own = refl; serial = refl; settings = refl }
same_at t cell left (at_read.Ended (Bad cause)) = record { own = refl; serial = refl; settings = refl }

pub reading_same : (op later : ReadOp) (t : Attempt) → IsSameAttempt (reading op t) (reading later t)
reading_same op later t =
    let before = same_at t op.addr.0 op.left op.place in
    let after = same_at t later.addr.0 later.left later.place in
    record { own = after.own ∙ sym before.own; serial = after.serial ∙ sym before.serial; settings = after.settings ∙ sym before.settings }

-- ---- its next access

-- the access that comes next
pub record Next (t : Attempt) : Type 0 where
  pub access : Access
  pub is : next_access t ≡ Some access

some_next : (t : Attempt) (this : Option Access) → next_access t ≡ this → this ≢ None → Next t
some_next t None is some = absurd (some refl)
some_next t (Some access) is some = record { access = access; is = is }

goes_at : (t : Attempt) (cell left : ℕ) (place : ReadPlace) → ended_at place ≡ None → t.due ≡ [] → next_access (reading_at t cell left place) ≢ None
unfolding next_at
goes_at t cell left at_read.ReadMeta going due = rw due (λ none. cc none)
goes_at t cell left (at_read.ReadValue first) going due = rw due (λ none. cc none)
goes_at t cell left (at_read.Validate first value) going due = rw due (λ none. cc none)
goes_at t cell left (at_read.Ended end) going due = absurd (cc going)

pub makes_access : (r : Running) (op : ReadOp) → IsUnderWay r op → next_access (reading op (base r)) ≢ None
makes_access r op here = goes_at (base r) op.addr.0 op.left op.place here.going (none_due_so r here.nothing_due)

-- It may make the access that comes next.
pub may_read : (lawful : List ℕ → Type 0) (may : List ℕ → List ℕ → Type 0) (terms : Terms) (seat : SeatState) (t : Attempt) (op : ReadOp) (access : Access) → IsOn lawful may terms seat (reading op t) → next_access (reading op t) ≡ Some access
    → MayAccess lawful may terms seat.view access (reading op t)
may_read lawful may terms seat t op access on comes = may_access lawful may terms seat (reading op t) on access comes (λ old takes. absurd (calm_next (reading op t) old (reading_calm op t) takes))

-- ---- what it finds

value_found : (t : Attempt) (due : List Due) (cell left : ℕ) (first : Meta) (value : ℕ) → t.due ≡ due → due ≡ [] → after_word (at t (ReadValue cell left first)) value ≡ at t (Validate cell left first value)
unfolding next_at after_at answer_of
value_found t due cell left first value here nothing = rw (here ∙ nothing) refl

-- Where it loads the value, it validates the meta word next.
pub validates : (t : Attempt) (cell left : ℕ) (first : Meta) (value : ℕ) → t.due ≡ [] → Reads (after_word (at t (ReadValue cell left first)) value).stage
validates t cell left first value nothing = subst (λ (a : Attempt). Reads a.stage) (sym (value_found t t.due cell left first value refl nothing)) tt

pub place_so : (op : ReadOp) (t : Attempt) (place : ReadPlace) (addr : Addr) → op.place ≡ place → op.addr ≡ addr → reading op t ≡ reading_at t addr.0 op.left place
place_so op t place addr is cell = ap (λ (y : ReadPlace × Addr). reading_at t y.1.0 op.left y.0) (λ i. (is i, cell i))

-- ---- its accesses, one after another

module _ (lawful : List ℕ → Type 0) (may : List ℕ → List ℕ → Type 0) (terms : Terms) (r : Running) where
  -- It goes on by its access.
  pub read_goes : (before after : SeatState) (op later : ReadOp) (found : ℕ) → IsUnderWay r op → ReadsOn lawful may terms r before op found after later
      → (runs : Option Handlers) (rings : Option (List ℕ)) → Goes (moment before (reading op (base r)) runs rings) (moment after (reading later (base r)) runs rings)
  read_goes before after op later found here made runs rings =
      let t = reading op (base r) in
      let this = some_next t (next_access t) refl (makes_access r op here) in
      accessed_goes lawful may terms before after t (reading later (base r)) runs rings this.access made.accesses this.is

  module _ (addr : Addr) (seat one : SeatState) (op next : ReadOp) (first : ℕ) (begins : reading op (base r) ≡ to_read r addr) (cell : op.addr ≡ addr) (here : IsUnderWay r op) (made : ReadsOn lawful may terms r seat op first one next) where
    pub meta_so : reading next (base r) ≡ meta_loaded r addr first
    meta_so = made.finds ∙ ap (λ (t : Attempt). after_word t first) begins

    pub first_goes : (runs : Option Handlers) (rings : Option (List ℕ)) → Goes (moment seat (to_read r addr) runs rings) (moment one (meta_loaded r addr first) runs rings)
    first_goes runs rings = subst (λ (t : Attempt). Goes (moment seat t runs rings) (moment one (meta_loaded r addr first) runs rings)) begins
        (subst (λ (t : Attempt). Goes (moment seat (reading op (base r)) runs rings) (moment one t runs rings)) meta_so (read_goes seat one op next first here made runs rings))

    module _ (meta : Meta) (place : next.place ≡ at_read.ReadValue meta) where
      pub loads_so : reading next (base r) ≡ at (base r) (ReadValue addr.0 next.left meta)
      loads_so = place_so next (base r) (at_read.ReadValue meta) addr place (made.cell ∙ cell)

      pub loads_value : LoadsValue r addr first
      loads_value = record { left = next.left; meta = meta; is = sym meta_so ∙ loads_so }

      pub value_under_way : IsUnderWay r next
      value_under_way = record { reads = made.reads; going = ap (λ (place : ReadPlace). ended_at place) place; nothing_due = here.nothing_due }

      module _ (two : SeatState) (then : ReadOp) (value : ℕ) (made_then : ReadsOn lawful may terms r one next value two then) where
        pub then_under_way : IsUnderWay r then
        then_under_way = record {
          reads = made_then.reads;
          going = going_so then (base r) (after_word (at (base r) (ReadValue addr.0 next.left meta)) value) (made_then.finds ∙ ap (λ (t : Attempt). after_word t value) loads_so)
              (validates (base r) addr.0 next.left meta value (none_due_so r here.nothing_due));
          nothing_due = here.nothing_due;
        }

        module _ (three : SeatState) (last : ReadOp) (second : ℕ) (made_last : ReadsOn lawful may terms r two then second three last) where
          pub loaded_so : reading last (base r) ≡ cell_loaded r addr first value second
          loaded_so = made_last.finds ∙ ap (λ (t : Attempt). after_word t second) (made_then.finds ∙ ap (λ (t : Attempt). after_word t value) meta_so)

          pub all_go : (u : Attempt) → reading last (base r) ≡ u → (runs : Option Handlers) (rings : Option (List ℕ)) → Goes (moment seat (to_read r addr) runs rings) (moment three u runs rings)
          all_go u is runs rings =
              let a = moment seat (to_read r addr) runs rings in
              let b = moment one (reading next (base r)) runs rings in
              let c = moment two (reading then (base r)) runs rings in
              let d = moment three (reading last (base r)) runs rings in
              let begun = subst (λ (t : Attempt). Goes (moment seat t runs rings) b) begins (read_goes seat one op next first here made runs rings) in
              subst (λ (t : Attempt). Goes a (moment three t runs rings)) is
              (goes_on a c d (goes_on a b c begun (read_goes one two next then value value_under_way made_then runs rings)) (read_goes two three then last second then_under_way made_last runs rings))

-- ---- the same words, taken once more

pub taken_so : (op later : ReadOp) (t u : Attempt) (word : ℕ) → reading op t ≡ u → after_word (reading op t) word ≡ reading later t → reading later t ≡ after_word u word
taken_so op later t u word is taken = sym taken ∙ ap (λ (a : Attempt). after_word a word) is

-- A read that has loaded the value goes on.
pub value_taken : (r : Running) (addr : Addr) (first value : ℕ) (then : ReadOp) → LoadsValue r addr first → (base r).due ≡ [] → reading then (base r) ≡ after_word (meta_loaded r addr first) value → IsNone (end_of_read then)
value_taken r addr first value then loads due is =
    let going = going_so then (base r) (after_word (at (base r) (ReadValue addr.0 loads.left loads.meta)) value) (is ∙ ap (λ (t : Attempt). after_word t value) loads.is)
    (validates (base r) addr.0 loads.left loads.meta value due) in
    rw going refl
