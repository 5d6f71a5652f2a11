-- A first write, access by access. Here op is the first write and t the attempt but for where it stands.
use Rattle.std.proofs.Common.{◌≡◌, ℕ, Bool, List, [], Option, Some, IsNone, IsFalse, false, refl, sym, ap, subst, ◌∙◌, inl}
use Rattle.meta_word.specs.Policy.{looks}
use Rattle.meta_word.specs.declared.meta.Meta.{Meta}
use Rattle.op_commit.specs.Acquire.{acquiring, acquiring_at, end_at, end_of_acquire, rounds_left, wrote}
use Rattle.op_commit.specs.declared.acquire.AcquireEnd.TheVariants.{Bad, Owned}
use Rattle.op_commit.specs.declared.acquire.AcquireOp.{AcquireOp}
use Rattle.op_commit.specs.declared.acquire.AcquirePlace.{AcquirePlace}
use Rattle.op_commit.specs.declared.acquire.AcquirePlace.TheVariants as at_acquire
use Rattle.ref_table.specs.Seats.{SeatState}
use Rattle.stm_core.proofs.Asking.{going_taken, waits_at}
use Rattle.stm_core.specs.Machine.{IsSameAttempt}
use Rattle.stm_core.specs.Running.{base, shown}
use Rattle.stm_core.specs.declared.running.Running.{Running}
use Rattle.stm_model.specs.Accesses.{ExchangeMeta, access_of, meta_of_cell, next_access, next_at, owned}
use Rattle.stm_model.specs.After.{after_word, at}
use Rattle.stm_model.specs.Attempt.{Acquire, AcquireMeta, Attempt, Stage}
use Rattle.stm_model.specs.Handlers.{Handlers}
use Rattle.stm_model.specs.Heap.{writes_to}
use Rattle.stm_model.specs.Moves.{Takes, asked_going, moved}
use Rattle.stm_model.specs.World.{Terms}
use Rattle.stm_model.specs.declared.access.Access.{Access}
use Rattle.stm_model.specs.declared.access.Access.TheVariants.{Load}
use Rattle.stm_model.specs.declared.access.Ask.TheVariants.{Set}
use Rattle.stm_model.specs.declared.cause.Addr.{Addr}
use Rattle.txn_drive.specs.Going.{Goes}
use Rattle.txn_drive.specs.Moment.{moment}
use Rattle.txn_drive.specs.Paying.{Pays}
use Rattle.txn_drive.specs.Standing.{IsOn}
use Rattle.txn_drive.specs.Stepping.{MayAccess}
use Rattle.txn_drive.proofs.Here.{may_access}
use Rattle.txn_drive.proofs.Onward.{accessed_goes, goes_on}
use Rattle.txn_drive.proofs.Owing.{IsCalm, calm_next, calm_pays}
use Rattle.txn_quick.specs.Writing.{IsFirstWrite, ToExchange, WritesOn, owner_exchanged, owner_loaded, to_write}

-- ---- where it stands

calm_at : (op : AcquireOp) (value : ℕ) (t : Attempt) (place : AcquirePlace) → IsCalm (acquiring_at op value t place).stage
unfolding IsCalm
calm_at op value t at_acquire.AcquireMeta = tt
calm_at op value t (at_acquire.Acquire first expected again) = tt
calm_at op value t (at_acquire.OwnerStatus first) = tt
calm_at op value t (at_acquire.OwnerMeta first status) = tt
calm_at op value t (at_acquire.DoomOwner first second status) = tt
calm_at op value t (at_acquire.Ended (Owned meta)) = tt
calm_at op value t (at_acquire.Ended (Bad cause)) = tt

acquiring_calm : (op : AcquireOp) (value : ℕ) (t : Attempt) → IsCalm (acquiring op value t).stage
acquiring_calm op value t = calm_at op value t op.place

-- It owes nothing.
pub acquiring_pays : (lawful : List ℕ → Type 0) (may : List ℕ → List ℕ → Type 0) (size : ℕ) (op : AcquireOp) (value : ℕ) (t u : Attempt) → u ≡ acquiring op value t → Pays lawful may size u
acquiring_pays lawful may size op value t u is = subst (Pays lawful may size) (sym is) (calm_pays lawful may size (acquiring op value t) (acquiring_calm op value t))

same_at : (op : AcquireOp) (value : ℕ) (t : Attempt) (place : AcquirePlace) → IsSameAttempt t (acquiring_at op value t place)
same_at op value t at_acquire.AcquireMeta = record { own = refl; serial = refl; settings = refl }
same_at op value t (at_acquire.Acquire first expected again) = record { own = refl; serial = refl; settings = refl }
same_at op value t (at_acquire.OwnerStatus first) = record { own = refl; serial = refl; settings = refl }
same_at op value t (at_acquire.OwnerMeta first status) = record { own = refl; serial = refl; settings = refl }
same_at op value t (at_acquire.DoomOwner first second status) = record { own = refl; serial = refl; settings = refl }
same_at op value t (at_acquire.Ended (Owned meta)) = record { own = refl; serial = refl; settings = refl }
same_at op value t (at_acquire.Ended (Bad cause)) = record { own = refl; serial = refl; settings = refl }

pub acquiring_same : (op later : AcquireOp) (value : ℕ) (t : Attempt) → IsSameAttempt (acquiring op value t) (acquiring later value t)
acquiring_same op later value t =
    let before = same_at op value t op.place in
    let after = same_at later value t later.place in
    record { own = after.own ∙ sym before.own; serial = after.serial ∙ sym before.serial; settings = after.settings ∙ sym before.settings }

-- It makes the exchange.
abbrev Exchanging : Stage → Type 0
Exchanging (Acquire cell value left tried first expected again) = Unit {0}
Exchanging _ = ⊥

going_at : (op : AcquireOp) (value : ℕ) (t : Attempt) (place : AcquirePlace) → Exchanging (acquiring_at op value t place).stage → IsNone (end_at place)
going_at op value t (at_acquire.Ended (Owned meta)) exchanging = absurd exchanging
going_at op value t (at_acquire.Ended (Bad cause)) exchanging = absurd exchanging
going_at op value t _ exchanging = refl

-- A first write that is to exchange the meta word goes on.
pub exchange_goes_on : (r : Running) (addr : Addr) (value first : ℕ) (op : AcquireOp) → ToExchange r addr value first → acquiring op value (base r) ≡ owner_loaded r addr value first → IsNone (end_of_acquire op)
exchange_goes_on r addr value first op exchanges is = going_at op value (base r) op.place (subst (λ (a : Attempt). Exchanging a.stage) (sym (is ∙ exchanges.is)) tt)

exchange_so : (op : AcquireOp) (value : ℕ) (t : Attempt) (addr : Addr) (first expected : Meta) (again : Bool) → op.place ≡ at_acquire.Acquire first expected again → op.addr ≡ addr
    → acquiring op value t ≡ at t (Acquire addr.0 value (rounds_left op) op.doom_tried first expected again)
exchange_so op value t addr first expected again place cell =
    ap (acquiring_at op value t) place ∙ ap (λ (a : Addr). at t (Acquire a.0 value (rounds_left op) op.doom_tried first expected again)) cell

-- Who owns the cell has written it.
pub wrote_so : (op : AcquireOp) (value : ℕ) (t : Attempt) (addr : Addr) (meta : Meta) → op.place ≡ at_acquire.Ended (Owned meta) → op.addr ≡ addr → acquiring op value t ≡ wrote t addr.0 value
wrote_so op value t addr meta place cell = ap (acquiring_at op value t) place ∙ ap (λ (a : Addr). wrote t a.0 value) cell

-- ---- its next access

load_next : (t : Attempt) (cell value left : ℕ) (tried : Bool) → t.due ≡ [] → next_access (at t (AcquireMeta cell value left tried)) ≡ Some (Load (meta_of_cell cell))
unfolding next_at access_of
load_next t cell value left tried due = rw due refl

exchange_next : (t : Attempt) (cell value left : ℕ) (tried : Bool) (first expected : Meta) (again : Bool) → t.due ≡ []
    → next_access (at t (Acquire cell value left tried first expected again)) ≡ Some (access_of (ExchangeMeta cell expected (owned t.own expected)))
unfolding next_at
exchange_next t cell value left tried first expected again due = rw due refl

pub load_comes : (r : Running) (addr : Addr) (value : ℕ) (op : AcquireOp) → acquiring op value (base r) ≡ to_write r addr value → (base r).due ≡ [] → next_access (acquiring op value (base r)) ≡ Some (Load (meta_of_cell addr.0))
load_comes r addr value op begins due = ap next_access begins ∙ load_next (base r) addr.0 value _ _ due

pub exchange_comes : (r : Running) (addr : Addr) (value : ℕ) (op : AcquireOp) (first expected : Meta) (again : Bool) → op.place ≡ at_acquire.Acquire first expected again → op.addr ≡ addr → (base r).due ≡ []
    → next_access (acquiring op value (base r)) ≡ Some (access_of (ExchangeMeta addr.0 expected (owned r.own expected)))
exchange_comes r addr value op first expected again place cell due =
    ap next_access (exchange_so op value (base r) addr first expected again place cell) ∙ exchange_next (base r) addr.0 value _ _ first expected again due

-- It may make the access that comes next.
pub may_write : (lawful : List ℕ → Type 0) (may : List ℕ → List ℕ → Type 0) (terms : Terms) (seat : SeatState) (t : Attempt) (op : AcquireOp) (value : ℕ) (access : Access) → IsOn lawful may terms seat (acquiring op value t) → next_access (acquiring op value t) ≡ Some access
    → MayAccess lawful may terms seat.view access (acquiring op value t)
may_write lawful may terms seat t op value access on comes = may_access lawful may terms seat (acquiring op value t) on access comes (λ old takes. absurd (calm_next (acquiring op value t) old (acquiring_calm op value t) takes))

-- ---- its accesses, one after another

module _ (lawful : List ℕ → Type 0) (may : List ℕ → List ℕ → Type 0) (terms : Terms) (r : Running) (value : ℕ) where
  -- It goes on by its access.
  write_goes : (before after : SeatState) (op later : AcquireOp) (found : ℕ) → WritesOn lawful may terms r value before op found after later
      → (runs : Option Handlers) (rings : Option (List ℕ)) → Goes (moment before (acquiring op value (base r)) runs rings) (moment after (acquiring later value (base r)) runs rings)
  write_goes before after op later found made runs rings =
      accessed_goes lawful may terms before after (acquiring op value (base r)) (acquiring later value (base r)) runs rings made.access made.accesses made.comes

  module _ (addr : Addr) (seat one : SeatState) (op next : AcquireOp) (first : ℕ) (begins : acquiring op value (base r) ≡ to_write r addr value) (cell : op.addr ≡ addr) (made : WritesOn lawful may terms r value seat op first one next) where
    pub loaded_so : acquiring next value (base r) ≡ owner_loaded r addr value first
    loaded_so = made.finds ∙ ap (λ (t : Attempt). after_word t first) begins

    pub load_goes : (runs : Option Handlers) (rings : Option (List ℕ)) → Goes (moment seat (to_write r addr value) runs rings) (moment one (owner_loaded r addr value first) runs rings)
    load_goes runs rings = subst (λ (t : Attempt). Goes (moment seat t runs rings) (moment one (owner_loaded r addr value first) runs rings)) begins
        (subst (λ (t : Attempt). Goes (moment seat (acquiring op value (base r)) runs rings) (moment one t runs rings)) loaded_so (write_goes seat one op next first made runs rings))

    pub to_exchange : (meta expected : Meta) (again : Bool) → next.place ≡ at_acquire.Acquire meta expected again → ToExchange r addr value first
    to_exchange meta expected again place = record {
      left = rounds_left next;
      tried = next.doom_tried;
      meta = meta;
      expected = expected;
      again = again;
      is = sym loaded_so ∙ exchange_so next value (base r) addr meta expected again place (made.cell ∙ cell);
    }

    module _ (two : SeatState) (last : AcquireOp) (found : ℕ) (made_last : WritesOn lawful may terms r value one next found two last) where
      pub exchanged_so : acquiring last value (base r) ≡ owner_exchanged r addr value first found
      exchanged_so = made_last.finds ∙ ap (λ (t : Attempt). after_word t found) loaded_so

      pub both_go : (u : Attempt) → acquiring last value (base r) ≡ u → (runs : Option Handlers) (rings : Option (List ℕ)) → Goes (moment seat (to_write r addr value) runs rings) (moment two u runs rings)
      both_go u is runs rings =
          let a = moment seat (to_write r addr value) runs rings in
          let b = moment one (acquiring next value (base r)) runs rings in
          let c = moment two (acquiring last value (base r)) runs rings in
          let begun = subst (λ (t : Attempt). Goes (moment seat t runs rings) b) begins (write_goes seat one op next first made runs rings) in
          subst (λ (t : Attempt). Goes a (moment two t runs rings)) is (goes_on a b c begun (write_goes one two next last found made_last runs rings))

-- ---- the same words, taken once more

pub taken_so : (op later : AcquireOp) (value : ℕ) (t u : Attempt) (word : ℕ) → acquiring op value t ≡ u → after_word (acquiring op value t) word ≡ acquiring later value t → acquiring later value t ≡ after_word u word
taken_so op later value t u word is taken = sym taken ∙ ap (λ (a : Attempt). after_word a word) is

-- ---- the ask

asked_unwritten : (t : Attempt) (addr : Addr) (value : ℕ) → IsFalse (writes_to t.now.writes addr.0) → asked_going t (Set addr value) ≡ at t (AcquireMeta addr.0 value (looks t.settings.policy) false)
unfolding asked_going
asked_unwritten t addr value unwritten = rw unwritten refl

-- A first write begins by the ask.
pub write_asked : (r : Running) (addr : Addr) (value : ℕ) → IsFirstWrite r addr → to_write r addr value ≡ moved (shown r) (Takes (Set addr value))
write_asked r addr value first =
    let waits = waits_at r (inl (first.told, first.ready)) in
    going_taken r waits (Set addr value) (to_write r addr value) (sym (asked_unwritten _ addr value first.room.unwritten))
