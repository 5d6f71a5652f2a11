-- What a simulation shows after an event, where of its attempts only the caller's changed.
use Rattle.std.proofs.Common.{◌≡◌, ◌≢◌, ℕ, ◌-◌, ◌<◌, ◌≤◌, Bool, true, false, nat_eq, List, length, get_or, set, Option, Some, None, ap, sym, ◌∙◌, refl, subst, arith}
use Rattle.std.proofs.lemmas.Bool.Decides.{nat_tests}
use Rattle.std.proofs.lemmas.List.{get_or-set_other, get_or-set_same, length-set}
use Rattle.meta_word.specs.declared.status.TheConstants.{MAX_SERIAL}
use Rattle.opacity.proofs.Effects.{others_views}
use Rattle.opacity.specs.Effects.{caller_of}
use Rattle.stm_core.specs.Machine.{Machine, SettingsFit}
use Rattle.stm_model.specs.Attempt.{Attempt}
use Rattle.stm_model.specs.Safe.{Safe}
use Rattle.stm_model.specs.World.{Event, IsCaller, MayHappen, Terms, View, World, attempt_of, happened, world_of}
use Rattle.stm_model.specs.declared.settings.Settings.{Settings}
use Rattle.world_run.specs.Simulation.{Simulation, Happens, HasSameTerms, InvariantOn, Shows, attempt_in, latest, machine_at, terms_in}

same_place : (q p : ℕ) → nat_eq q p ≡ true → q ≡ p
same_place q p is = grind (arith, nat_tests)

other_place : (q p : ℕ) → nat_eq q p ≡ false → q ≢ p
other_place q p is = grind (arith, nat_tests)

other_seat : (q p : ℕ) → 0 < q → 0 < p → q ≢ p → q - 1 ≢ p - 1
other_seat q p above over apart = λ same. apart (omega (arith, same))

-- ---- what stays as it is

pub same_terms : {L : Type 0} {before after : Simulation L} → HasSameTerms before after → terms_in after ≡ terms_in before
same_terms same = λ i. record { opening = same.opening i; callers = (same.settings i).callers; limit = (same.settings i).clock }

pub none_changed : {L : Type 0} (c : Simulation L) → HasSameTerms c c
none_changed c = record { law = refl; opening = refl; settings = refl }

pub terms_on : {L : Type 0} {a b c : Simulation L} → HasSameTerms a b → HasSameTerms b c → HasSameTerms a c
terms_on first second = record { law = second.law ∙ first.law; opening = second.opening ∙ first.opening; settings = second.settings ∙ first.settings }

pub caller_then : {L : Type 0} {before after : Simulation L} (p : ℕ) → HasSameTerms before after → IsCaller (terms_in before) p → IsCaller (terms_in after) p
caller_then p same caller = subst (λ (terms : Terms). IsCaller terms p) (sym (same_terms same)) caller

pub caller_before : {L : Type 0} {before after : Simulation L} (p : ℕ) → HasSameTerms before after → IsCaller (terms_in after) p → IsCaller (terms_in before) p
caller_before p same caller = subst (λ (terms : Terms). IsCaller terms p) (same_terms same) caller

-- What is safe before is safe by the same law and on the same terms.
pub safe_then : {L : Type 0} (lawful : L → List ℕ → Type 0) (may : L → List ℕ → List ℕ → Type 0) {before after : Simulation L} (w : World) → HasSameTerms before after
    → Safe (lawful before.law) (may before.law) (terms_in before) w → Safe (lawful after.law) (may after.law) (terms_in after) w
safe_then lawful may {before = before} {after = after} w same safe =
    subst (λ (terms : Terms). Safe (lawful after.law) (may after.law) terms w) (sym (same_terms same))
    (subst (λ law. Safe (lawful law) (may law) (terms_in before) w) (sym same.law) safe)

-- ---- a caller's seat

-- Of the attempts only the caller's changed: it is this one.
pub record Reseats {L : Type 0} (p : ℕ) (before after : Simulation L) (now : Machine) : Type 0 where
  pub terms : HasSameTerms before after
  pub within : p - 1 < length before.machines
  pub machines : after.machines ≡ set before.machines (p - 1) (Some now)

-- What follows on an event: it happens, and the invariant holds afterwards.
pub record Follows {L : Type 0} (lawful : L → List ℕ → Type 0) (may : L → List ℕ → List ℕ → Type 0) (count clock : ℕ) (before : Simulation L) (event : Event) (after : Simulation L) : Type 0 where
  pub happens : Happens lawful may before event after
  pub invariant : InvariantOn lawful may count clock after

module _ {L : Type 0} {p : ℕ} {before after : Simulation L} {now : Machine} (caller : IsCaller (terms_in before) p) (seats : Reseats p before after now) where
  pub there_now : machine_at after p ≡ Some now
  there_now = ap (λ (list : List (Option Machine)). get_or list (p - 1) None) seats.machines ∙ get_or-set_same before.machines (p - 1) (Some now) None seats.within

  pub own_now : attempt_in after p ≡ now.attempt
  own_now = ap (λ (machine : Option Machine). latest after.settings p machine) there_now

  other_now : (q : ℕ) → 0 < q → q ≢ p → attempt_in after q ≡ attempt_in before q
  other_now q above apart =
      let there : machine_at after q ≡ machine_at before q =
      ap (λ (list : List (Option Machine)). get_or list (q - 1) None) seats.machines
      ∙ get_or-set_other before.machines (p - 1) (q - 1) (Some now) None (other_seat q p above caller.0 apart) in
      ap (λ (each : Settings). latest each q (machine_at after q)) seats.terms.settings ∙ ap (λ (machine : Option Machine). latest before.settings q machine) there

  -- each attempt is as before, or it is the caller's
  split : (P : ℕ → Attempt → Type 0) → P p now.attempt → ((q : ℕ) → q ≢ p → IsCaller (terms_in before) q → P q (attempt_in before q))
      → (q : ℕ) → IsCaller (terms_in after) q → P q (attempt_in after q)
  split P own others q able = go (nat_eq q p) refl
    where
      go : (b : Bool) → nat_eq q p ≡ b → P q (attempt_in after q)
      go true is = rw (same_place q p is) (subst (P p) (sym own_now) own)
      go false is = subst (P q) (sym (other_now q able.0 (other_place q p is))) (others q (other_place q p is) (caller_before q seats.terms able))

  module _ (lawful : L → List ℕ → Type 0) (may : L → List ℕ → List ℕ → Type 0) (event : Event) (is : caller_of event ≡ p)
      (able : (w : World) → Shows lawful may before w → MayHappen (terms_in before) w event)
      (own : (w : World) → Shows lawful may before w → attempt_of (happened w event) p ≡ now.attempt)
      (words : (w : World) → Shows lawful may before w → happened w event ≡ world_of (terms_in before) after.words after.history (happened w event).view)
      (safe : (w : World) → Shows lawful may before w → Safe (lawful before.law) (may before.law) (terms_in before) (happened w event)) where
    shown : (w : World) → Shows lawful may before w → Shows lawful may after (happened w event)
    shown w shows = record {
      words = words w shows ∙ ap (λ (terms : Terms). world_of terms after.words after.history (happened w event).view) (sym (same_terms seats.terms));
      attempts = split (λ q t. attempt_of (happened w event) q ≡ t) (own w shows) others;
      safe = safe_then lawful may (happened w event) seats.terms (safe w shows);
    }
      where
        others : (q : ℕ) → q ≢ p → IsCaller (terms_in before) q → attempt_of (happened w event) q ≡ attempt_in before q
        others q apart here = ap (λ (view : View). view.attempt) (others_views w event q (rw is apart)) ∙ shows.attempts q here

    happens : Happens lawful may before event after
    happens = record { terms = seats.terms; able = able; shows = shown }

    pub follows : (count clock : ℕ) → InvariantOn lawful may count clock before → Follows lawful may count clock before event after
    follows count clock old = record {
      happens = happens;
      invariant = record {
        callers = old.callers ∙ ap (λ (each : Settings). each.callers) (sym seats.terms.settings);
        limit = old.limit ∙ ap (λ (each : Settings). each.clock) (sym seats.terms.settings);
        whole = record {
          size = rw (seats.machines, seats.terms.settings) (length-set before.machines (p - 1) (Some now) ∙ old.whole.size);
          fits = subst SettingsFit (sym seats.terms.settings) old.whole.fits;
          attempts = subst (λ (each : Settings). each.attempts ≤ MAX_SERIAL) (sym seats.terms.settings) old.whole.attempts;
          world = happened old.whole.world event;
          shows = shown old.whole.world old.whole.shows;
        };
      };
    }
