-- What a run without maps leaves as it was.
use Rattle.std.proofs.Common.{◌≡◌, ◌+◌, ◌-◌, ◌^◌, ℕ, Bool, true, false, if◌then◌else◌, nat_lt, refl, sym, subst, ◌∙◌}
use Rattle.std.specs.List.{AllByRecursion}
use Rattle.ledger_model.specs.Fits.{Places}
use Rattle.ledger_model.specs.Run.{State, Outcome, Meaning, End, Kept, Failed, Retried, kept, and_then, undone, undone_unless_kept, caught, or_else, move, moved_into, ref_at, set_ref}
use Rattle.ledger_model.proofs.Moments.{FitsLate}

-- The maps and slots are the same, and nothing is drawn. Where the bodies that wait fit, so do those after it.
pub record Stays (p : Places) (s t : State) : Type 0 where
  pub totals : t.totals ≡ s.totals
  pub maps : t.contents.maps ≡ s.contents.maps
  pub slots : t.contents.slots ≡ s.contents.slots
  pub lates : AllByRecursion (FitsLate p) s.lates → AllByRecursion (FitsLate p) t.lates

module _ (p : Places) where
  pub same : (s t : State) → t.totals ≡ s.totals → t.contents.maps ≡ s.contents.maps → t.contents.slots ≡ s.contents.slots → t.lates ≡ s.lates → Stays p s t
  same s t totals maps slots lates = record { totals = totals; maps = maps; slots = slots; lates = subst (AllByRecursion (FitsLate p)) (sym lates) }

  pub joined : (s t u : State) → Stays p s t → Stays p t u → Stays p s u
  joined s t u h g = record { totals = g.totals ∙ h.totals; maps = g.maps ∙ h.maps; slots = g.slots ∙ h.slots; lates = λ fit. g.lates (h.lates fit) }

  pub back : (s t : State) → Stays p s t → Stays p s (undone s t)
  back s t h = record { totals = h.totals; maps = refl; slots = refl; lates = λ fit. fit }

  -- what a part of a run keeps so
  abbrev pub Keeps : Meaning → Type 0
  Keeps does = (s : State) → Stays p s (does s).after

  -- ---- parts

  pub next : (o : Outcome) (s : State) (more : Meaning) → Stays p s o.after → Keeps more → Stays p s (and_then o more).after
  next o s more h rest = by_end o.end o.after h where
    by_end : (end : End) (after : State) → Stays p s after → Stays p s (and_then (record { end = end; after = after }) more).after
    by_end Kept after h = joined s after _ h (rest after)
    by_end (Failed code) after h = h
    by_end Retried after h = h

  pub unless_kept : (o : Outcome) (s : State) → Stays p s o.after → Stays p s (undone_unless_kept s o).after
  unless_kept o s h = by_end o.end o.after h where
    by_end : (end : End) (after : State) → Stays p s after → Stays p s (undone_unless_kept s (record { end = end; after = after })).after
    by_end Kept after h = h
    by_end (Failed code) after h = back s after h
    by_end Retried after h = back s after h

  pub catches : (r : ℕ) (o : Outcome) (s : State) → Stays p s o.after → Stays p s (caught r o).after
  catches r o s h = by_end o.end o.after h where
    by_end : (end : End) (after : State) → Stays p s after → Stays p s (caught r (record { end = end; after = after })).after
    by_end Kept after h = joined s after _ h (same after _ refl refl refl refl)
    by_end (Failed code) after h = joined s after _ h (same after _ refl refl refl refl)
    by_end Retried after h = h

  pub or_next : (o : Outcome) (s : State) (more : Meaning) → Stays p s o.after → Keeps more → Stays p s (or_else o more).after
  or_next o s more h rest = by_end o.end o.after h where
    by_end : (end : End) (after : State) → Stays p s after → Stays p s (or_else (record { end = end; after = after }) more).after
    by_end Kept after h = h
    by_end (Failed code) after h = h
    by_end Retried after h = joined s after _ h (rest after)

  -- ---- statements that have no others inside

  pub by_test : (b : Bool) (s : State) (o other : Outcome) → Stays p s o.after → Stays p s other.after → Stays p s (if b then o else other).after
  by_test true s o other h g = h
  by_test false s o other h g = g

  pub ends : (b : Bool) (end : End) (s : State) → Stays p s (if b then record { end = end; after = s } else kept s).after
  ends b end s = by_test b s (record { end = end; after = s }) (kept s) (same s s refl refl refl refl) (same s s refl refl refl refl)

  pub moves : (from into n : ℕ) → Keeps (move from into n)
  moves from into n s =
      let t : State = set_ref from (ref_at from s - n) s in
      by_test (nat_lt (ref_at from s) n) s (record { end = Failed 1; after = s }) (moved_into into n t) (same s s refl refl refl refl)
      (by_test (nat_lt (ref_at into t + n) (2 ^ 64)) s (kept (set_ref into (ref_at into t + n) t)) (record { end = Failed 2; after = t }) (same s _ refl refl refl refl) (same s t refl refl refl refl))
