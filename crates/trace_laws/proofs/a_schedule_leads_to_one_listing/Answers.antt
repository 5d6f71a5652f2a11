use Rattle.std.proofs.Common.{◌≡◌, ℕ, zero, suc, Option, None, refl, sym, ap, subst, ◌∙◌}
use Rattle.stm_model.specs.declared.settings.Settings.{Settings}
use Rattle.std.specs.Option.{option_map_or}
use Rattle.ledger_model.specs.declared.job.Job.{Job}
use Rattle.ledger_model.specs.declared.listing.Listing.{Listing}
use Rattle.ledger_model.specs.Traced.{IsListed, Trace, onward, turn, whose}
use Rattle.trace_laws.proofs.RowsInOrder.{one_order}
use Rattle.trace_laws.proofs.a_schedule_leads_to_one_listing.Goals as goal

module _ (job : Job) (settings : Settings) where
  abbrev next : Trace → Trace
  next s = option_map_or (λ p. turn job settings p s) (whose job settings s) s

  -- Where it is nobody's turn, no turn changes anything.
  stands : (count : ℕ) (s : Trace) → whose job settings s ≡ None → onward job settings count s ≡ s
  unfolding onward
  stands zero s over = refl
  stands (suc count) s over =
      let same : next s ≡ s = ap (λ (p : Option ℕ). option_map_or (λ p. turn job settings p s) p s) over in
      ap (λ (u : Trace). onward job settings count u) same ∙ stands count s over

  one_last : (m n : ℕ) (s a b : Trace) → onward job settings m s ≡ a → onward job settings n s ≡ b → whose job settings a ≡ None → whose job settings b ≡ None → a ≡ b
  unfolding onward
  one_last zero n s a b first second over done = sym first ∙ sym (stands n s (ap (λ (t : Trace). whose job settings t) first ∙ over)) ∙ second
  one_last (suc m) zero s a b first second over done = sym first ∙ stands (suc m) s (ap (λ (t : Trace). whose job settings t) second ∙ done) ∙ second
  one_last (suc m) (suc n) s a b first second over done = one_last m n (next s) a b first second over done

  one_listing : (s : Trace) (a b : Listing) → IsListed job s a → IsListed job s b → a ≡ b
  one_listing s a b first second =
      let rows : a.rows ≡ b.rows = one_order s.rows a.rows b.rows first.rows second.rows first.in_order second.in_order in
      by_fields a b rows (first.rolled ∙ sym second.rolled) (first.blocked ∙ sym second.blocked) (first.worn ∙ sym second.worn) (first.contents ∙ sym second.contents) where
        by_fields : (a b : Listing) → a.rows ≡ b.rows → a.rolled ≡ b.rolled → a.blocked ≡ b.blocked → a.worn ≡ b.worn → a.contents ≡ b.contents → a ≡ b
        by_fields a b rows rolled blocked worn contents = rw (rows, rolled, blocked, worn, contents) refl

pub returns : goal.returns
returns c = λ job settings a b first second.
    let same = one_last job settings first.count second.count _ first.last second.last first.reached second.reached first.over second.over in
    one_listing job settings second.last a b (subst (λ (s : Trace). IsListed job s a) same first.listed) second.listed
