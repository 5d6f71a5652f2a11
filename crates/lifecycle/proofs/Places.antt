-- What stands at a place of a list, by what is left behind others.
use Rattle.std.proofs.Common.{◌≡◌, ℕ, zero, suc, ◌+◌, ◌≤◌, [], ◌∷◌, length, drop, slice_get, Some, None, ap, sym, ◌∙◌, arith, length-drop}
use Rattle.std.proofs.lemmas.List.{drop-drop}
use Rattle.std.proofs.lemmas.Option.{slice_get_past}
use Rattle.stm_model.specs.Handlers.{Handlers}
use Rattle.stm_model.specs.declared.cause.HookPhase.{HookPhase}

pub left_behind : (runs : Handlers) (index : ℕ) (run : HookPhase × ℕ) (behind : Handlers) → drop index runs ≡ run ∷ behind → drop (index + 1) runs ≡ behind
left_behind runs index run behind left = sym (drop-drop 1 index runs) ∙ ap (drop 1) left

pub stands_here : (runs : Handlers) (index : ℕ) (run : HookPhase × ℕ) (behind : Handlers) → drop index runs ≡ run ∷ behind → slice_get runs index ≡ Some run
stands_here [] zero run behind left = absurd (cc left)
stands_here [] (suc index) run behind left = absurd (cc left)
stands_here (first ∷ runs) zero run behind left = cc left
stands_here (first ∷ runs) (suc index) run behind left = stands_here runs index run behind left

pub none_stands : (runs : Handlers) (fewer index : ℕ) → fewer ≤ index → drop fewer runs ≡ [] → slice_get runs index ≡ None
none_stands runs fewer index within left = slice_get_past runs index (omega (arith, length-drop fewer runs, ap length left))
