-- Lists of calls that may stop being told.
use Rattle.std.proofs.Common.{◌≡◌, List, [], ◌∷◌, ◌++◌, Option, Some, None, sym, ap, subst, ◌∙◌, append-nil, append_assoc}
use Rattle.stm_model.specs.Calls.{TellsNext}
use Rattle.txn_drive.specs.Calls.{Calls, TellsMore}

module _ {T : Type 0} where
  pub tells_none : (told : Option (List T)) → TellsMore told told []
  tells_none None = tt
  tells_none (Some calls) = sym (append-nil calls)

  pub tells_on : (first second third : Option (List T)) (calls more : List T) → TellsMore first second calls → TellsMore second third more → TellsMore first third (calls ++ more)
  tells_on first second None calls more one two = tt
  tells_on first None (Some all) calls more one two = absurd two
  tells_on None (Some earlier) (Some all) calls more one two = absurd one
  tells_on (Some before) (Some earlier) (Some all) calls more one two = two ∙ (ap (λ (l : List T). l ++ more) one ∙ append_assoc before calls more)

  tells_one : (first second : Option (List T)) (call : T) → TellsNext first second call → TellsMore first second (call ∷ [])
  tells_one first None call one = tt
  tells_one None (Some all) call one = absurd one
  tells_one (Some before) (Some all) call one = one

  pub calls_none : (counted : List T) (told : Option (List T)) → Calls counted counted told told
  calls_none counted told = record { calls = []; counts = sym (append-nil counted); tells = tells_none told }

  pub calls_on : (a b c : List T) (first second third : Option (List T)) → Calls a b first second → Calls b c second third → Calls a c first third
  calls_on a b c first second third one two = record {
    calls = one.calls ++ two.calls;
    counts = two.counts ∙ (ap (λ (l : List T). l ++ two.calls) one.counts ∙ append_assoc a one.calls two.calls);
    tells = tells_on first second third one.calls two.calls one.tells two.tells;
  }

  pub calls_one : (a b : List T) (first second : Option (List T)) (call : T) → b ≡ a ++ call ∷ [] → TellsNext first second call → Calls a b first second
  calls_one a b first second call is told = record { calls = call ∷ []; counts = is; tells = tells_one first second call told }

  pub calls_same : (a b : List T) (first second : Option (List T)) → b ≡ a → second ≡ first → Calls a b first second
  calls_same a b first second is told = record { calls = []; counts = is ∙ sym (append-nil a); tells = subst (λ (o : Option (List T)). TellsMore first o []) (sym told) (tells_none first) }
