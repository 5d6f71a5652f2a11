-- What a run only adds to, and what it leaves as it was.
use Rattle.std.proofs.Common.{◌≡◌, ◌<◌, ◌+◌, ◌-◌, ℕ, zero, suc, false, List, [], ◌∷◌, ◌++◌, length, drop, slice_index, refl, ap, sym, subst, ◌∙◌, arith, append_assoc}
use Rattle.std.proofs.lemmas.List.{append-nil, length-set}
use Rattle.std.proofs.Math.Seq.{drop-append_seam}
use Rattle.stm_model.specs.declared.cause.HookPhase.{HookPhase}
use Rattle.stm_model.specs.Handlers.{undoing}
use Rattle.stm_model.specs.Telling.{Extends}
use Rattle.stm_model.proofs.CellsLemmas.{Extends-refl, Extends-append, Extends-trans}
use Rattle.ledger_model.specs.declared.job.Contents.{Contents}
use Rattle.ledger_model.specs.declared.script.Statement.{Statement}
use Rattle.ledger_model.specs.Growth.{Grows, Rises, SameSizes, SameUnlessWritten, MapsAscend, TotalsRise}
use Rattle.ledger_model.specs.Run.{State, Outcome, Meaning, End, Kept, Failed, Retried, allowance, and_then, map_at, printed, registered, set_map, run_block, meaning, undone, late_bodies, next_late, start, run, statement_count}
use Rattle.ledger_model.specs.Maps.{delete_pair, put_pair}
use Rattle.stm_model.specs.Pairs.{KeysAscend}
use Rattle.ledger_model.proofs.MapLemmas.{All-at, All-set, KeysAscend-delete, KeysAscend-put}
use Rattle.ledger_model.proofs.Carried.{Carried}
use Rattle.ledger_model.proofs.Carried as carried

-- ---- ascending totals

-- the last number, or what came before them
last_from : ℕ → List ℕ → ℕ
last_from low [] = low
last_from low (n ∷ more) = last_from n more

-- the last of a list that isn't empty
last_of_cons : (n : ℕ) (list : List ℕ) → slice_index (n ∷ list) (length list) ≡ last_from n list
unfolding last_from
last_of_cons n [] = refl
last_of_cons n (m ∷ list) = last_of_cons m list

add-one-minus : (n : ℕ) → suc n - 1 ≡ n
add-one-minus n = omega arith

last_is : (list : List ℕ) → slice_index list (length list - 1) ≡ last_from 0 list
unfolding last_from
last_is [] = refl
last_is (n ∷ list) =
    ap (slice_index (n ∷ list)) (add-one-minus (length list)) ∙ last_of_cons n list

last_append : (low : ℕ) (list more : List ℕ) → last_from low (list ++ more) ≡ last_from (last_from low list) more
unfolding last_from
last_append low [] more = refl
last_append low (n ∷ list) more = last_append n list more

pub Rises-nil : (low : ℕ) → Rises low []
unfolding Rises
Rises-nil low = tt

pub Rises-cons : (low n : ℕ) (more : List ℕ) → low < n → Rises n more → Rises low (n ∷ more)
unfolding Rises
Rises-cons low n more less rest = (less, rest)

Rises-append : (low : ℕ) (list more : List ℕ) → Rises low list → Rises (last_from low list) more → Rises low (list ++ more)
unfolding last_from Rises
Rises-append low [] more h g = g
Rises-append low (n ∷ list) more h g = (h.0, Rises-append n list more h.1 g)

-- the total after more came behind them
allowance_then : (s t : State) (more : List ℕ) → t.totals ≡ s.totals ++ more → allowance t ≡ last_from (allowance s) more
allowance_then s t more is =
    ap (λ (totals : List ℕ). slice_index totals (length totals - 1)) is
    ∙ (last_is (s.totals ++ more) ∙ (last_append 0 s.totals more ∙ ap (λ low. last_from low more) (sym (last_is s.totals))))

TotalsRise-same : (s t : State) → t.totals ≡ s.totals → TotalsRise s t
TotalsRise-same s t is = ([], is ∙ sym (append-nil s.totals), Rises-nil (allowance s))

TotalsRise-trans : (s t u : State) → TotalsRise s t → TotalsRise t u → TotalsRise s u
TotalsRise-trans s t u h g = (
  h.0 ++ g.0,
  g.1 ∙ (ap (λ (list : List ℕ). list ++ g.0) h.1 ∙ append_assoc s.totals h.0 g.0),
  Rises-append (allowance s) h.0 g.0 h.2 (subst (λ low. Rises low g.0) (allowance_then s t h.0 h.1) g.2),
)

-- ---- what stays in front

Grows-same : (s t : State) → t.prints ≡ s.prints → t.trail ≡ s.trail → t.hooks ≡ s.hooks → t.runs ≡ s.runs → t.totals ≡ s.totals → Grows s t
Grows-same s t prints trail hooks runs totals = record {
  prints = ([], prints ∙ sym (append-nil s.prints));
  trail = ([], trail ∙ sym (append-nil s.trail));
  hooks = ([], hooks ∙ sym (append-nil s.hooks));
  runs = ([], runs ∙ sym (append-nil s.runs));
  totals = TotalsRise-same s t totals;
}

Grows-trans : (s t u : State) → Grows s t → Grows t u → Grows s u
Grows-trans s t u h g = record {
  prints = Extends-trans s.prints t.prints u.prints h.prints g.prints;
  trail = Extends-trans s.trail t.trail u.trail h.trail g.trail;
  hooks = Extends-trans s.hooks t.hooks u.hooks h.hooks g.hooks;
  runs = Extends-trans s.runs t.runs u.runs h.runs g.runs;
  totals = TotalsRise-trans s t u h.totals g.totals;
}

grows : Carried (λ n. Grows)
grows = record {
  same = λ s. Grows-same s s refl refl refl refl refl;
  wider = λ m n s t le h. h;
  joined = λ m n s t u h g. Grows-trans s t u h g;
  back = λ n s t h. record {
    prints = Extends-refl s.prints;
    trail = h.trail;
    hooks = Extends-refl s.hooks;
    runs = Extends-trans s.runs t.runs _ h.runs (Extends-append t.runs (undoing (drop (length s.hooks) t.hooks)));
    totals = h.totals;
  };
  register = λ r n s. Grows-same s _ refl refl refl refl refl;
  ref = λ cell n s. Grows-same s _ refl refl refl refl refl;
  put = λ m key value s. Grows-same s _ refl refl refl refl refl;
  del = λ m key s. Grows-same s _ refl refl refl refl refl;
  share = λ from into s. Grows-same s _ refl refl refl refl refl;
  snap = λ k m s. Grows-same s _ refl refl refl refl refl;
  print = λ n s. record { prints = Extends-append s.prints (n ∷ []); trail = Extends-append s.trail (n ∷ []); hooks = Extends-refl s.hooks; runs = Extends-refl s.runs; totals = TotalsRise-same s (printed n s) refl };
  hook = λ phase token s. record { prints = Extends-refl s.prints; trail = Extends-refl s.trail; hooks = Extends-append s.hooks ((phase, token) ∷ []); runs = Extends-refl s.runs; totals = TotalsRise-same s (registered phase token s) refl };
  late = λ body s. Grows-same s _ refl refl refl refl refl;
  allow = λ n s positive. record { prints = Extends-refl s.prints; trail = Extends-refl s.trail; hooks = Extends-refl s.hooks; runs = Extends-refl s.runs; totals = ((allowance s + n) ∷ [], refl, Rises-cons (allowance s) (allowance s + n) [] (omega (arith, positive)) (Rises-nil (allowance s + n))) };
}

-- the before-commit bodies that are registered
Lates : State → State → Type 0
Lates s t = Extends s.lates t.lates

lates : Carried (λ n. Lates)
unfolding Lates
lates = record {
  same = λ s. Extends-refl s.lates;
  wider = λ m n s t le h. h;
  joined = λ m n s t u h g. Extends-trans s.lates t.lates u.lates h g;
  back = λ n s t h. Extends-refl s.lates;
  register = λ r n s. Extends-refl s.lates;
  ref = λ cell n s. Extends-refl s.lates;
  put = λ m key value s. Extends-refl s.lates;
  del = λ m key s. Extends-refl s.lates;
  share = λ from into s. Extends-refl s.lates;
  snap = λ k m s. Extends-refl s.lates;
  print = λ n s. Extends-refl s.lates;
  hook = λ phase token s. Extends-refl s.lates;
  late = λ body s. Extends-append s.lates (body ∷ []);
  allow = λ n s positive. Extends-refl s.lates;
}

-- ---- what stays as it was

unwritten : Carried (λ n. SameUnlessWritten)
unwritten = record {
  same = λ s no. (no, refl);
  wider = λ m n s t le h. h;
  joined = λ m n s t u h g no. ((h (g no).0).0, (g no).1 ∙ (h (g no).0).1);
  back = λ n s t h no. (no, refl);
  register = λ r n s no. (no, refl);
  ref = λ cell n s no. absurd cc;
  put = λ m key value s no. absurd cc;
  del = λ m key s no. absurd cc;
  share = λ from into s no. absurd cc;
  snap = λ k m s no. absurd cc;
  print = λ n s no. (no, refl);
  hook = λ phase token s no. (no, refl);
  late = λ body s no. (no, refl);
  allow = λ n s positive no. (no, refl);
}

SameSizes-refl : (s : State) → SameSizes s s
SameSizes-refl s = record { registers = refl; refs = refl; maps = refl; slots = refl; used = refl }

SameSizes-map : (m : ℕ) (pairs : List (ℕ × ℕ)) (s : State) → SameSizes s (set_map m pairs s)
SameSizes-map m pairs s = record { registers = refl; refs = refl; maps = length-set s.contents.maps m pairs; slots = refl; used = refl }

sizes : Carried (λ n. SameSizes)
sizes = record {
  same = SameSizes-refl;
  wider = λ m n s t le h. h;
  joined = λ m n s t u h g. record {
    registers = g.registers ∙ h.registers;
    refs = g.refs ∙ h.refs;
    maps = g.maps ∙ h.maps;
    slots = g.slots ∙ h.slots;
    used = g.used ∙ h.used;
  };
  back = λ n s t h. record { registers = refl; refs = refl; maps = refl; slots = refl; used = refl };
  register = λ r n s. record { registers = length-set s.registers r n; refs = refl; maps = refl; slots = refl; used = refl };
  ref = λ cell n s. record { registers = refl; refs = length-set s.contents.refs cell n; maps = refl; slots = refl; used = refl };
  put = λ m key value s. SameSizes-map m (put_pair key value (map_at m s)) s;
  del = λ m key s. SameSizes-map m (delete_pair key (map_at m s)) s;
  share = λ from into s. SameSizes-map into (map_at from s) s;
  snap = λ k m s. record { registers = refl; refs = refl; maps = refl; slots = length-set s.contents.slots k (map_at m s); used = refl };
  print = λ n s. record { registers = refl; refs = refl; maps = refl; slots = refl; used = refl };
  hook = λ phase token s. record { registers = refl; refs = refl; maps = refl; slots = refl; used = refl };
  late = λ body s. record { registers = refl; refs = refl; maps = refl; slots = refl; used = refl };
  allow = λ n s positive. record { registers = refl; refs = refl; maps = refl; slots = refl; used = refl };
}

-- the maps, where they ascended before
Ascend : State → State → Type 0
Ascend s t = MapsAscend s.contents → MapsAscend t.contents

ascend : Carried (λ n. Ascend)
unfolding Ascend
ascend = record {
  same = λ s maps. maps;
  wider = λ m n s t le h. h;
  joined = λ m n s t u h g maps. g (h maps);
  back = λ n s t h maps. maps;
  register = λ r n s maps. maps;
  ref = λ cell n s maps. maps;
  put = λ m key value s maps.
      (All-set KeysAscend s.contents.maps m (put_pair key value (map_at m s)) maps.0 (KeysAscend-put key value (map_at m s) (All-at KeysAscend s.contents.maps m [] maps.0 tt)), maps.1);
  del = λ m key s maps.
      (All-set KeysAscend s.contents.maps m (delete_pair key (map_at m s)) maps.0 (KeysAscend-delete key (map_at m s) (All-at KeysAscend s.contents.maps m [] maps.0 tt)), maps.1);
  share = λ from into s maps. (All-set KeysAscend s.contents.maps into (map_at from s) maps.0 (All-at KeysAscend s.contents.maps from [] maps.0 tt), maps.1);
  snap = λ k m s maps. (maps.0, All-set KeysAscend s.contents.slots k (map_at m s) maps.1 (All-at KeysAscend s.contents.maps m [] maps.0 tt));
  print = λ n s maps. maps;
  hook = λ phase token s maps. maps;
  late = λ body s maps. maps;
  allow = λ n s positive maps. maps;
}

-- ---- blocks, and whole runs

module _ (R : State → State → Type 0) (rule : Carried (λ n. R)) (first : (s : State) (rest : List (List Statement)) → R s (record s { lates = rest })) where
  next : (s : State) (o : Outcome) (more : Meaning) → R s o.after → ((t : State) → R t (more t).after) → R s (and_then o more).after
  next s o more h rest = by_end o.end o.after h where
    by_end : (end : End) (after : State) → R s after → R s (and_then (record { end = end; after = after }) more).after
    by_end Kept after h = rule.joined 0 0 s after _ h (rest after)
    by_end (Failed code) after h = h
    by_end Retried after h = h

  next_turn : (bodies : List (List Statement)) (more : Meaning) (s : State) → ((t : State) → R t (more t).after) → R s (next_late more s bodies).after
  next_turn [] more s h = rule.same s
  next_turn (body ∷ rest) more s h =
      let t : State = record s { lates = rest } in
      next s (run_block body t) more (rule.joined 0 0 s t _ (first s rest) (carried.block (λ n. R) rule body t)) h

  turns : (n : ℕ) (s : State) → R s (late_bodies n s).after
  unfolding late_bodies
  turns zero s = rule.same s
  turns (suc n) s = next_turn s.lates (late_bodies n) s (turns n)

  whole : (block : List Statement) (contents : Contents) → R (start contents) (run block contents).after
  whole block contents =
      next (start contents) (run_block block (start contents)) (late_bodies (statement_count block)) (carried.block (λ n. R) rule block (start contents)) (turns (statement_count block))

pub statement_grows : (m : Statement) (s : State) → Grows s (meaning m s).after
statement_grows = carried.statement (λ n. Grows) grows

pub statement_lates : (m : Statement) (s : State) → Extends s.lates (meaning m s).after.lates
unfolding Lates
statement_lates = carried.statement (λ n. Lates) lates

pub block_grows : (block : List Statement) (s : State) → Grows s (run_block block s).after
block_grows = carried.block (λ n. Grows) grows

pub block_lates : (block : List Statement) (s : State) → Extends s.lates (run_block block s).after.lates
unfolding Lates
block_lates = carried.block (λ n. Lates) lates

taken_off : (s : State) (rest : List (List Statement)) → Grows s (record s { lates = rest })
taken_off s rest = Grows-same s (record s { lates = rest }) refl refl refl refl refl

-- from the script's own statements on
pub late_bodies_grow : (block : List Statement) (contents : Contents) → Grows (run_block block (start contents)).after (run block contents).after
late_bodies_grow block contents = by_end (run_block block (start contents)).end (run_block block (start contents)).after where
  by_end : (end : End) (after : State) → Grows after (and_then (record { end = end; after = after }) (late_bodies (statement_count block))).after
  by_end Kept after = turns Grows grows taken_off (statement_count block) after
  by_end (Failed code) after = Grows-same after after refl refl refl refl refl
  by_end Retried after = Grows-same after after refl refl refl refl refl

pub run_totals : (block : List Statement) (contents : Contents) → Rises 0 (run block contents).after.totals
run_totals block contents =
    let h = (whole Grows grows taken_off block contents).totals in subst (λ (totals : List ℕ). Rises 0 totals) (sym h.1) h.2

pub block_unwritten : (block : List Statement) (s : State) → SameUnlessWritten s (run_block block s).after
block_unwritten = carried.block (λ n. SameUnlessWritten) unwritten

pub run_unwritten : (block : List Statement) (contents : Contents) → (run block contents).after.wrote ≡ false → (run block contents).after.contents ≡ contents
run_unwritten block contents is = (whole SameUnlessWritten unwritten (λ s rest none. (none, refl)) block contents is).1

pub block_sizes : (block : List Statement) (s : State) → SameSizes s (run_block block s).after
block_sizes = carried.block (λ n. SameSizes) sizes

pub run_sizes : (block : List Statement) (contents : Contents) → SameSizes (start contents) (run block contents).after
run_sizes = whole SameSizes sizes (λ s rest. record { registers = refl; refs = refl; maps = refl; slots = refl; used = refl })

pub block_ascend : (block : List Statement) (s : State) → MapsAscend s.contents → MapsAscend (run_block block s).after.contents
unfolding Ascend
block_ascend = carried.block (λ n. Ascend) ascend

pub run_ascend : (block : List Statement) (contents : Contents) → MapsAscend contents → MapsAscend (run block contents).after.contents
unfolding Ascend
run_ascend = whole Ascend ascend (λ s rest maps. maps)

-- ---- undone blocks

pub own_handlers : (before after : State) (own : List (HookPhase × ℕ)) → after.hooks ≡ before.hooks ++ own → (undone before after).runs ≡ after.runs ++ undoing own
own_handlers before after own is =
    ap (λ hooks. after.runs ++ undoing hooks) (ap (drop (length before.hooks)) is ∙ drop-append_seam before.hooks own)
