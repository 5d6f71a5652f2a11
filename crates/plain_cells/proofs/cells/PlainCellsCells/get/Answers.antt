use Rattle.std.proofs.Common.{◌≡◌, ◌≢◌, ◌++◌, ◌∷◌, [], false, None, Some, is_some, nat_eq, rules, refl, ap, ◌∙◌, inl, inr}
use Rattle.std.specs.List.{All, Any}
use Rattle.std.specs.Map.{lookup}
use Rattle.stm_model.specs.Heap.{writes_to}
use Rattle.stm_model.proofs.HeapLemmas.{over_found, over_other, writes_to-lookup}
use Rattle.plain_cells.proofs.Notes.{Agrees-last, Agrees-noted, noted_cell}
use Rattle.plain_cells.proofs.cells.PlainCellsCells.get.Goals as goal

pub returns-in-Some-buffered : goal.returns-in-Some-buffered
returns-in-Some-buffered g c =
    let writes = c.args.self.now.book.writes.items in
    let is : lookup (nat_eq c.args.addr.0) writes ≡ Some c.in-Some-buffered.value = search rules in
    record {
      same_law = refl;
      goes = (refl, refl);
      states = record {
        going = search rules;
        only_reads = refl;
        noted = inl (inl (writes_to-lookup writes c.args.addr.0 ∙ ap is_some is), refl);
        told = λ heap possible. over_found heap writes c.args.addr.0 c.in-Some-buffered.value (rw possible.cells c.requires) is;
      };
    }

pub returns-in-Some-noted : goal.returns-in-Some-noted
returns-in-Some-noted g c =
    let writes = c.args.self.now.book.writes.items in
    let is : lookup (nat_eq c.args.addr.0) writes ≡ None = search rules in
    let unwritten : writes_to writes c.args.addr.0 ≡ false = writes_to-lookup writes c.args.addr.0 ∙ ap is_some is in
    let noted : Any (λ note. (note.addr.0 ≡ c.args.addr.0) × (note.value ≡ c.in-Some-noted.value)) c.args.self.now.notes.items =
    rw c.as_slice-2.ensures.value at c.in-Some-noted.ensures in
    record {
      same_law = refl;
      goes = (refl, refl);
      states = record {
        going = search rules;
        only_reads = refl;
        noted = inl (inr (noted_cell _ _ _ noted), refl);
        told = λ heap possible. over_other heap _ _ unwritten ∙ Agrees-noted _ _ _ heap noted possible.agrees;
      };
    }

pub invariant_of-self : goal.invariant_of-self
invariant_of-self g c = let cells = c.args.self.now in
    let same : c.push.new.self.items ≡ cells.notes.items = search rules in record {
      short = cells.short;
      words = cells.words;
      keeps_law = cells.keeps_law;
      agrees = rw same cells.agrees;
      room = cells.room;
      depth = cells.depth;
      nested = cells.nested;
      written = cells.written;
      answer = rw c.refuse.ensures.kept tt;
    }

pub returns : goal.returns
returns g c =
    let writes = c.args.self.now.book.writes.items in
    let notes = c.args.self.now.notes.items in
    let is : lookup (nat_eq c.args.addr.0) writes ≡ None = search rules in
    let unwritten : writes_to writes c.args.addr.0 ≡ false = writes_to-lookup writes c.args.addr.0 ∙ ap is_some is in
    let more : c.push.new.self.items ≡ notes ++ record { addr = c.args.addr; version = 0; value = c.index-value.result.now } ∷ [] = search rules in
    let none : All (λ note. note.addr.0 ≢ c.args.addr.0) notes = rw c.as_slice-2.ensures.value at c.in_default-noted.ensures in
    record {
      same_law = refl;
      goes = (refl, refl);
      states = record {
        going = search rules;
        only_reads = refl;
        noted = inr (_, record { cell = refl; value = refl; away = record { unwritten = unwritten; unnoted = none } }, more);
        told = λ heap possible. over_other heap _ _ unwritten ∙ Agrees-last notes _ heap (rw more at possible.agrees);
      };
    }

pub returns-in-Err : goal.returns-in-Err
returns-in-Err g c =
    let writes = c.args.self.now.book.writes.items in
    let is : lookup (nat_eq c.args.addr.0) writes ≡ None = search rules in
    let unwritten : writes_to writes c.args.addr.0 ≡ false = writes_to-lookup writes c.args.addr.0 ∙ ap is_some is in
    let none : All (λ note. note.addr.0 ≢ c.args.addr.0) c.args.self.now.notes.items = rw c.as_slice-2.ensures.value at c.in_default-noted.ensures in
    record {
      same_law = refl;
      goes = (refl, refl);
      states = record {
        is = search rules;
        again = search rules;
        first = λ going. record { away = record { unwritten = unwritten; unnoted = none }; is = rw c.refuse.ensures.gives tt };
      };
    }
