use Rattle.std.proofs.Common.{◌≡◌, ◌+◌, ◌++◌, ◌∙◌, inl, [], drop, length, refl, rules, sym, ap, arith}
use Rattle.std.proofs.lemmas.List.{drop_all, length-append, length-map}
use Rattle.op_commit.specs.Buffered.{buffered}
use Rattle.stm_core.proofs.Asking.{concludes}
use Rattle.stm_core.specs.Machine.{accesses_asked, reads_asked, writes_asked}
use Rattle.stm_core.specs.Running.{InvariantAt, attempt_at, base, left_at, reads_under_way, standing_at, writes_under_way}
use Rattle.stm_model.specs.Attempt.{Stage}
use Rattle.stm_model.specs.Moves.{asked_going, turn_to}
use Rattle.stm_core.proofs.running.Running.conclude.Goals as goal

pub returns-else-count-eq0 : goal.returns-else-count-eq0
unfolding InvariantAt attempt_at left_at reads_under_way writes_under_way accesses_asked reads_asked writes_asked asked_going
returns-else-count-eq0 c =
    let r = c.args.self.now in
    let many : length (buffered r.footprint.writes.writes ++ r.footprint.reads.notes) ≡ length r.footprint.writes.writes + length r.footprint.reads.notes =
    length-append (buffered r.footprint.writes.writes) r.footprint.reads.notes ∙ ap (λ n. n + length r.footprint.reads.notes) (length-map r.footprint.writes.writes _) in
    let last : drop r.turn r.handlers.laters ≡ [] = drop_all r.turn r.handlers.laters c.requires.last in
    let commits : (stage : Stage) → _ = λ stage. c.new.ensures.begins (base r)
    ∙ sym (ap (turn_to (standing_at r stage)) last ∙ concludes (standing_at r stage) r.footprint.writes.writes (λ none. c.if-count-eq0.false (c.len-count.ensures.count ∙ none))) in
    record {
      moves = λ stage. inl (commits stage);
      takes = λ stage free. commits stage;
      asked = record {
        left = search rules;
        room = search rules;
        numbers = record { own = refl; serial = refl; settings = refl };
        sound = record {
          fits = c.requires.free.fits;
          runs = rw c.requires.free.nothing_due tt;
          holds = (
            record {
              made_for = c.new.ensures.for_attempt _ refl refl refl refl (sym c.len-count.ensures.count);
              along = c.new.ensures.along _ (omega (arith, many, c.len-count.ensures.count));
            },
            rw c.new.ensures.going refl,
          );
        };
      };
    }
