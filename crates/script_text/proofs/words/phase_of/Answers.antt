use Rattle.std.proofs.Common.{rules, ◌≡◌, codes, refl, arith}
use Rattle.std.proofs.lemmas.Slice.Eq.{text_from_reads}
use Rattle.script_text.proofs.words.phase_of.Goals as goal

pub returns-in-preparing : goal.returns-in-preparing
returns-in-preparing c = let e : c.args.word.now ≡ codes "preparing" = text_from_reads c.args.word.now (codes "preparing") (omega arith) (search rules) in rw e refl

pub returns-in-committing : goal.returns-in-committing
returns-in-committing c = let e : c.args.word.now ≡ codes "committing" = text_from_reads c.args.word.now (codes "committing") (omega arith) (search rules) in rw e refl

pub returns-in-commit : goal.returns-in-commit
returns-in-commit c = let e : c.args.word.now ≡ codes "commit" = text_from_reads c.args.word.now (codes "commit") (omega arith) (search rules) in rw e refl

pub returns-in-rollback : goal.returns-in-rollback
returns-in-rollback c = let e : c.args.word.now ≡ codes "rollback" = text_from_reads c.args.word.now (codes "rollback") (omega arith) (search rules) in rw e refl

pub returns-in-completion : goal.returns-in-completion
returns-in-completion c = let e : c.args.word.now ≡ codes "completion" = text_from_reads c.args.word.now (codes "completion") (omega arith) (search rules) in rw e refl
