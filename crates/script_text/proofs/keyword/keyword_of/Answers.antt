use Rattle.std.proofs.Common.{rules, ◌≡◌, codes, refl, arith}
use Rattle.std.proofs.lemmas.Slice.Eq.{text_from_reads}
use Rattle.script_text.proofs.keyword.keyword_of.Goals as goal

pub returns-in-snaps : goal.returns-in-snaps
returns-in-snaps c = let e : c.args.word.now ≡ codes "snaps" = text_from_reads c.args.word.now (codes "snaps") (omega arith) (search rules) in rw e refl

pub returns-in-blocks : goal.returns-in-blocks
returns-in-blocks c = let e : c.args.word.now ≡ codes "blocks" = text_from_reads c.args.word.now (codes "blocks") (omega arith) (search rules) in rw e refl

pub returns-in-worker : goal.returns-in-worker
returns-in-worker c = let e : c.args.word.now ≡ codes "worker" = text_from_reads c.args.word.now (codes "worker") (omega arith) (search rules) in rw e refl

pub returns-in-script : goal.returns-in-script
returns-in-script c = let e : c.args.word.now ≡ codes "script" = text_from_reads c.args.word.now (codes "script") (omega arith) (search rules) in rw e refl

pub returns-in-steps : goal.returns-in-steps
returns-in-steps c = let e : c.args.word.now ≡ codes "steps" = text_from_reads c.args.word.now (codes "steps") (omega arith) (search rules) in rw e refl

pub returns-in-const : goal.returns-in-const
returns-in-const c = let e : c.args.word.now ≡ codes "const" = text_from_reads c.args.word.now (codes "const") (omega arith) (search rules) in rw e refl

pub returns-in-write : goal.returns-in-write
returns-in-write c = let e : c.args.word.now ≡ codes "write" = text_from_reads c.args.word.now (codes "write") (omega arith) (search rules) in rw e refl

pub returns-in-print : goal.returns-in-print
returns-in-print c = let e : c.args.word.now ≡ codes "print" = text_from_reads c.args.word.now (codes "print") (omega arith) (search rules) in rw e refl

pub returns-in-check : goal.returns-in-check
returns-in-check c = let e : c.args.word.now ≡ codes "check" = text_from_reads c.args.word.now (codes "check") (omega arith) (search rules) in rw e refl

pub returns-in-inner : goal.returns-in-inner
returns-in-inner c = let e : c.args.word.now ≡ codes "inner" = text_from_reads c.args.word.now (codes "inner") (omega arith) (search rules) in rw e refl

pub returns-in-either : goal.returns-in-either
returns-in-either c = let e : c.args.word.now ≡ codes "either" = text_from_reads c.args.word.now (codes "either") (omega arith) (search rules) in rw e refl

pub returns-in-share : goal.returns-in-share
returns-in-share c = let e : c.args.word.now ≡ codes "share" = text_from_reads c.args.word.now (codes "share") (omega arith) (search rules) in rw e refl
