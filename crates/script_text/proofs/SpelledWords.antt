-- Words that are read: their plain forms are the canonical words of what they say, which is within its limits.
use Rattle.std.proofs.Common.{◌≡◌, ℕ, ◌<◌, ◌≤◌, ◌^◌, Bool, true, false, ◌&&◌, cond, nat_eq, nat_lt, nat_le, if◌then◌else◌, List, [], ◌∷◌, length, get_or, Option, Some, None, Result, Ok, Err, refl, sym, ap, ◌∙◌, subst, arith, decimal}
use Rattle.std.proofs.lemmas.Bool.Decides.{nat_tests}
use Rattle.std.proofs.lemmas.Fmt.{decimal-digits_value}
use Rattle.std.specs.Char.{is_ascii_digit}
use Rattle.std.specs.Str.{bytes_eq}
use Rattle.std.specs.Str.Parse.{digits_value}
use Rattle.text_lines.specs.Lines.{Row, is_nonempty}
use Rattle.text_lines.specs.Numbers.{is_number, number_of, plain_word}
use Rattle.text_lines.proofs.Lists.{both as parts}
use Rattle.text_lines.proofs.NumberLemmas.{all_digits, own_digits, number_below, plain_number, plain_other}
use Rattle.stm_model.specs.declared.cause.HookPhase.{HookPhase}
use Rattle.stm_model.specs.declared.cause.HookPhase.TheVariants.{Preparing, Committing, Commit, Rollback, Completion}
use Rattle.ledger_model.specs.Fits.{is_register, is_code, fits_word, operand_fits}
use Rattle.ledger_model.specs.Report.{phase_word}
use Rattle.ledger_model.specs.declared.reason.Reason.{Reason}
use Rattle.ledger_model.specs.declared.reason.Reason.TheVariants as reason
use Rattle.ledger_model.specs.declared.script.Operand.{Operand}
use Rattle.ledger_model.specs.declared.script.Operand.TheVariants.{Reg, Number}
use Rattle.script_text.specs.declared.keyword.Keyword.{Keyword}
use Rattle.script_text.specs.Words.{◌>>=◌, or_reason, provided, both, number, below, from_one_to, leads_with_zero, register_number, register, begins_with_r, operand_of, code_of, phases, phase_among, phase_of, keyword_word, keywords, keyword_among, keyword_of, no_word, one_word, two_words, three_words}
use Rattle.script_text.specs.Printing.{register_word, operand_word}

-- ---- what a result came of

pub bind_ok : {A B E : Type 0} (r : Result A E) (f : A → Result B E) (y : B) → (r >>= f) ≡ Ok y → (x : A) × (r ≡ Ok x) × (f x ≡ Ok y)
bind_ok (Ok x) f y h = (x, refl, h)
bind_ok (Err e) f y h = cc

pub ok_same : {A E : Type 0} (x y : A) → ◌≡◌ {A = Result A E} (Ok x) (Ok y) → x ≡ y
ok_same x y h = cc

some_same : {A : Type 0} (x y : A) → ◌≡◌ {A = Option A} (Some x) (Some y) → x ≡ y
some_same x y h = cc

where_ok : {A : Type 0} (b : Bool) (e : Reason) (x y : A) → provided b e x ≡ Ok y → (b ≡ true) × (x ≡ y)
where_ok true e x y h = (refl, cc)
where_ok false e x y h = cc

cond_err : {A : Type 0} (b : Bool) (e : Reason) (r : Result A Reason) (y : A) → cond b (Err e) r ≡ Ok y → (b ≡ false) × (r ≡ Ok y)
cond_err true e r y h = cc
cond_err false e r y h = (refl, h)

pub or_ok : {A : Type 0} (e : Reason) (o : Option A) (x : A) → or_reason e o ≡ Ok x → o ≡ Some x
or_ok e None x h = cc
or_ok e (Some y) x h = ap Some (ok_same y x h)

pub both_ok : {A B : Type 0} (a : Result A Reason) (b : Result B Reason) (p : A × B) → both a b ≡ Ok p → (a ≡ Ok p.0) × (b ≡ Ok p.1)
both_ok (Ok x) (Ok y) p h = let e : (x, y) ≡ p = cc in (ap (λ q. Ok q.0) e, ap (λ q. Ok q.1) e)
both_ok (Ok x) (Err e) p h = cc
both_ok (Err d) (Ok y) p h = cc
both_ok (Err d) (Err e) p h = cc

pub none_ok : (ws : Row) (u : Unit {0}) → no_word ws ≡ Ok u → ws ≡ []
none_ok [] u h = refl
none_ok (w ∷ ws) u h = cc

pub one_ok : (ws : Row) (v : List ℕ) → one_word ws ≡ Ok v → ws ≡ v ∷ []
one_ok [] v h = cc
one_ok (w ∷ ws) v h =
    let b = bind_ok (no_word ws) (λ _. Ok w) v h in
    ap (λ (r : Row). w ∷ r) (none_ok ws b.0 b.1) ∙ ap (λ (z : List ℕ). z ∷ []) (ok_same w v b.2)

pub two_ok : (ws : Row) (v : List ℕ × List ℕ) → two_words ws ≡ Ok v → ws ≡ v.0 ∷ v.1 ∷ []
two_ok [] v h = cc
two_ok (w ∷ ws) v h =
    let b = bind_ok (one_word ws) (λ u. Ok (w, u)) v h in
    ap (λ (r : Row). w ∷ r) (one_ok ws b.0 b.1) ∙ ap (λ (z : List ℕ × List ℕ). z.0 ∷ z.1 ∷ []) (ok_same (w, b.0) v b.2)

pub three_ok : (ws : Row) (v : List ℕ × List ℕ × List ℕ) → three_words ws ≡ Ok v → ws ≡ v.0 ∷ v.1 ∷ v.2 ∷ []
three_ok [] v h = cc
three_ok (w ∷ ws) v h =
    let b = bind_ok (two_words ws) (λ u. Ok (w, u.0, u.1)) v h in
    ap (λ (r : Row). w ∷ r) (two_ok ws b.0 b.1) ∙ ap (λ (z : List ℕ × List ℕ × List ℕ). z.0 ∷ z.1 ∷ z.2 ∷ []) (ok_same (w, b.0.0, b.0.1) v b.2)

-- ---- tests

pub lt_true : (a b : ℕ) → a < b → nat_lt a b ≡ true
lt_true a b h = grind (arith, nat_tests)

pub true_lt : (a b : ℕ) → nat_lt a b ≡ true → a < b
true_lt a b h = grind (arith, nat_tests)

pub lt_false : (a b : ℕ) → nat_lt a b ≡ false → b ≤ a
lt_false a b h = grind (arith, nat_tests)

pub true_le : (a b : ℕ) → nat_le a b ≡ true → a ≤ b
true_le a b h = grind (arith, nat_tests)

pub le_false : (a b : ℕ) → nat_le a b ≡ false → b < a
le_false a b h = grind (arith, nat_tests)

pub eq_same : (a b : ℕ) → nat_eq a b ≡ true → a ≡ b
eq_same a b h = grind (arith, nat_tests)

-- A way to read a word, with the canonical words of values and the values' limits.
pub record Way (A : Type 0) : Type 0 where
  pub read : List ℕ → Result A Reason
  pub word_of : A → List ℕ
  pub fits : A → Bool
  pub plain : (w : List ℕ) (x : A) → read w ≡ Ok x → plain_word w ≡ word_of x
  pub within : (w : List ℕ) (x : A) → read w ≡ Ok x → fits x ≡ true

-- ---- numbers

pub number_ok : (w : List ℕ) (n : ℕ) → number w ≡ Ok n → number_of w ≡ Some n
number_ok w n h = or_ok reason.Number (number_of w) n h

abbrev pub number_way : Way ℕ
number_way = record {
  read = number;
  word_of = decimal;
  fits = fits_word;
  plain = λ w n h. plain_number w n (number_ok w n h);
  within = λ w n h. lt_true n (2 ^ 64) (number_below w n (number_ok w n h));
}

pub below_ok : (limit : ℕ) (w : List ℕ) (n : ℕ) → below limit w ≡ Ok n → (number_of w ≡ Some n) × (nat_lt n limit ≡ true)
below_ok limit w n h =
    let b = bind_ok (number w) (λ n. provided (nat_lt n limit) reason.Range n) n h in
    let e = where_ok (nat_lt b.0 limit) reason.Range b.0 n b.2 in
    (number_ok w b.0 b.1 ∙ ap Some e.1, subst (λ (m : ℕ). nat_lt m limit ≡ true) e.1 e.0)

abbrev pub below_way : ℕ → Way ℕ
below_way limit = record {
  read = below limit;
  word_of = decimal;
  fits = λ n. nat_lt n limit;
  plain = λ w n h. plain_number w n (below_ok limit w n h).0;
  within = λ w n h. (below_ok limit w n h).1;
}

pub below_small : (limit : ℕ) (w : List ℕ) (n : ℕ) → below limit w ≡ Ok n → n < 2 ^ 64
below_small limit w n h = number_below w n (below_ok limit w n h).0

pub from_one_ok : (most : ℕ) (w : List ℕ) (n : ℕ) → from_one_to most w ≡ Ok n → (number_of w ≡ Some n) × ((nat_le 1 n && nat_le n most) ≡ true)
from_one_ok most w n h =
    let b = bind_ok (number w) (λ n. provided (nat_le 1 n && nat_le n most) reason.Range n) n h in
    let e = where_ok (nat_le 1 b.0 && nat_le b.0 most) reason.Range b.0 n b.2 in
    (number_ok w b.0 b.1 ∙ ap Some e.1, subst (λ (m : ℕ). (nat_le 1 m && nat_le m most) ≡ true) e.1 e.0)

abbrev pub from_one_way : ℕ → Way ℕ
from_one_way most = record {
  read = from_one_to most;
  word_of = decimal;
  fits = λ n. nat_le 1 n && nat_le n most;
  plain = λ w n h. plain_number w n (from_one_ok most w n h).0;
  within = λ w n h. (from_one_ok most w n h).1;
}

abbrev pub code_way : Way ℕ
code_way = record {
  read = code_of;
  word_of = decimal;
  fits = is_code;
  plain = λ w n h. plain_number w n (from_one_ok 65535 w n h).0;
  within = λ w n h. (from_one_ok 65535 w n h).1;
}

-- ---- registers

some_long : (w : List ℕ) → is_nonempty w ≡ true → 0 < length w
some_long [] h = cc
some_long (b ∷ w) h = omega arith

single_zero : (w : List ℕ) → 0 < length w → leads_with_zero w ≡ false → get_or w 0 0 ≡ 48 → length w ≡ 1
single_zero [] l h z = absurd (omega arith)
single_zero (b ∷ w) l h z = grind (arith, nat_tests)

some_if : {A : Type 0} (b : Bool) (x y : A) → cond b (Some x) None ≡ Some y → (b ≡ true) × (x ≡ y)
some_if true x y h = (refl, cc)
some_if false x y h = cc

-- digits without a leading zero are the decimal of their number
plain_digits : (ds : List ℕ) (n : ℕ) → number_of ds ≡ Some n → leads_with_zero ds ≡ false → ds ≡ decimal n
plain_digits ds n h z =
    let e = some_if (is_number ds) (digits_value 10 ds) n h in
    let a = parts (nat_le (length ds) 20 && all_digits ds && is_nonempty ds) (nat_lt (digits_value 10 ds) (2 ^ 64)) e.0 in
    let b = parts (nat_le (length ds) 20 && all_digits ds) (is_nonempty ds) a.0 in
    let d = parts (nat_le (length ds) 20) (all_digits ds) b.0 in
    let l = some_long ds b.1 in
    sym (decimal-digits_value own_digits ds d.1 l (single_zero ds l z) (true_lt (digits_value 10 ds) (2 ^ 64) a.1)) ∙ ap decimal e.1

small_register : (n : ℕ) → nat_lt 15 n ≡ false → is_register n ≡ true
small_register n h = let l = lt_false 15 n h in lt_true n 16 (omega arith)

register_digits : (ds : List ℕ) (r : ℕ) → register_number ds ≡ Ok r → (ds ≡ decimal r) × (is_register r ≡ true)
register_digits ds r h =
    let b = bind_ok (number ds) (λ n. if nat_lt 15 n then Err reason.Range else (if leads_with_zero ds then Err reason.Number else Ok n)) r h in
    let c = cond_err (nat_lt 15 b.0) reason.Range (if leads_with_zero ds then Err reason.Number else Ok b.0) r b.2 in
    let d = cond_err (leads_with_zero ds) reason.Number (Ok b.0) r c.1 in
    let e = ok_same b.0 r d.1 in
    (plain_digits ds b.0 (number_ok ds b.0 b.1) d.0 ∙ ap decimal e, sym (ap is_register e) ∙ small_register b.0 c.0)

pub register_ok : (w : List ℕ) (r : ℕ) → register w ≡ Ok r → (w ≡ register_word r) × (is_register r ≡ true)
register_ok [] r h = cc
register_ok (b ∷ ds) r h = at (nat_eq b 114) refl h where
  at : (v : Bool) → nat_eq b 114 ≡ v → cond v (register_number ds) (Err reason.Number) ≡ Ok r → ((b ∷ ds) ≡ register_word r) × (is_register r ≡ true)
  at true e h = let d = register_digits ds r h in (ap (λ (c : ℕ). c ∷ ds) (eq_same b 114 e) ∙ ap (λ (t : List ℕ). 114 ∷ t) d.0, d.1)
  at false e h = cc

pub no_number : (a : Bool) (c d : Bool) → (a && false && c && d) ≡ false
no_number true c d = refl
no_number false c d = refl

-- a word whose first byte is no digit says no number
pub number_of_other : (b : ℕ) (w : List ℕ) → is_ascii_digit b ≡ false → number_of (b ∷ w) ≡ None
number_of_other b w h =
    let e : is_number (b ∷ w) ≡ false = at (is_ascii_digit b) h in
    ap (λ (v : Bool). cond v (Some (digits_value 10 (b ∷ w))) None) e where
      at : (d : Bool) → d ≡ false → (nat_le (length (b ∷ w)) 20 && (d && all_digits w) && is_nonempty (b ∷ w) && nat_lt (digits_value 10 (b ∷ w)) (2 ^ 64)) ≡ false
      at true e = cc
      at false e = no_number (nat_le (length (b ∷ w)) 20) (is_nonempty (b ∷ w)) (nat_lt (digits_value 10 (b ∷ w)) (2 ^ 64))

pub register_plain : (r : ℕ) → plain_word (register_word r) ≡ register_word r
register_plain r = plain_other (register_word r) (number_of_other 114 (decimal r) refl)

abbrev pub register_way : Way ℕ
register_way = record {
  read = register;
  word_of = register_word;
  fits = is_register;
  plain = λ w r h. ap plain_word (register_ok w r h).0 ∙ register_plain r;
  within = λ w r h. (register_ok w r h).1;
}

-- ---- operands

pub operand_ok : (w : List ℕ) (x : Operand) → operand_of w ≡ Ok x → (plain_word w ≡ operand_word x) × (operand_fits x ≡ true)
operand_ok w x h = at (begins_with_r w) h where
  at : (b : Bool) → cond b (register w >>= λ r. Ok (Reg r)) (number w >>= λ n. Ok (Number n)) ≡ Ok x → (plain_word w ≡ operand_word x) × (operand_fits x ≡ true)
  at true h =
      let b = bind_ok (register w) (λ r. Ok (Reg r)) x h in
      let e = ok_same (Reg b.0) x b.2 in
      (register_way.plain w b.0 b.1 ∙ ap operand_word e, sym (ap operand_fits e) ∙ register_way.within w b.0 b.1)
  at false h =
      let b = bind_ok (number w) (λ n. Ok (Number n)) x h in
      let e = ok_same (Number b.0) x b.2 in
      (number_way.plain w b.0 b.1 ∙ ap operand_word e, sym (ap operand_fits e) ∙ number_way.within w b.0 b.1)

abbrev pub operand_way : Way Operand
operand_way = record {
  read = operand_of;
  word_of = operand_word;
  fits = operand_fits;
  plain = λ w x h. (operand_ok w x h).0;
  within = λ w x h. (operand_ok w x h).1;
}

-- ---- keywords and phases

pub bytes_same : (a b : List ℕ) → bytes_eq a b ≡ true → a ≡ b
bytes_same [] [] h = refl
bytes_same [] (y ∷ ys) h = cc
bytes_same (x ∷ xs) [] h = cc
bytes_same (x ∷ xs) (y ∷ ys) h =
    let e = parts (nat_eq x y) (bytes_eq xs ys) h in
    ap (λ (z : ℕ). z ∷ xs) (eq_same x y e.0) ∙ ap (λ (zs : List ℕ). y ∷ zs) (bytes_same xs ys e.1)

named_is : (ks : List Keyword) (w : List ℕ) (k : Keyword) → keyword_among ks w ≡ Some k → w ≡ keyword_word k
named_is [] w k h = cc
named_is (x ∷ ks) w k h = at (bytes_eq w (keyword_word x)) refl h (named_is ks w k) where
  at : (b : Bool) → bytes_eq w (keyword_word x) ≡ b → cond b (Some x) (keyword_among ks w) ≡ Some k → (keyword_among ks w ≡ Some k → w ≡ keyword_word k) → w ≡ keyword_word k
  at true e h f = bytes_same w (keyword_word x) e ∙ ap keyword_word (some_same x k h)
  at false e h f = f h

pub keyword_is : (w : List ℕ) (k : Keyword) → keyword_of w ≡ Some k → w ≡ keyword_word k
keyword_is w k h = named_is keywords w k h

pub among_is : (ps : List HookPhase) (w : List ℕ) (p : HookPhase) → phase_among ps w ≡ Some p → w ≡ phase_word p
among_is [] w p h = cc
among_is (x ∷ ps) w p h = at (bytes_eq w (phase_word x)) refl h (among_is ps w p) where
  at : (b : Bool) → bytes_eq w (phase_word x) ≡ b → cond b (Some x) (phase_among ps w) ≡ Some p → (phase_among ps w ≡ Some p → w ≡ phase_word p) → w ≡ phase_word p
  at true e h f = bytes_same w (phase_word x) e ∙ ap phase_word (some_same x p h)
  at false e h f = f h

pub phase_no_number : (p : HookPhase) → number_of (phase_word p) ≡ None
phase_no_number Preparing = refl
phase_no_number Committing = refl
phase_no_number Commit = refl
phase_no_number Rollback = refl
phase_no_number Completion = refl

abbrev pub phase_way : Way HookPhase
phase_way = record {
  read = phase_of;
  word_of = phase_word;
  fits = λ _. true;
  plain = λ w p h. let e = among_is phases w p (or_ok reason.Number (phase_among phases w) p h) in ap plain_word e ∙ plain_other (phase_word p) (phase_no_number p);
  within = λ w p h. refl;
}
