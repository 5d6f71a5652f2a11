-- The open levels, the innermost first.
use Rattle.std.proofs.Common.{◌≡◌, ℕ, zero, suc, ◌-◌, ◌≤◌, List, [], ◌∷◌, ◌++◌, length, take, drop, get_or, reverse, ap, ◌∙◌, arith, sym, refl}
use Rattle.std.proofs.Math.Seq.{take-suc}
use Rattle.std.proofs.lemmas.List.{length-reverse, length-take-le, reverse-append}

pub length_open : {A : Type 0} (places : List A) (depth : ℕ) → depth ≤ length places → length (reverse (take depth places)) ≡ depth
length_open places depth within = length-reverse (take depth places) ∙ length-take-le depth places within

last_first : {A : Type 0} (front : List A) (last : A) → reverse front ≡ drop 1 (reverse (front ++ last ∷ []))
last_first front last = ap (drop 1) (sym (reverse-append front (last ∷ [])))

-- all but the innermost
pub open_around : {A : Type 0} (places : List A) (depth : ℕ) → depth ≤ length places → reverse (take (depth - 1) places) ≡ drop 1 (reverse (take depth places))
open_around places zero within = refl
open_around [] (suc depth) within = absurd (omega arith)
open_around {A = A} (place ∷ places) (suc depth) within =
    let fewer : suc depth - 1 ≡ depth = omega arith in
    ap (λ (n : ℕ). reverse (take n (place ∷ places))) fewer
    ∙ last_first (take depth (place ∷ places)) (get_or (place ∷ places) depth place)
    ∙ ap (λ (levels : List A). drop 1 (reverse levels)) (sym (take-suc (place ∷ places) depth place (omega arith)))
