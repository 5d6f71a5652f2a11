-- Lists that tell their parts apart.
use Rattle.std.proofs.Common.{◌≡◌, Bool, true, false, ◌&&◌, not, List, [], ◌∷◌, ◌++◌, map, refl, ap, ◌∙◌}
use Rattle.std.specs.List.{AllByRecursion, list_all}

pub both : (a b : Bool) → (a && b) ≡ true → (a ≡ true) × (b ≡ true)
both true b h = (refl, h)
both false b h = cc

pub and_true : (a b : Bool) → a ≡ true → b ≡ true → (a && b) ≡ true
and_true a b p q = rw (p, q)

pub not_true : (b : Bool) → not b ≡ true → b ≡ false
not_true true h = cc
not_true false h = refl

pub not_false : (b : Bool) → b ≡ false → not b ≡ true
not_false b h = rw h refl

pub list_all-join : {X : Type 0} (p : X → Bool) (xs ys : List X) → list_all p xs ≡ true → list_all p ys ≡ true → list_all p (xs ++ ys) ≡ true
list_all-join p [] ys h k = k
list_all-join p (x ∷ xs) ys h k = let e = both (p x) (list_all p xs) h in and_true (p x) (list_all p (xs ++ ys)) e.0 (list_all-join p xs ys e.1 k)

-- what passes a test passes a weaker one
pub list_all-weaker : {X : Type 0} (p q : X → Bool) → ((x : X) → p x ≡ true → q x ≡ true) → (xs : List X) → list_all p xs ≡ true → list_all q xs ≡ true
list_all-weaker p q f [] h = refl
list_all-weaker p q f (x ∷ xs) h = let e = both (p x) (list_all p xs) h in and_true (q x) (list_all q xs) (f x e.0) (list_all-weaker p q f xs e.1)

-- what holds of each element of two lists holds of both in a row, and of a map where the function keeps it
pub AllByRecursion-append : {X : Type 0} (P : X → Type 0) (xs ys : List X) → AllByRecursion P xs → AllByRecursion P ys → AllByRecursion P (xs ++ ys)
AllByRecursion-append P [] ys h k = k
AllByRecursion-append P (x ∷ xs) ys h k = (h.0, AllByRecursion-append P xs ys h.1 k)

pub AllByRecursion-map : {X Y : Type 0} (P : X → Type 0) (Q : Y → Type 0) (f : X → Y) → ((x : X) → P x → Q (f x)) → (xs : List X) → AllByRecursion P xs → AllByRecursion Q (map f xs)
AllByRecursion-map P Q f g [] h = tt
AllByRecursion-map P Q f g (x ∷ xs) h = (g x h.0, AllByRecursion-map P Q f g xs h.1)

pub heads_same : {X : Type 0} (x y : X) (xs ys : List X) → (x ∷ xs) ≡ (y ∷ ys) → (x ≡ y) × (xs ≡ ys)
heads_same x y xs ys e = (cc, cc)

-- the list is empty, or its first element fails the test
abbrev pub stops : {X : Type 0} → (X → Bool) → List X → Bool
stops p [] = true
stops p (x ∷ xs) = not (p x)

-- Where two lists begin with a part that passes a test and go on with what stops it, the parts are the same, and so are the rests.
pub front_same : {X : Type 0} (p : X → Bool) (xs ys r s : List X) → list_all p xs ≡ true → list_all p ys ≡ true → stops p r ≡ true → stops p s ≡ true → (xs ++ r) ≡ (ys ++ s) → (xs ≡ ys) × (r ≡ s)
front_same p [] [] r s a b h k e = (refl, e)
front_same p [] (y ∷ ys) r s a b h k e = let f = ap (stops p) e in let g = rw (both (p y) (list_all p ys) b).0 at f in cc
front_same p (x ∷ xs) [] r s a b h k e = let f = ap (stops p) e in let g = rw (both (p x) (list_all p xs) a).0 at f in cc
front_same {X} p (x ∷ xs) (y ∷ ys) r s a b h k e =
    let t = heads_same x y (xs ++ r) (ys ++ s) e in
    let q = front_same p xs ys r s (both (p x) (list_all p xs) a).1 (both (p y) (list_all p ys) b).1 h k t.1 in
    (ap (λ (z : X). z ∷ xs) t.0 ∙ ap (λ (zs : List X). y ∷ zs) q.0, q.1)

-- a map by a function that tells values apart tells lists of them apart
pub map_same : {X Y : Type 0} (P : X → Type 0) (f : X → Y) (one : (x y : X) → P x → P y → f x ≡ f y → x ≡ y) (xs ys : List X) → AllByRecursion P xs → AllByRecursion P ys → map f xs ≡ map f ys → xs ≡ ys
map_same P f one [] [] a b e = refl
map_same P f one [] (y ∷ ys) a b e = cc
map_same P f one (x ∷ xs) [] a b e = cc
map_same {X} P f one (x ∷ xs) (y ∷ ys) a b e =
    let t = heads_same (f x) (f y) (map f xs) (map f ys) e in
    ap (λ (z : X). z ∷ xs) (one x y a.0 b.0 t.0) ∙ ap (λ (zs : List X). y ∷ zs) (map_same P f one xs ys a.1 b.1 t.1)
