-- Numbered letters, and those of one pusher.
use Rattle.std.proofs.Common.{◌≡◌, ◌≢◌, ℕ, suc, ◌+◌, Bool, cond, nat_eq, eq-eqb, ne_eqb, List, [], ◌∷◌, ◌++◌, length, sym, refl, ap, ◌∙◌, zero-add, arith}
use Rattle.std.proofs.lemmas.List.Elements.{filter-append}
use Rattle.mq_talk.specs.declared.place.Parcel.{Parcel}
use Rattle.mq_talk.specs.Mails.{IsParcel}
use Rattle.mq_mail.specs.declared.inbox_rule.Letter.{Letter}
use Rattle.mq_mail.specs.Letters.{letter, letters_from, letters, of, AreParcels}

pub chosen : {A : Type 0} (p q : ℕ) (x y : A) → p ≡ q → cond (nat_eq p q) x y ≡ x
chosen p q x y e = ap (λ (b : Bool). cond b x y) (eq-eqb p q e)

pub passed : {A : Type 0} (p q : ℕ) (x y : A) → p ≢ q → cond (nat_eq p q) x y ≡ y
passed p q x y e = ap (λ (b : Bool). cond b x y) (ne_eqb p q e)

pub of_append : (p : ℕ) (xs ys : List Letter) → of p (xs ++ ys) ≡ of p xs ++ of p ys
of_append p xs ys = filter-append (λ (l : Letter). nat_eq l.pusher p) xs ys

pub of_mine : (p : ℕ) (x : Letter) (xs : List Letter) → x.pusher ≡ p → of p (x ∷ xs) ≡ x ∷ of p xs
of_mine p x xs e = chosen x.pusher p (x ∷ of p xs) (of p xs) e

pub of_other : (p : ℕ) (x : Letter) (xs : List Letter) → x.pusher ≢ p → of p (x ∷ xs) ≡ of p xs
of_other p x xs e = passed x.pusher p (x ∷ of p xs) (of p xs) e

numbered_more : (p n : ℕ) (xs : List Parcel) (x : Parcel) → letters_from p n (xs ++ x ∷ []) ≡ letters_from p n xs ++ letter p (length xs + n) x ∷ []
numbered_more p n [] x = ap (λ (k : ℕ). letter p k x ∷ []) (sym (zero-add n))
numbered_more p n (y ∷ ys) x =
    let k : length ys + suc n ≡ suc (length ys) + n = omega arith in
    ap (λ (l : List Letter). letter p n y ∷ l) (numbered_more p (suc n) ys x ∙ ap (λ (k : ℕ). letters_from p (suc n) ys ++ letter p k x ∷ []) k)

-- one more of the same pusher
pub letters_more : (p : ℕ) (xs : List Parcel) (x : Letter) → x.pusher ≡ p → x.place ≡ length xs → letters p (xs ++ x.parcel ∷ []) ≡ letters p xs ++ x ∷ []
letters_more p xs x who place =
    let n : length xs + 0 ≡ x.place = omega arith in
    numbered_more p 0 xs x.parcel ∙ ap (λ (k : ℕ). letters p xs ++ letter p k x.parcel ∷ []) n ∙ ap (λ (q : ℕ). letters p xs ++ letter q x.place x.parcel ∷ []) (sym who)

pub length_letters : (p n : ℕ) (xs : List Parcel) → length (letters_from p n xs) ≡ length xs
length_letters p n [] = refl
length_letters p n (x ∷ xs) = ap suc (length_letters p (suc n) xs)

head_place : List Letter → ℕ
head_place [] = 0
head_place (x ∷ xs) = x.place

behind : List Letter → List Letter
behind [] = []
behind (x ∷ xs) = xs

place_from : (p n : ℕ) (xs : List Parcel) (front rest : List Letter) (x : Letter) → letters_from p n xs ≡ front ++ (x ∷ rest) → x.place ≡ length front + n
unfolding head_place behind
place_from p n [] [] rest x e = cc
place_from p n [] (y ∷ front) rest x e = cc
place_from p n (z ∷ xs) [] rest x e = sym (ap head_place e) ∙ sym (zero-add n)
place_from p n (z ∷ xs) (y ∷ front) rest x e =
    let h = place_from p (suc n) xs front rest x (ap behind e) in
    omega (arith, h)

-- a letter among numbered ones has the number of those before it
pub place_of : (p : ℕ) (xs : List Parcel) (front rest : List Letter) (x : Letter) → letters p xs ≡ front ++ (x ∷ rest) → x.place ≡ length front
place_of p xs front rest x e = let h = place_from p 0 xs front rest x e in omega (arith, h)

pub parcels_more : (xs : List Letter) (x : Letter) → AreParcels xs → IsParcel x.parcel → AreParcels (xs ++ x ∷ [])
parcels_more [] x a h = (h, tt)
parcels_more (y ∷ ys) x a h = (a.0, parcels_more ys x a.1 h)
