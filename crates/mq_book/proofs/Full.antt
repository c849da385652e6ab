-- A history that has no place for so many entries has none later: each entry takes one, and closes at most one live tunnel.
use Rattle.std.proofs.Common.{◌≡◌, ℕ, suc, ◌+◌, ◌<◌, ◌≤◌, true, not, cond, List, [], ◌∷◌, ◌++◌, length, get_or, ap, refl, arith, inl, inr}
use Rattle.std.specs.Prelude.{◌==◌}
use Rattle.std.specs.List.{All, AllPairs, filter}
use Rattle.std.proofs.lemmas.Bool.{cases_eq, eq-eqb, ne_eqb}
use Rattle.std.proofs.lemmas.List.{append_assoc, length-append, length_push}
use Rattle.mq_talk.specs.declared.book.Call.{Call}
use Rattle.mq_talk.specs.declared.book.Call.TheVariants.{Open, Assign, Advertise, Close}
use Rattle.mq_talk.specs.declared.book.Entry.{Entry}
use Rattle.mq_talk.specs.Book.{History, opening, closes, is_some_list, live_tunnels}
use Rattle.mq_book.specs.Laws.{StaysFull}
use Rattle.mq_book.proofs.More.{tunnels_more, append_nil}
use Rattle.mq_book.proofs.Standing.{filter_all, keeps_all, rise}

-- of numbers that rise a filter takes one out at most
one_out : (n : ℕ) (xs : List ℕ) → AllPairs (λ a b. a < b) xs → length xs ≤ length (filter (λ t. not (n == t)) xs) + 1
one_out n [] rises = omega arith
one_out n (x ∷ xs) rises =
    let rest = filter (λ t. not (n == t)) xs in
    elim (cases_eq n x) [
      | inl same ↦
          let others : All (λ t. not (n == t) ≡ true) xs = λ k d less.
          let high : suc k < length (x ∷ xs) = omega (arith, less) in
          let low : 0 < suc k = omega arith in
          ap not (ne_eqb n (get_or xs k d) (λ e. omega (arith, rises 0 (suc k) d low high, same, e))) in
          let gone : length (filter (λ t. not (n == t)) (x ∷ xs)) ≡ length rest = ap (λ b. length (cond b (x ∷ rest) rest)) (ap not (eq-eqb n x same)) in
          omega (arith, gone, ap length (keeps_all (λ t. not (n == t)) xs others))
      | inr ne ↦
          let stays : length (filter (λ t. not (n == t)) (x ∷ xs)) ≡ length (x ∷ rest) = ap (λ b. length (cond b (x ∷ rest) rest)) (ap not (ne_eqb n x ne)) in
          let later : AllPairs (λ a b. a < b) xs = λ i j d before within.
          let low : suc i < suc j = omega (arith, before) in
          let high : suc j < length (x ∷ xs) = omega (arith, within) in
          rises (suc i) (suc j) d low high in
          omega (arith, stays, one_out n xs later)
    ]

-- a call closes one tunnel at most
one_closes : (c : Call) (xs : List ℕ) → AllPairs (λ a b. a < b) xs → length xs ≤ length (filter (λ t. not (closes t c)) xs) + 1
one_closes (Close n) xs rises = one_out n xs rises
one_closes (Open conn stream actor goal) xs rises = omega (arith, ap length (filter_all (λ t. not (closes t (Open conn stream actor goal))) xs (λ t. refl)))
one_closes (Assign tunnel asked) xs rises = omega (arith, ap length (filter_all (λ t. not (closes t (Assign tunnel asked))) xs (λ t. refl)))
one_closes (Advertise tunnel offered) xs rises = omega (arith, ap length (filter_all (λ t. not (closes t (Advertise tunnel offered))) xs (λ t. refl)))

-- the places that the entries take, and the closes of the live tunnels
abbrev places : History → ℕ
places h = length h + length (live_tunnels h)

places_more : (h : History) (e : Entry) → places h ≤ places (h ++ e ∷ [])
places_more h e =
    let left = filter (λ t. not (closes t e.call)) (live_tunnels h) in
    let opens : List ℕ = cond (is_some_list (opening e.call e.reply)) (length h ∷ []) [] in
    omega (arith, length_push h e, one_closes e.call (live_tunnels h) (rise h), ap length (tunnels_more h e), length-append left opens)

places_grow : (h more : History) → places h ≤ places (h ++ more)
places_grow h [] = let same : places (h ++ []) ≡ places h = ap places (append_nil h) in omega (arith, same)
places_grow h (e ∷ more) =
    let same : places (h ++ e ∷ [] ++ more) ≡ places (h ++ e ∷ more) = ap places (append_assoc h (e ∷ []) more) in
    omega (arith, places_more h e, places_grow (h ++ e ∷ []) more, same)

pub stays_full : StaysFull
stays_full config h more count entries live is = (
  length (h ++ more),
  length (live_tunnels (h ++ more)),
  record {
    full = omega (arith, is.full, places_grow h more);
    entries_are = refl;
    live_are = refl;
  },
)
