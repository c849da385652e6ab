-- What is due can be done, behind each small change.
use Rattle.std.proofs.Common.{◌≡◌, ℕ, ◌≤◌, ◌<◌, ◌||◌, Bool, true, false, List, [], ◌∷◌, cond, drop, filter, Option, Some, None, refl, sym, ap, ◌∙◌, subst, arith}
use Rattle.std.specs.List.{list_any}
use Rattle.std.specs.Option.{is_some}
use Rattle.mq_front.specs.Limits.{AllMayBeDue, MayBeDue}
use Rattle.mq_talk.specs.declared.goal.Goal.{Goal}
use Rattle.mq_machine.specs.declared.act.Due.{Due}
use Rattle.mq_machine.specs.declared.act.Due.TheVariants.{Do}
use Rattle.mq_machine.specs.Lawful.{is_opening}
use Rattle.mq_machine.specs.State.{Waiting}
use Rattle.mq_machine.proofs.Lawful.Lists.{each_filter}
use Rattle.mq_conn.specs.declared.conn.First.{First}
use Rattle.mq_conn.specs.declared.conn.First.TheVariants as first
use Rattle.mq_conn.specs.Conns.{IsReady, IsSpare, act_of, behind}

or_later : (a b : Bool) → b ≡ true → (a || b) ≡ true
or_later true b h = refl
or_later false b h = h

-- ---- where nothing is due

pub ready_none : (spare : Option (List Waiting)) (len capacity : ℕ) → IsSpare spare → IsReady spare len capacity None []
ready_none spare len capacity h = record { room = λ e. absurd cc; spare_is = h; may = tt }

pub ready_idle : (spare : Option (List Waiting)) (len capacity : ℕ) (f : Option First) (dues : List Due) → f ≡ None → dues ≡ [] → IsSpare spare → IsReady spare len capacity f dues
ready_idle spare len capacity f dues none empty h =
    let P : Option First → Type 0 = λ o. IsReady spare len capacity o dues in
    let Q : List Due → Type 0 = λ ds. IsReady spare len capacity None ds in
    subst P (sym none) (subst Q (sym empty) (ready_none spare len capacity h))

-- ---- what is due is less

may_rest : (f : Option First) (dues : List Due) (d : Due) (rest : List Due) → behind f dues ≡ d ∷ rest → AllMayBeDue dues → AllMayBeDue rest
may_rest None dues d rest is h = let P : List Due → Type 0 = λ ds. AllMayBeDue ds in (subst P is h).1
may_rest (Some f) dues d rest is h =
    let P : List Due → Type 0 = λ ds. AllMayBeDue ds in subst P (ap (λ (ds : List Due). drop 1 ds) is) h

-- what stands first is taken
pub ready_rest : (spare : Option (List Waiting)) (len capacity : ℕ) (f : Option First) (dues : List Due) (d : Due) (rest : List Due) → behind f dues ≡ d ∷ rest → IsReady spare len capacity f dues → IsReady spare len capacity None rest
ready_rest spare len capacity f dues d rest is h = record {
  room = λ some. h.room (ap (λ (ds : List Due). list_any is_opening ds) is ∙ or_later (is_opening d) (list_any is_opening rest) some);
  spare_is = h.spare_is;
  may = may_rest f dues d rest is h.may;
}

or_kept : (a b c : Bool) → (b ≡ true → c ≡ true) → (a || b) ≡ true → (a || c) ≡ true
or_kept true b c f h = refl
or_kept false b c f h = f h

kept_first : (b : Bool) (x : Due) (kept xs : List Due) → (list_any is_opening kept ≡ true → list_any is_opening xs ≡ true) → list_any is_opening (cond b (x ∷ kept) kept) ≡ true → list_any is_opening (x ∷ xs) ≡ true
kept_first true x kept xs f h = or_kept (is_opening x) (list_any is_opening kept) (list_any is_opening xs) f h
kept_first false x kept xs f h = or_later (is_opening x) (list_any is_opening xs) (f h)

any_kept : (p : Due → Bool) (xs : List Due) → list_any is_opening (filter p xs) ≡ true → list_any is_opening xs ≡ true
any_kept p [] h = h
any_kept p (x ∷ xs) h = kept_first (p x) x (filter p xs) xs (any_kept p xs) h

any_behind : (f : Option First) (p : Due → Bool) (dues : List Due) → list_any is_opening (behind f (filter p dues)) ≡ true → list_any is_opening (behind f dues) ≡ true
any_behind None p dues h = any_kept p dues h
any_behind (Some (first.Open id goal)) p dues h = refl
any_behind (Some (first.Close id reason)) p dues h = any_kept p dues h
any_behind (Some (first.Push id n to packet)) p dues h = any_kept p dues h

-- a part of it is forgotten
pub ready_kept : (spare : Option (List Waiting)) (len capacity : ℕ) (f : Option First) (p : Due → Bool) (dues : List Due) → IsReady spare len capacity f dues → IsReady spare len capacity f (filter p dues)
ready_kept spare len capacity f p dues h = record {
  room = λ some. h.room (any_behind f p dues some);
  spare_is = h.spare_is;
  may = each_filter MayBeDue p dues h.may;
}

-- ---- there are fewer tunnels, or more room

pub ready_less : (spare : Option (List Waiting)) (len capacity less : ℕ) (f : Option First) (dues : List Due) → less ≤ len → IsReady spare len capacity f dues → IsReady spare less capacity f dues
ready_less spare len capacity less f dues few h = record {
  room = λ some. (let r = h.room some in (r.0, (let s = r.1 in omega (arith, few, s))));
  spare_is = h.spare_is;
  may = h.may;
}

pub ready_same : (spare : Option (List Waiting)) (len capacity len2 capacity2 : ℕ) (f : Option First) (dues : List Due) → len2 ≡ len → capacity2 ≡ capacity → IsReady spare len capacity f dues → IsReady spare len2 capacity2 f dues
ready_same spare len capacity len2 capacity2 f dues e k h =
    let P : ℕ → Type 0 = λ n. IsReady spare n capacity2 f dues in
    let Q : ℕ → Type 0 = λ n. IsReady spare len n f dues in
    subst P (sym e) (subst Q (sym k) h)

-- ---- an act stands in front

-- the opening of a tunnel, for which there is room
pub ready_open : (spare : Option (List Waiting)) (len capacity id : ℕ) (goal : Goal) (dues : List Due) → is_some spare ≡ true → len < capacity → IsSpare spare → AllMayBeDue dues → IsReady spare len capacity (Some (first.Open id goal)) dues
ready_open spare len capacity id goal dues some room empty may = record { room = λ e. (some, room); spare_is = empty; may = may }

-- or another
pub ready_first : (spare : Option (List Waiting)) (len capacity : ℕ) (f : Option First) (g : First) (dues : List Due) → f ≡ None → is_opening (Do (act_of g)) ≡ false → IsReady spare len capacity f dues → IsReady spare len capacity (Some g) dues
ready_first spare len capacity f g dues none isnt h =
    let P : Option First → Type 0 = λ o. IsReady spare len capacity o dues in
    let k = subst P none h in record {
      room = λ some. k.room (sym (ap (λ (b : Bool). b || list_any is_opening dues) isnt) ∙ some);
      spare_is = k.spare_is;
      may = k.may;
    }
