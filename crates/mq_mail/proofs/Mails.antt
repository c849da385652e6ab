-- What a push and a pop at a post are, in the words of an actor's inboxes.
use Rattle.std.proofs.Common.{◌≡◌, ℕ, ◌+◌, zero, suc, ◌<◌, ◌≤◌, List, [], ◌∷◌, ◌++◌, length, map, slice_get, slice_set, Option, Some, None, refl, ap, subst, ◌∙◌, arith}
use borrow.Author.Tests.{le-ltb}
use Rattle.std.specs.Option.{unwrap_or}
use lib.ListN.{length-map}
use mathlib.Core.List.{map-append}
use Rattle.mq_talk.specs.declared.place.Parcel.{Parcel}
use Rattle.mq_talk.specs.declared.place.Pushed.{Pushed}
use Rattle.mq_talk.specs.declared.place.Pushed.TheVariants as pushed
use Rattle.mq_talk.specs.Mails.{Boxes, Inboxes, IsParcel, box_at, with_parcel, PushGives, PopGives}
use Rattle.mq_mail.specs.declared.inbox_rule.Letter.{Letter}
use Rattle.mq_mail.specs.Posts.{KeyOf, PushesBy, PopsBy, with_pushed}
use Rattle.mq_mail.specs.Ruled.{untold}

empty : ℕ → Boxes
empty zero = []
empty (suc n) = [] ∷ empty n

-- empty inboxes but for one
one : ℕ → ℕ → List Parcel → Boxes
one zero i box = []
one (suc n) zero box = box ∷ empty n
one (suc n) (suc i) box = [] ∷ one n i box

length_empty : (n : ℕ) → length (empty n) ≡ n
unfolding empty
length_empty zero = refl
length_empty (suc n) = ap suc (length_empty n)

length_one : (n i : ℕ) (box : List Parcel) → length (one n i box) ≡ n
unfolding one
length_one zero i box = refl
length_one (suc n) zero box = ap suc (length_empty n)
length_one (suc n) (suc i) box = ap suc (length_one n i box)

at_empty : (n i : ℕ) → box_at (empty n) i ≡ []
unfolding empty
at_empty zero i = refl
at_empty (suc n) zero = refl
at_empty (suc n) (suc i) = at_empty n i

get_one : (n i : ℕ) (box : List Parcel) → i < n → slice_get (one n i box) i ≡ Some box
unfolding one
get_one zero i box lt = absurd (omega arith)
get_one (suc n) zero box lt = refl
get_one (suc n) (suc i) box lt = get_one n i box (omega arith)

-- what is counted as a parcel comes back, or is taken
abbrev pub Counts : Pushed → ℕ → (back back_by back_after back_by_after : ℕ) → Type 0
Counts pushed.Taken to back back_by back_after back_by_after = (back_after ≡ back) × (back_by_after ≡ back_by)
Counts (pushed.Full parcel) to back back_by back_after back_by_after = (back_after ≡ back + 1) × (back_by_after ≡ to)

pub taken_counts : (answer : Pushed) (to back back_by : ℕ) → ((parcel : Parcel) → answer ≡ pushed.Full parcel → ⊥) → Counts answer to back back_by back back_by
taken_counts pushed.Taken to back back_by not = (refl, refl)
taken_counts (pushed.Full parcel) to back back_by not = absurd (not parcel refl)

-- the same key and counts
same_untold : (k l : KeyOf) (a b c d : ℕ) → k ≡ l → a ≡ b → c ≡ d → untold k a c ≡ untold l b d
same_untold k l a b c d keys backs bys =
    ap (λ (x : KeyOf). untold x a c) keys ∙ ap (λ (x : ℕ). untold l x c) backs ∙ ap (λ (x : ℕ). untold l b x) bys

pub push_gives : (old new : KeyOf) (to : ℕ) (parcel : Parcel) (answer : Pushed) (back back_by back_after back_by_after : ℕ) → to < length old.post → PushesBy 256 old to parcel answer new
    → Counts answer to back back_by back_after back_by_after
    → PushGives (length old.post) (untold old back back_by) to parcel answer (untold new back_after back_by_after)
push_gives old new to parcel pushed.Taken back back_by back_after back_by_after lt does counts =
    let n : ℕ = length old.post in record {
      before = empty n;
      after = with_parcel (empty n) to parcel;
      size = length_empty n;
      was = tt;
      is = tt;
      tells = refl;
      does = (rw (at_empty n to) refl, refl);
      goes = ap (λ (m : Inboxes). m.went) (same_untold new (record old { pushed = with_pushed old.pushed to parcel }) back_after back back_by_after back_by does counts.0 counts.1);
    }
push_gives old new to parcel (pushed.Full came) back back_by back_after back_by_after lt does counts =
    let n : ℕ = length old.post in
    let box : List Parcel = map (λ (l : Letter). l.parcel) does.2.waiting in
    let here : box_at (one n to box) to ≡ box = ap (λ (o : Option (List Parcel)). unwrap_or o []) (get_one n to box lt) in
    let long : 256 ≤ length box = omega (arith, length-map does.2.waiting (λ (l : Letter). l.parcel), does.2.size) in
    record {
      before = one n to box;
      after = one n to box;
      size = length_one n to box;
      was = tt;
      is = tt;
      tells = refl;
      does = (rw here (le-ltb (length box) 256 long), refl, does.0);
      goes = ap (λ (m : Inboxes). m.went) (same_untold new old back_after (back + 1) back_by_after to does.1 counts.0 counts.1);
    }

pub pop_gives : (old new : KeyOf) (answer : Option Parcel) (back back_by : ℕ) → old.actor < length old.post → PopsBy old answer new
    → PopGives (length old.post) (untold old back back_by) old.actor answer (untold new back back_by)
pop_gives old new None back back_by lt does =
    let n : ℕ = length old.post in record {
      before = empty n;
      after = empty n;
      size = length_empty n;
      was = tt;
      is = tt;
      tells = refl;
      does = (at_empty n old.actor, refl);
      goes = ap (λ (k : KeyOf). (untold k back back_by).went) does.0;
    }
pop_gives old new (Some parcel) back back_by lt does =
    let n : ℕ = length old.post in
    let box : List Parcel = parcel ∷ [] in
    let P : Parcel → Type 0 = IsParcel in
    record {
      before = one n old.actor box;
      after = slice_set (one n old.actor box) old.actor [];
      size = length_one n old.actor box;
      was = tt;
      is = tt;
      tells = refl;
      does = ([], get_one n old.actor box lt, refl, subst P does.1 does.2.parcel);
      goes = ap (λ (k : KeyOf). (untold k back back_by).went) does.3 ∙ ap (λ (ps : List Parcel). Some (record { taken = old.pushed; popped = ps; back = back; back_by = back_by })) (
          map-append (λ (l : Letter). l.parcel) old.popped (does.0 ∷ []) ∙ ap (λ (p : Parcel). map (λ (l : Letter). l.parcel) old.popped ++ p ∷ []) does.1
          );
    }

pub push_keeps : (old new : KeyOf) (to : ℕ) (parcel : Parcel) (answer : Pushed) → PushesBy 256 old to parcel answer new → (new.post ≡ old.post) × (new.actor ≡ old.actor)
push_keeps old new to parcel pushed.Taken does = (ap (λ (k : KeyOf). k.post) does, ap (λ (k : KeyOf). k.actor) does)
push_keeps old new to parcel (pushed.Full back) does = (ap (λ (k : KeyOf). k.post) does.1, ap (λ (k : KeyOf). k.actor) does.1)

pub pop_keeps : (old new : KeyOf) (answer : Option Parcel) → PopsBy old answer new → (new.post ≡ old.post) × (new.actor ≡ old.actor)
pop_keeps old new None does = (ap (λ (k : KeyOf). k.post) does.0, ap (λ (k : KeyOf). k.actor) does.0)
pop_keeps old new (Some parcel) does = (ap (λ (k : KeyOf). k.post) does.3, ap (λ (k : KeyOf). k.actor) does.3)
