-- Each move keeps the rule of an inbox.
use Rattle.std.proofs.Common.{◌≡◌, ◌≢◌, ℕ, suc, true, false, true≢false, cond, nat_eq, List, [], ◌∷◌, ◌++◌, length, set, Option, Some, None, sym, refl, ap, ◌∙◌, append_assoc, subst, le_refl, arith}
use Rattle.std.proofs.lemmas.List.{append-nil}
use Rattle.std.proofs.lemmas.Option.{none-some, same_Some}
use mathlib.Core.Option.{some-ne-none}
use mathlib.Core.Logic.{dite}
use native.Mathlib.Decide.{ℕ_discrete}
use Rattle.crossbeam_queue.specs.Fifo.{Pushes, Pops, Forks, Merges, Learns}
use Rattle.mq_talk.specs.declared.place.Parcel.{Parcel}
use Rattle.mq_talk.specs.Mails.{IsParcel}
use Rattle.mq_mail.specs.declared.inbox_rule.Letter.{Letter}
use Rattle.mq_mail.specs.declared.inbox_rule.Part.{Part}
use Rattle.mq_mail.specs.Letters.{letters, of, AreNumbered, IsNext}
use Rattle.mq_mail.specs.InboxRule.{pusher, popper, idle, adds, Owns, Knows, IsDelivered, AreAmong, AreOf, AreAll}
use Rattle.mq_mail.proofs.Views.{OfEach, each_set, each_more, was_there}
use Rattle.mq_mail.proofs.Numbering.{chosen, passed, of_append, of_mine, of_other, letters_more, place_of, parcels_more}

no : {A : Type 0} → false ≡ true → A
no p = absurd (true≢false (sym p))

-- an actor whose pass stands elsewhere is another
apart : (seat : ℕ → Option ℕ) (p q i j : ℕ) → seat p ≡ Some i → seat q ≡ Some j → i ≢ j → p ≢ q
apart seat p q i j a b n e = n (same_Some i j (sym a ∙ ap seat e ∙ b))

seated : (seat : ℕ → Option ℕ) (p q i : ℕ) → seat p ≡ Some i → seat q ≡ None → p ≢ q
seated seat p q i a b e = none-some i (sym b ∙ ap seat (sym e) ∙ a)

-- what a change leaves of each actor, it leaves of all of a pass
owns_after : (seat seat' : ℕ → Option ℕ) (pushed pushed' : ℕ → List Parcel) (pass pass' : ℕ) (owns : List (ℕ × List Parcel))
    → ((p : ℕ) → seat p ≡ Some pass → (seat' p ≡ Some pass') × (pushed p ≡ pushed' p)) → Owns seat pushed pass owns → Owns seat' pushed' pass' owns
owns_after seat seat' pushed pushed' pass pass' [] f o = tt
owns_after seat seat' pushed pushed' pass pass' (own ∷ rest) f o =
    let a = f own.0 o.0.0 in
    ((a.0, o.0.1 ∙ a.1), owns_after seat seat' pushed pushed' pass pass' rest f o.1)

owns_append : (seat : ℕ → Option ℕ) (pushed : ℕ → List Parcel) (pass : ℕ) (xs ys : List (ℕ × List Parcel)) → Owns seat pushed pass xs → Owns seat pushed pass ys → Owns seat pushed pass (xs ++ ys)
owns_append seat pushed pass [] ys a b = b
owns_append seat pushed pass (x ∷ xs) ys a b = (a.0, owns_append seat pushed pass xs ys a.1 b)

pub begins : IsDelivered [] (popper 0 [] ∷ [])
begins =
    let seat : ℕ → Option ℕ = λ p. None in
    let pushed : ℕ → List Parcel = λ p. [] in
    let F : ℕ → Part → Type 0 = Knows 0 seat pushed [] in
    record {
      reader = 0;
      seat = seat;
      pushed = pushed;
      popped = [];
      in_order = λ p. refl;
      parcels = tt;
      knows = each_more F [] (popper 0 []) (λ j u e. absurd (some-ne-none u (sym e))) (record { owns = tt; pops = λ _. record { place = refl; all = refl; later = λ p le. (refl, refl) } });
    }

-- a pass comes that pushes for the next actor
pub makes : (pass : ℕ) (v : Part) → v.pops ≡ true → Forks IsDelivered pass v (record v { made = suc v.made }) (pusher v.made [])
makes pass v may items views h at =
    let l : Part = record v { made = suc v.made } in
    let mine = h.knows pass v at in
    let is = mine.pops may in
    let vs : List Part = set views pass l in
    let n : ℕ = length vs in
    let seat : ℕ → Option ℕ = λ p. cond (nat_eq p v.made) (Some n) (h.seat p) in
    let free = is.later v.made (le_refl v.made) in
    let F : ℕ → Part → Type 0 = Knows h.reader seat h.pushed h.popped in
    let stays : (i p : ℕ) → h.seat p ≡ Some i → (seat p ≡ Some i) × (h.pushed p ≡ h.pushed p) = λ i p e. (passed p v.made (Some n) (h.seat p) (seated h.seat p v.made i e free.0) ∙ e, refl) in
    record {
      reader = h.reader;
      seat = seat;
      pushed = h.pushed;
      popped = h.popped;
      in_order = h.in_order;
      parcels = h.parcels;
      knows = each_more F vs (pusher v.made [])
          (each_set F views pass l
          (record {
            owns = owns_after h.seat seat h.pushed h.pushed pass pass v.owns (stays pass) mine.owns;
            pops = λ _. record {
              place = is.place;
              all = is.all;
              later = λ p le. let was = is.later p (omega arith) in (passed p v.made (Some n) (h.seat p) (omega arith) ∙ was.0, was.1);
            };
          })
          (λ j u other e. let old = h.knows j u e in record {
            owns = owns_after h.seat seat h.pushed h.pushed j j u.owns (stays j) old.owns;
            pops = λ p. absurd (other ((old.pops p).place ∙ sym is.place));
          }))
          (record { owns = ((chosen v.made v.made (Some n) (h.seat v.made) refl, sym free.1), tt); pops = λ p. no p });
    }

more_in_order : (popped items : List Letter) (x : Letter) (p q : ℕ) (xs : List Parcel) → x.pusher ≡ q → (p ≡ q → x.place ≡ length xs) → of p (popped ++ items) ≡ letters p xs
    → of p (popped ++ (items ++ x ∷ [])) ≡ letters p (cond (nat_eq p q) (xs ++ x.parcel ∷ []) xs)
more_in_order popped items x p q xs who place was =
    let all : List Letter = popped ++ items in
    let cut : of p (popped ++ (items ++ x ∷ [])) ≡ of p all ++ of p (x ∷ []) = ap (of p) (sym (append_assoc popped items (x ∷ []))) ∙ of_append p all (x ∷ []) in
    dite (ℕ_discrete p q)
    (λ e. cut ∙ ap (λ (l : List Letter). l ++ of p (x ∷ [])) was ∙ ap (λ (l : List Letter). letters p xs ++ l) (of_mine p x [] (who ∙ sym e))
    ∙ sym (letters_more p xs x (who ∙ sym e) (place e)) ∙ ap (letters p) (sym (chosen p q (xs ++ x.parcel ∷ []) xs e)))
    (λ ne. cut ∙ ap (λ (l : List Letter). of p all ++ l) (of_other p x [] (λ e. ne (sym e ∙ who))) ∙ append-nil (of p all) ∙ was ∙ ap (letters p) (sym (passed p q (xs ++ x.parcel ∷ []) xs ne)))

pub pushes : (n pass : ℕ) (v : Part) (x : Letter) (xs : List Parcel) → v.owns ≡ (x.pusher, xs) ∷ [] → x.place ≡ length xs → IsParcel x.parcel
    → Pushes IsDelivered n pass v x (λ w. w ≡ record v { owns = adds v.owns x.parcel })
pushes n pass v x xs owns place parcel items views _ h at =
    let q : ℕ = x.pusher in
    let w : Part = record v { owns = adds v.owns x.parcel } in
    let mine = h.knows pass v at in
    let P : List (ℕ × List Parcel) → Type 0 = Owns h.seat h.pushed pass in
    let is : (h.seat q ≡ Some pass) × (xs ≡ h.pushed q) = (subst P owns mine.owns).0 in
    let pushed : ℕ → List Parcel = λ p. cond (nat_eq p q) (h.pushed p ++ x.parcel ∷ []) (h.pushed p) in
    let same : (p : ℕ) → p ≢ q → h.pushed p ≡ pushed p = λ p ne. sym (passed p q (h.pushed p ++ x.parcel ∷ []) (h.pushed p) ne) in
    let F : ℕ → Part → Type 0 = Knows h.reader h.seat pushed h.popped in
    let later : (p : ℕ) → (h.seat p ≡ None) × (h.pushed p ≡ []) → (h.seat p ≡ None) × (pushed p ≡ []) =
    λ p was. (was.0, sym (same p (λ e. seated h.seat q p pass is.0 was.0 (sym e))) ∙ was.1) in
    let Q : List (ℕ × List Parcel) → Type 0 = λ l. Owns h.seat pushed pass (adds l x.parcel) in
    let more : Q ((q, xs) ∷ []) = ((is.0, ap (λ (l : List Parcel). l ++ x.parcel ∷ []) is.1 ∙ sym (chosen q q (h.pushed q ++ x.parcel ∷ []) (h.pushed q) refl)), tt) in (
      w,
      record {
        reader = h.reader;
        seat = h.seat;
        pushed = pushed;
        popped = h.popped;
        in_order = λ p. more_in_order h.popped items x p q (h.pushed p) refl (λ e. place ∙ ap length is.1 ∙ ap (λ (k : ℕ). length (h.pushed k)) (sym e)) (h.in_order p);
        parcels = parcels_more items x h.parcels parcel;
        knows = each_set F views pass w
            (record {
              owns = subst Q (sym owns) more;
              pops = λ p. let old = mine.pops p in record { place = old.place; all = old.all; later = λ p le. later p (old.later p le) };
            })
            (λ j u other e. let old = h.knows j u e in record {
              owns = owns_after h.seat h.seat h.pushed pushed j j u.owns (λ p at_j. (at_j, same p (apart h.seat p q j pass at_j is.0 other))) old.owns;
              pops = λ p. let was = old.pops p in record { place = was.place; all = was.all; later = λ p le. later p (was.later p le) };
            });
      },
      refl,
    )

pub pops : (pass : ℕ) (v : Part) → v.pops ≡ true → Pops IsDelivered pass v (λ x w. (w ≡ record v { popped = v.popped ++ x ∷ [] }) × IsNext v.popped x)
pops pass v may x items views h at =
    let w : Part = record v { popped = v.popped ++ x ∷ [] } in
    let mine = h.knows pass v at in
    let is = mine.pops may in
    let popped : List Letter = h.popped ++ x ∷ [] in
    let q : ℕ = x.pusher in
    let F : ℕ → Part → Type 0 = Knows h.reader h.seat h.pushed popped in
    let mixed : letters q (h.pushed q) ≡ of q h.popped ++ (x ∷ of q items) =
    sym (h.in_order q) ∙ of_append q h.popped (x ∷ items) ∙ ap (λ (l : List Letter). of q h.popped ++ l) (of_mine q x items refl) in (
      w,
      record {
        reader = h.reader;
        seat = h.seat;
        pushed = h.pushed;
        popped = popped;
        in_order = λ p. ap (of p) (append_assoc h.popped (x ∷ []) items) ∙ h.in_order p;
        parcels = h.parcels.1;
        knows = each_set F views pass w
            (record { owns = mine.owns; pops = λ _. record { place = is.place; all = ap (λ (l : List Letter). l ++ x ∷ []) is.all; later = is.later } })
            (λ j u other e. let old = h.knows j u e in record { owns = old.owns; pops = λ p. absurd (other ((old.pops p).place ∙ sym is.place)) });
      },
      (refl, record { place = place_of q (h.pushed q) (of q h.popped) (of q items) x mixed ∙ ap (λ (l : List Letter). length (of q l)) (sym is.all); parcel = h.parcels.0 }),
    )

-- where the pass of an actor stands, once one pass has taken another in
moved : ℕ → ℕ → Option ℕ → Option ℕ
moved other pass None = None
moved other pass (Some j) = cond (nat_eq j other) (Some pass) (Some j)

moved_there : (seat : ℕ → Option ℕ) (other pass p : ℕ) → seat p ≡ Some other → moved other pass (seat p) ≡ Some pass
unfolding moved
moved_there seat other pass p e = ap (moved other pass) e ∙ chosen other other (Some pass) (Some other) refl

moved_else : (seat : ℕ → Option ℕ) (other pass p j : ℕ) → j ≢ other → seat p ≡ Some j → moved other pass (seat p) ≡ Some j
unfolding moved
moved_else seat other pass p j ne e = ap (moved other pass) e ∙ passed j other (Some pass) (Some j) ne

moved_none : (seat : ℕ → Option ℕ) (other pass p : ℕ) → seat p ≡ None → moved other pass (seat p) ≡ None
unfolding moved
moved_none seat other pass p e = ap (moved other pass) e

-- a pass takes in one that pushes
pub pushes_too : (pass : ℕ) (v : Part) (other : ℕ) (w : Part) → Merges IsDelivered pass v other w (record v { owns = v.owns ++ w.owns }) idle
pushes_too pass v other w items views h at two at' =
    let both : Part = record v { owns = v.owns ++ w.owns } in
    let mine = h.knows pass v at in
    let theirs = h.knows other w (was_there views pass other both w two at') in
    let seat : ℕ → Option ℕ = λ p. moved other pass (h.seat p) in
    let F : ℕ → Part → Type 0 = Knows h.reader seat h.pushed h.popped in
    let Now : ℕ → Part → Type 0 = λ j u. j ≢ other → F j u in
    let later : (p : ℕ) → (h.seat p ≡ None) × (h.pushed p ≡ []) → (seat p ≡ None) × (h.pushed p ≡ []) = λ p was. (moved_none h.seat other pass p was.0, was.1) in
    let now : OfEach Now (set views pass both) = each_set Now views pass both
    (λ _. record {
      owns = owns_append seat h.pushed pass v.owns w.owns
          (owns_after h.seat seat h.pushed h.pushed pass pass v.owns (λ p e. (moved_else h.seat other pass p pass (λ s. two (sym s)) e, refl)) mine.owns)
          (owns_after h.seat seat h.pushed h.pushed other pass w.owns (λ p e. (moved_there h.seat other pass p e, refl)) theirs.owns);
      pops = λ p. let old = mine.pops p in record { place = old.place; all = old.all; later = λ p le. later p (old.later p le) };
    })
    (λ j u _ e away. let old = h.knows j u e in record {
      owns = owns_after h.seat seat h.pushed h.pushed j j u.owns (λ p at_j. (moved_else h.seat other pass p j away at_j, refl)) old.owns;
      pops = λ p. let was = old.pops p in record { place = was.place; all = was.all; later = λ p le. later p (was.later p le) };
    }) in
    record {
      reader = h.reader;
      seat = seat;
      pushed = h.pushed;
      popped = h.popped;
      in_order = h.in_order;
      parcels = h.parcels;
      knows = each_set F (set views pass both) other idle (record { owns = tt; pops = λ p. no p }) (λ j u away e. now j u e away);
    }

-- a pass takes in the one that pops
pub pops_too : (pass : ℕ) (v : Part) (other : ℕ) (w : Part) → w.pops ≡ true → Merges IsDelivered pass v other w (record w { owns = v.owns }) idle
pops_too pass v other w may items views h at two at' =
    let both : Part = record w { owns = v.owns } in
    let mine = h.knows pass v at in
    let is = (h.knows other w (was_there views pass other both w two at')).pops may in
    let F : ℕ → Part → Type 0 = Knows pass h.seat h.pushed h.popped in
    let Now : ℕ → Part → Type 0 = λ j u. j ≢ other → F j u in
    let now : OfEach Now (set views pass both) = each_set Now views pass both
    (λ _. record { owns = mine.owns; pops = λ _. record { place = refl; all = is.all; later = is.later } })
    (λ j u _ e away. let old = h.knows j u e in record { owns = old.owns; pops = λ p. absurd (away ((old.pops p).place ∙ sym is.place)) }) in
    record {
      reader = pass;
      seat = h.seat;
      pushed = h.pushed;
      popped = h.popped;
      in_order = h.in_order;
      parcels = h.parcels;
      knows = each_set F (set views pass both) other idle (record { owns = tt; pops = λ p. no p }) (λ j u away e. now j u e away);
    }

among : (items : List Letter) (seat : ℕ → Option ℕ) (pushed : ℕ → List Parcel) (popped : List Letter) (pass : ℕ) (owns : List (ℕ × List Parcel))
    → ((p : ℕ) → of p (popped ++ items) ≡ letters p (pushed p)) → Owns seat pushed pass owns → AreAmong owns items
among items seat pushed popped pass [] h o = tt
among items seat pushed popped pass (own ∷ rest) h o =
    (record { popped = popped; mine = h own.0 ∙ ap (letters own.0) (sym o.0.1) }, among items seat pushed popped pass rest h o.1)

pub learns_among : (pass : ℕ) (v : Part) → Learns IsDelivered pass v (λ items. AreAmong v.owns items)
learns_among pass v items views h at = among items h.seat h.pushed h.popped pass v.owns h.in_order (h.knows pass v at).owns

pub learns_numbered : (pass : ℕ) (v : Part) → v.pops ≡ true → Learns IsDelivered pass v (λ items. AreNumbered (v.popped ++ items))
learns_numbered pass v may items views h at =
    let is = (h.knows pass v at).pops may in
    λ p. (h.pushed p, ap (λ (l : List Letter). of p (l ++ items)) is.all ∙ h.in_order p)

all_of : (all : List Letter) (seat : ℕ → Option ℕ) (pushed : ℕ → List Parcel) (pass : ℕ) (owns : List (ℕ × List Parcel))
    → ((p : ℕ) → of p all ≡ letters p (pushed p)) → Owns seat pushed pass owns → AreOf owns all
all_of all seat pushed pass [] h o = tt
all_of all seat pushed pass (own ∷ rest) h o = (h own.0 ∙ ap (letters own.0) (sym o.0.1), all_of all seat pushed pass rest h o.1)

pub learns_all : (pass : ℕ) (v : Part) → v.pops ≡ true → Learns IsDelivered pass v (λ items. AreAll v.owns v.made (v.popped ++ items))
learns_all pass v may items views h at =
    let mine = h.knows pass v at in
    let is = mine.pops may in
    let each : (p : ℕ) → of p (v.popped ++ items) ≡ letters p (h.pushed p) = λ p. ap (λ (l : List Letter). of p (l ++ items)) is.all ∙ h.in_order p in
    record {
      mine = all_of (v.popped ++ items) h.seat h.pushed pass v.owns each mine.owns;
      none = λ p le. each p ∙ ap (letters p) (is.later p le).1;
    }
