-- A pass makes another, or takes one in, and the rule is kept.
use Rattle.std.proofs.Common.{◌≡◌, ◌≢◌, ℕ, zero, suc, ◌<◌, ◌⊎◌, inl, inr, ⊎_elim, List, [], ◌∷◌, ◌++◌, length, set, sym, refl, ap, ◌∙◌, subst, arith}
use Rattle.std.specs.Prelude.{Option, Some, None}
use Rattle.std.proofs.lemmas.List.Elements.{All-nil, All-cons, All-append}
use mathlib.Core.Option.{some, some-injective, some-ne-none}
use mathlib.Core.Logic.{dite}
use native.Mathlib.Decide.{ℕ_discrete}
use lib.ListN.{get_elem?}
use Rattle.atomic_table.specs.Table.{State, Splits, Joins}
use Rattle.atomic_table.proofs.Lists.{at_set, set_else, at_longer}
use Rattle.mq_turn.specs.declared.view.Stage.TheVariants.{Idle, Serving}
use Rattle.mq_turn.specs.declared.view.View.{View}
use Rattle.mq_turn.specs.declared.view.Known.{Known}
use Rattle.mq_turn.specs.History.{Fits, by, longer}
use Rattle.mq_turn.specs.Rule.{InStage, HasTicket, IsLive, HasNumber, Stands, IsTurn}
use Rattle.mq_turn.specs.Steps.{made_more, made_of, joined, known_of, spent}
use Rattle.mq_turn.proofs.Histories.{none_before, fits_longer, named_append, named_front, named_back}
use Rattle.mq_turn.proofs.Moves.{held_by, moved, slot_stays}

-- the last is where the list ended
at_end : {A : Type 0} (l : List A) (a b : A) (j : ℕ) → get_elem? (l ++ a ∷ []) j ≡ some b → (get_elem? l j ≡ some b) ⊎ ((j ≡ length l) × (a ≡ b))
at_end [] a b zero e = inr (refl, some-injective a b e)
at_end [] a b (suc j) e = absurd (some-ne-none b (sym e))
at_end (x ∷ xs) a b zero e = inl e
at_end (x ∷ xs) a b (suc j) e = ⊎_elim (λ p. inl p) (λ p. inr (ap suc p.0, p.1)) (at_end xs a b j e)

module _ {E S : Type 0} where
  of_both : (n : ℕ) (v w : View E S) → HasNumber n (joined v w) → HasNumber n v ⊎ HasNumber n w
  of_both n v w has = ⊎_elim (λ p. inl (inl p)) (λ p. ⊎_elim (λ q. inl (inr q)) (λ q. inr q) (named_append n v.taken_in (known_of w ∷ w.taken_in) p)) has

  of_left : (n : ℕ) (v w : View E S) → HasNumber n v → HasNumber n (joined v w)
  of_left n v w has = ⊎_elim (λ p. inl p) (λ p. inr (named_front n v.taken_in (known_of w ∷ w.taken_in) p)) has

  of_right : (n : ℕ) (v w : View E S) → HasNumber n w → HasNumber n (joined v w)
  of_right n v w has = inr (named_back n v.taken_in (known_of w ∷ w.taken_in) has)

-- two places were set
at_two : {A : Type 0} (l : List A) (i k : ℕ) (a b u : A) (j : ℕ) → get_elem? (set (set l i a) k b) j ≡ some u
    → ((j ≡ k) × (b ≡ u)) ⊎ ((j ≢ k) × (((j ≡ i) × (a ≡ u)) ⊎ ((j ≢ i) × (get_elem? l j ≡ some u))))
at_two l i k a b u j e = ⊎_elim (λ p. inl p) (λ p. inr (p.0, at_set l i j a u p.1)) (at_set (set l i a) k j b u e)

module _ {V E S : Type 0} (settings_of : V → S) (history_of : V → List E) (settings : S) (maker : E → ℕ) (is_sound : S → List E → Type 0) where
  abbrev W : Type 0
  W = View E S

  abbrev St : Type 0
  St = State (Option V) W

  abbrev Rule : St → Type 0
  Rule = IsTurn settings_of history_of settings maker is_sound

  -- a pass without a ticket comes, of a number that no other has
  added : (s : St) (r : Rule s) (w : W) → IsLive settings w → w.stage ≡ Idle → Stands maker r.next r.served r.made r.history w
      → ((j n : ℕ) (u : W) → get_elem? s.views j ≡ some u → IsLive settings u → HasNumber n u → HasNumber n w → ⊥)
      → Rule record { words = s.words; homes = s.homes; views = s.views ++ w ∷ [] }
  added s r w live idle stands apart =
      let none : (t : ℕ) (u : W) → w ≡ u → HasTicket t u.stage → ⊥ = λ t u is has. subst (HasTicket t) (ap (λ (x : W). x.stage) (sym is) ∙ idle) has in
      let numbered : (n : ℕ) (u : W) → w ≡ u → HasNumber n u → HasNumber n w = λ n u is has. subst (HasNumber n) (sym is) has in record {
        next = r.next;
        served = r.served;
        made = r.made;
        history = r.history;
        words = r.words;
        behind = r.behind;
        bounded = r.bounded;
        slot = record {
          out = λ j u t e is. ⊎_elim (λ p. r.slot.out j u t p is) (λ p. absurd (none t u p.1 (subst (HasTicket t) (sym is) refl))) (at_end s.views w u j e);
          home = λ nobody. r.slot.home (λ j u t e is. nobody j u t (at_longer s.views (w ∷ []) j u e) is);
        };
        sound = r.sound;
        unmade = r.unmade;
        stands = λ j u e lives. ⊎_elim (λ p. r.stands j u p lives) (λ p. subst (Stands maker r.next r.served r.made r.history) p.1 stands) (at_end s.views w u j e);
        idle = λ j u e. ⊎_elim (λ p. r.idle j u p) (λ p. inl (ap (λ (x : W). x.settings) (sym p.1) ∙ live)) (at_end s.views w u j e);
        held = λ t le lt. let p = r.held t le lt in (p.0, p.1, at_longer s.views (w ∷ []) p.0 p.1 p.2, p.3);
        one_ticket = λ i j t a b ea eb ha hb. ⊎_elim
            (λ p. ⊎_elim (λ q. r.one_ticket i j t a b p q ha hb) (λ q. absurd (none t b q.1 hb)) (at_end s.views w b j eb))
            (λ p. absurd (none t a p.1 ha)) (at_end s.views w a i ea);
        one_number = λ i j n a b ea eb la lb ha hb. ⊎_elim
            (λ p. ⊎_elim (λ q. r.one_number i j n a b p q la lb ha hb) (λ q. absurd (apart i n a p la ha (numbered n b q.1 hb))) (at_end s.views w b j eb))
            (λ p. ⊎_elim (λ q. absurd (apart j n b q lb hb (numbered n a p.1 ha))) (λ q. p.0 ∙ sym q.0) (at_end s.views w b j eb))
            (at_end s.views w a i ea);
      }

  -- the first pass knows that it has made one more
  counted : (s : St) (r : Rule s) (id : ℕ) (v : W) → get_elem? s.views id ≡ some v → IsLive settings v → v.stage ≡ Idle → v.number ≡ 0
      → Rule record { words = s.words; homes = s.homes; views = set s.views id (made_more v) }
  counted s r id v at live idle first = let mine = r.stands id v at live in
      moved settings_of history_of settings maker is_sound s r id v at live s.words s.homes r.next r.served r.history v.stage v.seen (suc r.made) (suc v.made) r.words r.behind r.bounded r.sound
      (λ n le. r.unmade n (omega arith))
      (slot_stays settings_of history_of settings maker is_sound s.homes s.views r.history id v (made_more v) r.slot at (λ t e. cc) (λ t e. cc))
      record {
        stage = mine.stage;
        fits = mine.fits;
        others = mine.others;
        once = mine.once;
        below = λ n has. let less : n < r.made = mine.below n has in omega arith;
        first = λ has. ap suc (mine.first has);
        later = λ no. absurd (no (inl first));
      }
      (λ j u other e lives. let its = r.stands j u e lives in record {
        stage = its.stage;
        fits = its.fits;
        others = its.others;
        once = its.once;
        below = λ n has. let less : n < r.made = its.below n has in omega arith;
        first = λ has. absurd (other (r.one_number j id 0 u v e at lives live has (inl first)));
        later = its.later;
      })
      (λ j t u other e its has. subst (HasTicket t) idle has)
      (held_by settings_of history_of settings maker is_sound s r id v at)

  pub splits : (id : ℕ) (v : W) → IsLive settings v → v.stage ≡ Idle → v.number ≡ 0 → Splits Rule id v (made_more v) (made_of v)
  unfolding counted moved
  splits id v live idle first s r at =
      let mine = r.stands id v at live in
      let made : v.made ≡ r.made = mine.first (inl first) in
      let some_made : 0 < r.made = mine.below 0 (inl first) in
      let w : W = made_of v in
      let is_new : (n : ℕ) → HasNumber n w → v.made ≡ n = λ n has. ⊎_elim (λ p. p) (λ no. absurd no) has in
      let nobody : by maker v.made r.history ≡ [] = r.unmade v.made (omega arith) in
      added record { words = s.words; homes = s.homes; views = set s.views id (made_more v) } (counted s r id v at live idle first) w live refl
      record {
        stage = tt;
        fits = record { begins = mine.fits.begins; own = nobody ∙ sym (none_before maker v.made r.history v.seen mine.fits.begins nobody) };
        others = All-nil (λ (k : Known E). Fits maker r.history k.number k.seen);
        once = λ no. no;
        below = λ n has. let is = is_new n has in omega arith;
        first = λ has. let is = is_new 0 has in omega arith;
        later = λ _. refl;
      }
      (λ j n u e lives has new. let is = is_new n new in ⊎_elim
      (λ p. (let less : n < r.made = mine.below n (subst (λ (x : W). HasNumber n x) (sym p.1) has) in omega arith))
      (λ p. (let less : n < r.made = (r.stands j u p.1 lives).below n has in omega arith))
      (at_set s.views id j (made_more v) u e))

  -- what is known of the pass that takes in another
  both_stand : (next served made : ℕ) (history : List E) (v w : W) → v.stage ≡ Idle → ((n : ℕ) → HasNumber n v → HasNumber n w → ⊥)
      → Stands maker next served made history v → Stands maker next served made history w → Stands maker next served made history (joined v w)
  both_stand next served made history v w idle apart mine its = record {
    stage = subst (InStage next served history (longer v.seen w.seen)) (sym idle) tt;
    fits = fits_longer maker history v.seen w.seen v.number mine.fits its.fits.begins;
    others = All-append (λ (k : Known E). Fits maker history k.number k.seen) v.taken_in (known_of w ∷ w.taken_in) mine.others
        (All-cons (λ (k : Known E). Fits maker history k.number k.seen) (known_of w) w.taken_in its.fits its.others);
    once = λ has. ⊎_elim mine.once (λ p. apart v.number (inl refl) p) (named_append v.number v.taken_in (known_of w ∷ w.taken_in) has);
    below = λ n has. ⊎_elim (λ p. mine.below n (inl p)) (λ p. ⊎_elim (λ q. mine.below n (inr q)) (λ q. its.below n q) (named_append n v.taken_in (known_of w ∷ w.taken_in) p)) has;
    first = λ has. ⊎_elim
        (λ p. (let a = mine.first p in let b = its.later (apart 0 p) in omega arith))
        (λ p. (let a = its.first p in let b = mine.later (λ q. apart 0 q p) in omega arith))
        (of_both 0 v w has);
    later = λ no. (let a = mine.later (λ p. no (of_left 0 v w p)) in let b = its.later (λ p. no (of_right 0 v w p)) in omega arith);
  }

  pub joins : (id other : ℕ) (v w : W) → IsLive settings v → IsLive settings w → v.stage ≡ Idle → w.stage ≡ Idle → Joins Rule id v other w (joined v w) spent
  joins id other v w live lives idle idles s r at apart at_other' =
      let b : W = joined v w in
      let at_other : get_elem? s.views other ≡ some w = sym (set_else s.views id other b apart) ∙ at_other' in
      let mine = r.stands id v at live in
      let its = r.stands other w at_other lives in
      let two : (n : ℕ) → HasNumber n v → HasNumber n w → ⊥ = λ n p q. apart (r.one_number other id n w v at_other at lives live q p) in
      let spent_dies : (u : W) → spent ≡ u → IsLive settings u → ⊥ = λ u is l. (let no : ◌≡◌ {A = Option S} None (Some settings) = ap (λ (x : W). x.settings) is ∙ l in cc) in
      let old_ticket : (j t : ℕ) (u : W) → get_elem? (set (set s.views id b) other spent) j ≡ some u → HasTicket t u.stage → get_elem? s.views j ≡ some u =
      λ j t u e has. ⊎_elim (λ p. absurd (subst (λ (x : W). HasTicket t x.stage) (sym p.1) has))
      (λ p. ⊎_elim (λ q. absurd (subst (HasTicket t) (ap (λ (x : W). x.stage) (sym q.1) ∙ idle) has)) (λ q. q.1) p.1) (at_two s.views id other b spent u j e) in
      let Old : ℕ → ℕ → Type 0 = λ n j. (k : ℕ) × (x : W) × (get_elem? s.views k ≡ some x) × IsLive settings x × HasNumber n x × ((k ≡ j) ⊎ ((k ≡ other) × (j ≡ id))) × (j ≢ other) in
      let old_number : (j n : ℕ) (u : W) → get_elem? (set (set s.views id b) other spent) j ≡ some u → IsLive settings u → HasNumber n u → Old n j =
      λ j n u e l has. ⊎_elim (λ p. absurd (spent_dies u p.1 l))
      (λ p. ⊎_elim (λ q. ⊎_elim (λ h. (id, v, at, live, h, inl (sym q.0), p.0)) (λ h. (other, w, at_other, lives, h, inr (refl, q.0), p.0)) (of_both n v w (subst (HasNumber n) (sym q.1) has)))
      (λ q. (j, u, q.1, l, has, inl refl, p.0)) p.1) (at_two s.views id other b spent u j e) in record {
        next = r.next;
        served = r.served;
        made = r.made;
        history = r.history;
        words = r.words;
        behind = r.behind;
        bounded = r.bounded;
        slot = record {
          out = λ j u t e is. r.slot.out j u t (old_ticket j t u e (subst (HasTicket t) (sym is) refl)) is;
          home = λ nobody. r.slot.home (λ j u t e is. dite (ℕ_discrete j other)
              (λ same. (let one : w ≡ u = some-injective w u (sym at_other ∙ ap (get_elem? s.views) (sym same) ∙ e) in let both : Idle ≡ Serving t = sym idles ∙ ap (λ (x : W). x.stage) one ∙ is in cc))
              (λ not_other. dite (ℕ_discrete j id)
              (λ same. (let one : v ≡ u = some-injective v u (sym at ∙ ap (get_elem? s.views) (sym same) ∙ e) in let both : Idle ≡ Serving t = sym idle ∙ ap (λ (x : W). x.stage) one ∙ is in cc))
              (λ not_id. nobody j u t (set_else (set s.views id b) other j spent not_other ∙ set_else s.views id j b not_id ∙ e) is)));
        };
        sound = r.sound;
        unmade = r.unmade;
        stands = λ j u e l. ⊎_elim (λ p. absurd (spent_dies u p.1 l))
            (λ p. ⊎_elim (λ q. subst (Stands maker r.next r.served r.made r.history) q.1 (both_stand r.next r.served r.made r.history v w idle two mine its)) (λ q. r.stands j u q.1 l) p.1)
            (at_two s.views id other b spent u j e);
        idle = λ j u e. ⊎_elim (λ p. inr (ap (λ (x : W). x.stage) (sym p.1)))
            (λ p. ⊎_elim (λ q. inl (ap (λ (x : W). x.settings) (sym q.1) ∙ live)) (λ q. r.idle j u q.1) p.1) (at_two s.views id other b spent u j e);
        held = λ t le lt. let p = r.held t le lt in
            let not_id : p.0 ≢ id = λ same. (let one : p.1 ≡ v = some-injective p.1 v (sym p.2 ∙ ap (get_elem? s.views) same ∙ at) in
            subst (HasTicket t) (ap (λ (x : W). x.stage) one ∙ idle) p.3) in
            let not_other : p.0 ≢ other = λ same. (let one : p.1 ≡ w = some-injective p.1 w (sym p.2 ∙ ap (get_elem? s.views) same ∙ at_other) in
            subst (HasTicket t) (ap (λ (x : W). x.stage) one ∙ idles) p.3) in
            (p.0, p.1, set_else (set s.views id b) other p.0 spent not_other ∙ set_else s.views id p.0 b not_id ∙ p.2, p.3);
        one_ticket = λ i j t a c ea ec ha hc. r.one_ticket i j t a c (old_ticket i t a ea ha) (old_ticket j t c ec hc) ha hc;
        one_number = λ i j n a c ea ec la lc ha hc.
            let p = old_number i n a ea la ha in
            let q = old_number j n c ec lc hc in
            let same : p.0 ≡ q.0 = r.one_number p.0 q.0 n p.1 q.1 p.2 q.2 p.3 q.3 p.4 q.4 in
            ⊎_elim (λ a. ⊎_elim (λ b. sym a ∙ same ∙ b) (λ b. absurd (p.6 (sym a ∙ same ∙ b.0))) q.5)
            (λ a. ⊎_elim (λ b. absurd (q.6 (sym b ∙ sym same ∙ a.0))) (λ b. a.1 ∙ sym b.1) q.5) p.5;
      }
