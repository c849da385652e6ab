-- What an ask in its turn comes to.
use Rattle.std.proofs.Common.{◌≡◌, ◌≢◌, ℕ, List, ◌++◌, sym, refl, ap, ◌∙◌, subst}
use Rattle.std.specs.List.{All}
use Rattle.atomic_table.specs.Seated.{TableId}
use Rattle.mq_turn.specs.History.{StartsWith, Adds, by}
use Rattle.mq_turn.specs.Passes.{PassOf, Turned}
use Rattle.mq_turn.specs.Steps.{Seated}
use Rattle.mq_turn.proofs.Histories.{by_all, by_append, others_made}

-- what a pass is, by its seat
abbrev pub pass_of : {V E S : Type 0} → TableId → Seated V E S → PassOf E S
pass_of turn me = record { turn = turn; settings = me.0.settings; number = me.0.number; seen = me.0.seen; taken_in = me.0.taken_in; made = me.0.made }

abbrev pub has_seen : {E S : Type 0} → List E → PassOf E S → PassOf E S
has_seen history pass = record pass { seen = history }

module _ {E S : Type 0} (maker : E → ℕ) (is_sound : S → List E → Type 0) where
  -- what an ask needs, it has in its turn
  pub may_still : {Ask : Type 0} (asker : Ask → ℕ) (may_ask : S → List E → Ask → Type 0)
      → ((s : S) (h more : List E) (ask : Ask) → is_sound s (h ++ more) → All (λ e. maker e ≢ asker ask) more → may_ask s h ask → may_ask s (h ++ more) ask)
      → (settings : S) (seen history : List E) (ask : Ask) (n : ℕ) → asker ask ≡ n → StartsWith history seen → by maker n history ≡ by maker n seen
      → is_sound settings history → may_ask settings seen ask → may_ask settings history ask
  may_still asker may_ask law settings seen history ask n is starts own sound may =
      let others = subst (λ (k : ℕ). All (λ e. maker e ≢ k) starts.rest) (sym is) (others_made maker n history seen starts own) in
      subst (λ (l : List E). may_ask settings l ask) (sym starts.is) (law settings seen starts.rest ask (subst (is_sound settings) starts.is sound) others may)

  pub turned : {Ask Answer : Type 0} (serves : S → List E → Ask → Answer → List E → Type 0) (settings : S) (old new : PassOf E S) (ask : Ask) (answer : Answer) (before after : List E)
      → StartsWith before old.seen → by maker old.number before ≡ by maker old.number old.seen → is_sound settings before → is_sound settings after
      → serves settings before ask answer after → Adds maker old.number before after → new ≡ record old { seen = after }
      → Turned maker is_sound serves settings old ask answer new
  turned serves settings old new ask answer before after starts own sound sound' serves_it adds is =
      let n : ℕ = old.number in
      subst (Turned maker is_sound serves settings old ask answer) (sym is)
      (subst (λ (l : List E). (a : Adds maker n l after) → (sound_l : is_sound settings l) → serves settings l ask answer after → by maker n l ≡ by maker n old.seen
      → (between : List E) → l ≡ old.seen ++ between → All (λ e. maker e ≢ n) between → Turned maker is_sound serves settings old ask answer (record old { seen = after }))
      refl
      (λ a sound_l it own_l between l_is others. record {
        between = between;
        others = others;
        sound_before = subst (is_sound settings) l_is sound_l;
        serves_it = subst (λ (l : List E). serves settings l ask answer after) l_is it;
        adds = record { added = a.added; grows = a.grows ∙ ap (λ (l : List E). l ++ a.added) l_is; few = a.few; own = a.own };
        mine_grows = ap (by maker n) a.grows ∙ by_append maker n before a.added ∙ ap (λ (l : List E). l ++ by maker n a.added) own_l
            ∙ ap (λ (l : List E). by maker n old.seen ++ l) (by_all maker n a.added a.own);
        sound = sound';
        same = refl;
      }) adds sound serves_it own starts.rest starts.is (others_made maker n before old.seen starts own))
