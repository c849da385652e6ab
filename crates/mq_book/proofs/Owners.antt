-- On legal histories an address has one owner.
use Rattle.std.proofs.Common.{◌≡◌, ◌≢◌, ℕ, ◌+◌, ◌<◌, true, false, cond, List, [], ◌∷◌, ◌++◌, length, get_or, Some, None, ap, sym, ◌∙◌, refl, subst, arith, inl, inr}
use Rattle.std.specs.Prelude.{IsTrue, ◌==◌}
use Rattle.std.specs.List.{Any, Contains, filter}
use Rattle.std.proofs.lemmas.Bool.{cases_eq, both_ways, eq-eqb, ne_eqb}
use Rattle.std.proofs.lemmas.List.{length-append, get_or_append_left, get_or-append-add, get_or_default}
use Rattle.std.proofs.lemmas.List.Elements.{All-contains, Contains-append_cases}
use Rattle.mq_addr.specs.declared.addr.Addr.{Addr}
use Rattle.mq_addr.specs.declared.entry.Asked.{Asked}
use Rattle.mq_addr.specs.declared.entry.Given.{Given}
use Rattle.mq_addr.specs.declared.range.Range.{Range}
use Rattle.mq_addr.specs.Block.{IsIn}
use Rattle.mq_addr.specs.Cover.{IsFree}
use Rattle.mq_addr.specs.Ranges.{InRange, IsInside}
use Rattle.mq_talk.specs.declared.book.Config.{Config}
use Rattle.mq_talk.specs.declared.book.Entry.{Entry}
use Rattle.mq_talk.specs.declared.book.Call.{Call}
use Rattle.mq_talk.specs.declared.book.Call.TheVariants.{Open, Assign, Advertise, Close}
use Rattle.mq_talk.specs.declared.book.Reply.{Reply}
use Rattle.mq_talk.specs.declared.book.Reply.TheVariants.{Opened, HistoryFull, Assigned, Accepted, Closed}
use Rattle.mq_talk.specs.Config.{IsConfig}
use Rattle.mq_talk.specs.Book.{History, accepted, is_live, is_given, held, ranges, taken, IsOwner, Owns, HasAddr}
use Rattle.mq_talk.specs.Answers.{IsLegal, MayCall, IsAnswer, IsWritten, IsAssigned, IsAcceptable}
use Rattle.mq_book.specs.Laws.{HasOneOwner, IsOwnedOnce}
use Rattle.mq_book.proofs.Members.{in_filter, passes, in_none}
use Rattle.mq_book.proofs.More.{live_within, held_kept, held_new, ranges_kept, ranges_new}
use Rattle.mq_book.proofs.Legal.{by_entries}
use Rattle.mq_book.proofs.Apart.{IsApart, Blocks, Ways, apart_more, no_blocks, no_ways, treated_free}

-- what a request gives, and what it tells of other tunnels
pub assigned_other : (tunnel t : ℕ) (list : List Given) → (tunnel ≡ t → ⊥) → cond (tunnel == t) (Some list) None ≡ None
assigned_other tunnel t list ne = ap (λ b. cond b (Some list) None) (ne_eqb tunnel t ne)

pub assigned_same : {X : Type 0} (tunnel t : ℕ) (list : List X) → tunnel ≡ t → cond (tunnel == t) (Some list) None ≡ Some list
assigned_same tunnel t list same = ap (λ b. cond b (Some list) None) (eq-eqb tunnel t same)

pub accepted_other : (tunnel t : ℕ) (list : List Range) → (tunnel ≡ t → ⊥) → cond (tunnel == t) (Some list) None ≡ None
accepted_other tunnel t list ne = ap (λ b. cond b (Some list) None) (ne_eqb tunnel t ne)

blocks_of : (config : Config) (h : History) (actor tunnel at : ℕ) (asked : List Asked) (list : List Given) → IsApart config h → IsTrue (is_live h tunnel)
    → (a : IsAssigned config h tunnel asked list) → Blocks config h (record { actor = actor; call = Assign tunnel asked; reply = Assigned list at }) tunnel a.given
blocks_of config h actor tunnel at asked list is live a =
    let e : Entry = record { actor = actor; call = Assign tunnel asked; reply = Assigned list at } in
    let parts = treated_free config.pool (taken h) (held h tunnel) asked a.given a.denied a.treated in
    let less = live_within h tunnel live in
    record {
      none = λ t past. let ne : tunnel ≡ t → ⊥ = λ same. omega (arith, same, past, less) in held_kept h e t (assigned_other tunnel t list ne) ∙ is.none_held t past;
      from = λ t g has. elim (cases_eq tunnel t) [
        | inl same ↦
            let shown : Contains (filter is_given list) g = subst (λ l. Contains l g) (held_new h e t list (assigned_same tunnel t list same)) has in
            let listed : Contains (held h tunnel ++ a.given ++ a.denied) g = subst (λ l. Contains l g) a.list_is (in_filter is_given list g shown) in
            elim (Contains-append_cases (held h tunnel ++ a.given) a.denied g listed) [
              | inl front ↦ elim (Contains-append_cases (held h tunnel) a.given g front) [
                | inl old ↦ inl (subst (λ k. Contains (held h k) g) same old)
                | inr new ↦ inr (sym same, new)
              ]
              | inr back ↦ absurd (both_ways (is_given g) (All-contains (λ x. is_given x ≡ false) a.denied g parts.1 back) (passes is_given list g shown))
            ]
        | inr ne ↦ inl (subst (λ l. Contains l g) (held_kept h e t (assigned_other tunnel t list ne)) has)
      ];
      free = λ g has. All-contains (λ x. IsFree config.pool (taken h) x.block) a.given g parts.0 has;
    }

-- what an advertisement leaves
ways_of : (config : Config) (h : History) (e : Entry) (tunnel : ℕ) (list : List Range) → IsApart config h → IsTrue (is_live h tunnel)
    → ((t : ℕ) → accepted t e.call e.reply ≡ cond (tunnel == t) (Some list) None)
    → ((r : Range) → Contains list r → Any (λ block. IsInside r block) config.reach)
    → ((u : ℕ) → IsTrue (is_live h u) → u ≢ tunnel → ¬ (Rattle.mq_addr.specs.Ranges.ListsMeet list (ranges h u)))
    → Ways config h e tunnel list
ways_of config h e tunnel list is live says inside apart =
    let less = live_within h tunnel live in
    record {
      none = λ t past. let ne : tunnel ≡ t → ⊥ = λ same. omega (arith, same, past, less) in ranges_kept h e t (says t ∙ accepted_other tunnel t list ne) ∙ is.none_led t past;
      from = λ t r has. elim (cases_eq tunnel t) [
        | inl same ↦ inr (sym same, subst (λ l. Contains l r) (ranges_new h e t list (says t ∙ assigned_same tunnel t list same)) has)
        | inr ne ↦ inl (subst (λ l. Contains l r) (ranges_kept h e t (says t ∙ accepted_other tunnel t list ne)) has)
      ];
      inside = inside;
      apart = apart;
    }

no_meet : (ss : List Range) → ¬ (Rattle.mq_addr.specs.Ranges.ListsMeet [] ss)
no_meet ss (k, r, less, is, rest) = absurd (omega (arith, less))

apart_step : (config : Config) (h : History) (actor : ℕ) (call : Call) (reply : Reply) → IsApart config h → MayCall config h actor call → IsAnswer config h call reply → IsWritten reply
    → IsApart config (h ++ record { actor = actor; call = call; reply = reply } ∷ [])
apart_step config h actor (Open conn stream names goal) (Opened tunnel routes) is may answer written =
    let e : Entry = record { actor = actor; call = Open conn stream names goal; reply = Opened tunnel routes } in
    apart_more config h e 0 0 [] [] is (no_blocks config h e is (λ t. refl)) (no_ways config h e is (λ t. refl)) (inr refl) (inr refl)
apart_step config h actor (Open conn stream names goal) (HistoryFull entries live) is may answer written = absurd written
apart_step config h actor (Open conn stream names goal) (Assigned list at) is may answer written = absurd answer
apart_step config h actor (Open conn stream names goal) (Accepted taken_up at) is may answer written = absurd answer
apart_step config h actor (Open conn stream names goal) Closed is may answer written = absurd answer
apart_step config h actor (Assign tunnel asked) (Assigned list at) is may answer written =
    let e : Entry = record { actor = actor; call = Assign tunnel asked; reply = Assigned list at } in
    apart_more config h e tunnel 0 answer.2.given [] is (blocks_of config h actor tunnel at asked list is may.1.live answer.2) (no_ways config h e is (λ t. refl)) (inl may.1.live) (inr refl)
apart_step config h actor (Assign tunnel asked) (HistoryFull entries live) is may answer written = absurd written
apart_step config h actor (Assign tunnel asked) (Opened u routes) is may answer written = absurd answer
apart_step config h actor (Assign tunnel asked) (Accepted taken_up at) is may answer written = absurd answer
apart_step config h actor (Assign tunnel asked) Closed is may answer written = absurd answer
apart_step config h actor (Advertise tunnel offered) (Accepted true at) is may answer written =
    let e : Entry = record { actor = actor; call = Advertise tunnel offered; reply = Accepted true at } in
    let good : IsAcceptable config h tunnel offered = answer.2 in
    apart_more config h e 0 tunnel [] offered is (no_blocks config h e is (λ t. refl))
    (ways_of config h e tunnel offered is may.1.live (λ t. refl) (λ r has. All-contains (λ x. Any (λ block. IsInside x block) config.reach) offered r good.inside has) good.apart)
    (inr refl) (inl may.1.live)
apart_step config h actor (Advertise tunnel offered) (Accepted false at) is may answer written =
    let e : Entry = record { actor = actor; call = Advertise tunnel offered; reply = Accepted false at } in
    apart_more config h e 0 tunnel [] [] is (no_blocks config h e is (λ t. refl))
    (ways_of config h e tunnel [] is may.1.live (λ t. refl) (λ r has. absurd (in_none r has)) (λ u live ne. no_meet (ranges h u)))
    (inr refl) (inl may.1.live)
apart_step config h actor (Advertise tunnel offered) (HistoryFull entries live) is may answer written = absurd written
apart_step config h actor (Advertise tunnel offered) (Opened u routes) is may answer written = absurd answer
apart_step config h actor (Advertise tunnel offered) (Assigned list at) is may answer written = absurd answer
apart_step config h actor (Advertise tunnel offered) Closed is may answer written = absurd answer
apart_step config h actor (Close tunnel) Closed is may answer written =
    let e : Entry = record { actor = actor; call = Close tunnel; reply = Closed } in
    apart_more config h e 0 0 [] [] is (no_blocks config h e is (λ t. refl)) (no_ways config h e is (λ t. refl)) (inr refl) (inr refl)
apart_step config h actor (Close tunnel) (HistoryFull entries live) is may answer written = absurd written
apart_step config h actor (Close tunnel) (Opened u routes) is may answer written = absurd answer
apart_step config h actor (Close tunnel) (Assigned list at) is may answer written = absurd answer
apart_step config h actor (Close tunnel) (Accepted taken_up at) is may answer written = absurd answer

none_apart : (config : Config) → IsApart config []
none_apart config = record {
  none_held = λ t past. refl;
  none_led = λ t past. refl;
  inside = λ t g live has. absurd (in_none g has);
  led = λ t r live has. absurd (in_none r has);
  blocks_apart = λ t u g k lt lu ne hg hk. absurd (in_none g hg);
  ranges_apart = λ t u r s lt lu ne hr hs. absurd (in_none r hr);
}

pub all_apart : (config : Config) (h : History) → IsLegal config h → IsApart config h
all_apart config h legal =
    by_entries config (λ k. IsApart config k) (none_apart config) (λ k e legal is follows. apart_step config k e.actor e.call e.reply is follows.may follows.answer follows.written) h legal

-- no address is in the pool and in what clients may lead to
pool_or_reach : (config : Config) (a : Addr) → IsConfig config → Any (λ block. IsIn block a) config.pool → Any (λ block. IsIn block a) config.reach → ⊥
pool_or_reach config a is (i, p, less_i, is_p, in_p) (j, r, less_j, is_r, in_r) =
    let n = length config.pool in
    let behind : i < n + j = omega arith in
    let within : n + j < length (config.pool ++ config.reach) = omega (arith, less_j, length-append config.pool config.reach) in
    let at_p : get_or (config.pool ++ config.reach) i p ≡ p = get_or_append_left config.pool config.reach p i less_i ∙ is_p in
    let at_r : get_or (config.pool ++ config.reach) (n + j) p ≡ r = get_or-append-add config.pool config.reach j p ∙ get_or_default config.reach j p r less_j ∙ is_r in
    is.apart i (n + j) p behind within (a, subst (λ x. IsIn x a) (sym at_p) in_p, subst (λ x. IsIn x a) (sym at_r) in_r)

held_in : (h : History) (t : ℕ) (a : Addr) → Any (λ g. IsIn g.block a) (held h t) → (g : Given) × Contains (held h t) g × IsIn g.block a
held_in h t a (k, g, less, is, has) = (g, (k, less, is), has)

led_in : (h : History) (t : ℕ) (a : Addr) → Any (λ r. InRange r a) (ranges h t) → (r : Range) × Contains (ranges h t) r × InRange r a
led_in h t a (k, r, less, is, has) = (r, (k, less, is), has)

in_pool : (config : Config) (h : History) (t : ℕ) (a : Addr) → IsApart config h → IsTrue (is_live h t) → Any (λ g. IsIn g.block a) (held h t) → Any (λ block. IsIn block a) config.pool
in_pool config h t a is live has =
    let g = held_in h t a has in
    let whole = is.inside t g.0 live g.1 in
    (whole.0, whole.1, whole.2, whole.3, whole.4 a g.2)

in_reach : (config : Config) (h : History) (t : ℕ) (a : Addr) → IsApart config h → IsTrue (is_live h t) → Any (λ r. InRange r a) (ranges h t) → Any (λ block. IsIn block a) config.reach
in_reach config h t a is live has =
    let r = led_in h t a has in
    let block = is.led t r.0 live r.1 in
    (block.0, block.1, block.2, block.3, block.4 a r.2)

two_owners : (config : Config) (h : History) (t u : ℕ) (a : Addr) → IsConfig config → IsApart config h → t ≢ u → IsTrue (is_live h t) → IsTrue (is_live h u) → HasAddr h t a → HasAddr h u a → ⊥
two_owners config h t u a good is ne lt lu (inl x) (inl y) = let g = held_in h t a x in let k = held_in h u a y in is.blocks_apart t u g.0 k.0 lt lu ne g.1 k.1 (a, g.2, k.2)
two_owners config h t u a good is ne lt lu (inl x) (inr y) = pool_or_reach config a good (in_pool config h t a is lt x) (in_reach config h u a is lu y)
two_owners config h t u a good is ne lt lu (inr x) (inl y) = pool_or_reach config a good (in_pool config h u a is lu y) (in_reach config h t a is lt x)
two_owners config h t u a good is ne lt lu (inr x) (inr y) = let r = led_in h t a x in let s = led_in h u a y in is.ranges_apart t u r.0 s.0 lt lu ne r.1 s.1 (a, r.2, s.2)

pub one_owner : HasOneOwner
one_owner config h t u a good legal x y =
    elim (cases_eq t u) [
      | inl same ↦ same
      | inr ne ↦ absurd (two_owners config h t u a good (all_apart config h legal) ne x.live y.live x.has y.has)
    ]

pub leads_in : (h : History) (t : ℕ) (a : Addr) (p : ℕ) → Owns h t a p → IsOwner h t a
leads_in h t a p owns = record {
  live = owns.live;
  has = elim owns.has [ inl x ↦ inl x | inr (k, r, less, is, both) ↦ inr (k, r, less, is, both.0) ];
}

pub owned_once : IsOwnedOnce
owned_once config h t u a p q good legal x y = one_owner config h t u a good legal (leads_in h t a p x) (leads_in h u a q y)
