-- No address is owned by two live tunnels of a book whose calls name tunnels that it opened, and so a packet is judged in one way.
use Rattle.std.proofs.Common.{◌≡◌, ◌≢◌, ℕ, ◌+◌, ◌<◌, true, false, cond, List, [], ◌∷◌, ◌++◌, length, get_or, Some, None, ap, sym, ◌∙◌, refl, subst, arith, inl, inr, ◌≤◌, ◌⊎◌}
use Rattle.std.specs.Prelude.{IsTrue, ◌==◌}
use Rattle.std.specs.List.{Any, Contains, filter}
use Rattle.std.proofs.lemmas.Bool.{cases_eq, both_ways}
use Rattle.std.proofs.lemmas.List.{length-append, get_or_append_left, get_or-append-add, get_or_default, length_push}
use Rattle.std.proofs.lemmas.List.Elements.{All-contains, Contains-append_cases}
use Rattle.mq_addr.specs.declared.addr.Addr.{Addr}
use Rattle.mq_addr.specs.declared.entry.Asked.{Asked}
use Rattle.mq_addr.specs.declared.entry.Given.{Given}
use Rattle.mq_addr.specs.declared.range.Range.{Range}
use Rattle.mq_addr.specs.Block.{IsIn, Overlap}
use Rattle.mq_addr.specs.Cover.{IsFree}
use Rattle.mq_addr.specs.Ranges.{InRange, IsInside, RangesMeet, ListsMeet}
use Rattle.mq_talk.specs.declared.book.Config.{Config}
use Rattle.mq_talk.specs.declared.book.Entry.{Entry}
use Rattle.mq_talk.specs.declared.book.Call.{Call}
use Rattle.mq_talk.specs.declared.book.Call.TheVariants.{Open, Assign, Advertise, Close}
use Rattle.mq_talk.specs.declared.book.Reply.{Reply}
use Rattle.mq_talk.specs.declared.book.Reply.TheVariants.{Opened, HistoryFull, Assigned, Accepted, Closed}
use Rattle.mq_talk.specs.Config.{IsConfig, IsOurs}
use Rattle.mq_talk.specs.Book.{History, accepted, is_live, is_given, held, ranges, taken, IsOwner, HasAddr, live_tunnels, blocks, actor_of}
use Rattle.mq_talk.specs.Answers.{IsAnswer, IsWritten, IsAssigned, IsAcceptable}
use Rattle.mq_book.proofs.Members.{in_filter, passes, in_none, stays, in_map, in_flat_map, any_from}
use Rattle.mq_book.proofs.More.{live_within, held_kept, held_new, ranges_kept, ranges_new}
use Rattle.mq_book.proofs.Apart.{IsApart, Blocks, Ways, no_blocks, no_ways, treated_free, live_cases}
use Rattle.std.proofs.lemmas.List.FromFn.{get_or-range_with_len, length-range_with_len}
use Rattle.mq_addr.specs.declared.prefix.Prefix.{Prefix}
use Rattle.mq_addr.specs.declared.range.Flow.{Flow}
use Rattle.mq_talk.specs.declared.place.Place.TheVariants as place
use Rattle.mq_talk.specs.declared.place.Origin.{Origin}
use Rattle.mq_talk.specs.declared.place.Origin.TheVariants as origin
use Rattle.mq_talk.specs.declared.place.Verdict.{Verdict}
use Rattle.mq_talk.specs.declared.place.Verdict.TheVariants.{Pass, Source, NoRoute}
use Rattle.mq_talk.specs.Judging.{IsJudged, Reaches, GoesTo, HasNoOwner, Misses, IsVacant, IsRouted}
use Rattle.mq_book.proofs.Owners.{assigned_other, assigned_same, accepted_other, leads_in}

-- what gives a tunnel addresses or ways names one of these so many entries
abbrev pub NamesOld : ℕ → Call → Type 0
NamesOld n (Open conn stream actor goal) = Unit {0}
NamesOld n (Assign tunnel asked) = tunnel < n
NamesOld n (Advertise tunnel offered) = tunnel < n
NamesOld n (Close tunnel) = Unit {0}

-- ---- an entry more

was_held : (config : Config) (h : History) (e : Entry) (t : ℕ) (g : Given) → IsApart config h → IsTrue (is_live (h ++ e ∷ []) t) → Contains (held h t) g → IsTrue (is_live h t)
was_held config h e t g is live has =
    elim (live_cases h e t live) [
      | inl old ↦ old
      | inr new ↦ let past : length h ≤ t = omega (arith, new.0) in absurd (in_none g (subst (λ l. Contains l g) (is.none_held t past) has))
    ]

was_led : (config : Config) (h : History) (e : Entry) (t : ℕ) (r : Range) → IsApart config h → IsTrue (is_live (h ++ e ∷ []) t) → Contains (ranges h t) r → IsTrue (is_live h t)
was_led config h e t r is live has =
    elim (live_cases h e t live) [
      | inl old ↦ old
      | inr new ↦ let past : length h ≤ t = omega (arith, new.0) in absurd (in_none r (subst (λ l. Contains l r) (is.none_led t past) has))
    ]

before : (h : History) (e : Entry) (t : ℕ) → length (h ++ e ∷ []) ≤ t → length h ≤ t
before h e t past = omega (arith, past, length_push h e)

-- a live tunnel's block is taken
is_taken : (h : History) (u : ℕ) (k : Given) → IsTrue (is_live h u) → Contains (held h u) k → Contains (taken h) k.block
is_taken h u k live has =
    let less = live_within h u live in
    let placed = get_or-range_with_len 0 (length h) u u less in
    let same : 0 + u ≡ u = omega arith in
    let inside : u < length (Rattle.std.specs.List.range_with_len 0 (length h)) = omega (arith, less, length-range_with_len 0 (length h)) in
    in_flat_map (λ t. blocks (held h t)) (live_tunnels h) u k.block
    (stays (λ t. is_live h t) (Rattle.std.specs.List.range_with_len 0 (length h)) u (u, inside, placed ∙ same) live)
    (in_map (λ (g : Given). g.block) (held h u) k has)

turned : (a b : Prefix) → Overlap a b → Overlap b a
turned a b (x, h, k) = (x, k, h)

meet_turned : (r s : Range) → RangesMeet r s → RangesMeet s r
meet_turned r s (a, h, k) = (a, k, h)

lists_meet : (rs ss : List Range) (r s : Range) → Contains rs r → Contains ss s → RangesMeet r s → ListsMeet rs ss
lists_meet rs ss r s hr hs meet = any_from (λ x. Any (λ y. RangesMeet x y) ss) rs r hr (any_from (λ y. RangesMeet r y) ss s hs meet)

-- an entry more keeps all apart
apart_more : (config : Config) (h : History) (e : Entry) (bt wt : ℕ) (given : List Given) (offered : List Range) → IsApart config h
    → Blocks config h e bt given → Ways config h e wt offered → IsApart config (h ++ e ∷ [])
apart_more config h e bt wt given offered is b w =
    let oldh : (t : ℕ) (g : Given) → IsTrue (is_live (h ++ e ∷ []) t) → Contains (held h t) g → IsTrue (is_live h t) = λ t g live has. was_held config h e t g is live has in
    let oldr : (t : ℕ) (r : Range) → IsTrue (is_live (h ++ e ∷ []) t) → Contains (ranges h t) r → IsTrue (is_live h t) = λ t r live has. was_led config h e t r is live has in
    record {
      none_held = λ t past. b.none t (before h e t past);
      none_led = λ t past. w.none t (before h e t past);
      inside = λ t g live has. elim (b.from t g has) [
        | inl old ↦ is.inside t g (oldh t g live old) old
        | inr new ↦ (b.free g new.1).inside
      ];
      led = λ t r live has. elim (w.from t r has) [
        | inl old ↦ is.led t r (oldr t r live old) old
        | inr new ↦ w.inside r new.1
      ];
      blocks_apart = λ t u g k lt lu ne hg hk. elim (b.from t g hg) [
        | inl og ↦ elim (b.from u k hk) [
          | inl ok ↦ is.blocks_apart t u g k (oldh t g lt og) (oldh u k lu ok) ne og ok
          | inr nk ↦ All-contains (λ other. ¬ (Overlap other k.block)) (taken h) g.block (b.free k nk.1).apart (is_taken h t g (oldh t g lt og) og)
        ]
        | inr ng ↦ elim (b.from u k hk) [
          | inl ok ↦ λ meet. All-contains (λ other. ¬ (Overlap other g.block)) (taken h) k.block (b.free g ng.1).apart (is_taken h u k (oldh u k lu ok) ok) (turned g.block k.block meet)
          | inr nk ↦ absurd (ne (ng.0 ∙ sym nk.0))
        ]
      ];
      ranges_apart = λ t u r s lt lu ne hr hs. elim (w.from t r hr) [
        | inl or ↦ elim (w.from u s hs) [
          | inl os ↦ is.ranges_apart t u r s (oldr t r lt or) (oldr u s lu os) ne or os
          | inr ns ↦ λ meet. w.apart t (oldr t r lt or) (λ same. ne (same ∙ sym ns.0)) (lists_meet offered (ranges h t) s r ns.1 or (meet_turned r s meet))
        ]
        | inr nr ↦ elim (w.from u s hs) [
          | inl os ↦ λ meet. w.apart u (oldr u s lu os) (λ same. ne (nr.0 ∙ sym same)) (lists_meet offered (ranges h u) r s nr.1 os meet)
          | inr ns ↦ absurd (ne (nr.0 ∙ sym ns.0))
        ]
      ];
    }

-- what a request gives
blocks_of : (config : Config) (h : History) (actor tunnel at : ℕ) (asked : List Asked) (list : List Given) → IsApart config h → tunnel < length h
    → (a : IsAssigned config h tunnel asked list) → Blocks config h (record { actor = actor; call = Assign tunnel asked; reply = Assigned list at }) tunnel a.given
blocks_of config h actor tunnel at asked list is less a =
    let e : Entry = record { actor = actor; call = Assign tunnel asked; reply = Assigned list at } in
    let parts = treated_free config.pool (taken h) (held h tunnel) asked a.given a.denied a.treated in
    record {
      none = λ t past. let ne : tunnel ≡ t → ⊥ = λ same. omega (arith, same, past, less) in held_kept h e t (assigned_other tunnel t list ne) ∙ is.none_held t past;
      from = λ t g has. elim (cases_eq tunnel t) [
        | inl same ↦
            let shown : Contains (filter is_given list) g = subst (λ l. Contains l g) (held_new h e t list (assigned_same tunnel t list same)) has in
            let listed : Contains (held h tunnel ++ a.given ++ a.denied) g = subst (λ l. Contains l g) a.list_is (in_filter is_given list g shown) in
            elim (Contains-append_cases (held h tunnel ++ a.given) a.denied g listed) [
              | inl front ↦ elim (Contains-append_cases (held h tunnel) a.given g front) [
                | inl old ↦ inl (subst (λ k. Contains (held h k) g) same old)
                | inr new ↦ inr (sym same, new)
              ]
              | inr back ↦ absurd (both_ways (is_given g) (All-contains (λ x. is_given x ≡ false) a.denied g parts.1 back) (passes is_given list g shown))
            ]
        | inr ne ↦ inl (subst (λ l. Contains l g) (held_kept h e t (assigned_other tunnel t list ne)) has)
      ];
      free = λ g has. All-contains (λ x. IsFree config.pool (taken h) x.block) a.given g parts.0 has;
    }

-- what an advertisement leaves
ways_of : (config : Config) (h : History) (e : Entry) (tunnel : ℕ) (list : List Range) → IsApart config h → tunnel < length h
    → ((t : ℕ) → accepted t e.call e.reply ≡ cond (tunnel == t) (Some list) None)
    → ((r : Range) → Contains list r → Any (λ block. IsInside r block) config.reach)
    → ((u : ℕ) → IsTrue (is_live h u) → u ≢ tunnel → ¬ (Rattle.mq_addr.specs.Ranges.ListsMeet list (ranges h u)))
    → Ways config h e tunnel list
ways_of config h e tunnel list is less says inside apart = record {
  none = λ t past. let ne : tunnel ≡ t → ⊥ = λ same. omega (arith, same, past, less) in ranges_kept h e t (says t ∙ accepted_other tunnel t list ne) ∙ is.none_led t past;
  from = λ t r has. elim (cases_eq tunnel t) [
    | inl same ↦ inr (sym same, subst (λ l. Contains l r) (ranges_new h e t list (says t ∙ assigned_same tunnel t list same)) has)
    | inr ne ↦ inl (subst (λ l. Contains l r) (ranges_kept h e t (says t ∙ accepted_other tunnel t list ne)) has)
  ];
  inside = inside;
  apart = apart;
}

no_meet : (ss : List Range) → ¬ (Rattle.mq_addr.specs.Ranges.ListsMeet [] ss)
no_meet ss (k, r, less, is, rest) = absurd (omega (arith, less))

pub apart_step : (config : Config) (h : History) (actor : ℕ) (call : Call) (reply : Reply) → IsApart config h → NamesOld (length h) call → IsAnswer config h call reply → IsWritten reply
    → IsApart config (h ++ record { actor = actor; call = call; reply = reply } ∷ [])
apart_step config h actor (Open conn stream names goal) (Opened tunnel routes) is may answer written =
    let e : Entry = record { actor = actor; call = Open conn stream names goal; reply = Opened tunnel routes } in
    apart_more config h e 0 0 [] [] is (no_blocks config h e is (λ t. refl)) (no_ways config h e is (λ t. refl))
apart_step config h actor (Open conn stream names goal) (HistoryFull entries live) is may answer written = absurd written
apart_step config h actor (Open conn stream names goal) (Assigned list at) is may answer written = absurd answer
apart_step config h actor (Open conn stream names goal) (Accepted taken_up at) is may answer written = absurd answer
apart_step config h actor (Open conn stream names goal) Closed is may answer written = absurd answer
apart_step config h actor (Assign tunnel asked) (Assigned list at) is may answer written =
    let e : Entry = record { actor = actor; call = Assign tunnel asked; reply = Assigned list at } in
    apart_more config h e tunnel 0 answer.2.given [] is (blocks_of config h actor tunnel at asked list is may answer.2) (no_ways config h e is (λ t. refl))
apart_step config h actor (Assign tunnel asked) (HistoryFull entries live) is may answer written = absurd written
apart_step config h actor (Assign tunnel asked) (Opened u routes) is may answer written = absurd answer
apart_step config h actor (Assign tunnel asked) (Accepted taken_up at) is may answer written = absurd answer
apart_step config h actor (Assign tunnel asked) Closed is may answer written = absurd answer
apart_step config h actor (Advertise tunnel offered) (Accepted true at) is may answer written =
    let e : Entry = record { actor = actor; call = Advertise tunnel offered; reply = Accepted true at } in
    let good : IsAcceptable config h tunnel offered = answer.2 in
    apart_more config h e 0 tunnel [] offered is (no_blocks config h e is (λ t. refl))
    (ways_of config h e tunnel offered is may (λ t. refl) (λ r has. All-contains (λ x. Any (λ block. IsInside x block) config.reach) offered r good.inside has) good.apart)
apart_step config h actor (Advertise tunnel offered) (Accepted false at) is may answer written =
    let e : Entry = record { actor = actor; call = Advertise tunnel offered; reply = Accepted false at } in
    apart_more config h e 0 tunnel [] [] is (no_blocks config h e is (λ t. refl))
    (ways_of config h e tunnel [] is may (λ t. refl) (λ r has. absurd (in_none r has)) (λ u live ne. no_meet (ranges h u)))
apart_step config h actor (Advertise tunnel offered) (HistoryFull entries live) is may answer written = absurd written
apart_step config h actor (Advertise tunnel offered) (Opened u routes) is may answer written = absurd answer
apart_step config h actor (Advertise tunnel offered) (Assigned list at) is may answer written = absurd answer
apart_step config h actor (Advertise tunnel offered) Closed is may answer written = absurd answer
apart_step config h actor (Close tunnel) Closed is may answer written =
    let e : Entry = record { actor = actor; call = Close tunnel; reply = Closed } in
    apart_more config h e 0 0 [] [] is (no_blocks config h e is (λ t. refl)) (no_ways config h e is (λ t. refl))
apart_step config h actor (Close tunnel) (HistoryFull entries live) is may answer written = absurd written
apart_step config h actor (Close tunnel) (Opened u routes) is may answer written = absurd answer
apart_step config h actor (Close tunnel) (Assigned list at) is may answer written = absurd answer
apart_step config h actor (Close tunnel) (Accepted taken_up at) is may answer written = absurd answer

pub none_apart : (config : Config) → IsApart config []
none_apart config = record {
  none_held = λ t past. refl;
  none_led = λ t past. refl;
  inside = λ t g live has. absurd (in_none g has);
  led = λ t r live has. absurd (in_none r has);
  blocks_apart = λ t u g k lt lu ne hg hk. absurd (in_none g hg);
  ranges_apart = λ t u r s lt lu ne hr hs. absurd (in_none r hr);
}

-- ---- one owner

-- no address is in the pool and in what clients may lead to
pool_or_reach : (config : Config) (a : Addr) → IsConfig config → Any (λ block. IsIn block a) config.pool → Any (λ block. IsIn block a) config.reach → ⊥
pool_or_reach config a is (i, p, less_i, is_p, in_p) (j, r, less_j, is_r, in_r) =
    let n = length config.pool in
    let behind : i < n + j = omega arith in
    let within : n + j < length (config.pool ++ config.reach) = omega (arith, less_j, length-append config.pool config.reach) in
    let at_p : get_or (config.pool ++ config.reach) i p ≡ p = get_or_append_left config.pool config.reach p i less_i ∙ is_p in
    let at_r : get_or (config.pool ++ config.reach) (n + j) p ≡ r = get_or-append-add config.pool config.reach j p ∙ get_or_default config.reach j p r less_j ∙ is_r in
    is.apart i (n + j) p behind within (a, subst (λ x. IsIn x a) (sym at_p) in_p, subst (λ x. IsIn x a) (sym at_r) in_r)

held_in : (h : History) (t : ℕ) (a : Addr) → Any (λ g. IsIn g.block a) (held h t) → (g : Given) × Contains (held h t) g × IsIn g.block a
held_in h t a (k, g, less, is, has) = (g, (k, less, is), has)

led_in : (h : History) (t : ℕ) (a : Addr) → Any (λ r. InRange r a) (ranges h t) → (r : Range) × Contains (ranges h t) r × InRange r a
led_in h t a (k, r, less, is, has) = (r, (k, less, is), has)

in_pool : (config : Config) (h : History) (t : ℕ) (a : Addr) → IsApart config h → IsTrue (is_live h t) → Any (λ g. IsIn g.block a) (held h t) → Any (λ block. IsIn block a) config.pool
in_pool config h t a is live has =
    let g = held_in h t a has in
    let whole = is.inside t g.0 live g.1 in
    (whole.0, whole.1, whole.2, whole.3, whole.4 a g.2)

in_reach : (config : Config) (h : History) (t : ℕ) (a : Addr) → IsApart config h → IsTrue (is_live h t) → Any (λ r. InRange r a) (ranges h t) → Any (λ block. IsIn block a) config.reach
in_reach config h t a is live has =
    let r = led_in h t a has in
    let block = is.led t r.0 live r.1 in
    (block.0, block.1, block.2, block.3, block.4 a r.2)

two_owners : (config : Config) (h : History) (t u : ℕ) (a : Addr) → IsConfig config → IsApart config h → t ≢ u → IsTrue (is_live h t) → IsTrue (is_live h u) → HasAddr h t a → HasAddr h u a → ⊥
two_owners config h t u a good is ne lt lu (inl x) (inl y) = let g = held_in h t a x in let k = held_in h u a y in is.blocks_apart t u g.0 k.0 lt lu ne g.1 k.1 (a, g.2, k.2)
two_owners config h t u a good is ne lt lu (inl x) (inr y) = pool_or_reach config a good (in_pool config h t a is lt x) (in_reach config h u a is lu y)
two_owners config h t u a good is ne lt lu (inr x) (inl y) = pool_or_reach config a good (in_pool config h u a is lu y) (in_reach config h t a is lt x)
two_owners config h t u a good is ne lt lu (inr x) (inr y) = let r = led_in h t a x in let s = led_in h u a y in is.ranges_apart t u r.0 s.0 lt lu ne r.1 s.1 (a, r.2, s.2)

-- a book that may be, by which no address has two owners
pub record Good (config : Config) (h : History) : Type 0 where
  pub config_is : IsConfig config
  pub apart : IsApart config h

one_owner : (config : Config) (h : History) (t u : ℕ) (a : Addr) → Good config h → IsOwner h t a → IsOwner h u a → t ≡ u
one_owner config h t u a good x y =
    elim (cases_eq t u) [
      | inl same ↦ same
      | inr ne ↦ absurd (two_owners config h t u a good.config_is good.apart ne x.live y.live x.has y.has)
    ]

-- ---- one verdict

owner_of : (h : History) (flow : Flow) (u actor : ℕ) → GoesTo h flow u actor → IsOwner h u flow.target
owner_of h flow u actor g = leads_in h u flow.target flow.protocol g.reaches.owns

one_goal : (config : Config) (h : History) (flow : Flow) (u v a b : ℕ) → Good config h → GoesTo h flow u a → GoesTo h flow v b → Pass (place.Tunnel u a) ≡ Pass (place.Tunnel v b)
one_goal config h flow u v a b good x y =
    let same = one_owner config h u v flow.target good (owner_of h flow u a x) (owner_of h flow v b y) in
    let actors : a ≡ b = x.actor_is ∙ ap (λ t. actor_of h t) same ∙ sym y.actor_is in
    cc

not_missed : (config : Config) (h : History) (flow : Flow) (u a : ℕ) → Good config h → Misses h flow → GoesTo h flow u a → ⊥
not_missed config h flow u a good m g =
    let same = one_owner config h u m.owner flow.target good (owner_of h flow u a g) m.is in
    m.misses (subst (λ t. Reaches h flow t) same g.reaches)

stopped_or_passed : (config : Config) (h : History) (t u a : ℕ) (flow : Flow) → Good config h
    → ¬ (IsRouted h t flow) ⊎ (IsRouted h t flow × (Misses h flow ⊎ IsVacant config h flow)) → IsRouted h t flow → GoesTo h flow u a → ⊥
stopped_or_passed config h t u a flow good (inl stop) routed g = stop routed
stopped_or_passed config h t u a flow good (inr (way, inl m)) routed g = not_missed config h flow u a good m g
stopped_or_passed config h t u a flow good (inr (way, inr v)) routed g = v.no_owner u (owner_of h flow u a g)

stopped_or_out : (config : Config) (h : History) (t : ℕ) (flow : Flow)
    → ¬ (IsRouted h t flow) ⊎ (IsRouted h t flow × (Misses h flow ⊎ IsVacant config h flow)) → IsRouted h t flow → HasNoOwner h flow.target → ¬ (IsOurs config flow.target) → ⊥
stopped_or_out config h t flow (inl stop) routed free out = stop routed
stopped_or_out config h t flow (inr (way, inl m)) routed free out = free m.owner m.is
stopped_or_out config h t flow (inr (way, inr v)) routed free out = out v.ours

pub verdicts : (config : Config) (h : History) (o : Origin) (flow : Flow) (a b : Verdict) → Good config h → IsJudged config h o flow a → IsJudged config h o flow b → a ≡ b
verdicts config h (origin.Tunnel t) flow Source Source good x y = refl
verdicts config h (origin.Tunnel t) flow Source NoRoute good x y = absurd (x y.0)
verdicts config h (origin.Tunnel t) flow Source (Pass (place.Tunnel u a)) good x y = absurd (x y.0)
verdicts config h (origin.Tunnel t) flow Source (Pass place.Net) good x y = absurd (x y.0)
verdicts config h (origin.Tunnel t) flow NoRoute Source good x y = absurd (y x.0)
verdicts config h (origin.Tunnel t) flow NoRoute NoRoute good x y = refl
verdicts config h (origin.Tunnel t) flow NoRoute (Pass (place.Tunnel u a)) good x y = absurd (stopped_or_passed config h t u a flow good x.1 y.1 y.2)
verdicts config h (origin.Tunnel t) flow NoRoute (Pass place.Net) good x y = absurd (stopped_or_out config h t flow x.1 y.1 y.2 y.3)
verdicts config h (origin.Tunnel t) flow (Pass (place.Tunnel u a)) Source good x y = absurd (y x.0)
verdicts config h (origin.Tunnel t) flow (Pass (place.Tunnel u a)) NoRoute good x y = absurd (stopped_or_passed config h t u a flow good y.1 x.1 x.2)
verdicts config h (origin.Tunnel t) flow (Pass (place.Tunnel u a)) (Pass (place.Tunnel v b)) good x y = one_goal config h flow u v a b good x.2 y.2
verdicts config h (origin.Tunnel t) flow (Pass (place.Tunnel u a)) (Pass place.Net) good x y = absurd (y.2 u (owner_of h flow u a x.2))
verdicts config h (origin.Tunnel t) flow (Pass place.Net) Source good x y = absurd (y x.0)
verdicts config h (origin.Tunnel t) flow (Pass place.Net) NoRoute good x y = absurd (stopped_or_out config h t flow y.1 x.1 x.2 x.3)
verdicts config h (origin.Tunnel t) flow (Pass place.Net) (Pass (place.Tunnel v b)) good x y = absurd (x.2 v (owner_of h flow v b y.2))
verdicts config h (origin.Tunnel t) flow (Pass place.Net) (Pass place.Net) good x y = refl
verdicts config h origin.Net flow Source Source good x y = refl
verdicts config h origin.Net flow Source NoRoute good x y = absurd (y.0 x)
verdicts config h origin.Net flow Source (Pass (place.Tunnel u a)) good x y = absurd (y.0 x)
verdicts config h origin.Net flow Source (Pass place.Net) good x y = absurd y
verdicts config h origin.Net flow NoRoute Source good x y = absurd (x.0 y)
verdicts config h origin.Net flow NoRoute NoRoute good x y = refl
verdicts config h origin.Net flow NoRoute (Pass (place.Tunnel u a)) good x y = absurd (x.1 u y.1.reaches)
verdicts config h origin.Net flow NoRoute (Pass place.Net) good x y = absurd y
verdicts config h origin.Net flow (Pass (place.Tunnel u a)) Source good x y = absurd (x.0 y)
verdicts config h origin.Net flow (Pass (place.Tunnel u a)) NoRoute good x y = absurd (y.1 u x.1.reaches)
verdicts config h origin.Net flow (Pass (place.Tunnel u a)) (Pass (place.Tunnel v b)) good x y = one_goal config h flow u v a b good x.1 y.1
verdicts config h origin.Net flow (Pass (place.Tunnel u a)) (Pass place.Net) good x y = absurd y
verdicts config h origin.Net flow (Pass place.Net) b good x y = absurd x
