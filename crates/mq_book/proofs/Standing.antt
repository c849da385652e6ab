-- What the listed tunnels stand for, with an entry more.
use Rattle.std.proofs.Common.{◌≡◌, ◌≢◌, ℕ, zero, suc, ◌+◌, ◌<◌, ◌≤◌, Bool, true, false, not, cond, List, [], ◌∷◌, ◌++◌, length, get_or, set, map, None, ap, sym, ◌∙◌, refl, subst, arith, inl, inr}
use Rattle.std.specs.Prelude.{IsTrue, ◌==◌}
use Rattle.std.specs.Option.{unwrap_or}
use Rattle.std.specs.List.{All, AllPairs, Contains, HoldsAt, filter, range_with_len, remove}
use Rattle.std.proofs.lemmas.Bool.{cases_eq, cases_order, and_from, eq-eqb, ne_eqb, not-true}
use Rattle.std.proofs.lemmas.List.{length-map, length_push, map_push, map-set, set-get_or, get_or-map, get_or-set_same, get_or-set_other, get_or_default}
use Rattle.std.proofs.lemmas.List.Elements.{All-push, All-weaker, All-filter, filter_passes}
use Rattle.std.proofs.lemmas.List.Kept.{AllPairs-filter}
use Rattle.std.proofs.lemmas.List.FromFn.{get_or-range_with_len, length-range_with_len}
use Rattle.mq_addr.specs.declared.entry.Given.{Given}
use Rattle.mq_addr.specs.declared.range.Range.{Range}
use Rattle.mq_talk.specs.declared.book.Config.{Config}
use Rattle.mq_talk.specs.declared.book.Entry.{Entry}
use Rattle.mq_talk.specs.Book.{History, opening, closes, assigned, accepted, is_some_list, is_live, live_tunnels, held, ranges, routes, actor_of}
use Rattle.std.specs.Prelude.{vec_capacity}
use Rattle.mq_talk.specs.Config.{IsConfig}
use Rattle.mq_talk.specs.Answers.{IsLegal, Follows}
use Rattle.mq_book.specs.declared.ledger.Ledger.{Ledger}
use Rattle.mq_book.proofs.Legal.{legal_more}
use Rattle.mq_book.specs.declared.tunnel.Tunnel.{Tunnel}
use Rattle.mq_book.specs.Stand.{Stands, IsTunnel, AreLive, IsNew, IsClose, IsChange}
use Rattle.mq_book.proofs.Members.{stays}
use Rattle.mq_book.proofs.More.{live_old, live_new, live_within, tunnels_more, held_kept, ranges_kept, routes_old, routes_new, actor_old, actor_new, append_nil}
use Rattle.mq_book.proofs.Owners.{all_apart}

pub as_many : (h : History) (ts : List Tunnel) → AreLive h ts → length ts ≡ length (live_tunnels h)
as_many h ts live = sym (length-map ts (λ (t : Tunnel). t.number)) ∙ ap length live.numbers

-- the entry leaves the tunnel as it is
pub tunnel_kept : (h : History) (e : Entry) (t : Tunnel) → IsTunnel h t → closes t.number e.call ≡ false → assigned t.number e.call e.reply ≡ None → accepted t.number e.call e.reply ≡ None
    → IsTunnel (h ++ e ∷ []) t
tunnel_kept h e t is stays_on none no_ways =
    let less = live_within h t.number is.live in
    record {
      live = live_old h e t.number less ∙ and_from (is_live h t.number) (not (closes t.number e.call)) is.live (ap not stays_on);
      actor_is = is.actor_is ∙ sym (actor_old h e t.number less);
      held_is = is.held_is ∙ sym (held_kept h e t.number none);
      ranges_is = is.ranges_is ∙ sym (ranges_kept h e t.number no_ways);
      routes_is = is.routes_is ∙ sym (routes_old h e t.number less);
    }

pub filter_all : (p : ℕ → Bool) (xs : List ℕ) → ((x : ℕ) → p x ≡ true) → filter p xs ≡ xs
filter_all p [] h = refl
filter_all p (x ∷ xs) h = ap (λ b. cond b (x ∷ filter p xs) (filter p xs)) (h x) ∙ ap (λ ys. x ∷ ys) (filter_all p xs h)

-- the numbers of the live tunnels behind an entry that closes none
numbers_more : (h : History) (e : Entry) → ((t : ℕ) → closes t e.call ≡ false)
    → live_tunnels (h ++ e ∷ []) ≡ live_tunnels h ++ cond (is_some_list (opening e.call e.reply)) (length h ∷ []) []
numbers_more h e none =
    tunnels_more h e ∙ ap (λ xs. xs ++ cond (is_some_list (opening e.call e.reply)) (length h ∷ []) [])
    (filter_all (λ t. not (closes t e.call)) (live_tunnels h) (λ t. ap not (none t)))

new_tunnel : (config : Config) (h : History) (e : Entry) (t : Tunnel) → IsLegal config h → IsNew h e t → IsTunnel (h ++ e ∷ []) t
new_tunnel config h e t legal new =
    let fresh = all_apart config h legal in
    let n = length h in
    let end : n ≤ length h = omega arith in
    record {
      live = ap (λ k. is_live (h ++ e ∷ []) k) new.number_is ∙ live_new h e ∙ ap is_some_list new.opens;
      actor_is = new.actor_is ∙ sym (ap (λ k. actor_of (h ++ e ∷ []) k) new.number_is ∙ actor_new h e);
      held_is = new.held_is ∙ sym (ap (λ k. held (h ++ e ∷ []) k) new.number_is ∙ held_kept h e n (new.assigns_none n) ∙ fresh.none_held n end);
      ranges_is = new.ranges_is ∙ sym (ap (λ k. ranges (h ++ e ∷ []) k) new.number_is ∙ ranges_kept h e n (new.accepts_none n) ∙ fresh.none_led n end);
      routes_is = sym (ap (λ k. routes (h ++ e ∷ []) k) new.number_is ∙ routes_new h e ∙ ap (λ o. unwrap_or o []) new.opens);
    }

pub opened : (config : Config) (h : History) (e : Entry) (ts : List Tunnel) (t : Tunnel) → IsLegal config h → AreLive h ts → IsNew h e t
    → AreLive (h ++ e ∷ []) (ts ++ t ∷ [])
opened config h e ts t legal live new = record {
  numbers =
      map_push (λ (x : Tunnel). x.number) ts t ∙ ap (λ xs. xs ++ t.number ∷ []) live.numbers ∙ ap (λ k. live_tunnels h ++ k ∷ []) new.number_is
      ∙ sym (numbers_more h e new.closes_none ∙ ap (λ o. live_tunnels h ++ cond (is_some_list o) (length h ∷ []) []) new.opens);
  each = All-push (IsTunnel (h ++ e ∷ [])) ts t
      (All-weaker (IsTunnel h) (IsTunnel (h ++ e ∷ [])) (λ x is. tunnel_kept h e x is (new.closes_none x.number) (new.assigns_none x.number) (new.accepts_none x.number)) ts live.each)
      (new_tunnel config h e t legal new);
}

map_filter_step : (p : ℕ → Bool) (b : Bool) (t : Tunnel) (fs : List Tunnel) (gs : List ℕ) → map (λ (x : Tunnel). x.number) fs ≡ gs
    → map (λ (x : Tunnel). x.number) (cond b (t ∷ fs) fs) ≡ cond b (t.number ∷ gs) gs
map_filter_step p true t fs gs e = ap (λ xs. t.number ∷ xs) e
map_filter_step p false t fs gs e = e

map_filter : (p : ℕ → Bool) (ts : List Tunnel) → map (λ (t : Tunnel). t.number) (filter (λ (t : Tunnel). p t.number) ts) ≡ filter p (map (λ (t : Tunnel). t.number) ts)
map_filter p [] = refl
map_filter p (t ∷ ts) = map_filter_step p (p t.number) t (filter (λ (x : Tunnel). p x.number) ts) (filter p (map (λ (x : Tunnel). x.number) ts)) (map_filter p ts)

filter_same : (p q : ℕ → Bool) (xs : List ℕ) → ((x : ℕ) → p x ≡ q x) → filter p xs ≡ filter q xs
filter_same p q [] h = refl
filter_same p q (x ∷ xs) h = ap (λ b. cond b (x ∷ filter p xs) (filter p xs)) (h x) ∙ ap (λ ys. cond (q x) (x ∷ ys) ys) (filter_same p q xs h)

pub closed : (h : History) (e : Entry) (ts : List Tunnel) (number : ℕ) → AreLive h ts → IsClose e number → AreLive (h ++ e ∷ []) (filter (λ (t : Tunnel). not (number == t.number)) ts)
closed h e ts number live is = record {
  numbers =
      map_filter (λ k. not (number == k)) ts ∙ ap (λ xs. filter (λ k. not (number == k)) xs) live.numbers
      ∙ sym (tunnels_more h e ∙ ap (λ o. filter (λ t. not (closes t e.call)) (live_tunnels h) ++ cond (is_some_list o) (length h ∷ []) []) is.opens
      ∙ append_nil (filter (λ t. not (closes t e.call)) (live_tunnels h))
      ∙ filter_same (λ t. not (closes t e.call)) (λ k. not (number == k)) (live_tunnels h) (λ t. ap not (is.closes_it t)));
  each = λ k d less.
      let kept = filter (λ (t : Tunnel). not (number == t.number)) ts in
      let t = get_or kept k d in
      let was = All-filter (λ (x : Tunnel). not (number == x.number)) (IsTunnel h) ts live.each k d less in
      let other = not-true (number == t.number) (filter_passes (λ (x : Tunnel). not (number == x.number)) ts k d less) in
      tunnel_kept h e t was (is.closes_it t.number ∙ other) (is.assigns_none t.number) (is.accepts_none t.number);
}

-- the live tunnels rise
range_rises : (n : ℕ) → AllPairs (λ a b. a < b) (range_with_len 0 n)
range_rises n i j d less within =
    let high : j < n = omega (arith, within, length-range_with_len 0 n) in
    let low : i < n = omega arith in
    omega (arith, get_or-range_with_len 0 n i d low, get_or-range_with_len 0 n j d high, less)

pub rise : (h : History) → AllPairs (λ a b. a < b) (live_tunnels h)
rise h = AllPairs-filter (λ a b. a < b) (λ t. is_live h t) (range_with_len 0 (length h)) (range_rises (length h))

-- two places have two numbers
pub one_place : (h : History) (ts : List Tunnel) (i j : ℕ) (d : Tunnel) → AreLive h ts → i < length ts → j < length ts → (get_or ts i d).number ≡ (get_or ts j d).number → i ≡ j
one_place h ts i j d live low high same =
    let ns = map (λ (t : Tunnel). t.number) ts in
    let rises : AllPairs (λ a b. a < b) ns = subst (λ xs. AllPairs (λ a b. a < b) xs) (sym live.numbers) (rise h) in
    let long = length-map ts (λ (t : Tunnel). t.number) in
    let at_i = get_or-map (λ (t : Tunnel). t.number) ts i d 0 low in
    let at_j = get_or-map (λ (t : Tunnel). t.number) ts j d 0 high in
    elim (cases_order i j) [
      | inl e ↦ e
      | inr (inl less) ↦ let end : j < length ns = omega (arith, high, long) in absurd (omega (arith, rises i j 0 less end, at_i, at_j, same))
      | inr (inr more) ↦ let end : i < length ns = omega (arith, low, long) in absurd (omega (arith, rises j i 0 more end, at_i, at_j, same))
    ]

pub changed : (h : History) (e : Entry) (ts : List Tunnel) (at : ℕ) (new : Tunnel) → AreLive h ts → at < length ts → IsChange h e (get_or ts at new) new
    → AreLive (h ++ e ∷ []) (set ts at new)
changed h e ts at new live inside is = record {
  numbers =
      let f : Tunnel → ℕ = λ (t : Tunnel). t.number in
      let same : f new ≡ get_or (map f ts) at 0 = is.number_is ∙ sym (get_or-map f ts at new 0 inside) in
      map-set f ts at new ∙ ap (λ k. set (map f ts) at k) same ∙ set-get_or (map f ts) at 0 ∙ live.numbers
      ∙ sym (numbers_more h e is.closes_none ∙ ap (λ o. live_tunnels h ++ cond (is_some_list o) (length h ∷ []) []) is.opens ∙ append_nil (live_tunnels h));
  each = λ k d less. elim (cases_eq k at) [
    | inl same ↦ subst (IsTunnel (h ++ e ∷ [])) (sym (ap (λ n. get_or (set ts at new) n d) same ∙ get_or-set_same ts at new d inside)) is.now
    | inr ne ↦
        let below : k < length ts = omega (arith, less, Rattle.std.proofs.Common.length-set ts at new) in
        let t = get_or ts k d in
        let other : (get_or ts at new).number ≡ t.number → ⊥ = λ e.
        ne (one_place h ts k at d live below inside (sym e ∙ ap (λ (x : Tunnel). x.number) (get_or_default ts at new d inside))) in
        subst (IsTunnel (h ++ e ∷ [])) (sym (get_or-set_other ts at k new d ne))
        (tunnel_kept h e t (live.each k d below) (is.closes_none t.number) (is.assigns_none t.number other) (is.accepts_none t.number other))
  ];
}

unlisted : (ts : List Tunnel) (n : ℕ) → All (λ (t : Tunnel). t.number ≢ n) ts → Contains (map (λ (t : Tunnel). t.number) ts) n → ⊥
unlisted [] n none (k, less, is) = omega (arith, less)
unlisted (t ∷ ts) n none (zero, less, is) = let first : 0 < length (t ∷ ts) = omega arith in none 0 t first is
unlisted (t ∷ ts) n none (suc k, less, is) = let below : k < length (map (λ (x : Tunnel). x.number) ts) = omega (arith, less) in unlisted ts n (Rattle.std.proofs.lemmas.List.Elements.All-tail (λ (x : Tunnel). x.number ≢ n) t ts none) (k, below, is)

-- a live tunnel is listed
pub listed : (h : History) (ts : List Tunnel) (n : ℕ) → AreLive h ts → IsTrue (is_live h n) → All (λ (t : Tunnel). t.number ≢ n) ts → ⊥
listed h ts n live is none =
    let less = live_within h n is in
    let placed = get_or-range_with_len 0 (length h) n n less in
    let same : 0 + n ≡ n = omega arith in
    let inside : n < length (range_with_len 0 (length h)) = omega (arith, less, length-range_with_len 0 (length h)) in
    let has : Contains (live_tunnels h) n = stays (λ t. is_live h t) (range_with_len 0 (length h)) n (n, inside, placed ∙ same) is in
    let among : Contains (map (λ (t : Tunnel). t.number) ts) n = subst (λ xs. Contains xs n) (sym live.numbers) has in
    unlisted ts n none among

filter_short_step : (b : Bool) (t : Tunnel) (fs ts : List Tunnel) → length fs ≤ length ts → length (cond b (t ∷ fs) fs) ≤ length (t ∷ ts)
filter_short_step true t fs ts h = omega (arith, h)
filter_short_step false t fs ts h = omega (arith, h)

filter_short : (p : Tunnel → Bool) (ts : List Tunnel) → length (filter p ts) ≤ length ts
filter_short p [] = omega arith
filter_short p (t ∷ ts) = filter_short_step (p t) t (filter p ts) ts (filter_short p ts)

fewer_step : (b : Bool) (t : Tunnel) (fs ts : List Tunnel) → length fs + 1 ≤ length ts → length (cond b (t ∷ fs) fs) + 1 ≤ length (t ∷ ts)
fewer_step true t fs ts h = omega (arith, h)
fewer_step false t fs ts h = omega (arith, h)

-- a tunnel is taken out
pub fewer : (n : ℕ) (ts : List Tunnel) (at : ℕ) → at < length ts → HoldsAt (λ (t : Tunnel). t.number ≡ n) ts at → length (filter (λ (t : Tunnel). not (n == t.number)) ts) + 1 ≤ length ts
fewer n [] at less is = absurd (omega (arith, less))
fewer n (t ∷ ts) zero less is =
    let p : Tunnel → Bool = λ x. not (n == x.number) in
    let gone : p t ≡ false = ap not (eq-eqb n t.number (sym (is t))) in
    let e : length (filter p (t ∷ ts)) ≡ length (filter p ts) = ap (λ b. length (cond b (t ∷ filter p ts) (filter p ts))) gone in
    omega (arith, e, filter_short p ts)
fewer n (t ∷ ts) (suc at) less is =
    let p : Tunnel → Bool = λ x. not (n == x.number) in
    let below : at < length ts = omega (arith, less) in
    fewer_step (p t) t (filter p ts) ts (fewer n ts at below is)

-- a ledger with an entry more
pub stands_with : (l m : Ledger) (e : Entry) (ts : List Tunnel) → Stands l → Follows l.setup l.history.items e → AreLive (l.history.items ++ e ∷ []) ts
    → m.setup ≡ l.setup → m.history.items ≡ l.history.items ++ e ∷ [] → m.live.items ≡ ts
    → length l.history.items + 1 + length ts ≤ l.setup.history → length l.history.items + 1 + length ts ≤ vec_capacity m.history → Stands m
stands_with l m e ts s follows live setup history tunnels few room =
    let h = l.history.items in
    let long : length m.history.items ≡ length h + 1 = ap length history ∙ length_push h e in
    let many : length m.live.items ≡ length ts = ap length tunnels in
    let most : m.setup.history ≡ l.setup.history = ap (λ (c : Config). c.history) setup in
    let fits : length m.history.items + length m.live.items ≤ m.setup.history = omega (arith, long, many, most, few) in
    let holds : length m.history.items + length m.live.items ≤ vec_capacity m.history = omega (arith, long, many, room) in
    record {
      config = subst IsConfig (sym setup) s.config;
      legal = subst (λ c. IsLegal c m.history.items) (sym setup) (subst (λ k. IsLegal l.setup k) (sym history) (legal_more l.setup h e s.legal follows));
      live = subst (λ k. AreLive k m.live.items) (sym history) (subst (λ k. AreLive (h ++ e ∷ []) k) (sym tunnels) live);
      few = fits;
      room = holds;
    }

pub keeps_all : {X : Type 0} (p : X → Bool) (ts : List X) → All (λ t. p t ≡ true) ts → filter p ts ≡ ts
keeps_all p [] all = refl
keeps_all p (t ∷ ts) all =
    let first : 0 < length (t ∷ ts) = omega arith in
    ap (λ b. cond b (t ∷ filter p ts) (filter p ts)) (all 0 t first)
    ∙ ap (λ xs. t ∷ xs) (keeps_all p ts (Rattle.std.proofs.lemmas.List.Elements.All-tail (λ x. p x ≡ true) t ts all))

-- to take out the tunnel of a number is to take out that at its place
pub filter_is_remove : (n : ℕ) (ts : List Tunnel) (at : ℕ) → at < length ts → HoldsAt (λ (t : Tunnel). t.number ≡ n) ts at
    → ((k : ℕ) (d : Tunnel) → k < length ts → k ≢ at → (get_or ts k d).number ≢ n) → filter (λ (t : Tunnel). not (n == t.number)) ts ≡ remove ts at
filter_is_remove n [] at less is others = absurd (omega (arith, less))
filter_is_remove n (t ∷ ts) zero less is others =
    let p : Tunnel → Bool = λ x. not (n == x.number) in
    ap (λ b. cond b (t ∷ filter p ts) (filter p ts)) (ap not (eq-eqb n t.number (sym (is t))))
    ∙ keeps_all p ts (λ k d low. let below : suc k < length (t ∷ ts) = omega (arith, low) in let ne : suc k ≢ 0 = λ e. omega (arith, e) in
    ap not (ne_eqb n (get_or ts k d).number (λ e. others (suc k) d below ne (sym e))))
filter_is_remove n (t ∷ ts) (suc at) less is others =
    let p : Tunnel → Bool = λ x. not (n == x.number) in
    let first : 0 < length (t ∷ ts) = omega arith in
    let below : at < length ts = omega (arith, less) in
    let ne : 0 ≢ suc at = λ e. omega (arith, e) in
    ap (λ b. cond b (t ∷ filter p ts) (filter p ts)) (ap not (ne_eqb n t.number (λ e. others 0 t first ne (sym e))))
    ∙ ap (λ xs. t ∷ xs) (filter_is_remove n ts at below is (λ k d low differs. let high : suc k < length (t ∷ ts) = omega (arith, low) in others (suc k) d high (λ e. let same : k ≡ at = omega (arith, e) in differs same)))

pub is_remove : (h : History) (n : ℕ) (ts : List Tunnel) (at : ℕ) → AreLive h ts → at < length ts → HoldsAt (λ (t : Tunnel). t.number ≡ n) ts at → filter (λ (t : Tunnel). not (n == t.number)) ts ≡ remove ts at
is_remove h n ts at live less is = filter_is_remove n ts at less is (λ k d low differs same. differs (one_place h ts k at d live low less (same ∙ sym (is d))))

pub held_changes : (h : History) (e : Entry) (ts : List Tunnel) (at : ℕ) (r : Tunnel) (list : List Given) → at < length ts → r ≡ get_or ts at r
    → ((d : Tunnel) → IsChange h e (get_or ts at d) (record (get_or ts at d) { held = list })) → IsChange h e (get_or ts at (record r { held = list })) (record r { held = list })
held_changes h e ts at r list less is changes =
    let new : Tunnel = record r { held = list } in
    subst (λ x. IsChange h e x new) (get_or_default ts at r new less) (subst (λ (x : Tunnel). IsChange h e (get_or ts at r) (record x { held = list })) (sym is) (changes r))

pub ranges_change : (h : History) (e : Entry) (ts : List Tunnel) (at : ℕ) (r : Tunnel) (list : List Range) → at < length ts → r ≡ get_or ts at r
    → ((d : Tunnel) → IsChange h e (get_or ts at d) (record (get_or ts at d) { ranges = list })) → IsChange h e (get_or ts at (record r { ranges = list })) (record r { ranges = list })
ranges_change h e ts at r list less is changes =
    let new : Tunnel = record r { ranges = list } in
    subst (λ x. IsChange h e x new) (get_or_default ts at r new less) (subst (λ (x : Tunnel). IsChange h e (get_or ts at r) (record x { ranges = list })) (sym is) (changes r))
