-- What a request and an advertisement change.
use Rattle.std.proofs.Common.{◌≡◌, ◌≢◌, ℕ, ◌<◌, Bool, true, false, not, cond, List, [], ◌∷◌, ◌++◌, length, get_or, map, ap, sym, ◌∙◌, refl, subst, arith, inl, inr}
use Rattle.std.specs.Prelude.{IsTrue, ◌==◌}
use Rattle.std.specs.List.{All, Any, HoldsAt, filter, flat_map}
use Rattle.std.proofs.lemmas.Bool.{and_from, ne_eqb, cases_eq}
use Rattle.std.proofs.lemmas.List.{length-append, get_or_append_left}
use Rattle.std.proofs.lemmas.List.Elements.{All-tail, filter-append, filter_passes}
use Rattle.mq_addr.specs.declared.addr.Addr.{Addr}
use Rattle.mq_addr.specs.declared.addr.Addr.TheVariants.{V4, V6}
use Rattle.mq_addr.specs.declared.prefix.Prefix.{Prefix}
use Rattle.mq_addr.specs.declared.entry.Asked.{Asked}
use Rattle.mq_addr.specs.declared.entry.Given.{Given}
use Rattle.mq_addr.specs.declared.range.Range.{Range}
use Rattle.mq_addr.specs.Block.{bits_of, SameVersion, IsIn}
use Rattle.mq_addr.specs.Cover.{IsWithin, IsFree}
use Rattle.mq_addr.specs.Ranges.{IsInside, ListsMeet}
use Rattle.mq_talk.specs.declared.book.Config.{Config}
use Rattle.mq_talk.specs.declared.book.Entry.{Entry}
use Rattle.mq_talk.specs.declared.book.Call.TheVariants.{Assign, Advertise}
use Rattle.mq_talk.specs.declared.book.Reply.TheVariants.{Assigned, Accepted}
use Rattle.mq_talk.specs.Config.{IsConfig, HasNoZero}
use Rattle.mq_talk.specs.Book.{History, is_live, is_given, held, ranges, blocks, taken}
use Rattle.mq_talk.specs.Answers.{Follows, IsAssigned, AreTreated}
use Rattle.mq_book.specs.declared.tunnel.Tunnel.{Tunnel}
use Rattle.mq_book.specs.declared.assign.Treated.{Treated}
use Rattle.mq_book.specs.Treat.{AreDone}
use Rattle.mq_book.specs.Stand.{IsTunnel, AreLive, IsChange, IsReachable, IsClear}
use Rattle.mq_book.proofs.More.{live_old, live_within, held_new, held_kept, ranges_new, ranges_kept, routes_old, actor_old, append_nil}
use Rattle.mq_book.proofs.Apart.{treated_free}
use Rattle.mq_book.proofs.Owners.{assigned_other, assigned_same, accepted_other}
use Rattle.mq_book.proofs.Standing.{listed}

flat_same : (h : History) (ts : List Tunnel) → All (IsTunnel h) ts → flat_map (λ (t : Tunnel). blocks t.held) ts ≡ flat_map (λ n. blocks (held h n)) (map (λ (t : Tunnel). t.number) ts)
flat_same h [] all = refl
flat_same h (t ∷ ts) all =
    let first : 0 < length (t ∷ ts) = omega arith in
    ap (λ l. blocks l ++ flat_map (λ (x : Tunnel). blocks x.held) ts) (all 0 t first).held_is
    ∙ ap (λ l. blocks (held h t.number) ++ l) (flat_same h ts (All-tail (IsTunnel h) t ts all))

-- the blocks of the listed tunnels are all that are taken
pub taken_all : (h : History) (ts : List Tunnel) → AreLive h ts → flat_map (λ (t : Tunnel). blocks t.held) ts ≡ taken h
taken_all h ts live = flat_same h ts live.each ∙ ap (λ ns. flat_map (λ n. blocks (held h n)) ns) live.numbers

pub assigned_is : (config : Config) (h : History) (ts : List Tunnel) (at tunnel : ℕ) (asked : List Asked) (t : Treated) (list : List Given) → AreLive h ts → at < length ts
    → HoldsAt (λ (x : Tunnel). x.number ≡ tunnel) ts at → HoldsAt (λ (x : Tunnel). AreDone config.pool (taken h) x.held asked t) ts at → list ≡ t.held.items ++ t.denied.items
    → IsAssigned config h tunnel asked list
assigned_is config h [] at tunnel asked t list live less there done is = absurd (omega (arith, less))
assigned_is config h (x ∷ xs) at tunnel asked t list live less there done is =
    let here = get_or (x ∷ xs) at x in
    let all = done x in
    let same : here.held ≡ held h tunnel = (live.each at x less).held_is ∙ ap (λ n. held h n) (there x) in
    record {
      given = all.given;
      denied = t.denied.items;
      treated = subst (λ l. AreTreated config.pool (taken h) l asked all.given t.denied.items) same all.treated;
      list_is = is ∙ ap (λ l. l ++ t.denied.items) (all.held_is ∙ ap (λ l. l ++ all.given) same);
    }

keeps_all : (p : Given → Bool) (xs : List Given) → All (λ x. p x ≡ true) xs → filter p xs ≡ xs
keeps_all p [] all = refl
keeps_all p (x ∷ xs) all =
    let first : 0 < length (x ∷ xs) = omega arith in
    ap (λ b. cond b (x ∷ filter p xs) (filter p xs)) (all 0 x first) ∙ ap (λ l. x ∷ l) (keeps_all p xs (All-tail (λ y. p y ≡ true) x xs all))

keeps_none : (p : Given → Bool) (xs : List Given) → All (λ x. p x ≡ false) xs → filter p xs ≡ []
keeps_none p [] all = refl
keeps_none p (x ∷ xs) all =
    let first : 0 < length (x ∷ xs) = omega arith in
    ap (λ b. cond b (x ∷ filter p xs) (filter p xs)) (all 0 x first) ∙ keeps_none p xs (All-tail (λ y. p y ≡ false) x xs all)

itself : (a : Addr) → SameVersion a a
itself (V4 a) = tt
itself (V6 a) = tt

not_zero : (whole : Prefix) (a : Addr) → HasNoZero whole → IsIn whole a → (bits_of a == 0) ≡ false
not_zero whole (V4 bits) none has = ne_eqb bits 0 (λ e. none.v4 (subst (λ n. IsIn whole (V4 n)) e has))
not_zero whole (V6 bits) none has = ne_eqb bits 0 (λ e. none.v6 (subst (λ n. IsIn whole (V6 n)) e has))

-- a block of the pool isn't the all-zero address
shows : (config : Config) (g : Given) → IsConfig config → Any (λ whole. IsWithin g.block whole) config.pool → is_given g ≡ true
shows config g is (k, whole, less, at, within) =
    let long : k < length (config.pool ++ config.reach) = omega (arith, less, length-append config.pool config.reach) in
    let none : HasNoZero whole = subst HasNoZero (get_or_append_left config.pool config.reach whole k less ∙ at) (is.no_zero k whole long) in
    ap not (not_zero whole g.block.addr none (within g.block.addr (record { version = itself g.block.addr; agrees = refl })))

shown : (config : Config) (h : History) (t : ℕ) (given denied : List Given) → IsConfig config → All (λ (g : Given). IsFree config.pool (taken h) g.block) given → All (λ g. is_given g ≡ false) denied
    → filter is_given (held h t ++ given ++ denied) ≡ held h t ++ given
shown config h t given denied is free hidden =
    filter-append is_given (held h t ++ given) denied ∙ ap (λ l. filter is_given (held h t ++ given) ++ l) (keeps_none is_given denied hidden) ∙ append_nil (filter is_given (held h t ++ given))
    ∙ filter-append is_given (held h t) given
    ∙ ap (λ l. l ++ filter is_given given) (keeps_all is_given (held h t) (filter_passes is_given (Rattle.mq_talk.specs.Book.last_list (Rattle.std.specs.List.filter_map (λ (e : Entry). Rattle.mq_talk.specs.Book.assigned t e.call e.reply) h))))
    ∙ ap (λ l. held h t ++ l) (keeps_all is_given given (λ k d less. shows config (get_or given k d) is (free k d less).inside))

pub assign_changes : (config : Config) (h : History) (ts : List Tunnel) (at tunnel actor place : ℕ) (asked : List Asked) (t : Treated) (list now : List Given) (d : Tunnel) → IsConfig config → AreLive h ts
    → at < length ts → HoldsAt (λ (x : Tunnel). x.number ≡ tunnel) ts at → HoldsAt (λ (x : Tunnel). AreDone config.pool (taken h) x.held asked t) ts at → list ≡ t.held.items ++ t.denied.items
    → now ≡ t.held.items
    → IsChange h (record { actor = actor; call = Assign tunnel asked; reply = Assigned list place }) (get_or ts at d) (record (get_or ts at d) { held = now })
assign_changes config h ts at tunnel actor place asked t list now d good live less there done list_is now_is =
    let e : Entry = record { actor = actor; call = Assign tunnel asked; reply = Assigned list place } in
    let x = get_or ts at d in
    let is = live.each at d less in
    let named : x.number ≡ tunnel = there d in
    let all = done d in
    let parts = treated_free config.pool (taken h) x.held asked all.given t.denied.items all.treated in
    let old = live_within h x.number is.live in
    let whole : list ≡ held h x.number ++ all.given ++ t.denied.items = list_is ∙ ap (λ l. l ++ t.denied.items) (all.held_is ∙ ap (λ l. l ++ all.given) is.held_is) in
    let left : filter is_given list ≡ now = ap (λ l. filter is_given l) whole ∙ shown config h x.number all.given t.denied.items good parts.0 parts.1
    ∙ sym (now_is ∙ all.held_is ∙ ap (λ l. l ++ all.given) is.held_is) in
    record {
      number_is = refl;
      now = record {
        live = live_old h e x.number old ∙ and_from (is_live h x.number) true is.live refl;
        actor_is = is.actor_is ∙ sym (actor_old h e x.number old);
        held_is = sym (held_new h e x.number list (assigned_same tunnel x.number list (sym named)) ∙ left);
        ranges_is = is.ranges_is ∙ sym (ranges_kept h e x.number refl);
        routes_is = is.routes_is ∙ sym (routes_old h e x.number old);
      };
      opens = refl;
      closes_none = λ u. refl;
      assigns_none = λ u ne. assigned_other tunnel u list (λ same. ne (named ∙ same));
      accepts_none = λ u ne. refl;
    }

pub advertise_changes : (h : History) (ts : List Tunnel) (at tunnel actor place : ℕ) (offered now : List Range) (taken_up : Bool) (d : Tunnel) → AreLive h ts → at < length ts
    → HoldsAt (λ (x : Tunnel). x.number ≡ tunnel) ts at → now ≡ cond taken_up offered []
    → IsChange h (record { actor = actor; call = Advertise tunnel offered; reply = Accepted taken_up place }) (get_or ts at d) (record (get_or ts at d) { ranges = now })
advertise_changes h ts at tunnel actor place offered now taken_up d live less there now_is =
    let e : Entry = record { actor = actor; call = Advertise tunnel offered; reply = Accepted taken_up place } in
    let x = get_or ts at d in
    let is = live.each at d less in
    let named : x.number ≡ tunnel = there d in
    let old = live_within h x.number is.live in
    record {
      number_is = refl;
      now = record {
        live = live_old h e x.number old ∙ and_from (is_live h x.number) true is.live refl;
        actor_is = is.actor_is ∙ sym (actor_old h e x.number old);
        held_is = is.held_is ∙ sym (held_kept h e x.number refl);
        ranges_is = now_is ∙ sym (ranges_new h e x.number (cond taken_up offered []) (assigned_same tunnel x.number (cond taken_up offered []) (sym named)));
        routes_is = is.routes_is ∙ sym (routes_old h e x.number old);
      };
      opens = refl;
      closes_none = λ u. refl;
      assigns_none = λ u ne. refl;
      accepts_none = λ u ne. accepted_other tunnel u (cond taken_up offered []) (λ same. ne (named ∙ same));
    }

pub follows_at : (c k : Config) (h g : History) (e : Entry) → k ≡ c → g ≡ h → Follows c h e → Follows k g e
follows_at c k h g e setup history f = subst (λ x. Follows x g e) (sym setup) (subst (λ x. Follows c x e) (sym history) f)

pub held_at : (h g : History) (ts us : List Tunnel) (e : Entry) (at : ℕ) (d : Tunnel) (now : List Given) → g ≡ h → us ≡ ts
    → IsChange h e (get_or ts at d) (record (get_or ts at d) { held = now }) → IsChange g e (get_or us at d) (record (get_or us at d) { held = now })
held_at h g ts us e at d now history live is =
    subst (λ xs. IsChange g e (get_or xs at d) (record (get_or xs at d) { held = now })) (sym live) (subst (λ x. IsChange x e (get_or ts at d) (record (get_or ts at d) { held = now })) (sym history) is)

pub ranges_at : (h g : History) (ts us : List Tunnel) (e : Entry) (at : ℕ) (d : Tunnel) (now : List Range) → g ≡ h → us ≡ ts
    → IsChange h e (get_or ts at d) (record (get_or ts at d) { ranges = now }) → IsChange g e (get_or us at d) (record (get_or us at d) { ranges = now })
ranges_at h g ts us e at d now history live is =
    subst (λ xs. IsChange g e (get_or xs at d) (record (get_or xs at d) { ranges = now })) (sym live) (subst (λ x. IsChange x e (get_or ts at d) (record (get_or ts at d) { ranges = now })) (sym history) is)

pub reachable : (config : Config) (offered : List Range) → All (λ r. IsReachable config r) offered → All (λ r. Any (λ block. IsInside r block) config.reach) offered
unfolding IsReachable
reachable config offered h = h

pub from_reachable : (config : Config) (offered : List Range) → All (λ r. Any (λ block. IsInside r block) config.reach) offered → All (λ r. IsReachable config r) offered
unfolding IsReachable
from_reachable config offered h = h

pub all_clear : (h : History) (ts : List Tunnel) (tunnel : ℕ) (offered : List Range) → AreLive h ts → All (IsClear tunnel offered) ts
    → (u : ℕ) → IsTrue (is_live h u) → u ≢ tunnel → ¬ (ListsMeet offered (ranges h u))
unfolding IsClear
all_clear h ts tunnel offered live clear u is ne meet =
    listed h ts u live is (λ k d less same. elim (clear k d less) [
      | inl here ↦ ne (sym same ∙ here)
      | inr apart ↦ apart (subst (λ l. ListsMeet offered l) (sym ((live.each k d less).ranges_is ∙ ap (λ n. ranges h n) same)) meet)
    ])

pub from_clear : (h : History) (ts : List Tunnel) (tunnel : ℕ) (offered : List Range) → AreLive h ts → ((u : ℕ) → IsTrue (is_live h u) → u ≢ tunnel → ¬ (ListsMeet offered (ranges h u)))
    → All (IsClear tunnel offered) ts
unfolding IsClear
from_clear h ts tunnel offered live apart k d less =
    let is = live.each k d less in
    elim (cases_eq (get_or ts k d).number tunnel) [
      | inl here ↦ inl here
      | inr ne ↦ inr (λ meet. apart (get_or ts k d).number is.live ne (subst (λ l. ListsMeet offered l) is.ranges_is meet))
    ]
