-- On legal histories the live tunnels' blocks and ranges are apart.
use Rattle.std.proofs.Common.{◌≡◌, ◌≢◌, ℕ, ◌+◌, ◌<◌, ◌≤◌, ◌⊎◌, false, not, List, [], ◌∷◌, ◌++◌, length, Some, None, ap, sym, ◌∙◌, refl, subst, arith, inl, inr}
use Rattle.std.specs.Prelude.{IsTrue}
use Rattle.std.specs.List.{All, Any, Contains}
use Rattle.std.proofs.lemmas.Bool.{cases_lt, both_ways, and_parts}
use Rattle.std.proofs.lemmas.List.{length_push, get_or_append_left}
use Rattle.std.proofs.lemmas.List.Elements.{All-append, All-nil, All-push, All-contains, All-weaker}
use Rattle.std.proofs.lemmas.List.FromFn.{get_or-range_with_len, length-range_with_len}
use Rattle.mq_addr.specs.declared.addr.Addr.TheVariants.{V4, V6}
use Rattle.mq_addr.specs.declared.prefix.Prefix.{Prefix}
use Rattle.mq_addr.specs.declared.entry.Asked.{Asked}
use Rattle.mq_addr.specs.declared.entry.Given.{Given}
use Rattle.mq_addr.specs.declared.range.Range.{Range}
use Rattle.mq_addr.specs.Block.{Overlap}
use Rattle.mq_addr.specs.Cover.{IsWithin, IsFree}
use Rattle.mq_addr.specs.Ranges.{IsInside, RangesMeet, ListsMeet}
use Rattle.mq_talk.specs.declared.book.Config.{Config}
use Rattle.mq_talk.specs.declared.book.Entry.{Entry}
use Rattle.mq_talk.specs.Book.{History, opening, closes, assigned, accepted, is_some_list, is_live, live_tunnels, is_given, held, ranges, blocks, taken}
use Rattle.mq_talk.specs.Answers.{AreTreated, IsOutcome, IsOffered, Outcome, Keeps, Denies, Gives, taken_by, given_by, denied_by, denial}
use Rattle.mq_book.proofs.Members.{stays, in_map, in_flat_map, any_from, in_none}
use Rattle.mq_book.proofs.More.{live_old, live_new, live_within, held_kept, ranges_kept}

pub record IsApart (config : Config) (h : History) : Type 0 where
  pub none_held : (t : ℕ) → length h ≤ t → held h t ≡ []
  pub none_led : (t : ℕ) → length h ≤ t → ranges h t ≡ []
  pub inside : (t : ℕ) (g : Given) → IsTrue (is_live h t) → Contains (held h t) g → Any (λ whole. IsWithin g.block whole) config.pool
  pub led : (t : ℕ) (r : Range) → IsTrue (is_live h t) → Contains (ranges h t) r → Any (λ block. IsInside r block) config.reach
  pub blocks_apart : (t u : ℕ) (g k : Given) → IsTrue (is_live h t) → IsTrue (is_live h u) → t ≢ u → Contains (held h t) g → Contains (held h u) k → ¬ (Overlap g.block k.block)
  pub ranges_apart : (t u : ℕ) (r s : Range) → IsTrue (is_live h t) → IsTrue (is_live h u) → t ≢ u → Contains (ranges h t) r → Contains (ranges h u) s → ¬ (RangesMeet r s)

-- a tunnel that is live with an entry more was live before, or is the new one
pub live_cases : (h : History) (e : Entry) (t : ℕ) → IsTrue (is_live (h ++ e ∷ []) t)
    → IsTrue (is_live h t) ⊎ ((t ≡ length h) × IsTrue (is_some_list (opening e.call e.reply)))
live_cases h e t live =
    elim (cases_lt t (length h)) [
      | inl less ↦ inl (and_parts (is_live h t) (not (closes t e.call)) (sym (live_old h e t less) ∙ live)).0
      | inr past ↦
          let less = live_within (h ++ e ∷ []) t live in
          let same : t ≡ length h = omega (arith, less, past, length_push h e) in
          inr (same, sym (live_new h e) ∙ ap (λ k. is_live (h ++ e ∷ []) k) (sym same) ∙ live)
    ]

was_held : (config : Config) (h : History) (e : Entry) (t : ℕ) (g : Given) → IsApart config h → IsTrue (is_live (h ++ e ∷ []) t) → Contains (held h t) g → IsTrue (is_live h t)
was_held config h e t g is live has =
    elim (live_cases h e t live) [
      | inl old ↦ old
      | inr new ↦ let past : length h ≤ t = omega (arith, new.0) in absurd (in_none g (subst (λ l. Contains l g) (is.none_held t past) has))
    ]

was_led : (config : Config) (h : History) (e : Entry) (t : ℕ) (r : Range) → IsApart config h → IsTrue (is_live (h ++ e ∷ []) t) → Contains (ranges h t) r → IsTrue (is_live h t)
was_led config h e t r is live has =
    elim (live_cases h e t live) [
      | inl old ↦ old
      | inr new ↦ let past : length h ≤ t = omega (arith, new.0) in absurd (in_none r (subst (λ l. Contains l r) (is.none_led t past) has))
    ]

before : (h : History) (e : Entry) (t : ℕ) → length (h ++ e ∷ []) ≤ t → length h ≤ t
before h e t past = omega (arith, past, length_push h e)

-- What holds of an entry's blocks and ranges, by where each comes from: from before, or from this entry, which is for this tunnel.
pub record Blocks (config : Config) (h : History) (e : Entry) (tunnel : ℕ) (given : List Given) : Type 0 where
  pub none : (t : ℕ) → length h ≤ t → held (h ++ e ∷ []) t ≡ []
  pub from : (t : ℕ) (g : Given) → Contains (held (h ++ e ∷ []) t) g → Contains (held h t) g ⊎ ((t ≡ tunnel) × Contains given g)
  pub free : (g : Given) → Contains given g → IsFree config.pool (taken h) g.block

pub record Ways (config : Config) (h : History) (e : Entry) (tunnel : ℕ) (offered : List Range) : Type 0 where
  pub none : (t : ℕ) → length h ≤ t → ranges (h ++ e ∷ []) t ≡ []
  pub from : (t : ℕ) (r : Range) → Contains (ranges (h ++ e ∷ []) t) r → Contains (ranges h t) r ⊎ ((t ≡ tunnel) × Contains offered r)
  pub inside : (r : Range) → Contains offered r → Any (λ block. IsInside r block) config.reach
  pub apart : (u : ℕ) → IsTrue (is_live h u) → u ≢ tunnel → ¬ (ListsMeet offered (ranges h u))

-- a live tunnel's block is taken
is_taken : (h : History) (u : ℕ) (k : Given) → IsTrue (is_live h u) → Contains (held h u) k → Contains (taken h) k.block
is_taken h u k live has =
    let less = live_within h u live in
    let placed = get_or-range_with_len 0 (length h) u u less in
    let same : 0 + u ≡ u = omega arith in
    let inside : u < length (Rattle.std.specs.List.range_with_len 0 (length h)) = omega (arith, less, length-range_with_len 0 (length h)) in
    in_flat_map (λ t. blocks (held h t)) (live_tunnels h) u k.block
    (stays (λ t. is_live h t) (Rattle.std.specs.List.range_with_len 0 (length h)) u (u, inside, placed ∙ same) live)
    (in_map (λ (g : Given). g.block) (held h u) k has)

turned : (a b : Prefix) → Overlap a b → Overlap b a
turned a b (x, h, k) = (x, k, h)

meet_turned : (r s : Range) → RangesMeet r s → RangesMeet s r
meet_turned r s (a, h, k) = (a, k, h)

lists_meet : (rs ss : List Range) (r s : Range) → Contains rs r → Contains ss s → RangesMeet r s → ListsMeet rs ss
lists_meet rs ss r s hr hs meet = any_from (λ x. Any (λ y. RangesMeet x y) ss) rs r hr (any_from (λ y. RangesMeet r y) ss s hs meet)

pub not_new : (h : History) (e : Entry) (t : ℕ) → opening e.call e.reply ≡ None → IsTrue (is_live (h ++ e ∷ []) t) → IsTrue (is_live h t)
not_new h e t none live =
    elim (live_cases h e t live) [
      | inl old ↦ old
      | inr new ↦ absurd (both_ways (is_some_list (opening e.call e.reply)) (ap is_some_list none) new.1)
    ]

-- an entry more keeps all apart
pub apart_more : (config : Config) (h : History) (e : Entry) (bt wt : ℕ) (given : List Given) (offered : List Range) → IsApart config h
    → Blocks config h e bt given → Ways config h e wt offered → IsTrue (is_live h bt) ⊎ (given ≡ []) → IsTrue (is_live h wt) ⊎ (offered ≡ []) → IsApart config (h ++ e ∷ [])
apart_more config h e bt wt given offered is b w lb lw =
    let oldh : (t : ℕ) (g : Given) → IsTrue (is_live (h ++ e ∷ []) t) → Contains (held h t) g → IsTrue (is_live h t) = λ t g live has. was_held config h e t g is live has in
    let oldr : (t : ℕ) (r : Range) → IsTrue (is_live (h ++ e ∷ []) t) → Contains (ranges h t) r → IsTrue (is_live h t) = λ t r live has. was_led config h e t r is live has in
    record {
      none_held = λ t past. b.none t (before h e t past);
      none_led = λ t past. w.none t (before h e t past);
      inside = λ t g live has. elim (b.from t g has) [
        | inl old ↦ is.inside t g (oldh t g live old) old
        | inr new ↦ (b.free g new.1).inside
      ];
      led = λ t r live has. elim (w.from t r has) [
        | inl old ↦ is.led t r (oldr t r live old) old
        | inr new ↦ w.inside r new.1
      ];
      blocks_apart = λ t u g k lt lu ne hg hk. elim (b.from t g hg) [
        | inl og ↦ elim (b.from u k hk) [
          | inl ok ↦ is.blocks_apart t u g k (oldh t g lt og) (oldh u k lu ok) ne og ok
          | inr nk ↦ All-contains (λ other. ¬ (Overlap other k.block)) (taken h) g.block (b.free k nk.1).apart (is_taken h t g (oldh t g lt og) og)
        ]
        | inr ng ↦ elim (b.from u k hk) [
          | inl ok ↦ λ meet. All-contains (λ other. ¬ (Overlap other g.block)) (taken h) k.block (b.free g ng.1).apart (is_taken h u k (oldh u k lu ok) ok) (turned g.block k.block meet)
          | inr nk ↦ absurd (ne (ng.0 ∙ sym nk.0))
        ]
      ];
      ranges_apart = λ t u r s lt lu ne hr hs. elim (w.from t r hr) [
        | inl or ↦ elim (w.from u s hs) [
          | inl os ↦ is.ranges_apart t u r s (oldr t r lt or) (oldr u s lu os) ne or os
          | inr ns ↦ λ meet. w.apart t (oldr t r lt or) (λ same. ne (same ∙ sym ns.0)) (lists_meet offered (ranges h t) s r ns.1 or (meet_turned r s meet))
        ]
        | inr nr ↦ elim (w.from u s hs) [
          | inl os ↦ λ meet. w.apart u (oldr u s lu os) (λ same. ne (nr.0 ∙ sym same)) (lists_meet offered (ranges h u) r s nr.1 os meet)
          | inr ns ↦ absurd (ne (nr.0 ∙ sym ns.0))
        ]
      ];
    }

pub no_blocks : (config : Config) (h : History) (e : Entry) → IsApart config h → ((t : ℕ) → assigned t e.call e.reply ≡ None) → Blocks config h e 0 []
no_blocks config h e is none = record {
  none = λ t past. held_kept h e t (none t) ∙ is.none_held t past;
  from = λ t g has. inl (subst (λ l. Contains l g) (held_kept h e t (none t)) has);
  free = λ g has. absurd (in_none g has);
}

pub no_ways : (config : Config) (h : History) (e : Entry) → IsApart config h → ((t : ℕ) → accepted t e.call e.reply ≡ None) → Ways config h e 0 []
no_ways config h e is none = record {
  none = λ t past. ranges_kept h e t (none t) ∙ is.none_led t past;
  from = λ t r has. inl (subst (λ l. Contains l r) (ranges_kept h e t (none t)) has);
  inside = λ r has. absurd (in_none r has);
  apart = λ u live ne (k, r, less, is, rest). absurd (omega (arith, less));
}

-- the blocks of a request are free beside all that was taken, and what is denied shows it
less_taken : (pool old more : List Prefix) (block : Prefix) → IsFree pool (old ++ more) block → IsFree pool old block
less_taken pool old more block free = record {
  inside = free.inside;
  apart = λ k d less.
      let long : k < length (old ++ more) = omega (arith, less, Rattle.std.proofs.lemmas.List.length-append old more) in
      subst (λ other. ¬ (Overlap other block)) (get_or_append_left old more d k less) (free.apart k d long);
}

offered_free : (pool old : List Prefix) (a : Asked) (block : Prefix) → IsOffered pool old a (Some block) → IsFree pool old block
offered_free pool old a block (inl h) = h.1.0.1
offered_free pool old a block (inr h) = subst (λ b. IsFree pool old b) (sym h.1) h.2

given_free : (pool old : List Prefix) (have : List Given) (a : Asked) (did : Outcome) → IsOutcome pool old have a did → All (λ g. IsFree pool old g.block) (given_by a did)
given_free pool old have a Keeps h = All-nil (λ g. IsFree pool old g.block)
given_free pool old have a Denies h = All-nil (λ g. IsFree pool old g.block)
given_free pool old have a (Gives block) h = All-push (λ g. IsFree pool old g.block) [] (record { id = a.id; block = block }) (All-nil (λ g. IsFree pool old g.block)) (offered_free pool old a block h.2)

zero_shown : (a : Asked) → is_given (denial a) ≡ false
zero_shown a = elim a.block.addr as (λ addr. is_given (record { id = a.id; block = record { addr = Rattle.mq_talk.specs.Answers.zero addr; length = Rattle.mq_addr.specs.Block.width addr } }) ≡ false) [ V4 bits ↦ refl | V6 bits ↦ refl ]

denied_shown : (a : Asked) (did : Outcome) → All (λ g. is_given g ≡ false) (denied_by a did)
denied_shown a Keeps = All-nil (λ g. is_given g ≡ false)
denied_shown a Denies = All-push (λ g. is_given g ≡ false) [] (denial a) (All-nil (λ g. is_given g ≡ false)) (zero_shown a)
denied_shown a (Gives block) = All-nil (λ g. is_given g ≡ false)

pub treated_free : (pool old : List Prefix) (have : List Given) (asked : List Asked) (given denied : List Given) → AreTreated pool old have asked given denied
    → All (λ g. IsFree pool old g.block) given × All (λ g. is_given g ≡ false) denied
treated_free pool old have [] given denied (g, d) = (
  subst (λ l. All (λ x. IsFree pool old x.block) l) (sym g) (All-nil (λ x. IsFree pool old x.block)),
  subst (λ l. All (λ x. is_given x ≡ false) l) (sym d) (All-nil (λ x. is_given x ≡ false)),
)
treated_free pool old have (a ∷ rest) given denied (did, more, others, outcome, treated, g, d) =
    let next = treated_free pool (old ++ taken_by did) (have ++ given_by a did) rest more others treated in
    let free = All-weaker (λ (x : Given). IsFree pool (old ++ taken_by did) x.block) (λ x. IsFree pool old x.block) (λ x f. less_taken pool old (taken_by did) x.block f) more next.0 in (
      subst (λ l. All (λ (x : Given). IsFree pool old x.block) l) (sym g) (All-append (λ x. IsFree pool old x.block) (given_by a did) more (given_free pool old have a did outcome) free),
      subst (λ l. All (λ (x : Given). is_given x ≡ false) l) (sym d) (All-append (λ x. is_given x ≡ false) (denied_by a did) others (denied_shown a did) next.1),
    )
