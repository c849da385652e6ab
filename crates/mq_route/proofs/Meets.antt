-- What a range adds to a meet, and the meet of all.
use Rattle.std.proofs.Common.{◌≡◌, ℕ, ◌+◌, ◌<◌, ◌⊎◌, Option, Some, None, List, [], length, get_or, ap, sym, ◌∙◌, subst, arith, inl, inr, ⊎_elim}
use Rattle.std.proofs.lemmas.Bool.{cases_lt}
use Rattle.mq_addr.specs.declared.addr.Addr.{Addr}
use Rattle.mq_addr.specs.declared.prefix.Prefix.{Prefix}
use Rattle.mq_addr.specs.declared.range.Range.{Range}
use Rattle.mq_addr.specs.Ranges.{Precedes, AreMaximal, IsOrdered, IsMeet}
use Rattle.mq_route.specs.Puts.{put, IsClip, Adds, IsMore, IsMetBelow, IsMeetBelow}
use Rattle.mq_route.proofs.Merge.{put_ranges, put_apart, put_has, put_gets}

pub more_by : (list : List Range) (r part : Range) (area : Option Prefix) (asked : Option ℕ) → IsClip r area asked (Some part) → IsMore list r area asked (put part list)
more_by list r part area asked clip = record {
  maximal = λ m. record { ranges_are = put_ranges part list clip.0 m.ranges_are; apart = put_apart part list clip.0 m.ranges_are m.apart };
  has = λ m protocol a h. ⊎_elim (λ c. inr ((clip.1 protocol a).1 c)) (λ c. inl c) (put_has part list protocol a clip.0 m.ranges_are h);
  gets = λ m protocol a h. put_gets part list protocol a clip.0 m.ranges_are (⊎_elim (λ c. inr c) (λ c. inl ((clip.1 protocol a).0 c)) h);
}

pub more_without : (list : List Range) (r : Range) (area : Option Prefix) (asked : Option ℕ) → IsClip r area asked None → IsMore list r area asked list
more_without list r area asked clip = record {
  maximal = λ m. m;
  has = λ m protocol a h. inl h;
  gets = λ m protocol a h. ⊎_elim (λ c. c) (λ c. absurd (clip protocol a c.0 c.1 c.2)) h;
}

pub none_met : (ranges : List Range) (area : Option Prefix) (asked : Option ℕ) → IsMeetBelow ranges area asked 0 []
none_met ranges area asked = record {
  maximal = record { ranges_are = λ k d less. absurd (omega (arith, less)); apart = λ i j d less within. absurd (omega (arith, within)) };
  has = λ protocol a h. absurd (omega (arith, h.2));
  gets = λ protocol a h. absurd (omega (arith, h.counted));
}

wider : (ranges : List Range) (r : Range) (area : Option Prefix) (asked : Option ℕ) (count protocol : ℕ) (a : Addr) → ((d : Range) → get_or ranges count d ≡ r)
    → IsMetBelow ranges area asked count protocol a ⊎ Adds r area asked protocol a → IsMetBelow ranges area asked (count + 1) protocol a
wider ranges r area asked count protocol a at (inl e) = let less : e.place < count + 1 = omega (arith, e.counted) in record { place = e.place; range = e.range; counted = less; is = e.is; adds = e.adds }
wider ranges r area asked count protocol a at (inr e) = let less : count < count + 1 = omega arith in record { place = count; range = r; counted = less; is = at r; adds = e }

last_or_before : (ranges : List Range) (r : Range) (area : Option Prefix) (asked : Option ℕ) (count protocol : ℕ) (a : Addr) → ((d : Range) → get_or ranges count d ≡ r)
    → IsMetBelow ranges area asked (count + 1) protocol a → IsMetBelow ranges area asked count protocol a ⊎ Adds r area asked protocol a
last_or_before ranges r area asked count protocol a at e =
    elim (cases_lt e.place count) [
      | inl less ↦ inl (record { place = e.place; range = e.range; counted = less; is = e.is; adds = e.adds })
      | inr more ↦
          let same : e.place ≡ count = omega (arith, e.counted, more) in
          let found : e.range ≡ r = sym e.is ∙ ap (λ n. get_or ranges n e.range) same ∙ at e.range in
          inr (subst (λ x. Adds x area asked protocol a) found e.adds)
    ]

pub one_more : (ranges : List Range) (r : Range) (area : Option Prefix) (asked : Option ℕ) (count : ℕ) (list new : List Range) → ((d : Range) → get_or ranges count d ≡ r)
    → IsMeetBelow ranges area asked count list → IsMore list r area asked new → IsMeetBelow ranges area asked (count + 1) new
one_more ranges r area asked count list new at h k = record {
  maximal = k.maximal h.maximal;
  has = λ protocol a i. wider ranges r area asked count protocol a at (⊎_elim (λ c. inl (h.has protocol a c)) (λ c. inr c) (k.has h.maximal protocol a i));
  gets = λ protocol a i. k.gets h.maximal protocol a (⊎_elim (λ c. inl (h.gets protocol a c)) (λ c. inr c) (last_or_before ranges r area asked count protocol a at i));
}

pub all_met : (ranges : List Range) (area : Option Prefix) (asked : Option ℕ) (list : List Range) → IsMeetBelow ranges area asked (length ranges) list → IsMeet ranges area asked list
all_met ranges area asked list h = record {
  maximal = h.maximal;
  same = λ protocol a. (
    λ i. let e = h.has protocol a i in (e.adds.0, (e.place, e.range, e.counted, e.is, (e.adds.1, e.adds.2))),
    λ i. h.gets protocol a (record { place = i.1.0; range = i.1.1; counted = i.1.2; is = i.1.3; adds = (i.0, i.1.4.0, i.1.4.1) }),
  );
}

looser : (r s : Range) → Precedes 1 r s → Precedes 0 r s
looser r s h = grind (arith, h)

pub ordered : (list : List Range) → AreMaximal list → IsOrdered list
ordered list h = record { ranges_are = h.ranges_are; ordered = λ i j d less within. looser (get_or list i d) (get_or list j d) (h.apart i j d less within) }
