-- How far a step has come in its ring: what was tried before each seat is all that comes before it.
use Rattle.std.proofs.Common.{◌≡◌, ◌⊎◌, inl, inr, ℕ, ◌+◌, ◌<◌, ◌≤◌, true, false, arith}
use Rattle.std.specs.Prelude.{⊤}
use Rattle.std.proofs.lemmas.Bool.{cases_lt, leb-true, ltb-true, le-leb, lt-ltb}
use Rattle.mq_machine.specs.Turn.{Seat, Offers, Inbox, Of, place_of}
use Rattle.mq_actor.specs.Passing.{Tried, is_in_part, InPart}
use Rattle.mq_actor.proofs.InRing.{Precedes}
use Rattle.mq_actor.proofs.SoFar.{Covers}

-- ---- the parts of a ring

pub above : (from seat : ℕ) → is_in_part true from seat ≡ true → from ≤ seat
above from seat is = leb-true from seat is

pub below : (from seat : ℕ) → is_in_part false from seat ≡ true → seat < from
below from seat is = ltb-true seat from is

-- ---- what was tried

abbrev pub Untried : Tried
Untried place number = ⊥

-- the connections of the upper part before this place, or all of them, or these and some of the lower part
abbrev pub Upper : ℕ → ℕ → Tried
Upper from k place number = (place < k) × InPart true from number

abbrev pub AllUpper : ℕ → Tried
AllUpper from place number = InPart true from number

abbrev pub Lower : ℕ → ℕ → Tried
Lower from k place number = InPart true from number ⊎ ((place < k) × InPart false from number)

abbrev pub AllTried : ℕ → Tried
AllTried from place number = InPart true from number ⊎ InPart false from number

-- a seat whose part was tried
abbrev pub InUpper : ℕ → ℕ → Type 0
InUpper from seat = is_in_part true from seat ≡ true

in_upper : (from seat : ℕ) → from ≤ seat → InUpper from seat
in_upper from seat le = le-leb from seat le

in_lower : (from seat : ℕ) → seat < from → is_in_part false from seat ≡ true
in_lower from seat lt = lt-ltb seat from lt

-- a seat is in one part
pub in_one : (from seat : ℕ) → is_in_part true from seat ≡ true → is_in_part false from seat ≡ true → ⊥
in_one from seat up down = let le = above from seat up in let lt = below from seat down in absurd (omega (arith, le, lt))

-- and where it isn't in the upper, it is in the lower
pub in_other : (from seat : ℕ) → (is_in_part true from seat ≡ true) ⊎ (is_in_part false from seat ≡ true)
in_other from seat = by_case (cases_lt seat from) where
  by_case : (seat < from) ⊎ (from ≤ seat) → (is_in_part true from seat ≡ true) ⊎ (is_in_part false from seat ≡ true)
  by_case (inl lt) = inr (in_lower from seat lt)
  by_case (inr le) = inl (in_upper from seat le)

-- ---- what comes before a seat

-- behind a seat of the upper part, all that comes before it is in that part and at an earlier place
before_upper : (from a : ℕ) (x : Seat) (b : ℕ) (y : Seat) → from ≤ place_of y → Precedes from a x b y → (from ≤ place_of x) × (a < b)
before_upper from a x b y le (inl (up, down)) = absurd (omega (arith, le, down))
before_upper from a x b y le (inr (inl (up, up_too, lt))) = (up, lt)
before_upper from a x b y le (inr (inr (down, down_too, lt))) = absurd (omega (arith, le, down_too))

-- before a seat of the lower part come the upper part, and the lower part's earlier places
before_lower : (from a : ℕ) (x : Seat) (b : ℕ) (y : Seat) → place_of y < from → Precedes from a x b y → (from ≤ place_of x) ⊎ ((place_of x < from) × (a < b))
before_lower from a x b y lt (inl (up, down)) = inl up
before_lower from a x b y lt (inr (inl (up, up_too, less))) = inl up
before_lower from a x b y lt (inr (inr (down, down_too, less))) = inr (down, less)

-- ---- the stages

-- the offered links, in the upper part
pub covers_offers : (from : ℕ) → InUpper from 0 → Covers from Untried ⊥ ⊥ 0 Offers
covers_offers from is = record {
  offers = λ b. let p = before_upper from 0 Offers 0 Offers (above from 0 is) b in let lt = p.1 in absurd (omega (arith, lt));
  inbox = λ b. let p = before_upper from 1 Inbox 0 Offers (above from 0 is) b in let lt = p.1 in absurd (omega (arith, lt));
  conns = λ i number b. let p = before_upper from (i + 2) (Of number) 0 Offers (above from 0 is) b in let lt = p.1 in absurd (omega (arith, lt));
}

-- the inbox there
pub covers_inbox : (from : ℕ) → InUpper from 1 → Covers from Untried (InUpper from 0) ⊥ 1 Inbox
covers_inbox from is = record {
  offers = λ b. let p = before_upper from 0 Offers 1 Inbox (above from 1 is) b in in_upper from 0 p.0;
  inbox = λ b. let p = before_upper from 1 Inbox 1 Inbox (above from 1 is) b in let lt = p.1 in absurd (omega (arith, lt));
  conns = λ i number b. let p = before_upper from (i + 2) (Of number) 1 Inbox (above from 1 is) b in let lt = p.1 in absurd (omega (arith, lt));
}

-- a connection there
pub covers_upper : (from k number : ℕ) → InPart true from number → Covers from (Upper from k) (InUpper from 0) (InUpper from 1) (k + 2) (Of number)
covers_upper from k number is = record {
  offers = λ b. let p = before_upper from 0 Offers (k + 2) (Of number) (above from (number + 2) is) b in in_upper from 0 p.0;
  inbox = λ b. let p = before_upper from 1 Inbox (k + 2) (Of number) (above from (number + 2) is) b in in_upper from 1 p.0;
  conns = λ i other b.
      let p = before_upper from (i + 2) (Of other) (k + 2) (Of number) (above from (number + 2) is) b in
      let lt = p.1 in
      (omega (arith, lt), in_upper from (other + 2) p.0);
}

-- the offered links, in the lower part
pub covers_offers_later : (from : ℕ) → is_in_part false from 0 ≡ true → Covers from (AllUpper from) (InUpper from 0) (InUpper from 1) 0 Offers
covers_offers_later from is = record {
  offers = λ b. up_or from 0 Offers 0 Offers (InUpper from 0) (before_lower from 0 Offers 0 Offers (below from 0 is) b) (λ up. in_upper from 0 up) (λ lt. omega (arith, lt));
  inbox = λ b. up_or from 1 Inbox 0 Offers (InUpper from 1) (before_lower from 1 Inbox 0 Offers (below from 0 is) b) (λ up. in_upper from 1 up) (λ lt. omega (arith, lt));
  conns = λ i number b. up_or from (i + 2) (Of number) 0 Offers (InPart true from number) (before_lower from (i + 2) (Of number) 0 Offers (below from 0 is) b)
      (λ up. in_upper from (number + 2) up) (λ lt. omega (arith, lt));
} where
  up_or : (from a : ℕ) (x : Seat) (b : ℕ) (y : Seat) (R : Type 0) → (from ≤ place_of x) ⊎ ((place_of x < from) × (a < b)) → (from ≤ place_of x → R) → (a < b → ⊥) → R
  up_or from a x b y R (inl up) on never = on up
  up_or from a x b y R (inr (down, lt)) on never = absurd (never lt)

-- the inbox there
pub covers_inbox_later : (from : ℕ) → is_in_part false from 1 ≡ true → Covers from (AllUpper from) ⊤ (InUpper from 1) 1 Inbox
covers_inbox_later from is = record {
  offers = λ b. tt;
  inbox = λ b. by_inbox (before_lower from 1 Inbox 1 Inbox (below from 1 is) b);
  conns = λ i number b. by_conn i number (before_lower from (i + 2) (Of number) 1 Inbox (below from 1 is) b);
} where
  by_inbox : (from ≤ 1) ⊎ ((1 < from) × (1 < 1)) → InUpper from 1
  by_inbox (inl up) = in_upper from 1 up
  by_inbox (inr (down, lt)) = absurd (omega (arith, lt))

  by_conn : (i number : ℕ) → (from ≤ number + 2) ⊎ ((number + 2 < from) × (i + 2 < 1)) → InPart true from number
  by_conn i number (inl up) = in_upper from (number + 2) up
  by_conn i number (inr (down, lt)) = absurd (omega (arith, lt))

-- a connection there
pub covers_lower : (from k number : ℕ) → InPart false from number → Covers from (Lower from k) ⊤ ⊤ (k + 2) (Of number)
covers_lower from k number is = record {
  offers = λ b. tt;
  inbox = λ b. tt;
  conns = λ i other b. by_conn i other (before_lower from (i + 2) (Of other) (k + 2) (Of number) (below from (number + 2) is) b);
} where
  by_conn : (i other : ℕ) → (from ≤ other + 2) ⊎ ((other + 2 < from) × (i + 2 < k + 2)) → Lower from k i other
  by_conn i other (inl up) = inl (in_upper from (other + 2) up)
  by_conn i other (inr (down, lt)) = inr (omega (arith, lt), in_lower from (other + 2) down)

-- every connection is in one part
pub all_tried : (from place number : ℕ) → AllTried from place number
all_tried from place number = in_other from (number + 2)
