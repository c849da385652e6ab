-- A step of a connection leaves each connection's tunnels those that the book has open.
use Rattle.std.proofs.Common.{◌≡◌, ◌≢◌, ◌⊎◌, ◌↔◌, inl, inr, ℕ, ◌≤◌, ◌==◌, Bool, true, not, List, [], ◌∷◌, ◌++◌, length}
use Rattle.std.proofs.Common.{filter, Contains, sym, ap, subst, ◌∙◌, arith, true≢false}
use Rattle.std.proofs.lemmas.Bool.{cases_eq, eq-eqb, ne_eqb}
use Rattle.std.proofs.lemmas.List.{length-append}
use Rattle.std.proofs.lemmas.List.Elements.{Contains-append_left, Contains-push, Contains-push_cases}
use Rattle.mq_addr.specs.declared.range.Range.{Range}
use Rattle.mq_talk.specs.declared.book.Call.{Call}
use Rattle.mq_talk.specs.declared.book.Entry.{Entry}
use Rattle.mq_talk.specs.declared.book.Reply.{Reply}
use Rattle.mq_talk.specs.declared.goal.Goal.{Goal}
use Rattle.mq_talk.specs.Book.{History}
use Rattle.mq_talk.specs.Offices.{Seen, Sees}
use Rattle.mq_machine.specs.State.{Tunnel, Conn, Shared}
use Rattle.mq_machine.specs.Acting.{IsOpen}
use Rattle.mq_held.specs.Answers.{IsFor}
use Rattle.mq_actor.specs.Goes.{Shape, shape_of, shapes_of, Stays, Opens, Closes, Tells, Goes}
use Rattle.mq_actor.proofs.Books.{stays_open, was_open, open_once, own_opening, own_close, open_behind, opens, open_before, open_beside, beside_open, own_telling, open_told, told_open}
use Rattle.mq_actor.proofs.Cores.{in_map, in_filter, passes, stays, shaped}

-- ---- tunnels of connections that the book has open

-- each connection's tunnels are those that the book has open on it
abbrev pub AreOpen : (ℕ → List Shape) → History → ℕ → Type 0
AreOpen shapes book actor =
    (tunnel conn stream : ℕ) (goal : Goal) → Contains (shapes conn) (shaped tunnel stream goal) ↔ IsOpen book actor tunnel conn stream goal

-- other connections have the same tunnels
abbrev pub OthersStay : (ℕ → List Shape) → (ℕ → List Shape) → ℕ → Type 0
OthersStay before after number = (conn : ℕ) → conn ≢ number → after conn ≡ before conn

-- the same tunnels are open
pub same_open : (before after : ℕ → List Shape) (book : History) (actor : ℕ) → ((conn : ℕ) → after conn ≡ before conn) → AreOpen before book actor
    → AreOpen after book actor
same_open before after book actor same are tunnel conn stream goal =
    let P : List Shape → Type 0 = λ xs. Contains xs (shaped tunnel stream goal) ↔ IsOpen book actor tunnel conn stream goal in
    subst P (sym (same conn)) (are tunnel conn stream goal)

-- what others wrote changes none
pub sees_open : (shapes : ℕ → List Shape) (seen : Seen) (book : History) → Sees seen book → AreOpen shapes seen.entries seen.actor
    → AreOpen shapes book seen.actor
sees_open shapes seen book sees are tunnel conn stream goal =
    let is = are tunnel conn stream goal in (
      λ has. stays_open seen book sees tunnel conn stream goal (is.0 has),
      λ live. is.1 (was_open seen book sees tunnel conn stream goal live),
    )

-- ---- one opened

opened_has : (shapes : ℕ → List Shape) (book : History) (actor number stream : ℕ) (goal : Goal) (routes : List Range) → AreOpen shapes book actor
    → (t on : ℕ) (to : Goal) → Contains (shapes number ++ shaped (length book) stream goal ∷ []) (shaped t on to)
    → IsOpen (book ++ own_opening book actor number stream goal routes ∷ []) actor t number on to
opened_has shapes book actor number stream goal routes are t on to has =
    by_case (Contains-push_cases (shapes number) (shaped (length book) stream goal) (shaped t on to) has) where
      P : Shape → Type 0
      P x = IsOpen (book ++ own_opening book actor number stream goal routes ∷ []) actor x.id number x.stream x.goal

      by_case : Contains (shapes number) (shaped t on to) ⊎ (shaped (length book) stream goal ≡ shaped t on to) → P (shaped t on to)
      by_case (inl old) = open_behind book actor number stream goal routes t number on to ((are t number on to).0 old)
      by_case (inr it) = subst P it (opens book actor number stream goal routes)

opened_from : (shapes : ℕ → List Shape) (book : History) (actor number stream : ℕ) (goal : Goal) (routes : List Range) → AreOpen shapes book actor
    → (t on : ℕ) (to : Goal) → IsOpen (book ++ own_opening book actor number stream goal routes ∷ []) actor t number on to
    → Contains (shapes number ++ shaped (length book) stream goal ∷ []) (shaped t on to)
opened_from shapes book actor number stream goal routes are t on to live =
    by_case (open_before book actor number stream goal routes t number on to live) where
      new : Shape
      new = shaped (length book) stream goal

      P : Shape → Type 0
      P x = Contains (shapes number ++ new ∷ []) x

      by_case : IsOpen book actor t number on to ⊎ ((t ≡ length book) × (number ≡ number) × (on ≡ stream) × (to ≡ goal)) → P (shaped t on to)
      by_case (inl old) = Contains-append_left (shapes number) (new ∷ []) (shaped t on to) ((are t number on to).1 old)
      by_case (inr (is, itself, stream_is, goal_is)) =
          let same : shaped t on to ≡ new = ap (λ (k : ℕ). shaped k on to) is ∙ ap (λ (k : ℕ). shaped (length book) k to) stream_is
          ∙ ap (λ (g : Goal). shaped (length book) stream g) goal_is in
          subst P (sym same) (Contains-push (shapes number) new)

opened_other : (book : History) (actor number stream : ℕ) (goal : Goal) (routes : List Range) (t conn on : ℕ) (to : Goal) → conn ≢ number
    → IsOpen (book ++ own_opening book actor number stream goal routes ∷ []) actor t conn on to → IsOpen book actor t conn on to
opened_other book actor number stream goal routes t conn on to ne live = by_case (open_before book actor number stream goal routes t conn on to live) where
  by_case : IsOpen book actor t conn on to ⊎ ((t ≡ length book) × (conn ≡ number) × (on ≡ stream) × (to ≡ goal)) → IsOpen book actor t conn on to
  by_case (inl old) = old
  by_case (inr (is, here, stream_is, goal_is)) = absurd (ne here)

-- a tunnel opened on this connection
opens_open : (before after : ℕ → List Shape) (book : History) (actor number stream : ℕ) (goal : Goal) (routes : List Range) → AreOpen before book actor
    → OthersStay before after number → after number ≡ before number ++ shaped (length book) stream goal ∷ []
    → AreOpen after (book ++ own_opening book actor number stream goal routes ∷ []) actor
opens_open before after book actor number stream goal routes are others now t conn on to = by_case (cases_eq conn number) where
  more : History
  more = book ++ own_opening book actor number stream goal routes ∷ []

  x : Shape
  x = shaped t on to

  here : Contains (after number) x ↔ IsOpen more actor t number on to
  here =
      let P : List Shape → Type 0 = λ xs. Contains xs x ↔ IsOpen more actor t number on to in
      subst P (sym now) (
        opened_has before book actor number stream goal routes are t on to,
        opened_from before book actor number stream goal routes are t on to,
      )

  there : conn ≢ number → Contains (before conn) x ↔ IsOpen more actor t conn on to
  there ne = (
    λ has. open_behind book actor number stream goal routes t conn on to ((are t conn on to).0 has),
    λ live. (are t conn on to).1 (opened_other book actor number stream goal routes t conn on to ne live),
  )

  by_case : (conn ≡ number) ⊎ (conn ≡ number → ⊥) → Contains (after conn) x ↔ IsOpen more actor t conn on to
  by_case (inl same) = let P : ℕ → Type 0 = λ k. Contains (after k) x ↔ IsOpen more actor t k on to in subst P (sym same) here
  by_case (inr ne) = let P : List Shape → Type 0 = λ xs. Contains xs x ↔ IsOpen more actor t conn on to in subst P (sym (others conn ne)) (there ne)

-- ---- one closed

abbrev is_other : ℕ → Shape → Bool
is_other tunnel x = not (x.id == tunnel)

other_is : (a b : ℕ) → not (a == b) ≡ true → a ≢ b
other_is a b is same = true≢false (sym is ∙ ap not (eq-eqb a b same))

closed_has : (shapes : ℕ → List Shape) (book : History) (actor number tunnel : ℕ) → AreOpen shapes book actor → (t on : ℕ) (to : Goal)
    → Contains (filter (is_other tunnel) (shapes number)) (shaped t on to) → IsOpen (book ++ own_close actor tunnel ∷ []) actor t number on to
closed_has shapes book actor number tunnel are t on to has =
    let ne = other_is t tunnel (passes (is_other tunnel) (shapes number) (shaped t on to) has) in
    open_beside book actor tunnel t number on to ne ((are t number on to).0 (in_filter (is_other tunnel) (shapes number) (shaped t on to) has))

closed_from : (shapes : ℕ → List Shape) (book : History) (actor number tunnel : ℕ) → AreOpen shapes book actor → (t on : ℕ) (to : Goal)
    → IsOpen (book ++ own_close actor tunnel ∷ []) actor t number on to → Contains (filter (is_other tunnel) (shapes number)) (shaped t on to)
closed_from shapes book actor number tunnel are t on to live =
    let was = beside_open book actor tunnel t number on to live in
    stays (is_other tunnel) (shapes number) (shaped t on to) ((are t number on to).1 was.0) (ap not (ne_eqb t tunnel was.1))

-- a tunnel of this connection closed
closes_open : (before after : ℕ → List Shape) (book : History) (actor number tunnel stream : ℕ) (goal : Goal) → AreOpen before book actor
    → OthersStay before after number → Contains (before number) (shaped tunnel stream goal)
    → after number ≡ filter (λ (x : Shape). not (x.id == tunnel)) (before number) → AreOpen after (book ++ own_close actor tunnel ∷ []) actor
closes_open before after book actor number tunnel stream goal are others has now t conn on to = by_case (cases_eq conn number) where
  more : History
  more = book ++ own_close actor tunnel ∷ []

  x : Shape
  x = shaped t on to

  here : Contains (after number) x ↔ IsOpen more actor t number on to
  here =
      let P : List Shape → Type 0 = λ xs. Contains xs x ↔ IsOpen more actor t number on to in
      subst P (sym now) (closed_has before book actor number tunnel are t on to, closed_from before book actor number tunnel are t on to)

  -- the one that closed is this connection's
  differs : conn ≢ number → IsOpen book actor t conn on to → t ≢ tunnel
  differs ne live same =
      let P : ℕ → Type 0 = λ k. IsOpen book actor k conn on to in
      ne (open_once book actor tunnel number stream conn on goal to ((are tunnel number stream goal).0 has) (subst P same live))

  there : conn ≢ number → Contains (before conn) x ↔ IsOpen more actor t conn on to
  there ne = (
    λ is. let live = (are t conn on to).0 is in open_beside book actor tunnel t conn on to (differs ne live) live,
    λ live. (are t conn on to).1 (beside_open book actor tunnel t conn on to live).0,
  )

  by_case : (conn ≡ number) ⊎ (conn ≡ number → ⊥) → Contains (after conn) x ↔ IsOpen more actor t conn on to
  by_case (inl same) = let P : ℕ → Type 0 = λ k. Contains (after k) x ↔ IsOpen more actor t k on to in subst P (sym same) here
  by_case (inr ne) = let P : List Shape → Type 0 = λ xs. Contains xs x ↔ IsOpen more actor t conn on to in subst P (sym (others conn ne)) (there ne)

-- ---- addresses or ways were asked for

tells_open : (shapes : ℕ → List Shape) (book : History) (actor tunnel : ℕ) (asked : Call) (said : Reply) → IsFor tunnel asked → AreOpen shapes book actor
    → AreOpen shapes (book ++ own_telling actor asked said ∷ []) actor
tells_open shapes book actor tunnel asked said of are t conn on to =
    let is = are t conn on to in (
      λ has. open_told book actor tunnel asked said t conn on to of (is.0 has),
      λ live. is.1 (told_open book actor tunnel asked said t conn on to of live),
    )

-- ---- what a step of a connection does

all_stay : (before after : ℕ → List Shape) (number : ℕ) → OthersStay before after number → after number ≡ before number → (conn : ℕ) → after conn ≡ before conn
all_stay before after number others here conn = by_case (cases_eq conn number) where
  by_case : (conn ≡ number) ⊎ (conn ≡ number → ⊥) → after conn ≡ before conn
  by_case (inl same) = let P : ℕ → Type 0 = λ k. after k ≡ before k in subst P (sym same) here
  by_case (inr ne) = others conn ne

-- A step of a connection leaves each connection's tunnels those that the book has open.
pub goes_open : (before after : ℕ → List Shape) (c : Conn) (sh end : Shared) (tunnels : List Tunnel) → AreOpen before sh.book c.actor
    → OthersStay before after c.number → before c.number ≡ shapes_of c.tunnels → after c.number ≡ shapes_of tunnels → Goes c sh tunnels end
    → AreOpen after end.book c.actor
goes_open before after c sh end tunnels are others was now goes = by_case goes where
  P : History → Type 0
  P book = AreOpen after book c.actor

  by_case : Stays c sh tunnels end ⊎ (Opens c sh tunnels end ⊎ (Closes c sh tunnels end ⊎ Tells c sh tunnels end)) → P end.book
  by_case (inl is) =
      let same = all_stay before after c.number others (now ∙ is.tunnels_are ∙ sym was) in
      subst P (sym is.book) (same_open before after sh.book c.actor same are)
  by_case (inr (inl is)) =
      let new : Shape = shaped (length sh.book) is.stream is.goal in
      let here : after c.number ≡ before c.number ++ new ∷ [] = now ∙ is.tunnels_are ∙ ap (λ (xs : List Shape). xs ++ new ∷ []) (sym was) in
      subst P (sym is.book) (opens_open before after sh.book c.actor c.number is.stream is.goal is.routes are others here)
  by_case (inr (inr (inl is))) =
      let Has : List Shape → Type 0 = λ xs. Contains xs (shape_of is.closed) in
      let has = subst Has (sym was) (in_map shape_of c.tunnels is.closed is.has) in
      let here = now ∙ is.tunnels_are ∙ ap (λ (xs : List Shape). filter (is_other is.closed.id) xs) (sym was) in
      subst P (sym is.book) (closes_open before after sh.book c.actor c.number is.closed.id is.closed.stream is.closed.goal are others has here)
  by_case (inr (inr (inr is))) =
      let same = all_stay before after c.number others (now ∙ is.tunnels_are ∙ sym was) in
      let are_told = tells_open before sh.book c.actor is.tunnel is.asked is.said is.of are in
      subst P (sym is.book) (same_open before after (sh.book ++ own_telling c.actor is.asked is.said ∷ []) c.actor same are_told)

-- the book only grows
pub goes_longer : (c : Conn) (sh end : Shared) (tunnels : List Tunnel) → Goes c sh tunnels end → length sh.book ≤ length end.book
goes_longer c sh end tunnels (inl is) = let same = ap (λ (h : History). length h) is.book in omega (arith, same)
goes_longer c sh end tunnels (inr (inl is)) =
    let e : Entry = own_opening sh.book c.actor c.number is.stream is.goal is.routes in
    let long = ap (λ (h : History). length h) is.book ∙ length-append sh.book (e ∷ []) in
    omega (arith, long)
goes_longer c sh end tunnels (inr (inr (inl is))) =
    let e : Entry = own_close c.actor is.closed.id in
    let long = ap (λ (h : History). length h) is.book ∙ length-append sh.book (e ∷ []) in
    omega (arith, long)
goes_longer c sh end tunnels (inr (inr (inr is))) =
    let e : Entry = own_telling c.actor is.asked is.said in
    let long = ap (λ (h : History). length h) is.book ∙ length-append sh.book (e ∷ []) in
    omega (arith, long)

-- what an actor has seen is no longer than the book
pub sees_longer : (seen : Seen) (book : History) → Sees seen book → length seen.entries ≤ length book
sees_longer seen book sees =
    let long = ap (λ (h : History). length h) sees.goes_on ∙ length-append seen.entries sees.more in
    omega (arith, long)
