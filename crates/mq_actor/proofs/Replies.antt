-- What the book replies to a connection, and what that does to its tunnels and to the book.
use Rattle.std.proofs.Common.{◌≡◌, ◌⊎◌, ℕ, ◌==◌, not, inl, inr, List, [], ◌∷◌, ◌++◌, length, sym, ap, ◌∙◌, subst}
use Rattle.std.specs.Prelude.{filter, Contains}
use Rattle.mq_addr.specs.declared.range.Range.{Range}
use Rattle.mq_talk.specs.declared.book.Call.{Call}
use Rattle.mq_talk.specs.declared.book.Call.TheVariants as call
use Rattle.mq_talk.specs.declared.book.Reply.{Reply}
use Rattle.mq_talk.specs.declared.book.Reply.TheVariants as reply
use Rattle.mq_talk.specs.declared.book.Entry.{Entry}
use Rattle.mq_talk.specs.declared.goal.Goal.{Goal}
use Rattle.mq_talk.specs.Answers.{IsAnswer}
use Rattle.mq_machine.specs.State.{Conn, Tunnel, Waiting, Shared}
use Rattle.mq_machine.specs.Shared.{Asks, asked_by}
use Rattle.mq_held.specs.Answers.{IsFor}
use Rattle.mq_actor.specs.Goes.{Shape, shapes_of, Goes}
use Rattle.mq_actor.proofs.Searches.{Same}
use Rattle.mq_actor.proofs.Shapes.{without_shapes, more_shapes}

-- no tunnel came or went
pub stays_with : (s : Conn) (sh : Shared) (ts : List Tunnel) (after : Shared) → shapes_of ts ≡ shapes_of s.tunnels → after ≡ sh → Goes s sh ts after
stays_with s sh ts after shapes same = inl (record { tunnels_are = shapes; book = ap (λ (x : Shared). x.book) same })

-- the book with one entry more
abbrev pub Wrote : Shared → ℕ → Call → Reply → Shared → Type 0
Wrote sh actor asked said after = after.book ≡ sh.book ++ record { actor = actor; call = asked; reply = said } ∷ []

-- a tunnel opened
pub opens_with : (s : Conn) (sh : Shared) (ts : List Tunnel) (after : Shared) (conn id actor : ℕ) (goal : Goal)
    (tunnel : ℕ) (routes : List Range) (ws : List Waiting)
    → conn ≡ s.number → actor ≡ s.actor → tunnel ≡ length sh.book → ts ≡ s.tunnels ++ record { id = tunnel; stream = id; goal = goal; waiting = ws } ∷ []
    → Wrote sh s.actor (call.Open conn id actor goal) (reply.Opened tunnel routes) after → Goes s sh ts after
opens_with s sh ts after conn id actor goal tunnel routes ws conn_is actor_is tunnel_is ts_are book =
    let entries : ℕ → ℕ → ℕ → List Entry =
    λ number by k. sh.book ++ record { actor = s.actor; call = call.Open number id by goal; reply = reply.Opened k routes } ∷ [] in
    inr (inl (record {
      stream = id;
      goal = goal;
      routes = routes;
      tunnels_are =
          ap shapes_of ts_are ∙ more_shapes s.tunnels (record { id = tunnel; stream = id; goal = goal; waiting = ws })
          ∙ ap (λ (k : ℕ). shapes_of s.tunnels ++ record { id = k; stream = id; goal = goal } ∷ []) tunnel_is;
      book =
          book ∙ ap (λ (k : ℕ). entries k actor tunnel) conn_is ∙ ap (λ (k : ℕ). entries s.number k tunnel) actor_is
          ∙ ap (λ (k : ℕ). entries s.number s.actor k) tunnel_is;
    }))

-- a tunnel of it closed
pub closes_with : (s : Conn) (sh : Shared) (ts : List Tunnel) (after : Shared) (t : Tunnel) → Contains s.tunnels t
    → ts ≡ filter (λ (u : Tunnel). not (u.id == t.id)) s.tunnels
    → Wrote sh s.actor (call.Close t.id) reply.Closed after → Goes s sh ts after
closes_with s sh ts after t has ts_are book =
    inr (inr (inl (record {
      closed = t;
      has = has;
      tunnels_are = ap shapes_of ts_are ∙ without_shapes t.id s.tunnels;
      book = book;
    })))

-- addresses or ways of one were asked for
pub tells_with : (s : Conn) (sh : Shared) (ts : List Tunnel) (after : Shared) (tunnel : ℕ) (asked : Call) (said : Reply) → IsFor tunnel asked
    → shapes_of ts ≡ shapes_of s.tunnels → Wrote sh s.actor asked said after → Goes s sh ts after
tells_with s sh ts after tunnel asked said of shapes book =
    inr (inr (inr (record { tunnel = tunnel; asked = asked; said = said; of = of; tunnels_are = shapes; book = book })))

-- ---- what comes to the same connection

-- what is due, its streams and whether it is ending don't matter
pub goes_before : (s x : Conn) (sh : Shared) (ts : List Tunnel) (after : Shared) → Same s x → Goes x sh ts after → Goes s sh ts after
goes_before s x sh ts after same (inl stays) = inl (record { tunnels_are = stays.tunnels_are ∙ ap shapes_of same.tunnels; book = stays.book })
goes_before s x sh ts after same (inr (inl opens)) =
    let opened : Shape = record { id = length sh.book; stream = opens.stream; goal = opens.goal } in
    let entries : ℕ → ℕ → List Entry =
    λ number by.
    let asked : Call = call.Open number opens.stream by opens.goal in
    sh.book ++ record { actor = by; call = asked; reply = reply.Opened (length sh.book) opens.routes } ∷ [] in
    inr (inl (record {
      stream = opens.stream;
      goal = opens.goal;
      routes = opens.routes;
      tunnels_are = opens.tunnels_are ∙ ap (λ (us : List Tunnel). shapes_of us ++ opened ∷ []) same.tunnels;
      book = opens.book ∙ ap (λ (k : ℕ). entries k x.actor) same.number ∙ ap (λ (k : ℕ). entries s.number k) same.actor;
    }))
goes_before s x sh ts after same (inr (inr (inl closes))) =
    let P : List Tunnel → Type 0 = λ us. Contains us closes.closed in
    let left : List Tunnel → List Shape = λ us. filter (λ (y : Shape). not (y.id == closes.closed.id)) (shapes_of us) in
    let entries : ℕ → List Entry = λ by. sh.book ++ record { actor = by; call = call.Close closes.closed.id; reply = reply.Closed } ∷ [] in
    inr (inr (inl (record {
      closed = closes.closed;
      has = subst P same.tunnels closes.has;
      tunnels_are = closes.tunnels_are ∙ ap left same.tunnels;
      book = closes.book ∙ ap entries same.actor;
    })))
goes_before s x sh ts after same (inr (inr (inr tells))) =
    let entries : ℕ → List Entry = λ by. sh.book ++ record { actor = by; call = tells.asked; reply = tells.said } ∷ [] in
    inr (inr (inr (record {
      tunnel = tells.tunnel;
      asked = tells.asked;
      said = tells.said;
      of = tells.of;
      tunnels_are = tells.tunnels_are ∙ ap shapes_of same.tunnels;
      book = tells.book ∙ ap entries same.actor;
    })))

-- ---- what the book replies

-- to a close
pub asked_close : (sh after : Shared) (actor tunnel : ℕ) (said : Reply) → Asks sh actor (call.Close tunnel) said after
    → (said ≡ reply.Closed) × Wrote sh actor (call.Close tunnel) reply.Closed after
asked_close sh after actor tunnel said asks = by_said asks.said asks.is asks.reply_is asks.after_is where
  by_said : (r : Reply) → IsAnswer sh.config sh.book (call.Close tunnel) r → said ≡ (asked_by sh.book actor (call.Close tunnel) r).reply
      → after ≡ record sh { book = (asked_by sh.book actor (call.Close tunnel) r).book }
      → (said ≡ reply.Closed) × Wrote sh actor (call.Close tunnel) reply.Closed after
  by_said (reply.Opened u routes) is same after_is = absurd is
  by_said (reply.HistoryFull entries live) is same after_is = absurd is
  by_said (reply.Assigned list at) is same after_is = absurd is
  by_said (reply.Accepted accepts at) is same after_is = absurd is
  by_said reply.Closed is same after_is = (same, ap (λ (x : Shared). x.book) after_is)

-- a tunnel opened
pub record Opened (sh after : Shared) (actor : ℕ) (asked : Call) (said : Reply) : Type 0 where
  pub tunnel : ℕ
  pub routes : List Range
  pub said_is : said ≡ reply.Opened tunnel routes
  pub tunnel_is : tunnel ≡ length sh.book
  pub wrote : Wrote sh actor asked (reply.Opened tunnel routes) after

-- its history is full, and then nothing is written
pub record Full (sh after : Shared) (said : Reply) : Type 0 where
  pub entries : ℕ
  pub live : ℕ
  pub said_is : said ≡ reply.HistoryFull entries live
  pub book : after.book ≡ sh.book

-- to an opening
pub asked_open : (sh after : Shared) (actor conn id by : ℕ) (goal : Goal) (said : Reply) → Asks sh actor (call.Open conn id by goal) said after
    → Opened sh after actor (call.Open conn id by goal) said ⊎ Full sh after said
asked_open sh after actor conn id by goal said asks = by_said asks.said asks.is asks.reply_is asks.after_is where
  asked : Call
  asked = call.Open conn id by goal

  by_said : (r : Reply) → IsAnswer sh.config sh.book asked r → said ≡ (asked_by sh.book actor asked r).reply
      → after ≡ record sh { book = (asked_by sh.book actor asked r).book }
      → Opened sh after actor asked said ⊎ Full sh after said
  by_said (reply.Opened tunnel routes) is same after_is = inl (record {
    tunnel = tunnel;
    routes = routes;
    said_is = same;
    tunnel_is = is.1;
    wrote = ap (λ (x : Shared). x.book) after_is;
  })
  by_said (reply.HistoryFull entries live) is same after_is =
      inr (record { entries = entries; live = live; said_is = same; book = ap (λ (x : Shared). x.book) after_is })
  by_said (reply.Assigned list at) is same after_is = absurd is
  by_said (reply.Accepted accepts at) is same after_is = absurd is
  by_said reply.Closed is same after_is = absurd is

-- it gives addresses, or takes ranges up or doesn't
abbrev pub IsTold : Reply → Type 0
IsTold (reply.Assigned list at) = Unit {0}
IsTold (reply.Accepted accepts at) = Unit {0}
IsTold (reply.Opened tunnel routes) = ⊥
IsTold (reply.HistoryFull entries live) = ⊥
IsTold reply.Closed = ⊥

-- addresses or ways were asked for, and the book has that
pub record Told (sh after : Shared) (actor : ℕ) (asked : Call) (said : Reply) : Type 0 where
  pub is : IsTold said
  pub wrote : Wrote sh actor asked said after

-- or the history had no place for that, and the tunnel is closed
pub record Shut (sh after : Shared) (actor tunnel : ℕ) (said : Reply) : Type 0 where
  pub said_is : said ≡ reply.Closed
  pub wrote : Wrote sh actor (call.Close tunnel) reply.Closed after

-- to a request for addresses or ways
pub asked_told : (sh after : Shared) (actor tunnel : ℕ) (asked : Call) (said : Reply) → IsFor tunnel asked → Asks sh actor asked said after
    → Told sh after actor asked said ⊎ Shut sh after actor tunnel said
asked_told sh after actor tunnel asked said of asks = by_said asked of asks.said asks.is asks.reply_is asks.after_is where
  closed_book : ℕ → List Entry
  closed_book k = sh.book ++ record { actor = actor; call = call.Close k; reply = reply.Closed } ∷ []

  by_said : (c : Call) → IsFor tunnel c → (r : Reply) → IsAnswer sh.config sh.book c r → said ≡ (asked_by sh.book actor c r).reply
      → after ≡ record sh { book = (asked_by sh.book actor c r).book }
      → Told sh after actor c said ⊎ Shut sh after actor tunnel said
  by_said (call.Open conn id by goal) for r is same after_is = absurd for
  by_said (call.Close on) for r is same after_is = absurd for
  by_said (call.Assign on list) for (reply.Opened u routes) is same after_is = absurd is
  by_said (call.Assign on list) for (reply.Accepted accepts at) is same after_is = absurd is
  by_said (call.Assign on list) for reply.Closed is same after_is = absurd is
  by_said (call.Assign on list) for (reply.HistoryFull entries live) is same after_is =
      inr (record { said_is = same; wrote = ap (λ (x : Shared). x.book) after_is ∙ ap (λ (k : ℕ). closed_book k) for })
  by_said (call.Assign on list) for (reply.Assigned given at) is same after_is =
      let e : reply.Assigned given at ≡ said = sym same in
      let P : Reply → Type 0 = λ x. Told sh after actor (call.Assign on list) x in
      inl (subst P e (record { is = tt; wrote = ap (λ (x : Shared). x.book) after_is }))
  by_said (call.Advertise on ranges) for (reply.Opened u routes) is same after_is = absurd is
  by_said (call.Advertise on ranges) for (reply.Assigned given at) is same after_is = absurd is
  by_said (call.Advertise on ranges) for reply.Closed is same after_is = absurd is
  by_said (call.Advertise on ranges) for (reply.HistoryFull entries live) is same after_is =
      inr (record { said_is = same; wrote = ap (λ (x : Shared). x.book) after_is ∙ ap (λ (k : ℕ). closed_book k) for })
  by_said (call.Advertise on ranges) for (reply.Accepted accepts at) is same after_is =
      let e : reply.Accepted accepts at ≡ said = sym same in
      let P : Reply → Type 0 = λ x. Told sh after actor (call.Advertise on ranges) x in
      inl (subst P e (record { is = tt; wrote = ap (λ (x : Shared). x.book) after_is }))
