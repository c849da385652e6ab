-- What was taken before stays so, and what is so behind the moments of a run.
use Rattle.std.proofs.Common.{take, arith, ◌≡◌, ℕ, false, List, [], ◌∷◌, ◌++◌, length, Some, refl, sym, subst, ap, ◌∙◌, append_assoc}
use Rattle.std.specs.List.{AllByRecursion}
use Rattle.mq_capsule.specs.Laws.{IsReadable, IsReadOnce, IsWithinLimits}
use Rattle.mq_addr.specs.declared.range.Flow.{Flow}
use Rattle.mq_talk.specs.declared.book.Config.{Config}
use Rattle.mq_talk.specs.declared.book.Entry.{Entry}
use Rattle.mq_talk.specs.declared.place.Verdict.TheVariants as verdict
use Rattle.mq_talk.specs.Judging.{IsJudged}
use Rattle.mq_talk.specs.Packets.{flow_of}
use Rattle.mq_runs.specs.Written.{MayGo}
use Rattle.mq_talk.specs.declared.note.From.TheVariants as source
use Rattle.mq_talk.specs.declared.note.Note.{Note}
use Rattle.mq_talk.specs.declared.place.Origin.{Origin}
use Rattle.mq_talk.specs.declared.place.Place.{Place}
use Rattle.mq_machine.specs.declared.setup.Setup.{Setup}
use Rattle.mq_machine.specs.Lawful.{Alone, IsLawful, StaysLawful}
use Rattle.mq_machine.specs.State.{Conn, Held, Worker, State}
use Rattle.mq_machine.specs.Turn.{Actor}
use Rattle.mq_play.specs.declared.plan.Plan.{Plan}
use Rattle.mq_play.specs.Events.{state_of}
use Rattle.mq_runs.specs.Pushed.{WasTaken}
use Rattle.mq_runs.specs.Runs.{Moment, Noted, Run}
use Rattle.mq_runs.proofs.Asked.{Asked, keeps_asked}
use Rattle.mq_runs.proofs.Flight.{Key}
use Rattle.mq_runs.proofs.Keeping.{Sound, keeps_sound}
use Rattle.mq_runs.proofs.Kept.{on_run, first_has}

-- ---- by all entries of the book

take_all : {A : Type 0} (xs : List A) → take (length xs) xs ≡ xs
take_all [] = refl
take_all (x ∷ xs) = ap (λ ys. x ∷ ys) (take_all xs)

pub all_may : {config : Config} {book : List Entry} {from : Origin} {packet : List ℕ} {flow : Flow} {to : Place} (at : ℕ) → at ≡ length book → flow_of packet ≡ Some flow → IsJudged config book from flow (verdict.Pass to)
    → MayGo config book at from packet to
all_may {config} {book} {from} {packet} {flow} {to} at at_is flow_is judged = record {
  flow = flow;
  flow_is = flow_is;
  at_most = omega (arith, at_is);
  judged = subst (λ (es : List Entry). IsJudged config es from flow (verdict.Pass to)) (sym (ap (λ n. take n book) at_is ∙ take_all book)) judged;
}

-- ---- what was taken before

module _ (plan : Plan) where
  abbrev pub taken_more : (ms : List Moment) (m : Moment) (here : State) (actor : Actor) (said : Note) → WasTaken plan ms here actor said → WasTaken plan (ms ++ m ∷ []) here actor said
  taken_more ms m here actor said x = record {
    before = x.before;
    after = x.after ++ m ∷ [];
    are = ap (λ (l : List Moment). l ++ m ∷ []) x.are ∙ append_assoc x.before (Noted actor said ∷ x.after) (m ∷ []);
    reaches = x.reaches;
  }

  -- the last moment is behind all others
  abbrev pub taken_now : (ms : List Moment) (here : State) (actor : Actor) (said told : Note) → said ≡ told → Run (state_of plan) ms here → WasTaken plan (ms ++ Noted actor said ∷ []) here actor told
  taken_now ms here actor said told e run = record { before = ms; after = []; are = ap (λ (y : Note). ms ++ Noted actor y ∷ []) e; reaches = run }

-- ---- what is so of all connections

abbrev pub AllAsked : State → Type 0
AllAsked s = AllByRecursion (λ (w : Worker). AllByRecursion (λ (g : Held). Asked w.setup.mtu g.conn) w.conns) s.workers

abbrev pub AllAlone : State → Type 0
AllAlone s = AllByRecursion (λ (w : Worker). AllByRecursion (λ (g : Held). Alone g.conn.tunnels) w.conns) s.workers

-- what is counted here doesn't matter
pub any : IsReadable → IsReadOnce → Key
any readable once = record { from = source.Net; number = 0; readable = readable; once = once; to_the_end = false }

module _ (limits : IsWithinLimits) (stays : StaysLawful) (k : Key) (plan : Plan) where
  pub asked_at : (ms : List Moment) (s : State) → Run (state_of plan) ms s → AllAsked s
  asked_at ms s run =
      let K = λ (setup : Setup) (n : ℕ) (c : Conn). Asked setup.mtu c in
      (on_run K (keeps_asked limits) ms (state_of plan) s (first_has K (keeps_asked limits) plan) run).have

  lawful_each : (n : ℕ) (hs : List Held) → AllByRecursion (λ (g : Held). Sound stays k n g.conn) hs → AllByRecursion (λ (g : Held). IsLawful g.conn) hs
  lawful_each n [] h = tt
  lawful_each n (g ∷ hs) h = (h.0.lawful, lawful_each n hs h.1)

  lawful_all : (n : ℕ) (ws : List Worker) → AllByRecursion (λ (w : Worker). AllByRecursion (λ (g : Held). Sound stays k n g.conn) w.conns) ws
      → AllByRecursion (λ (w : Worker). AllByRecursion (λ (g : Held). IsLawful g.conn) w.conns) ws
  lawful_all n [] h = tt
  lawful_all n (w ∷ ws) h = (lawful_each n w.conns h.0, lawful_all n ws h.1)

  pub lawful_at : (ms : List Moment) (s : State) → Run (state_of plan) ms s → AllByRecursion (λ (w : Worker). AllByRecursion (λ (g : Held). IsLawful g.conn) w.conns) s.workers
  lawful_at ms s run =
      let K = λ (setup : Setup) (n : ℕ) (c : Conn). Sound stays k n c in
      lawful_all (length s.shared.book) s.workers (on_run K (keeps_sound stays k) ms (state_of plan) s (first_has K (keeps_sound stays k) plan) run).have

  alone_each : (hs : List Held) → AllByRecursion (λ (g : Held). IsLawful g.conn) hs → AllByRecursion (λ (g : Held). Alone g.conn.tunnels) hs
  alone_each [] h = tt
  alone_each (g ∷ hs) h = (h.0.loose.alone, alone_each hs h.1)

  alone_all : (ws : List Worker) → AllByRecursion (λ (w : Worker). AllByRecursion (λ (g : Held). IsLawful g.conn) w.conns) ws → AllByRecursion (λ (w : Worker). AllByRecursion (λ (g : Held). Alone g.conn.tunnels) w.conns) ws
  alone_all [] h = tt
  alone_all (w ∷ ws) h = (alone_each w.conns h.0, alone_all ws h.1)

  pub alone_at : (ms : List Moment) (s : State) → Run (state_of plan) ms s → AllAlone s
  alone_at ms s run = alone_all s.workers (lawful_at ms s run)
