-- The book is asked for addresses or ways, and the tunnel is told what comes of it.
use Rattle.std.proofs.Common.{◌≡◌, ℕ, true, ◌++◌, List, [], ◌∷◌, Result, Ok, Err, IsOk, inr, refl, sym, ap, subst, ◌∙◌}
use Rattle.std.specs.Prelude.{is_some}
use Rattle.mq_book.specs.Laws.{StaysFull}
use Rattle.mq_talk.specs.declared.book.Call.{Call}
use Rattle.mq_talk.specs.declared.book.Call.TheVariants as call
use Rattle.mq_talk.specs.declared.book.Config.{Config}
use Rattle.mq_talk.specs.declared.book.Reply.{Reply}
use Rattle.mq_talk.specs.declared.book.Reply.TheVariants as reply
use Rattle.mq_talk.specs.declared.note.Note.{Note}
use Rattle.mq_talk.specs.Answers.{IsAnswer, IsFull, IsMine, MayCall, recorded}
use Rattle.mq_talk.specs.Book.{History}
use Rattle.mq_talk.specs.Offices.{Seen, Sees, CallOk, CallGives}
use Rattle.mq_wire.specs.declared.NoMemory.{NoMemory}
use Rattle.mq_machine.specs.Done.{done}
use Rattle.mq_machine.specs.Lawful.{IsFresh}
use Rattle.mq_machine.specs.Shared.{asked_by}
use Rattle.mq_machine.specs.State.{Conn, Tunnel}
use Rattle.mq_machine.specs.Want.{Ask, Replied, want_of}
use Rattle.mq_conn.specs.declared.conn.Conn.{Conn as Core}
use Rattle.mq_conn.specs.Conns.{IsConn, MayHear}
use Rattle.mq_held.specs.Answers.{AskOk, IsFor, SettleGives, TellGives}
use Rattle.mq_book.proofs.Onward.{mine_stays, sees_on}
use Rattle.mq_held.proofs.Streams.{told_some}

-- ---- what is told

-- what found a place is told as it was said
told_said : (h : History) (actor : ℕ) (c : Call) (said : Reply) → ((entries live : ℕ) → said ≡ reply.HistoryFull entries live → ⊥)
    → (said ≡ (asked_by h actor c said).reply) × (recorded h actor c said ≡ (asked_by h actor c said).book)
told_said h actor c (reply.Opened tunnel routes) placed = (refl, refl)
told_said h actor c (reply.Assigned list at) placed = (refl, refl)
told_said h actor c (reply.Accepted accepts at) placed = (refl, refl)
told_said h actor c reply.Closed placed = (refl, refl)
told_said h actor c (reply.HistoryFull entries live) placed = absurd (placed entries live refl)

pub placed_asks : (actor : ℕ) (old new : Seen) (c : Call) (said : Reply) → ((entries live : ℕ) → said ≡ reply.HistoryFull entries live → ⊥)
    → CallOk actor old c said new → AskOk actor old c said new
placed_asks actor old new c said placed ok =
    let told = told_said ok.book actor c said placed in
    record { book = ok.book; sees = ok.sees; said = said; is = ok.reply_is; told_is = told.0; wrote = ok.seen ∙ told.1; same = ok.same }

-- ---- what found no place

-- it found none
full_of : (config : Config) (h : History) (tunnel : ℕ) (c : Call) (entries live : ℕ) → IsFor tunnel c → IsAnswer config h c (reply.HistoryFull entries live) → IsFull config h 1 entries live
full_of config h tunnel (call.Open conn id names goal) entries live of answer = absurd of
full_of config h tunnel (call.Assign on list) entries live of answer = answer
full_of config h tunnel (call.Advertise on list) entries live of answer = answer
full_of config h tunnel (call.Close on) entries live of answer = absurd of

of_full : (config : Config) (h : History) (tunnel : ℕ) (c : Call) (entries live : ℕ) → IsFor tunnel c → IsFull config h 1 entries live → IsAnswer config h c (reply.HistoryFull entries live)
of_full config h tunnel (call.Open conn id names goal) entries live of full = absurd of
of_full config h tunnel (call.Assign on list) entries live of full = full
of_full config h tunnel (call.Advertise on list) entries live of full = full
of_full config h tunnel (call.Close on) entries live of full = absurd of

-- then the close is written, and told
closes_then : (h : History) (actor tunnel : ℕ) (c : Call) (entries live : ℕ) → IsFor tunnel c
    → (reply.Closed ≡ (asked_by h actor c (reply.HistoryFull entries live)).reply)
    × (recorded h actor (call.Close tunnel) reply.Closed ≡ (asked_by h actor c (reply.HistoryFull entries live)).book)
closes_then h actor tunnel (call.Open conn id names goal) entries live of = absurd of
closes_then h actor tunnel (call.Assign on list) entries live of =
    (refl, ap (λ (t : ℕ). h ++ record { actor = actor; call = call.Close t; reply = reply.Closed } ∷ []) (sym of))
closes_then h actor tunnel (call.Advertise on list) entries live of =
    (refl, ap (λ (t : ℕ). h ++ record { actor = actor; call = call.Close t; reply = reply.Closed } ∷ []) (sym of))
closes_then h actor tunnel (call.Close on) entries live of = absurd of

closed_only : (config : Config) (h : History) (tunnel : ℕ) (said : Reply) → IsAnswer config h (call.Close tunnel) said → said ≡ reply.Closed
closed_only config h tunnel reply.Closed a = refl
closed_only config h tunnel (reply.Opened u routes) a = absurd a
closed_only config h tunnel (reply.HistoryFull entries live) a = absurd a
closed_only config h tunnel (reply.Assigned list at) a = absurd a
closed_only config h tunnel (reply.Accepted accepts at) a = absurd a

pub full_asks : StaysFull → (actor : ℕ) (old mid new : Seen) (tunnel : ℕ) (c : Call) (entries live : ℕ) (said : Reply) → IsFor tunnel c → mid.actor ≡ old.actor
    → CallOk actor old c (reply.HistoryFull entries live) mid → CallOk actor mid (call.Close tunnel) said new → AskOk actor old c said new
full_asks stays actor old mid new tunnel c entries live said of who full closed =
    let said_is = closed_only mid.config closed.book tunnel said closed.reply_is in
    let S : History → Type 0 = λ h. Sees old h in
    let sees = sees_on old mid closed.book who full.same.whole (subst S (sym full.seen) full.sees) closed.sees in
    let later = stays old.config full.book closed.sees.more 1 entries live (full_of old.config full.book tunnel c entries live of full.reply_is) in
    let goes : full.book ++ closed.sees.more ≡ closed.book = ap (λ (h : History). h ++ closed.sees.more) (sym full.seen) ∙ sym closed.sees.goes_on in
    let F : History → Type 0 = λ h. IsFull old.config h 1 later.0 later.1 in
    let then = closes_then closed.book actor tunnel c later.0 later.1 of in
    let R : Reply → Type 0 = λ r. new.entries ≡ recorded closed.book actor (call.Close tunnel) r in
    record {
      book = closed.book;
      sees = sees;
      said = reply.HistoryFull later.0 later.1;
      is = of_full old.config closed.book tunnel c later.0 later.1 of (subst F goes later.2);
      told_is = said_is ∙ then.0;
      wrote = subst R said_is closed.seen ∙ then.1;
      same = record { config = closed.same.config ∙ full.same.config; whole = closed.same.whole ∙ full.same.whole };
    }

-- the tunnel may be closed
worker_of : (config : Config) (h : History) (actor tunnel : ℕ) (c : Call) → IsFor tunnel c → MayCall config h actor c → MayCall config h actor (call.Close tunnel)
worker_of config h actor tunnel (call.Open conn id names goal) of may = absurd of
worker_of config h actor tunnel (call.Assign on list) of may = let P : ℕ → Type 0 = λ t. IsMine h actor t in (may.0, subst P of may.1)
worker_of config h actor tunnel (call.Advertise on list) of may = let P : ℕ → Type 0 = λ t. IsMine h actor t in (may.0, subst P of may.1)
worker_of config h actor tunnel (call.Close on) of may = absurd of

pub may_close : (old mid : Seen) (tunnel : ℕ) (c : Call) (entries live : ℕ) → IsFor tunnel c → mid.actor ≡ old.actor → CallOk old.actor old c (reply.HistoryFull entries live) mid
    → MayCall old.config old.entries old.actor c → MayCall mid.config mid.entries mid.actor (call.Close tunnel)
may_close old mid tunnel c entries live of who full may =
    let was = worker_of old.config old.entries old.actor tunnel c of may in
    let mine = mine_stays old full.book tunnel full.sees was.1 in
    let C : Config → Type 0 = λ k. MayCall k full.book old.actor (call.Close tunnel) in
    let H : History → Type 0 = λ h. MayCall mid.config h old.actor (call.Close tunnel) in
    let A : ℕ → Type 0 = λ a. MayCall mid.config mid.entries a (call.Close tunnel) in
    subst A (sym who) (subst H (sym full.seen) (subst C (sym full.same.config) (was.0, mine)))

-- a close is never refused memory
pub full_settles : StaysFull → (old mid new : Seen) (tunnel : ℕ) (c : Call) (entries live : ℕ) (result : Result Reply NoMemory) → IsFor tunnel c → mid.actor ≡ old.actor
    → CallOk old.actor old c (reply.HistoryFull entries live) mid → CallGives mid.actor mid (call.Close tunnel) result new → IsOk result → SettleGives old.actor old c result new
full_settles stays old mid new tunnel c entries live (Ok said) of who full closed ends =
    let A : ℕ → Type 0 = λ a. CallOk a mid (call.Close tunnel) said new in
    full_asks stays old.actor old mid new tunnel c entries live said of who full (subst A who closed)
full_settles stays old mid new tunnel c entries live (Err refused) of who full closed ends = absurd cc

-- ---- what the calls give

fresh_told : (h : History) (actor tunnel : ℕ) (c : Call) (config : Config) (said : Reply) (ts : List Tunnel) → IsFor tunnel c → IsAnswer config h c said → IsFresh ts (Replied (asked_by h actor c said).reply)
fresh_told h actor tunnel (call.Open conn id names goal) config said ts of answer = absurd of
fresh_told h actor tunnel (call.Close on) config said ts of answer = absurd of
fresh_told h actor tunnel (call.Assign on list) config (reply.Assigned given at) ts of answer = tt
fresh_told h actor tunnel (call.Assign on list) config (reply.HistoryFull entries live) ts of answer = tt
fresh_told h actor tunnel (call.Assign on list) config (reply.Opened u routes) ts of answer = absurd answer
fresh_told h actor tunnel (call.Assign on list) config (reply.Accepted accepts at) ts of answer = absurd answer
fresh_told h actor tunnel (call.Assign on list) config reply.Closed ts of answer = absurd answer
fresh_told h actor tunnel (call.Advertise on list) config (reply.Accepted accepts at) ts of answer = tt
fresh_told h actor tunnel (call.Advertise on list) config (reply.HistoryFull entries live) ts of answer = tt
fresh_told h actor tunnel (call.Advertise on list) config (reply.Opened u routes) ts of answer = absurd answer
fresh_told h actor tunnel (call.Advertise on list) config (reply.Assigned given at) ts of answer = absurd answer
fresh_told h actor tunnel (call.Advertise on list) config reply.Closed ts of answer = absurd answer

pub tells_so : (actor : ℕ) (old new : Seen) (asked : Call) (tunnel : ℕ) (c d : Core) (s : Conn) (told : Reply) (result : Result Note NoMemory) → IsConn c s → IsFor tunnel asked → want_of s ≡ Ask asked
    → AskOk actor old asked told new → MayHear c d told result → TellGives actor old asked new (IsConn d) s result
tells_so actor old new asked tunnel c d s told result stands of want asks hears = by_result result hears where
  P : Reply → Type 0
  P r = is_some (done s (Replied r)) ≡ true

  some : is_some (done s (Replied told)) ≡ true
  some = subst P (sym asks.told_is) (told_some s asked tunnel actor old.config asks.book asks.said of want asks.is)

  F : Reply → Type 0
  F r = IsFresh s.tunnels (Replied r)

  fresh : IsFresh s.tunnels (Replied told)
  fresh = subst F (sym asks.told_is) (fresh_told asks.book actor tunnel asked old.config asks.said s.tunnels of asks.is)

  by_result : (r : Result Note NoMemory) → MayHear c d told r → TellGives actor old asked new (IsConn d) s r
  by_result (Ok note) h = let t = h s stands fresh some in record { told = told; asks = asks; t = t.0; does = t.2; stands_for = t.1 }
  by_result (Err refused) h = let t = h s stands some in inr (record { told = told; asks = asks; open_is = t.0; stands_for = t.1 })
