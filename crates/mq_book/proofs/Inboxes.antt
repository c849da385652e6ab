-- On a legal history a packet that may pass goes to an inbox that there is: whoever opens a tunnel is a worker.
use Rattle.std.proofs.Common.{◌≡◌, ℕ, ◌<◌, ◌&&◌, Bool, true, false, get_or, take, slice_get, Option, Some, None, refl, subst, arith}
use Rattle.std.proofs.lemmas.Option.{slice_get_within, get_or_from_slice_get}
use Rattle.mq_addr.specs.declared.range.Flow.{Flow}
use Rattle.mq_talk.specs.declared.book.Call.{Call}
use Rattle.mq_talk.specs.declared.book.Call.TheVariants.{Open, Assign, Advertise, Close}
use Rattle.mq_talk.specs.declared.book.Config.{Config}
use Rattle.mq_talk.specs.declared.book.Entry.{Entry}
use Rattle.mq_talk.specs.declared.place.Origin.TheVariants as origin
use Rattle.mq_talk.specs.declared.place.Place.TheVariants as place
use Rattle.mq_talk.specs.Book.{History, is_live, is_some_list, opened_at, actor_at, actor_of}
use Rattle.mq_talk.specs.Answers.{MayCall, IsLegal}
use Rattle.mq_talk.specs.Judging.{GoesTo}
use Rattle.mq_book.specs.Laws.{JudgedHasInbox}

-- whoever may call is a worker
may_below : (config : Config) (h : History) (actor : ℕ) (c : Call) → MayCall config h actor c → actor < config.workers
may_below config h actor (Open conn stream names goal) may = may.0
may_below config h actor (Assign tunnel asked) may = may.0
may_below config h actor (Advertise tunnel offered) may = may.0
may_below config h actor (Close tunnel) may = may.0

-- the actor of an entry
opener_below : (config : Config) (h : History) (u : ℕ) (o : Option Entry) → IsLegal config h → slice_get h u ≡ o → is_some_list (opened_at o) ≡ true → actor_at o < config.workers
opener_below config h u None legal at live = absurd cc
opener_below config h u (Some e) legal at live =
    let same : get_or h u e ≡ e = get_or_from_slice_get h u e e at in
    let may : MayCall config (take u h) (get_or h u e).actor (get_or h u e).call = (legal u e (slice_get_within h u e at)).may in
    may_below config (take u h) e.actor e.call (subst (λ (x : Entry). MayCall config (take u h) x.actor x.call) same may)

first_true : (a b : Bool) → a && b ≡ true → a ≡ true
first_true true b both = refl
first_true false b both = absurd cc

-- the actor of a live tunnel
owner_below : (config : Config) (h : History) (u : ℕ) → IsLegal config h → is_live h u ≡ true → actor_of h u < config.workers
owner_below config h u legal live = opener_below config h u (slice_get h u) legal refl (first_true _ _ live)

goes_below : (config : Config) (h : History) (flow : Flow) (u actor : ℕ) → IsLegal config h → GoesTo h flow u actor → actor < config.workers
goes_below config h flow u actor legal goes =
    let below = owner_below config h u legal goes.reaches.owns.live in
    omega (arith, below, goes.actor_is)

pub judged_has_inbox : JudgedHasInbox
judged_has_inbox config h (origin.Tunnel t) flow (place.Tunnel u actor) legal judged = let below = goes_below config h flow u actor legal judged.2 in omega (arith, below)
judged_has_inbox config h (origin.Tunnel t) flow place.Net legal judged = omega arith
judged_has_inbox config h origin.Net flow (place.Tunnel u actor) legal judged = let below = goes_below config h flow u actor legal judged.1 in omega (arith, below)
judged_has_inbox config h origin.Net flow place.Net legal judged = absurd judged
