-- What a step of a connection writes is its worker's own.
use Rattle.std.proofs.Common.{◌≡◌, inl, inr, ℕ, List, [], ◌∷◌, ◌++◌, length, Contains, Some, slice_get, sym, subst, ◌∙◌, append-nil, arith}
use Rattle.std.proofs.lemmas.List.Elements.{All-nil, All-cons}
use Rattle.mq_talk.specs.declared.book.Call.{Call}
use Rattle.mq_talk.specs.declared.book.Call.TheVariants as call
use Rattle.mq_talk.specs.declared.book.Entry.{Entry}
use Rattle.mq_talk.specs.declared.book.Reply.TheVariants as reply
use Rattle.mq_talk.specs.Offices.{Seen, Sees}
use Rattle.mq_machine.specs.State.{Tunnel, Conn, Shared}
use Rattle.mq_machine.specs.Acting.{IsOwn, Writes}
use Rattle.mq_held.specs.Answers.{IsFor}
use Rattle.mq_actor.specs.Goes.{Goes}
use Rattle.mq_step.proofs.Wanting.{sees_same}
use Rattle.mq_actor.proofs.Between.{get_append}

-- nothing was written
pub writes_nothing : (old new : Seen) (actor : ℕ) → new.entries ≡ old.entries → Writes old new actor
writes_nothing old new actor same = record {
  book = old.entries;
  own = [];
  sees = sees_same old;
  wrote = same ∙ sym (append-nil old.entries);
  few = omega arith;
  mine = All-nil (IsOwn old.entries actor);
}

-- one entry was written
writes_one : (old new : Seen) (actor : ℕ) (book : List Entry) (e : Entry) → Sees old book → new.entries ≡ book ++ e ∷ [] → IsOwn book actor e → Writes old new actor
writes_one old new actor book e sees wrote own = record {
  book = book;
  own = e ∷ [];
  sees = sees;
  wrote = wrote;
  few = omega arith;
  mine = All-cons (IsOwn book actor) e [] own (All-nil (IsOwn book actor));
}

-- A tunnel that was opened before stands in what the office sees now.
opener_there : (old : Seen) (book : List Entry) (actor tunnel : ℕ) → Sees old book → (e : Entry) × (slice_get old.entries tunnel ≡ Some e) × (e.actor ≡ actor)
    → (opener : Entry) × (slice_get book tunnel ≡ Some opener) × (opener.actor ≡ actor)
opener_there old book actor tunnel sees (e, at, by) =
    let P : List Entry → Type 0 = λ h. slice_get h tunnel ≡ Some e in
    (e, subst P (sym sees.goes_on) (get_append old.entries sees.more tunnel e at), by)

-- who asks for addresses or ways closes no tunnel
telling_stays : (of tunnel : ℕ) (asked : Call) → IsFor of asked → asked ≡ call.Close tunnel → ⊥
telling_stays of tunnel (call.Open conn stream by goal) for is = for
telling_stays of tunnel (call.Close on) for is = for
telling_stays of tunnel (call.Assign on list) for is = cc
telling_stays of tunnel (call.Advertise on ranges) for is = cc

pub writes_goes : (old new : Seen) (actor : ℕ) (c : Conn) (sh after : Shared) (tunnels : List Tunnel) → Sees old sh.book → new.entries ≡ after.book → c.actor ≡ actor
    → ((t : Tunnel) → Contains c.tunnels t → (e : Entry) × (slice_get old.entries t.id ≡ Some e) × (e.actor ≡ actor)) → Goes c sh tunnels after → Writes old new actor
writes_goes old new actor c sh after tunnels sees wrote mine opened (inl stays) = record {
  book = sh.book;
  own = [];
  sees = sees;
  wrote = wrote ∙ stays.book ∙ sym (append-nil sh.book);
  few = omega arith;
  mine = All-nil (IsOwn sh.book actor);
}
writes_goes old new actor c sh after tunnels sees wrote mine opened (inr (inl opens)) =
    let e : Entry = record { actor = c.actor; call = call.Open c.number opens.stream c.actor opens.goal; reply = reply.Opened (length sh.book) opens.routes } in
    writes_one old new actor sh.book e sees (wrote ∙ opens.book) (record { by = mine; keeps = λ tunnel is. absurd cc })
writes_goes old new actor c sh after tunnels sees wrote mine opened (inr (inr (inl closes))) =
    let e : Entry = record { actor = c.actor; call = call.Close closes.closed.id; reply = reply.Closed } in
    writes_one old new actor sh.book e sees (wrote ∙ closes.book) (record { by = mine; keeps = λ tunnel is. keeps tunnel is }) where
      keeps : (tunnel : ℕ) → call.Close closes.closed.id ≡ call.Close tunnel → (opener : Entry) × (slice_get sh.book tunnel ≡ Some opener) × (opener.actor ≡ actor)
      keeps tunnel is =
          let same : closes.closed.id ≡ tunnel = cc in
          let P : ℕ → Type 0 = λ k. (opener : Entry) × (slice_get sh.book k ≡ Some opener) × (opener.actor ≡ actor) in
          subst P same (opener_there old sh.book actor closes.closed.id sees (opened closes.closed closes.has))
writes_goes old new actor c sh after tunnels sees wrote mine opened (inr (inr (inr tells))) =
    let e : Entry = record { actor = c.actor; call = tells.asked; reply = tells.said } in
    writes_one old new actor sh.book e sees (wrote ∙ tells.book) (record { by = mine; keeps = λ tunnel is. absurd (telling_stays tells.tunnel tunnel tells.asked tells.of is) })
