-- What each event makes of the row of its stream, and of the connection's windows.
use Rattle.std.proofs.Common.{◌≡◌, ◌≢◌, ℕ, ◌+◌, ◌<◌, ◌≤◌, ◌∷◌, true, false, refl, sym, ◌∙◌, arith, eqb, cond, ℤ, pos, ◌+ℤ◌}
use Rattle.std.proofs.lemmas.Bool.{eq-eqb, ne_eqb}
use Rattle.std.proofs.lemmas.Int.{ints}
use Rattle.mq_streams.specs.History.{Event, History, Opened, Arrived, Discarded, Consumed, GivenBack, Extended, Sent, Finished, total, arrived_on, arrived, consumed_on, consumed, given_back_on, extended_on, sent}
use Rattle.mq_streams.specs.Balance.{IsBalance}
use Rattle.mq_streams.specs.Answers.{receive_window, connection_receive_window}
use Rattle.mq_streams.specs.Stand.{IsRow, IsFresh, IsConnection}
use Rattle.mq_streams.specs.declared.stream.Stream.{Stream}
use Rattle.mq_streams.specs.declared.connection.Connection.{Connection}

itself : (id n : ℕ) → cond (eqb id id) n 0 ≡ n
itself id n = rw (eq-eqb id id refl) refl

other : (s id n : ℕ) → s ≢ id → cond (eqb s id) n 0 ≡ 0
other s id n differs = rw (ne_eqb s id differs) refl

balance_same : (balance : ℤ) (e s : ℕ) → IsBalance balance e s → IsBalance balance (0 + e) (0 + s)
balance_same balance e s is = omega (arith, ints)

module _ (h : History) (id : ℕ) (old : Stream) (is : IsRow h id old) (new : Stream) where
  pub finished_row : new.has_ended ≡ true → new.receiving ≡ old.receiving → new.balance ≡ old.balance → IsRow (Finished id ∷ h) id new
  finished_row ended receiving balance = record {
    ended = ended ∙ sym (rw (eq-eqb id id refl) refl);
    receiving = rw receiving (record { room = omega (arith, is.receiving.room); consumed_is = omega (arith, is.receiving.consumed_is) });
    balance = rw balance (balance_same old.balance _ _ is.balance);
  }

  -- so much DATA came
  pub arrived_row : (n : ℕ) → new.has_ended ≡ old.has_ended → new.receiving.room + n ≡ old.receiving.room → new.receiving.consumed ≡ old.receiving.consumed → new.balance ≡ old.balance → IsRow (Arrived id n ∷ h) id new
  arrived_row n ended room consumed balance = record {
    ended = ended ∙ is.ended;
    receiving = record { room = omega (arith, is.receiving.room, itself id n); consumed_is = omega (arith, is.receiving.consumed_is) };
    balance = rw balance (balance_same old.balance _ _ is.balance);
  }

  pub consumed_row : (n : ℕ) → new.has_ended ≡ old.has_ended → new.receiving.room ≡ old.receiving.room → new.receiving.consumed ≡ old.receiving.consumed + n → new.balance ≡ old.balance → IsRow (Consumed id n ∷ h) id new
  consumed_row n ended room consumed balance = record {
    ended = ended ∙ is.ended;
    receiving = record { room = omega (arith, is.receiving.room); consumed_is = omega (arith, is.receiving.consumed_is, itself id n) };
    balance = rw balance (balance_same old.balance _ _ is.balance);
  }

  -- all that waited was given back
  pub given_back_row : new.has_ended ≡ old.has_ended → new.receiving.room ≡ old.receiving.room + old.receiving.consumed → new.receiving.consumed ≡ 0 → new.balance ≡ old.balance → IsRow (GivenBack id old.receiving.consumed ∷ h) id new
  given_back_row ended room consumed balance = record {
    ended = ended ∙ is.ended;
    receiving = record {
      room = omega (arith, is.receiving.room, itself id old.receiving.consumed);
      consumed_is = omega (arith, is.receiving.consumed_is, itself id old.receiving.consumed);
    };
    balance = rw balance (balance_same old.balance _ _ is.balance);
  }

  pub extended_row : (n : ℕ) → new.has_ended ≡ old.has_ended → new.receiving ≡ old.receiving → new.balance ≡ (old.balance +ℤ pos n) → IsRow (Extended id n ∷ h) id new
  extended_row n ended receiving balance = record {
    ended = ended ∙ is.ended;
    receiving = rw receiving (record { room = omega (arith, is.receiving.room); consumed_is = omega (arith, is.receiving.consumed_is) });
    balance = rw (balance, itself id n) (let b = is.balance in omega (arith, ints));
  }

  pub sent_row : (n : ℕ) → new.has_ended ≡ old.has_ended → new.receiving ≡ old.receiving → (new.balance +ℤ pos n) ≡ old.balance → IsRow (Sent id n ∷ h) id new
  sent_row n ended receiving balance = record {
    ended = ended ∙ is.ended;
    receiving = rw receiving (record { room = omega (arith, is.receiving.room); consumed_is = omega (arith, is.receiving.consumed_is) });
    balance = rw (itself id n) (let b = is.balance in omega (arith, ints));
  }

-- what a stream is that was just begun
pub fresh_row : (h : History) (id : ℕ) → IsFresh h id → (new : Stream) → new.has_ended ≡ false → new.receiving.room ≡ 65535 → new.receiving.consumed ≡ 0 → new.balance ≡ pos 0 → IsRow (Opened id ∷ h) id new
fresh_row h id fresh new ended room consumed balance = record {
  ended = ended ∙ sym fresh.open_yet;
  receiving = record { room = omega (arith, fresh.no_arrived, fresh.no_given_back); consumed_is = omega (arith, fresh.no_consumed, fresh.no_given_back) };
  balance = rw balance (let e = fresh.no_extended in let s = fresh.no_sent in omega (arith, ints));
}

module _ (h : History) (old : Connection) (is : IsConnection h old) (new : Connection) where
  -- an event without bytes
  pub quiet_connection : (event : Event) → arrived event ≡ 0 → consumed event ≡ 0 → given_back_on 0 event ≡ 0 → sent event ≡ 0 → extended_on 0 event ≡ 0 → new ≡ old → IsConnection (event ∷ h) new
  quiet_connection event a c g s e same = rw same (record {
    receiving = record { room = omega (arith, is.receiving.room, a, g); consumed_is = omega (arith, is.receiving.consumed_is, c, g) };
    room = omega (arith, is.room, s, e);
  })

  pub arrived_connection : (id n : ℕ) → new.receiving.room + n ≡ old.receiving.room → new.receiving.consumed ≡ old.receiving.consumed → new.room ≡ old.room → IsConnection (Arrived id n ∷ h) new
  arrived_connection id n room consumed sends = record {
    receiving = record { room = omega (arith, is.receiving.room); consumed_is = omega (arith, is.receiving.consumed_is) };
    room = omega (arith, is.room);
  }

  pub discarded_connection : (id n : ℕ) → new.receiving.room + n ≡ old.receiving.room → new.receiving.consumed ≡ old.receiving.consumed + n → new.room ≡ old.room → IsConnection (Discarded id n ∷ h) new
  discarded_connection id n room consumed sends = record {
    receiving = record { room = omega (arith, is.receiving.room); consumed_is = omega (arith, is.receiving.consumed_is) };
    room = omega (arith, is.room);
  }

  pub consumed_connection : (id n : ℕ) → new.receiving.room ≡ old.receiving.room → new.receiving.consumed ≡ old.receiving.consumed + n → new.room ≡ old.room → IsConnection (Consumed id n ∷ h) new
  consumed_connection id n room consumed sends = record {
    receiving = record { room = omega (arith, is.receiving.room); consumed_is = omega (arith, is.receiving.consumed_is) };
    room = omega (arith, is.room);
  }

  pub given_back_connection : new.receiving.room ≡ old.receiving.room + old.receiving.consumed → new.receiving.consumed ≡ 0 → new.room ≡ old.room → IsConnection (GivenBack 0 old.receiving.consumed ∷ h) new
  given_back_connection room consumed sends = record {
    receiving = record { room = omega (arith, is.receiving.room); consumed_is = omega (arith, is.receiving.consumed_is) };
    room = omega (arith, is.room);
  }

  -- a stream's window changes, and the connection's not
  pub given_back_elsewhere : (id n : ℕ) → 0 < id → new ≡ old → IsConnection (GivenBack id n ∷ h) new
  given_back_elsewhere id n above same = quiet_connection (GivenBack id n) refl refl (other id 0 n (λ e. omega arith)) refl refl same

  pub extended_elsewhere : (id n : ℕ) → 0 < id → new ≡ old → IsConnection (Extended id n ∷ h) new
  extended_elsewhere id n above same = quiet_connection (Extended id n) refl refl refl refl (other id 0 n (λ e. omega arith)) same

  pub extended_connection : (n : ℕ) → new.receiving ≡ old.receiving → new.room ≡ old.room + n → IsConnection (Extended 0 n ∷ h) new
  extended_connection n receiving room = record {
    receiving = rw receiving (record { room = omega (arith, is.receiving.room); consumed_is = omega (arith, is.receiving.consumed_is) });
    room = omega (arith, is.room);
  }

  pub sent_connection : (id n : ℕ) → new.receiving ≡ old.receiving → new.room + n ≡ old.room → IsConnection (Sent id n ∷ h) new
  sent_connection id n receiving room = record {
    receiving = rw receiving (record { room = omega (arith, is.receiving.room); consumed_is = omega (arith, is.receiving.consumed_is) });
    room = omega (arith, is.room);
  }

-- what has just come may be consumed
pub counted_here : (h : History) (id n : ℕ) → total (consumed_on id) h ≤ total (arrived_on id) h → total (consumed_on id) (Arrived id n ∷ h) + n ≤ total (arrived_on id) (Arrived id n ∷ h)
counted_here h id n within = rw (itself id n) (omega arith)

-- what came was within its windows, since these are what is left of them
pub arrived_within : (h : History) (id n : ℕ) (row : Stream) → IsRow (Arrived id n ∷ h) id row → (c : Connection) → IsConnection (Arrived id n ∷ h) c → (n ≤ receive_window id h) × (n ≤ connection_receive_window h)
arrived_within h id n row is c connection = (omega (arith, is.receiving.room, itself id n), omega (arith, connection.receiving.room))

pub discarded_within : (h : History) (id n : ℕ) (c : Connection) → IsConnection (Discarded id n ∷ h) c → n ≤ connection_receive_window h
discarded_within h id n c connection = omega (arith, connection.receiving.room)
