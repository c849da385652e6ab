use Rattle.std.proofs.Common.{◌≡◌, ℕ, Bool, true, false, List, ◌++◌, Result, Ok, Err, IfOk, sym, ap, ◌∙◌, append_assoc}
use Rattle.mq_capsule.specs.declared.item.Item.{Item}
use Rattle.mq_client.specs.declared.event.ClientEvent.{ClientEvent}
use Rattle.mq_client.specs.Events.{events_of}
use Rattle.mq_capsule.specs.declared.reader.Reader.{Reader}
use Rattle.mq_capsule.specs.Readers.{Stands}
use Rattle.mq_wire.specs.declared.NoMemory.{NoMemory}
use Rattle.mq_client.specs.Frames.{closing, Says}
use Rattle.mq_client.specs.Talking.{ReadsBytes}
use Rattle.mq_client.specs.Session.{ended}
use Rattle.mq_client.proofs.Goings.{told_over, told_open, ended_open}
use Rattle.mq_client.proofs.data.read_bytes.Goals as goal

pub returns-then-branch : goal.returns-then-branch
returns-then-branch c = λ earlier stands.
    let before = c.args.events.now.items in
    let later : List Item = c.in_ok-items.items in
    let items = c.is_readable.ensures false earlier in
    let told : c.tell_items.new.events.items ≡ before ++ events_of later =
    c.in_ok-tell_items.ensures.told ∙ ap (λ (i : List Item). before ++ events_of i) c.into_vec.ensures in
    let last : ended (events_of later) ≡ true =
    ap (λ (i : List Item). ended (events_of i)) (sym c.into_vec.ensures) ∙ sym c.in_ok-tell_items.ensures.last ∙ c.if-branch.true in
    record {
      later = later;
      says = record { items = items.0; were = items.1; are = c.in_ok-items.ensures.items false earlier items.0 stands items.1 };
      added = told ∙ ap (λ (l : List ClientEvent). before ++ l) (sym (told_over later c.args.end last));
      over_is = sym (ap ended (told_over later c.args.end last) ∙ last);
      stands = c.in_ok-items.ensures.stands false earlier stands;
    }

closes : (earlier bytes : List ℕ) (end : Bool) (before mid after : List ClientEvent) (reader : Reader) (later : List Item) (r : Result Bool NoMemory)
    → Says earlier bytes later → Stands reader false (earlier ++ bytes) → mid ≡ before ++ events_of later → ended (events_of later) ≡ false
    → IfOk r (λ over. (over ≡ end) × (after ≡ mid ++ closing end)) → IfOk r (λ over. ReadsBytes earlier bytes end before after over reader)
closes earlier bytes end before mid after reader later (Ok over) says stands told none closed = record {
  later = later;
  says = says;
  added =
      closed.1 ∙ ap (λ (l : List ClientEvent). l ++ closing end) told ∙ append_assoc before (events_of later) (closing end)
      ∙ ap (λ (l : List ClientEvent). before ++ l) (sym (told_open later end none));
  over_is = closed.0 ∙ sym (ended_open later end none);
  stands = stands;
}
closes earlier bytes end before mid after reader later (Err refused) says stands told none closed = tt

pub returns : goal.returns
returns c = λ earlier stands.
    let before = c.args.events.now.items in
    let later : List Item = c.in_ok-items.items in
    let items = c.is_readable.ensures false earlier in
    let told : c.tell_items.new.events.items ≡ before ++ events_of later =
    c.in_ok-tell_items.ensures.told ∙ ap (λ (i : List Item). before ++ events_of i) c.into_vec.ensures in
    let none : ended (events_of later) ≡ false =
    ap (λ (i : List Item). ended (events_of i)) (sym c.into_vec.ensures) ∙ sym c.in_ok-tell_items.ensures.last ∙ c.if-branch.false in
    closes earlier c.args.bytes.now c.args.end before c.tell_items.new.events.items c.close.new.events.items c.feed.new.self later c.close.result
    (record { items = items.0; were = items.1; are = c.in_ok-items.ensures.items false earlier items.0 stands items.1 })
    (c.in_ok-items.ensures.stands false earlier stands) told none c.close.ensures
