use Rattle.std.proofs.Common.{◌+◌, ◌≤◌, length, refl, sym, ◌∙◌, arith}
use Rattle.std.specs.Prelude.{vec_capacity}
use Rattle.mq_talk.specs.declared.book.Entry.{Entry}
use Rattle.mq_book.specs.declared.tunnel.Tunnel.{Tunnel}
use Rattle.mq_book.specs.declared.ledger.Ledger.{Ledger}
use Rattle.std.specs.Prelude.{not, ◌==◌}
use Rattle.std.specs.List.{filter}
use Rattle.mq_talk.specs.declared.book.Call.TheVariants.{Close}
use Rattle.mq_talk.specs.declared.book.Reply.TheVariants.{Closed}
use Rattle.mq_book.proofs.Standing.{stands_with, closed, is_remove, fewer}
use Rattle.mq_book.proofs.ledger.Ledger.close.Goals as goal

pub returns : goal.returns
returns c =
    let l = c.args.self.now in
    let e : Entry = record { actor = c.args.actor; call = Close c.args.tunnel; reply = Closed } in
    let m : Ledger = record { setup = l.setup; history = c.push_reserved.new.self; live = c.remove.new.self } in
    let s = c.requires.stands in
    let ts = filter (λ (t : Tunnel). not (c.args.tunnel == t.number)) l.live.items in
    let less = fewer c.args.tunnel l.live.items c.place_of-at.result c.place_of-at.ensures.within c.place_of-at.ensures.there in
    let fits : length l.history.items + 1 + length ts ≤ l.setup.history = omega (arith, less, s.few) in
    let holds : length l.history.items + 1 + length ts ≤ vec_capacity m.history = omega (arith, less, s.room, c.push_reserved.ensures.capacity) in
    record {
      answer = tt;
      history = c.push_reserved.ensures.items;
      setup = refl;
      stands = stands_with l m e ts s (record { may = c.requires.may; answer = tt; written = tt })
          (closed l.history.items e l.live.items c.args.tunnel s.live (record { closes_it = λ u. refl; opens = refl; assigns_none = λ u. refl; accepts_none = λ u. refl }))
          refl c.push_reserved.ensures.items
          (c.remove.ensures.items ∙ sym (is_remove l.history.items c.args.tunnel l.live.items c.place_of-at.result s.live c.place_of-at.ensures.within c.place_of-at.ensures.there))
          fits holds;
    }
