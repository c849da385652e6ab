use Rattle.std.proofs.Common.{◌≡◌, Bool, true, false, not, List, length, nat_lt, find, is_some, refl, sym, ap, ◌∙◌}
use Rattle.mq_talk.specs.declared.place.Parcel.{Parcel}
use Rattle.mq_machine.specs.Turn.{Offers, Inbox, can_act}
use Rattle.mq_actor.proofs.Able.{could, quiet_turn, turn_quiet, accepts_is, box_empty}
use Rattle.mq_actor.proofs.Between.{apart_of}
use Rattle.mq_actor.proofs.actor.Actor.is_quiet.Goals as goal

not_true : (b : Bool) → not b ≡ true → b ≡ false
not_true true is = absurd cc
not_true false is = refl

pub returns-then-not-inbox_is_empty : goal.returns-then-not-inbox_is_empty
returns-then-not-inbox_is_empty g c = λ w x tells box empty. (
  (λ is. absurd cc),
  λ none.
      let a = c.args.self.now in
      let quiet = turn_quiet w box (apart_of g.P.P.Port.most a.table.table a.ring w x) none in
      let both : true ≡ false = sym (empty.0 (box_empty box quiet.1)) ∙ c.if-not-inbox_is_empty.true in
      absurd cc,
)

pub returns-then-could_accept : goal.returns-then-could_accept
returns-then-could_accept g c = λ w x tells box empty. (
  (λ is. absurd cc),
  λ none.
      let a = c.args.self.now in
      let quiet = turn_quiet w box (apart_of g.P.P.Port.most a.table.table a.ring w x) none in
      let both : true ≡ false = sym c.if-could_accept.true ∙ c.could_accept.ensures ∙ accepts_is g.P.P.Port.most a.table.table a.ring w box x ∙ quiet.0 in
      absurd cc,
)

pub returns : goal.returns
returns g c = λ w x tells box empty.
    let a = c.args.self.now in
    let apart = apart_of g.P.P.Port.most a.table.table a.ring w x in
    let offers : can_act w box Offers ≡ false =
    sym (accepts_is g.P.P.Port.most a.table.table a.ring w box x) ∙ sym c.could_accept.ensures ∙ c.if-could_accept.false in
    let inbox : can_act w box Inbox ≡ false = ap {B = Bool} (λ (b : List Parcel). nat_lt 0 (length b)) (empty.1 c.if-not-inbox_is_empty.false) in
    let pass : c.could_pass.result ≡ is_some (find could w.conns) = c.could_pass.ensures w.conns x.conns tells.conns in (
      (λ is. quiet_turn w box apart offers inbox (sym pass ∙ not_true c.could_pass.result is)),
      λ none. ap (λ (b : Bool). not b) (pass ∙ (turn_quiet w box apart none).2),
    )
