use Rattle.std.proofs.Common.{List, slice_get, ◌∙◌, sym, ap}
use Rattle.std.proofs.lemmas.Bool.{MatchBool-at_true, MatchBool-at_false}
use Rattle.mq_conn.specs.declared.conn.Tunnel.{Tunnel}
use Rattle.mq_conn.proofs.Wanting.{ends_close, ends_with, nothing_at}
use Rattle.mq_conn.proofs.conn.Conn.want_ending.Goals as goal

pub returns-in-Some : goal.returns-in-Some
returns-in-Some c = λ s stands is. record {
  is = ends_close c.args.self.now c.args.why c.in-Some.tunnel.now is (ap (λ (ts : List Tunnel). slice_get ts 0) (sym c.deref.ensures.value) ∙ sym c.in-Some.ensures.value) s stands;
  pushes = tt;
  may = tt;
}

pub returns-then-is_over : goal.returns-then-is_over
returns-then-is_over c = λ s stands is.
    (let none = nothing_at c.args.self.now.tunnels.items (ap (λ (ts : List Tunnel). slice_get ts 0) (sym c.deref.ensures.value) ∙ sym c.in-None.ensures.value) in record {
      is = ends_with c.args.self.now c.args.why is none s stands ∙ MatchBool-at_true _ _ c.if-is_over.true (c.is_over.ensures s stands);
      pushes = tt;
      may = tt;
    })

pub returns-else-is_over : goal.returns-else-is_over
returns-else-is_over c = λ s stands is.
    (let none = nothing_at c.args.self.now.tunnels.items (ap (λ (ts : List Tunnel). slice_get ts 0) (sym c.deref.ensures.value) ∙ sym c.in-None.ensures.value) in record {
      is = ends_with c.args.self.now c.args.why is none s stands ∙ MatchBool-at_false _ _ c.if-is_over.false (c.is_over.ensures s stands);
      pushes = tt;
      may = tt;
    })
