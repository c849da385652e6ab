use Rattle.std.proofs.Common.{◌≡◌, Some, List, slice_get, sym, ap, ◌∙◌}
use Rattle.std.proofs.lemmas.Option.{get_or_from_slice_get}
use Rattle.mq_machine.specs.State.{kind_of}
use Rattle.mq_conn.specs.declared.conn.Tunnel.{Tunnel}
use Rattle.mq_conn.proofs.Places.{past_end}
use Rattle.mq_conn.proofs.conn.Conn.is_for_ip.Goals as goal

pub returns-in_default : goal.returns-in_default
returns-in_default c = λ t at.
    (let items : slice_get c.deref.result.now c.args.place ≡ Some t = ap (λ (ts : List Tunnel). slice_get ts c.args.place) c.deref.ensures.value ∙ at in
    absurd (past_end c.deref.result.now c.args.place t c.in_default.ensures.lookup.3 items))

pub returns-in-Udp : goal.returns-in-Udp
returns-in-Udp c = λ t at.
    (let items : slice_get c.deref.result.now c.args.place ≡ Some t = ap (λ (ts : List Tunnel). slice_get ts c.args.place) c.deref.ensures.value ∙ at in
    let read : c.in-Some.tunnel.now ≡ t = c.in-Some.ensures.lookup.1 ∙ get_or_from_slice_get c.deref.result.now c.args.place t c.in-Some.tunnel.now items in
    ap (λ (u : Tunnel). kind_of u.goal) (sym read) ∙ sym c.kind_of.ensures ∙ c.in-Udp.is)

pub returns-in-Ip : goal.returns-in-Ip
returns-in-Ip c = λ t at.
    (let items : slice_get c.deref.result.now c.args.place ≡ Some t = ap (λ (ts : List Tunnel). slice_get ts c.args.place) c.deref.ensures.value ∙ at in
    let read : c.in-Some.tunnel.now ≡ t = c.in-Some.ensures.lookup.1 ∙ get_or_from_slice_get c.deref.result.now c.args.place t c.in-Some.tunnel.now items in
    ap (λ (u : Tunnel). kind_of u.goal) (sym read) ∙ sym c.kind_of.ensures ∙ c.in-Ip.is)
