use Rattle.std.proofs.Common.{◌≡◌, ◌==◌, ◌∷◌, ℕ, Bool, List, Option, Some, cond, drop, suc, sym, ap, ◌∙◌, subst, add-one, eq-eqb, ne_eqb, true, false}
use Rattle.std.specs.Prelude.{find}
use Rattle.std.proofs.Math.Seq.{drop-cons}
use Rattle.mq_machine.specs.State as machine
use Rattle.mq_conn.specs.declared.conn.Tunnel.{Tunnel}
use Rattle.mq_conn.specs.Conns.{tunnel_is, tunnels_of}
use Rattle.mq_conn.proofs.Standing.{nothing_left}
use Rattle.mq_conn.proofs.conn.Conn.on.Goals as goal

-- that of a stream
abbrev on_stream : ℕ → List Tunnel → Option machine.Tunnel
on_stream id ts = find (λ (t : machine.Tunnel). t.stream == id) (tunnels_of ts)

-- the next is of it, or isn't
next_is : (id : ℕ) (ts more : List Tunnel) (t : Tunnel) (b : Bool) → ts ≡ t ∷ more → (t.stream == id) ≡ b → on_stream id ts ≡ cond b (Some (tunnel_is t)) (on_stream id more)
next_is id ts more t b is test = ap (λ (us : List Tunnel). on_stream id us) is ∙ ap (λ (x : Bool). cond x (Some (tunnel_is t)) (on_stream id more)) test

pub returns-then-tunnel-stream : goal.returns-then-tunnel-stream
returns-then-tunnel-stream c =
    let items = c.deref-tunnel-items.result.now in
    let at = c.loop-tunnel.tunnel-index in
    let t = c.tunnel-item.result in
    let here : drop at items ≡ t ∷ drop (suc at) items = drop-cons items at t c.loop-tunnel-test.true ∙ ap (λ (x : Tunnel). x ∷ drop (suc at) items) (sym c.tunnel-item.is) in
    ap (λ (ts : List Tunnel). on_stream c.args.stream ts) (sym c.deref-tunnel-items.ensures.value) ∙ c.loop-tunnel.invariant ∙ next_is c.args.stream (drop at items) (drop (suc at) items) t true here (eq-eqb t.stream c.args.stream c.if-tunnel-stream.true)

pub loop-tunnel-preserved : goal.loop-tunnel-preserved
loop-tunnel-preserved c =
    let items = c.deref-tunnel-items.result.now in
    let at = c.loop-tunnel.tunnel-index in
    let t = c.tunnel-item.result in
    let here : drop at items ≡ t ∷ drop (suc at) items = drop-cons items at t c.loop-tunnel-test.true ∙ ap (λ (x : Tunnel). x ∷ drop (suc at) items) (sym c.tunnel-item.is) in
    let P : ℕ → Type 0 = λ k. on_stream c.args.stream items ≡ on_stream c.args.stream (drop k items) in
    subst P (sym (add-one at)) (c.loop-tunnel.invariant ∙ next_is c.args.stream (drop at items) (drop (suc at) items) t false here (ne_eqb t.stream c.args.stream c.if-tunnel-stream.false))

pub returns : goal.returns
returns c =
    let items = c.deref-tunnel-items.result.now in
    let at = c.loop-tunnel.tunnel-index in
    ap (λ (ts : List Tunnel). on_stream c.args.stream ts) (sym c.deref-tunnel-items.ensures.value) ∙ c.loop-tunnel.invariant
    ∙ ap (λ (ts : List Tunnel). on_stream c.args.stream ts) (nothing_left at items c.loop-tunnel-test.false)
