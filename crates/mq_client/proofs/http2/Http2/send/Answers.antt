use Rattle.std.proofs.Common.{◌≡◌, ℕ, List, ◌++◌, length, take, sym, ap, subst, ◌∙◌, arith}
use Rattle.std.proofs.lemmas.List.{length-append, take_at}
use Rattle.mq_capsule.specs.Writing.{capsule_text, datagram}
use Rattle.mq_client.specs.declared.http2.Http2.{Http2}
use Rattle.mq_client.specs.Sending.{waits_more}
use Rattle.mq_client.specs.Talking.{IsHttp2}
use Rattle.mq_client.proofs.Sendings.{phase_waits}
use Rattle.mq_client.proofs.http2.Http2.send.Goals as goal

pub keep-requires : goal.keep-requires
keep-requires c =
    let old = c.args.self.now.parts.waits in
    let capsule : List ℕ = capsule_text (datagram c.args.payload.now) in
    let waits : c.send_on.new.self.parts.waits ≡ old ++ capsule = ap (λ (x : Http2). x.parts.waits) c.in-Err.ensures.err ∙ c.in_ok-put_datagram.ensures.ok in
    omega (arith, ap length waits, length-append old capsule, ap length c.as_slice-before.ensures)

pub returns-in-Err-clause-err : goal.returns-in-Err-clause-err
returns-in-Err-clause-err c = λ s is.
    let two : Http2 = c.args.self.now in
    let old = two.parts.waits in
    let capsule : List ℕ = capsule_text (datagram c.args.payload.now) in
    let same = c.in-Err.ensures.err in
    let waits : c.send_on.new.self.parts.waits ≡ old ++ capsule = ap (λ (x : Http2). x.parts.waits) same ∙ c.in_ok-put_datagram.ensures.ok in
    let kept : c.keep.new.self ≡ old =
    c.keep.ensures ∙ ap (λ (l : List ℕ). take (length c.as_slice-before.result.now) l) waits
    ∙ take_at old capsule (length c.as_slice-before.result.now) (sym (ap length c.as_slice-before.ensures)) in
    let P : Http2 → Type 0 = λ x. IsHttp2 (record x { parts = record x.parts { waits = c.keep.new.self } }) s in
    let Q : List ℕ → Type 0 = λ l. IsHttp2 (record two { parts = record two.parts { waits = l } }) s in
    subst P (sym same) (subst Q (sym kept) is)

pub returns-in-Ok-clause-ok : goal.returns-in-Ok-clause-ok
returns-in-Ok-clause-ok c = λ s is.
    let capsule : List ℕ = capsule_text (datagram c.args.payload.now) in
    c.in-Ok.ensures.ok (record s { session = waits_more capsule s.session }) (phase_waits c.args.self.now.phase c.args.self.now s is c.put_datagram.new.self capsule c.in_ok-put_datagram.ensures.ok)
