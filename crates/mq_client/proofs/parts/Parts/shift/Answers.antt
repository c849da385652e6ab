use Rattle.std.proofs.Common.{◌≡◌, Bool, true, false, List, ◌∷◌, drop, get_or, sym, ap, subst, ◌∙◌, add-one, cond, suc}
use Rattle.std.proofs.Math.Seq.{drop-cons}
use Rattle.mq_frame.specs.declared.frame.Setting.{Setting}
use Rattle.mq_streams.specs.History.{History}
use Rattle.mq_client.specs.Session.{with_history}
use Rattle.mq_client.specs.Settling.{shift_of, shifts}
use Rattle.mq_client.specs.Talking.{Goes}
use Rattle.mq_client.proofs.parts.Parts.shift.Goals as goal

-- the next setting holds, or none behind it
goes_on : (p : Setting) (ps : List Setting) (h : History) → (shift_of p h).1 ≡ true → shifts (p ∷ ps) h ≡ shifts ps (shift_of p h).0
goes_on p ps h e = ap (λ (b : Bool). cond b (shifts ps (shift_of p h).0) (shift_of p h)) e

stops : (p : Setting) (ps : List Setting) (h : History) → (shift_of p h).1 ≡ false → shifts (p ∷ ps) h ≡ shift_of p h
stops p ps h e = ap (λ (b : Bool). cond b (shifts ps (shift_of p h).0) (shift_of p h)) e

pub returns-then-not-shift_by : goal.returns-then-not-shift_by
returns-then-not-shift_by c = λ s goes.
    let pairs = c.args.pairs.now in
    let at = c.loop-pair.pair-index in
    let p : Setting = get_or pairs at (record { id = 0; value = 0 }) in
    let far = c.loop-pair.invariant s goes in
    let h = far.0 in
    let done = c.shift_by.ensures (with_history h s) far.2 in
    let bad : (shift_of p h).1 ≡ false = sym done.0 ∙ c.if-not-shift_by.true in
    let all : shifts pairs s.history ≡ shift_of p h =
    far.1 ∙ ap (λ (ps : List Setting). shifts ps h) (drop-cons pairs at (record { id = 0; value = 0 }) c.loop-pair-test.true) ∙ stops p (drop (suc at) pairs) h bad in
    let P : History × Bool → Type 0 = λ x. (false ≡ x.1) × Goes c.shift_by.new.self (with_history x.0 s) in
    subst P (sym all) (sym bad, done.1)

pub loop-pair-preserved : goal.loop-pair-preserved
loop-pair-preserved c = λ s goes.
    let pairs = c.args.pairs.now in
    let at = c.loop-pair.pair-index in
    let p : Setting = get_or pairs at (record { id = 0; value = 0 }) in
    let far = c.loop-pair.invariant s goes in
    let h = far.0 in
    let done = c.shift_by.ensures (with_history h s) far.2 in
    let good : (shift_of p h).1 ≡ true = sym done.0 ∙ c.if-not-shift_by.false in
    let all : shifts pairs s.history ≡ shifts (drop (suc at) pairs) (shift_of p h).0 =
    far.1 ∙ ap (λ (ps : List Setting). shifts ps h) (drop-cons pairs at (record { id = 0; value = 0 }) c.loop-pair-test.true) ∙ goes_on p (drop (suc at) pairs) h good in
    ((shift_of p h).0, rw add-one all, done.1)
