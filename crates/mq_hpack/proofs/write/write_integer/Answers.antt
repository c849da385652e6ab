use Rattle.std.proofs.Common.{ℕ, ◌+◌, ◌-◌, ◌*◌, ◌%◌, ◌^◌, ◌<◌, ◌≤◌, [], ◌∷◌, ◌++◌, sym, ◌∙◌, ap, subst, arith}
use Rattle.std.proofs.lemmas.Nat.{one_shl}
use Rattle.std.proofs.lemmas.List.{append_assoc}
use Rattle.mq_hpack.specs.Encoder.{sevens}
use Rattle.mq_hpack.proofs.Spelling.{spelled_short, spelled_long, last_seven, one_more}
use Rattle.mq_hpack.proofs.write.write_integer.Goals as goal

pub returns-then-number-full : goal.returns-then-number-full
returns-then-number-full c =
    let one = one_shl c.args.prefix 64 (omega (arith, c.requires.prefix.1)) in
    let short : c.args.number < 2 ^ c.args.prefix - 1 = subst (λ (n : ℕ). c.args.number < n - 1) one c.if-number-full.true in
    c.in_ok-push.ensures.items ∙ ap (λ xs. c.args.out.now.items ++ xs) (sym (spelled_short c.args.form c.args.prefix c.args.number short))

pub loop-left-init : goal.loop-left-init
loop-left-init c =
    let full : ℕ = 1 * 2 ^ c.args.prefix % 2 ^ 64 - 1 in
    record {
      steps = c.args.number;
      enough = omega arith;
      written = ap (λ xs. xs ++ sevens c.args.number (c.args.number - full)) c.in_ok-push-2.ensures.items
          ∙ append_assoc c.args.out.now.items ((c.args.form + full) ∷ []) (sevens c.args.number (c.args.number - full));
    }

pub loop-left-preserved : goal.loop-left-preserved
loop-left-preserved c =
    let inv = c.loop-left.invariant in
    let more = one_more inv.steps c.loop-left.left c.loop-left.out.items c.push-in-loop-left.new.self.items _ c.loop-left-test.true inv.enough
    c.in_ok-push-3.ensures.items inv.written in
    record { steps = more.fewer; enough = more.enough; written = more.written }

pub returns : goal.returns
returns c =
    let inv = c.loop-left.invariant in
    let one = one_shl c.args.prefix 64 (omega (arith, c.requires.prefix.1)) in
    let test = c.loop-left-test.false in
    let long : 2 ^ c.args.prefix - 1 ≤ c.args.number = subst (λ (n : ℕ). n - 1 ≤ c.args.number) one c.if-number-full.false in
    c.in_ok-push-4.ensures.items
    ∙ ap (λ xs. c.loop-left.out.items ++ xs) (sym (last_seven inv.steps c.loop-left.left inv.enough (omega arith)))
    ∙ inv.written
    ∙ ap (λ (n : ℕ). c.args.out.now.items ++ (c.args.form + (n - 1)) ∷ sevens c.args.number (c.args.number - (n - 1))) one
    ∙ ap (λ xs. c.args.out.now.items ++ xs) (sym (spelled_long c.args.form c.args.prefix c.args.number long))
