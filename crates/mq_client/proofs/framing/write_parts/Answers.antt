use Rattle.std.proofs.Common.{◌≡◌, ℕ, suc, false, ◌-◌, ◌<◌, List, [], ◌++◌, length, take, drop, sym, ap, ◌∙◌, arith, append_assoc}
use Rattle.std.proofs.lemmas.Bool.{eqb-true, eqb-false}
use Rattle.std.proofs.lemmas.List.{take_min, drop_min, length-drop}
use Rattle.mq_frame.specs.declared.frame.Frame.TheVariants.{Content}
use Rattle.mq_frame.specs.Writing.{spelling_of}
use Rattle.mq_client.proofs.Framed.{framed_all, framed_on}
use Rattle.mq_client.proofs.framing.write_parts.Goals as goal

pub returns-then-is_empty-clause-ok : goal.returns-then-is_empty-clause-ok
returns-then-is_empty-clause-ok c =
    let inv = c.loop.invariant in
    framed_all inv.0 c.loop.out.items c.loop.rest.now _ (omega (arith, eqb-true (length c.loop.rest.now) 0 (sym c.if-is_empty.ensures))) inv.3

pub loop-preserved : goal.loop-preserved
loop-preserved c =
    let inv = c.loop.invariant in
    let rest = c.loop.rest.now in
    let some : 0 < length rest = omega (arith, eqb-false (length rest) 0 (sym c.if-is_empty.ensures)) in
    let front : c.split_at.result.0.now ≡ take 16384 rest = c.split_at.ensures.front ∙ ap (λ (n : ℕ). take n rest) c.min.ensures ∙ take_min 16384 rest in
    let back : c.split_at.result.1.now ≡ drop 16384 rest = c.split_at.ensures.back ∙ ap (λ (n : ℕ). drop n rest) c.min.ensures ∙ drop_min 16384 rest in
    let more : inv.0 ≡ suc (inv.0 - 1) = omega (arith, some, inv.2) in
    let bytes : List ℕ = c.split_at.result.0.now ++ [] in
    let text : List ℕ = spelling_of (Content 1 bytes (length bytes) false) in
    let wrote = c.in_ok-write_data.ensures.ok in (
      inv.0 - 1,
      omega (arith, some, inv.1, inv.2),
      omega (arith, some, inv.2, ap length back, length-drop 16384 rest),
      framed_on inv.0 (inv.0 - 1) c.loop.out.items rest _ c.split_at.result.0.now c.split_at.result.1.now c.write_data.new.out.items more some front back wrote inv.3,
      inv.4 ++ text,
      wrote ∙ ap (λ (l : List ℕ). l ++ text) inv.5 ∙ append_assoc c.args.out.now.items inv.4 text,
    )

pub returns-clause-ok : goal.returns-clause-ok
returns-clause-ok c =
    let inv = c.loop.invariant in
    framed_all inv.0 c.loop.out.items c.loop.rest.now _ (omega (arith, inv.1, inv.2, c.loop-test.false)) inv.3
