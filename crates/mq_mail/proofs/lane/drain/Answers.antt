use Rattle.std.proofs.Common.{◌≡◌, ◌+◌, List, [], ◌∷◌, ◌++◌, length, sym, ap, ◌∙◌, append_assoc, length-append, arith}
use Rattle.mq_mail.specs.declared.lane_rule.Hand.{Hand}
use Rattle.mq_mail.proofs.LaneMoves.{learns_whole, drains}
use Rattle.mq_mail.proofs.lane.drain.Goals as goal

-- the length of what is left, by two ways to say what was put
shorter : {T : Type 0} (put taken left other : List T) → put ≡ taken ++ left → put ≡ taken ++ other → length left ≡ length other
shorter put taken left other a b = omega (arith, length-append taken left, length-append taken other, ap length a, ap length b)

taken_more : {T : Type 0} (before rest old new after : List T) (x : T) → old ≡ before ++ rest → new ≡ old ++ x ∷ [] → after ≡ rest ++ x ∷ [] → new ≡ before ++ after
taken_more {T} before rest old new after x was is more = is ∙ ap (λ (l : List T). l ++ x ∷ []) was ∙ append_assoc before rest (x ∷ []) ∙ ap (λ (l : List T). before ++ l) (sym more)

one_less : {T : Type 0} (put old new rest : List T) (x : T) → put ≡ old ++ (x ∷ rest) → new ≡ old ++ x ∷ [] → put ≡ new ++ rest
one_less {T} put old new rest x whole is = whole ∙ sym (append_assoc old (x ∷ []) rest) ∙ ap (λ (l : List T). l ++ rest) (sym is)

pub len_as-waiting-requires-clause-rule : goal.len_as-waiting-requires-clause-rule
len_as-waiting-requires-clause-rule g c = learns_whole _ _ c.requires.parts.0 c.requires.parts.1

pub pop_as-requires-clause-rule : goal.pop_as-requires-clause-rule
pop_as-requires-clause-rule g c = (drains _ _ c.loop.invariant.puts c.loop.invariant.takes, learns_whole _ _ c.loop.invariant.puts c.loop.invariant.takes)

pub unreachable-requires : goal.unreachable-requires
unreachable-requires g c =
    let i = c.loop.invariant in
    let held = c.in-None.ensures.rule.1 in
    let same = shorter _ _ i.left held.0 i.whole held.2 in
    let none : length held.0 ≡ 0 = held.1 in
    omega (arith, same, none, i.size)

pub loop-preserved : goal.loop-preserved
loop-preserved g c =
    let i = c.loop.invariant in
    let x = c.in-Some.item in
    let queue = c.in-Some.ensures.queue in
    let step = c.in-Some.ensures.rule in
    let rest : List g.row.T.Denot = step.1.0 in
    let taken = ap (λ (v : Hand g.row.T.Denot). v.taken) step.0 in
    let same = shorter _ _ i.left (x ∷ rest) i.whole step.1.1 in
    record {
      line = (queue.0 ∙ i.line.0, queue.2 ∙ i.line.1);
      puts = ap (λ (v : Hand g.row.T.Denot). v.puts) step.0 ∙ i.puts;
      takes = ap (λ (v : Hand g.row.T.Denot). v.takes) step.0 ∙ i.takes;
      put = ap (λ (v : Hand g.row.T.Denot). v.put) step.0 ∙ i.put;
      taken = taken_more _ _ _ _ _ x i.taken taken c.push_reserved.ensures.items;
      left = rest;
      whole = ap (λ (v : Hand g.row.T.Denot). v.put) step.0 ∙ one_less _ _ _ rest x step.1.1 taken;
      size = omega (arith, same, i.size);
      count = c.push_reserved.ensures.len ∙ ap (λ n. n + 1) i.count;
      room = omega (arith, i.room, c.push_reserved.ensures.capacity);
    }
