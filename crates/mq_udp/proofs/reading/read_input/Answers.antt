use Rattle.std.proofs.Common.{◌++◌, ℕ, Bool, List, [], Ok, refl, subst, ◌∙◌}
use Rattle.std.proofs.lemmas.Result.{err_from_is_err_and}
use Rattle.std.specs.Global.{Vec}
use Rattle.mq_udp.proofs.Sourced.{gives_more, gives_none, unread_all, unread_counts}
use Rattle.mq_udp.specs.Inputs.{ReadsMore}
use Rattle.mq_udp.proofs.reading.read_input.Goals as goal

pub returns-in_default-clause-reads : goal.returns-in_default-clause-reads
returns-in_default-clause-reads g c = ([], gives_none _ _ refl, tt)

pub loop-turn-init : goal.loop-turn-init
loop-turn-init g c = record { text = []; gave = gives_none _ _ refl; read = c.new-input.ensures; counts = refl }

pub returns-in_err-read_more-clause-reads : goal.returns-in_err-read_more-clause-reads
returns-in_err-read_more-clause-reads g c =
    let inv = c.loop-turn.invariant in
    let r = c.in_err-read_more.ensures.reads in
    let p = err_from_is_err_and c.from_residual.result c.from_residual.ensures.1 in
    rw (p.1, p.2) (
      inv.text ++ r.0,
      gives_more _ _ _ inv.text r.0 inv.gave r.1,
      unread_all (inv.text ++ r.0) _ c.in_err-read_more.field-0.0 c.read_more.new.input (r.2 inv.text inv.read),
    )

pub returns-in_err-read_more-clause-counts : goal.returns-in_err-read_more-clause-counts
returns-in_err-read_more-clause-counts g c =
    let p = err_from_is_err_and c.from_residual.result c.from_residual.ensures.1 in
    rw (p.1, p.2) (unread_counts Bool (Vec (List ℕ)) _ _ _ c.in_err-read_more.field-0.0 c.loop-turn.invariant.counts c.in_err-read_more.ensures.counts)

pub returns-then-branch-clause-reads : goal.returns-then-branch-clause-reads
returns-then-branch-clause-reads g c =
    let inv = c.loop-turn.invariant in
    let r = c.in_ok-read_more.ensures.reads in
    let text = inv.text ++ r.0 in
    let P : Bool → Type 0 = λ over. ReadsMore text (g.S.Source.left c.read_more.new.source) (Ok over) c.read_more.new.input in
    (text, gives_more _ _ _ inv.text r.0 inv.gave r.1, subst P c.if-branch.true (r.2 inv.text inv.read))

pub loop-turn-preserved : goal.loop-turn-preserved
loop-turn-preserved g c =
    let inv = c.loop-turn.invariant in
    let r = c.in_ok-read_more.ensures.reads in
    let text = inv.text ++ r.0 in
    let P : Bool → Type 0 = λ over. ReadsMore text (g.S.Source.left c.read_more.new.source) (Ok over) c.read_more.new.input in
    record {
      text = text;
      gave = gives_more _ _ _ inv.text r.0 inv.gave r.1;
      read = subst P c.if-branch.false (r.2 inv.text inv.read);
      counts = c.in_ok-read_more.ensures.counts ∙ inv.counts;
    }

pub returns-clause-reads : goal.returns-clause-reads
returns-clause-reads g c = let inv = c.loop-turn.invariant in (inv.text, inv.gave, tt)
