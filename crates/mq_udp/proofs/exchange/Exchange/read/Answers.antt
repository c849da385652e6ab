use Rattle.std.proofs.Common.{◌≡◌, ℕ, List, [], refl, sym, ap, subst, ◌∙◌}
use Rattle.std.proofs.lemmas.Result.{err_from_is_err_and}
use Rattle.mq_outside.specs.Counts.{LinkCounts}
use Rattle.mq_outside.specs.Links.{LinkPast, after_read}
use Rattle.mq_outside.specs.declared.LinkGot.TheVariants as got
use Rattle.mq_output.specs.Joined.{takes_none}
use Rattle.mq_udp.proofs.Ending.{ends_early, ends_failed, gave_more, gave_none, marked_ended, other_counts}
use Rattle.mq_udp.proofs.Going.{stays_at}
use Rattle.mq_udp.specs.declared.exchange.Exchange.{Exchange}
use Rattle.mq_udp.specs.declared.exchange.Round.{Round}
use Rattle.mq_udp.specs.Exchanges.{IsFed}
use Rattle.mq_udp.specs.Talks.{HasEnded}
use Rattle.mq_udp.proofs.exchange.Exchange.read.Goals as goal

pub returns-in_err-take-in-Bytes-clause-takes : goal.returns-in_err-take-in-Bytes-clause-takes
returns-in_err-take-in-Bytes-clause-takes g c =
    let t = c.in_err-take-in-Bytes.ensures.takes in
    let x = c.args.self.now in
    let link = c.read.new.self in
    let buffer = c.read.new.into in
    let p = err_from_is_err_and c.from_residual.result c.from_residual.ensures.1 in
    rw (p.1, p.2) (
      t.0,
      t.1,
      λ ask moves s at not.
          let y : Exchange g.row.L.Denot = record x { link = link } in
          let P : List ℕ → Type 0 = λ piece. IsFed g.L.Link.past g.L.Link.counts ask y moves s piece in
          t.2 ask moves s (subst P (sym c.split_at.ensures.front) (gave_more g.L.Link.past g.L.Link.counts ask x link moves s buffer c.in-Bytes.count at c.in-Bytes.ensures.past c.in-Bytes.ensures.counts)),
    )

pub returns-in_err-take-in-Bytes-clause-counts : goal.returns-in_err-take-in-Bytes-clause-counts
returns-in_err-take-in-Bytes-clause-counts g c =
    let p = err_from_is_err_and c.from_residual.result c.from_residual.ensures.1 in
    rw (p.1, p.2) (other_counts (Unit {0}) Round _ _ c.in_err-take-in-Bytes.field-0.0 c.in_err-take-in-Bytes.ensures.counts)

pub returns-in_ok-take-in-Bytes-clause-takes : goal.returns-in_ok-take-in-Bytes-clause-takes
returns-in_ok-take-in-Bytes-clause-takes g c =
    let t = c.in_ok-take-in-Bytes.ensures.takes in
    let x = c.args.self.now in
    let link = c.read.new.self in
    let buffer = c.read.new.into in (
      t.0,
      t.1,
      λ ask moves s at not.
          let y : Exchange g.row.L.Denot = record x { link = link } in
          let P : List ℕ → Type 0 = λ piece. IsFed g.L.Link.past g.L.Link.counts ask y moves s piece in
          t.2 ask moves s (subst P (sym c.split_at.ensures.front) (gave_more g.L.Link.past g.L.Link.counts ask x link moves s buffer c.in-Bytes.count at c.in-Bytes.ensures.past c.in-Bytes.ensures.counts)),
    )

pub returns-in-NotNow-clause-takes : goal.returns-in-NotNow-clause-takes
returns-in-NotNow-clause-takes g c = (
  [],
  takes_none _ _ _ refl,
  λ ask moves s at not.
      let x = c.args.self.now in
      let link = c.read.new.self in
      let past = c.in-NotNow.ensures.past in
      let same : (g.L.Link.counts link).faults ≡ (g.L.Link.counts x.link).faults = ap (λ (n : LinkCounts). n.faults) c.in-NotNow.ensures.counts in
      stays_at g.L.Link.past g.L.Link.counts ask _ moves s
      (gave_none g.L.Link.past g.L.Link.counts ask x link moves s at (ap (λ (p : LinkPast). p.gave) past) (ap (λ (p : LinkPast). p.took) past) same),
)

pub returns-in-End-clause-takes : goal.returns-in-End-clause-takes
returns-in-End-clause-takes g c = (
  [],
  takes_none _ _ _ refl,
  λ ask moves s at not.
      let x = c.args.self.now in
      let link = c.read.new.self in
      let y : Exchange g.row.L.Denot = record x { link = link } in
      let past = c.in-End.ensures.past in
      let same : (g.L.Link.counts link).faults ≡ (g.L.Link.counts x.link).faults = ap (λ (n : LinkCounts). n.faults) c.in-End.ensures.counts in
      let over = subst HasEnded (sym (ap (λ (p : LinkPast). p.answered_end) past)) (marked_ended (g.L.Link.past x.link).answered_end) in
      ends_early g.L.Link.past g.L.Link.counts ask y moves s
      (gave_none g.L.Link.past g.L.Link.counts ask x link moves s at (ap (λ (p : LinkPast). p.gave) past) (ap (λ (p : LinkPast). p.took) past) same) not over,
)

pub returns-in-Failed-clause-takes : goal.returns-in-Failed-clause-takes
returns-in-Failed-clause-takes g c = (
  [],
  takes_none _ _ _ refl,
  λ ask moves s at not.
      let x = c.args.self.now in
      let link = c.read.new.self in
      let faults : (g.L.Link.counts link).faults ≡ 1 =
      ap (λ (n : LinkCounts). n.faults) c.in-Failed.ensures.counts ∙ ap (λ (n : ℕ). (after_read (record { read_waits = 0; write_waits = 0; faults = n }) got.Failed).faults) at.works in
      ends_failed g.L.Link.past g.L.Link.counts ask x link moves s at c.in-Failed.ensures.past faults,
)
