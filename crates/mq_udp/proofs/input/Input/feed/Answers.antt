use Rattle.std.proofs.Common.{ℕ, ◌++◌, ◌∷◌, List, [], Ok, Err, refl, sym, subst, ◌∙◌, ap, append_assoc, append-nil}
use Rattle.std.proofs.lemmas.Result.{err_from_is_err_and}
use Rattle.mq_udp.proofs.Cutting.{cut_here, line_read, regrouped, stays_on}
use Rattle.mq_udp.specs.Input.{IsRead}
use Rattle.mq_udp.proofs.input.Input.feed.Goals as goal

pub loop-end-init : goal.loop-end-init
loop-end-init c = record {
  front = [];
  are = refl;
  read = λ text r.
      let P : List ℕ → Type 0 = λ whole. IsRead c.args.self.now whole in
      subst P (sym (append-nil text)) r;
}

pub returns-in_err-keep : goal.returns-in_err-keep
returns-in_err-keep c = λ text r.
    let inv = c.loop-end.invariant in
    let cut = c.in-Some.ensures in
    let end = c.in-Some.end.now in
    let front = inv.front ++ end in
    let why = c.in_err-keep.field-0.0 in
    let are = inv.are ∙ ap (λ (xs : List ℕ). inv.front ++ xs) cut.is ∙ sym (append_assoc inv.front end (10 ∷ c.in-Some.behind.now)) in
    let told = regrouped text inv.front end front (Err why) c.keep.new.self refl (c.in_err-keep.ensures (text ++ inv.front) cut.first (inv.read text r)) in
    let p = err_from_is_err_and c.from_residual.result c.from_residual.ensures.1 in
    rw (p.1, p.2) (stays_on text front (10 ∷ c.in-Some.behind.now) c.args.bytes.now why c.keep.new.self are told)

pub returns-in_err-end_line : goal.returns-in_err-end_line
returns-in_err-end_line c = λ text r.
    let inv = c.loop-end.invariant in
    let cut = c.in-Some.ensures in
    let end = c.in-Some.end.now in
    let why = c.in_err-end_line.field-0.0 in
    let kept = c.in_ok-keep.ensures (text ++ inv.front) cut.first (inv.read text r) in
    let told = line_read text inv.front end (Err why) c.end_line.new.self (c.in_err-end_line.ensures.reads ((text ++ inv.front) ++ end) kept) in
    let p = err_from_is_err_and c.from_residual-in_err-end_line.result c.from_residual-in_err-end_line.ensures.1 in
    rw (p.1, p.2)
    (stays_on text (inv.front ++ (end ++ 10 ∷ [])) c.in-Some.behind.now c.args.bytes.now why c.end_line.new.self (cut_here _ inv.front _ end c.in-Some.behind.now inv.are cut.is) told)

pub loop-end-preserved : goal.loop-end-preserved
loop-end-preserved c =
    let inv = c.loop-end.invariant in
    let cut = c.in-Some.ensures in
    let end = c.in-Some.end.now in
    record {
      front = inv.front ++ (end ++ 10 ∷ []);
      are = cut_here _ inv.front _ end c.in-Some.behind.now inv.are cut.is;
      read = λ text r.
          let kept = c.in_ok-keep.ensures (text ++ inv.front) cut.first (inv.read text r) in
          line_read text inv.front end (Ok tt) c.end_line.new.self (c.in_ok-end_line.ensures.reads ((text ++ inv.front) ++ end) kept);
    }

pub returns : goal.returns
returns c = λ text r.
    let inv = c.loop-end.invariant in
    regrouped text inv.front c.loop-end.rest.now c.args.bytes.now c.keep-2.result c.keep-2.new.self inv.are (c.keep-2.ensures (text ++ inv.front) c.in_default.ensures (inv.read text r))
