use Rattle.std.proofs.Common.{ℕ, List, [], length, refl, sym, ap, subst, arith}
use Rattle.mq_play.specs.Play.{opening}
use Rattle.mq_replay.specs.Reading.{IsScript}
use Rattle.mq_replay.proofs.session.Session.new.Goals as goal

pub returns : goal.returns
returns c =
    let none = c.new-2.ensures.items in
    let Q : List ℕ → Type 0 = λ begun. IsScript [] [] begun in
    record {
      state = opening;
      fates = [];
      plays = (refl, refl);
      stands = c.new.ensures;
      number = refl;
      script_is = subst Q (sym none) (record { is = refl; lines_are = tt; begun_is = tt });
      count = refl;
      fits = omega arith;
      begun_fits = omega (arith, ap length none);
    }
