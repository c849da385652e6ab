use Rattle.std.proofs.Common.{[], length, ap, sym, refl, arith}
use Rattle.mq_frame.specs.declared.place.Place.TheVariants.{First}
use Rattle.mq_frame.proofs.Fronts.{front_short}
use Rattle.mq_frame.proofs.reader.FrameReader.new.Goals as goal

pub returns : goal.returns
returns c = ([], record { rest = []; are = (front_short First [] (omega arith), refl, refl); holds = λ _. (sym c.new.ensures, omega arith); bounded = omega (arith, ap length c.new.ensures) })
