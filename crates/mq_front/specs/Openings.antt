-- What the code's word for the first bytes of a connection stands for.
use Rattle.std.specs.Prelude.{◌≡◌, ℕ, ◌<◌, List, take, ◌++◌}
use Rattle.mq_machine.specs.Reading as machine
use Rattle.mq_machine.specs.Reading.{opening_of, preface}
use Rattle.mq_front.specs.declared.opening.Opening.{Opening}
use Rattle.mq_front.specs.declared.opening.Opening.TheVariants.{Part, Whole, Other}

-- a piece behind so many bytes of the preface
abbrev pub Opens : ℕ → List ℕ → Opening → Type 0
Opens count piece (Part more) = (opening_of (take count preface ++ piece) ≡ machine.Part) × (more < 24) × (take count preface ++ piece ≡ take more preface)
Opens count piece (Whole frames) = opening_of (take count preface ++ piece) ≡ machine.Whole frames.now
Opens count piece Other = opening_of (take count preface ++ piece) ≡ machine.Other
