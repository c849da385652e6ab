use Rattle.std.proofs.Common.{◌≡◌, ℕ, ◌++◌, List, length, sym, ap, ◌∙◌, subst, arith}
use Rattle.std.proofs.lemmas.Grind.{common_steps}
use Rattle.mq_replay.proofs.Reading.{no_bytes}
use Rattle.mq_replay.specs.Listening.{MayBeAny}
use Rattle.mq_replay.specs.Playing.{LineTo}
use Rattle.mq_replay.proofs.session.play_whole.Goals as goal

pub returns-then-is_empty-clause-line : goal.returns-then-is_empty-clause-line
returns-then-is_empty-clause-line g c =
    let told = c.play_line.ensures.line in
    let end = c.args.end.now in
    let zero : length c.args.begun.now.items ≡ 0 = grind (arith, common_steps) in (
      told.0,
      told.1,
      λ s stands.
          let P : List ℕ → Type 0 = λ line. LineTo MayBeAny s line told.0 c.play_line.result c.play_line.new.stage in
          subst P (sym (ap (λ (xs : List ℕ). xs ++ end) (no_bytes c.args.begun.now.items zero))) (told.2 s stands),
    )

pub returns-clause-line : goal.returns-clause-line
returns-clause-line g c =
    let told = c.play_line-2.ensures.line in
    let all : c.extend_from_slice.new.self.items ≡ c.args.begun.now.items ++ c.args.end.now = grind (arith, common_steps) in (
      told.0,
      told.1,
      λ s stands.
          let P : List ℕ → Type 0 = λ line. LineTo MayBeAny s line told.0 c.play_line-2.result c.play_line-2.new.stage in
          subst P (c.as_slice.ensures.value ∙ all) (told.2 s stands),
    )
