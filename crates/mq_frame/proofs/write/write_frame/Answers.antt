use Rattle.std.proofs.Common.{◌≡◌, ℕ, ◌*◌, ◌++◌, List, length, ◌∙◌, sym, ap, arith}
use Rattle.std.specs.List.{flat_map}
use Rattle.std.proofs.lemmas.Result.{on_ok_weaker}
use Rattle.mq_frame.specs.declared.kind.Kind.TheVariants as kinds
use Rattle.mq_frame.specs.declared.frame.Setting.{Setting}
use Rattle.mq_frame.specs.declared.frame.Frame.{Frame}
use Rattle.mq_frame.specs.declared.frame.Frame.TheVariants.{Settings}
use Rattle.mq_frame.specs.Header.{header_text}
use Rattle.mq_frame.specs.Writing.{pair_text, spelling_of}
use Rattle.mq_frame.proofs.Writing.{settings_text, spelling_len}
use Rattle.mq_frame.proofs.write.write_frame.Goals as goal

pub returns-in-Settings-clause-ok : goal.returns-in-Settings-clause-ok
returns-in-Settings-clause-ok c =
    let text : header_text (6 * length c.as_slice-in-Settings.result.now) kinds.Settings c.flag-in-Settings.result 0 ++ flat_map pair_text c.as_slice-in-Settings.result.now
    ≡ spelling_of c.args.frame.now =
    ap (λ (p : List Setting). header_text (6 * length p) kinds.Settings c.flag-in-Settings.result 0 ++ flat_map pair_text p) c.as_slice-in-Settings.ensures
    ∙ ap (λ (f : ℕ). header_text (6 * length c.in-Settings.pairs) kinds.Settings f 0 ++ flat_map pair_text c.in-Settings.pairs) c.flag-in-Settings.ensures
    ∙ settings_text c.in-Settings.ack c.in-Settings.pairs ∙ ap spelling_of (sym c.in-Settings.is) in
    on_ok_weaker c.put_settings.result (λ e. e ∙ ap (λ (s : List ℕ). c.args.out.now.items ++ s) text) c.put_settings.ensures.ok

pub returns-in-Settings-clause-succeeds : goal.returns-in-Settings-clause-succeeds
returns-in-Settings-clause-succeeds c = λ room.
    let len = ap (λ (f : Frame). length (spelling_of f)) c.in-Settings.is ∙ spelling_len (Settings c.in-Settings.ack c.in-Settings.pairs) in
    let same = ap length c.as_slice-in-Settings.ensures in
    c.put_settings.ensures.succeeds (omega (arith, room, len, same))
