use Rattle.std.proofs.Common.{ℕ, List, Ok, Err}
use Rattle.std.proofs.lemmas.Result.{err_from_is_err_and}
use Rattle.mq_addr.specs.Addr.{IsAddrText}
use Rattle.mq_play.specs.declared.line.SettingLine.{SettingLine}
use Rattle.mq_play.specs.declared.line.SettingLine.TheVariants as told
use Rattle.mq_play.specs.Parts.{Means}
use Rattle.mq_play.specs.Settings.{IsNamed}
use Rattle.mq_play.proofs.reading.Parted.{parted_none}
use Rattle.mq_play.proofs.reading.Singles.{named_once, nameds_lack}
use Rattle.mq_script.specs.declared.fault.LineFault.TheVariants.{Syntax}
use Rattle.mq_script.proofs.Parts.{means_none, means_read, parted_fault, parted_read}
use Rattle.mq_script.proofs.Texts.{no_addr}
use Rattle.mq_script.proofs.name_setting.parse_name_setting.Goals as goal

abbrev Behind : List ℕ → List ℕ → SettingLine → Type 0
Behind name = Means IsAddrText (told.Name name)

pub returns-in_default : goal.returns-in_default
returns-in_default c = parted_none IsNamed Behind c.args.rest.now c.in_default.ensures

pub returns-in_err-name : goal.returns-in_err-name
returns-in_err-name c =
    let p = err_from_is_err_and c.from_residual.result c.from_residual.ensures.1 in
    rw (p.1, p.2) (parted_fault IsNamed Behind c.cut_once.ensures nameds_lack c.args.rest.now c.in-Some.said.now c.in-Some.text.now c.in-Some.ensures c.in_err-name.field-0.0 c.in_err-name.ensures)

pub returns-in-Ok : goal.returns-in-Ok
returns-in-Ok c =
    parted_read IsNamed Behind c.cut_once.ensures nameds_lack named_once c.args.rest.now c.in-Some.said.now c.in-Some.text.now c.in-Some.ensures c.in_ok-name.name c.in_ok-name.ensures (Ok (told.Name c.in_ok-name.name c.in-Ok.addr))
    (means_read IsAddrText (told.Name c.in_ok-name.name) c.in-Some.text.now c.in-Ok.addr c.in-Ok.ensures)

pub returns-in-Err : goal.returns-in-Err
returns-in-Err c =
    parted_read IsNamed Behind c.cut_once.ensures nameds_lack named_once c.args.rest.now c.in-Some.said.now c.in-Some.text.now c.in-Some.ensures c.in_ok-name.name c.in_ok-name.ensures (Err Syntax)
    (means_none IsAddrText (told.Name c.in_ok-name.name) c.in-Some.text.now (no_addr c.in-Some.text.now c.in-Err.field-0 c.in-Err.ensures))
