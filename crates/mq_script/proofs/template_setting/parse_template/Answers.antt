use Rattle.std.proofs.Common.{ℕ, List, Ok, Err}
use Rattle.std.proofs.lemmas.Result.{err_from_is_err_and}
use Rattle.mq_addr.specs.declared.kind.Kind.{Kind}
use Rattle.mq_play.specs.declared.line.SettingLine.{SettingLine}
use Rattle.mq_play.specs.declared.line.SettingLine.TheVariants as told
use Rattle.mq_play.specs.Parts.{Means}
use Rattle.mq_play.specs.Settings.{IsKind, IsTemplateOf}
use Rattle.mq_play.proofs.reading.Parted.{parted_none, parted_other}
use Rattle.mq_play.proofs.reading.Words.{kind_once, kinds_lack}
use Rattle.mq_script.proofs.Parts.{means_fault, means_read, parted_read}
use Rattle.mq_script.proofs.template_setting.parse_template.Goals as goal

abbrev Behind : Kind → List ℕ → SettingLine → Type 0
Behind kind = Means (IsTemplateOf kind) (told.Template kind)

pub returns-in_default : goal.returns-in_default
returns-in_default c = parted_none IsKind Behind c.args.rest.now c.in_default.ensures

pub returns-in_default-parse_kind : goal.returns-in_default-parse_kind
returns-in_default-parse_kind c = parted_other IsKind Behind c.cut_once.ensures kinds_lack c.args.rest.now c.in-Some.text.now c.in-Some.behind.now c.in-Some.ensures c.in_default-parse_kind.ensures

pub returns-in_err-template : goal.returns-in_err-template
returns-in_err-template c =
    let p = err_from_is_err_and c.from_residual.result c.from_residual.ensures.1 in
    let kind = c.in-Some-parse_kind.kind in
    rw (p.1, p.2) (parted_read IsKind Behind c.cut_once.ensures kinds_lack kind_once c.args.rest.now c.in-Some.text.now c.in-Some.behind.now c.in-Some.ensures kind c.in-Some-parse_kind.ensures (Err c.in_err-template.field-0.0)
    (means_fault (IsTemplateOf kind) (told.Template kind) c.in-Some.behind.now c.in_err-template.field-0.0 c.in_err-template.ensures))

pub returns : goal.returns
returns c =
    let kind = c.in-Some-parse_kind.kind in
    parted_read IsKind Behind c.cut_once.ensures kinds_lack kind_once c.args.rest.now c.in-Some.text.now c.in-Some.behind.now c.in-Some.ensures kind c.in-Some-parse_kind.ensures (Ok (told.Template kind c.in_ok-template.template))
    (means_read (IsTemplateOf kind) (told.Template kind) c.in-Some.behind.now c.in_ok-template.template c.in_ok-template.ensures)
