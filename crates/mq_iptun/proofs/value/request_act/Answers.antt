use Rattle.std.proofs.Common.{◌≡◌, ◌<◌, Some, sym, ◌∙◌}
use Rattle.std.proofs.lemmas.List.Elements.{All-from_get_or}
use Rattle.mq_ipcaps.specs.Laws.{AreBytes}
use Rattle.mq_ipcaps.specs.Reading.{request_of}
use Rattle.mq_machine.specs.Words.{unless_faulty}
use Rattle.mq_iptun.proofs.Requests.{may_assign, read_is}
use Rattle.mq_iptun.proofs.value.request_act.Goals as goal

pub returns-in-Some-clause-limits : goal.returns-in-Some-clause-limits
returns-in-Some-clause-limits c =
    let value = c.args.value.now in
    let bytes : AreBytes value = All-from_get_or (λ b. b < 256) value 0 (λ i lt. (c.type_inv.value i).fits) in
    let told : unless_faulty (request_of value) ≡ Some c.in-Some.asked = sym (c.in_ok-asked.ensures (request_of value) c.read_request.ensures) ∙ c.in-Some.is in
    may_assign value c.in-Some.asked (c.is_written_again.ensures.request value c.in-Some.asked bytes (read_is (request_of value) c.in-Some.asked told))
