use Rattle.std.proofs.Common.{◌<◌, ◌++◌, List, ℕ, length, ◌∙◌, ap, subst}
use Rattle.std.proofs.Math.Seq.{drop-append_seam}
use Rattle.std.proofs.lemmas.List.Elements.{All-from_get_or, All-drop}
use Rattle.mq_huff.specs.Coded.{AreBytes, IsCoded}
use Rattle.mq_huff.proofs.Packed.{code_is}
use Rattle.mq_huff.proofs.encoding.encode.Goals as goal

pub returns-in-Ok-clause-spelled : goal.returns-in-Ok-clause-spelled
returns-in-Ok-clause-spelled c =
    let put = c.in-Ok.ensures.ok in
    let new = c.append.new.out.items in
    let old = c.args.out.now.items in
    let text_bytes : AreBytes c.args.text.now = All-from_get_or (λ x. x < 256) c.args.text.now 0 (λ i lt. (c.type_inv.text i).fits) in
    let new_bytes : AreBytes new = All-from_get_or (λ x. x < 256) new 0 (λ i lt. c.type_inv.out i 0 lt) in
    let joined_bytes : AreBytes (old ++ put.written) = subst (λ (xs : List ℕ). AreBytes xs) put.appended new_bytes in
    let bytes : AreBytes put.written =
    subst (λ (xs : List ℕ). AreBytes xs) (drop-append_seam old put.written) (All-drop (λ x. x < 256) (length old) (old ++ put.written) joined_bytes) in
    let coded : IsCoded c.args.text.now put.written = record { are_bytes = text_bytes; padding = put.padding; short = put.short; spelled = put.spelled } in
    put.appended ∙ ap (λ xs. old ++ xs) (code_is c.args.text.now put.written bytes coded)
