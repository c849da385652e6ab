use Rattle.std.proofs.Common.{◌≡◌, ℕ, ◌+◌, ◌≤◌, List, ◌++◌, length, true, false, Bool, sym, ap, subst, ◌∙◌, arith}
use Rattle.std.specs.List.{sum_by}
use Rattle.mq_frame.specs.declared.frame.Frame.TheVariants.{Headers}
use Rattle.mq_frame.specs.Writing.{spelling_of}
use Rattle.mq_hpack.specs.declared.field.Field.{Field}
use Rattle.mq_hpack.specs.Table.{size_of}
use Rattle.mq_hpack.specs.Writing.{block_text}
use Rattle.mq_client.specs.Asking.{request_fields, request_frame}
use Rattle.mq_client.proofs.asking.request_frame.Goals as goal

few : (path host : List ℕ) → sum_by size_of (request_fields path host) ≤ 300 + (length path + length host)
unfolding request_fields
few path host = omega arith

pub write_headers-requires : goal.write_headers-requires
write_headers-requires c =
    let path = c.args.path.now in
    let host = c.args.host.now in
    let fields : c.as_slice.result.now ≡ request_fields path host = c.as_slice.ensures.value ∙ c.in_ok-fields.ensures in
    let sum : sum_by size_of c.as_slice.result.now ≤ 300 + (length path + length host) =
    subst (λ (fs : List Field). sum_by size_of fs ≤ 300 + (length path + length host)) (sym fields) (few path host) in
    let long = c.is_no_longer.ensures c.new.result c.as_slice.result.now c.in_ok-block.block c.in_ok-block.ensures.block (omega (arith, sum, c.requires)) in
    omega (arith, long, sum, c.requires, ap length c.as_slice-2.ensures)

pub returns : goal.returns
unfolding request_frame
returns c =
    let path = c.args.path.now in
    let host = c.args.host.now in
    let fields : c.as_slice.result.now ≡ request_fields path host = c.as_slice.ensures.value ∙ c.in_ok-fields.ensures in
    let spelled = c.in_ok-block.ensures.spelled ∙ ap (λ (owed : Bool). block_text owed c.as_slice.result.now) c.new.ensures
    ∙ ap (λ (fs : List Field). block_text true fs) fields in
    c.from_vec.ensures ∙ c.in_ok-write_headers.ensures.ok
    ∙ ap (λ (out : List ℕ). out ++ spelling_of (Headers 1 c.as_slice-2.result.now false true)) c.new-out.ensures.items
    ∙ ap (λ (b : List ℕ). spelling_of (Headers 1 b false true)) (c.as_slice-2.ensures ∙ spelled)
